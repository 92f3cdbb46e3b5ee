-- Outcomes whose replies go to a sink.
use Rattle.std.proofs.Common.{◌≡◌, ◌⊎◌, ℕ, Bool, true, false, List, Option, Some, Result, Ok, Err, IsTrue, cond, ⊎_elim, sym, ap, ◌∙◌}
use Rattle.mm_value.specs.declared.refusal.Refusal.{Refusal}
use Rattle.mm_value.specs.declared.refusal.Refusal.TheVariants.{Memory}
use Rattle.mm_query.specs.Machine.{Outcome, refused_outcome, step}
use Rattle.mm_query.specs.State.{State}
use Rattle.mm_query.specs.declared.command.Command.{Command}
use Rattle.mm_query.specs.declared.reply.Reply.{Reply}
use Rattle.mm_lang.specs.Answering.{MayLeadTo, answer, outcome_of}
use Rattle.mm_lang.specs.Reading.{Reads, command_takes_memory, reading, reading_takes_memory, takes_memory}
use Rattle.mm_reply.proofs.Catalogs.{leads_keep}
use Rattle.mm_reply.specs.Sinks.{Delivers, IsAnswerTo, defines}

module _ {S T : Type 0} {takes : S → S → Option Reply → T → Type 0} {old new : S} {result : T} {after : State} where
  -- An outcome of one kind is one of another.
  pub delivers_as : {P Q : Outcome → Type 0} → ((outcome : Outcome) → P outcome → Q outcome) → Delivers takes old new result after P
      → Delivers takes old new result after Q
  delivers_as implies d = record { outcome = d.outcome; is = implies d.outcome d.is; state = d.state; took = d.took }

  -- A command that is no definition does not change the catalog.
  pub delivers_keep : (before : State) (read : Result Command Refusal) → defines read ≡ false
      → Delivers takes old new result after (MayLeadTo read before) → after.schema ≡ before.schema
  delivers_keep before (Ok command) other d = ap (λ (s : State). s.schema) d.state ∙ leads_keep command before d.outcome other d.is
  delivers_keep before (Err refusal) other d = ap (λ (s : State). s.schema) (d.state ∙ ap (λ (o : Outcome). o.state) d.is)

-- Without memory, a line that allocates fails with `Memory`.
pub refused_memory : (line : List ℕ) (state : State) → takes_memory line ≡ true → answer true line state ≡ refused_outcome Memory state
refused_memory line state takes = ap (λ b. cond b (refused_outcome Memory state) (outcome_of (reading line) state)) takes

-- The outcome of a line's reading is an answer to the line.
pub leads_to_answer : (line : List ℕ) (before : State) (read : Result Command Refusal) → Reads line read → (outcome : Outcome)
    → MayLeadTo read before outcome → IsAnswerTo line before outcome
leads_to_answer line before (Ok command) reads outcome leads =
    ⊎_elim
    (λ (h : outcome ≡ step command before). (false, h ∙ ap (λ r. outcome_of r before) (sym reads)))
    (λ (h : (outcome ≡ refused_outcome Memory before) × IsTrue (command_takes_memory command)).
    (true, h.0 ∙ sym (refused_memory line before (ap reading_takes_memory reads ∙ h.1))))
    leads
leads_to_answer line before (Err refusal) reads outcome leads =
    ⊎_elim
    (λ (h : reading line ≡ Err refusal). (false, leads ∙ ap (λ r. outcome_of r before) (sym h)))
    (λ (h : (refusal ≡ Memory) × IsTrue (takes_memory line)).
    (true, leads ∙ (ap (λ r. refused_outcome r before) h.0 ∙ sym (refused_memory line before h.1))))
    reads
