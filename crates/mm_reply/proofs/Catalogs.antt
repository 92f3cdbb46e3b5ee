-- The commands that do not change the catalog.
use Rattle.std.proofs.Common.{◌≡◌, false, Option, Some, None, Ok, IsTrue, ⊎_elim, refl, sym, ap, ◌∙◌}
use Rattle.std.proofs.lemmas.Bool.{false≢true}
use Rattle.mm_value.specs.declared.refusal.Refusal.{Refusal}
use Rattle.mm_value.specs.declared.refusal.Refusal.TheVariants.{Memory}
use Rattle.mm_schema.specs.Refused.{first_refusal}
use Rattle.mm_query.specs.Machine.{Outcome, conditions, refused_outcome, reply_to, state_after, step, unless_refused}
use Rattle.mm_query.specs.State.{State}
use Rattle.mm_query.specs.declared.command.Command.{Command}
use Rattle.mm_query.specs.declared.command.Command.TheVariants.{Nothing, Define, Change, Scan, ScanIndex, Select, Explain, Show, Tables, Begin, Commit}
use Rattle.mm_query.specs.declared.command.Command.TheVariants.{Rollback, Savepoint, RollbackTo}
use Rattle.mm_lang.specs.Answering.{MayLeadTo}
use Rattle.mm_lang.specs.Reading.{command_takes_memory}
use Rattle.mm_reply.specs.Sinks.{is_definition}

after_keeps : (command : Command) (state : State) → is_definition command ≡ false → (state_after command state).schema ≡ state.schema
after_keeps Nothing state other = refl
after_keeps (Define definition) state other = absurd (false≢true (sym other))
after_keeps (Change mutation) state other = refl
after_keeps (Scan table) state other = refl
after_keeps (ScanIndex index) state other = refl
after_keeps (Select query) state other = refl
after_keeps (Explain query) state other = refl
after_keeps (Show name) state other = refl
after_keeps Tables state other = refl
after_keeps Begin state other = refl
after_keeps Commit state other = refl
after_keeps Rollback state other = refl
after_keeps (Savepoint name) state other = refl
after_keeps (RollbackTo name) state other = refl

unless_keeps : (due : Option Refusal) (state : State) (outcome : Outcome) → outcome.state.schema ≡ state.schema
    → (unless_refused due state outcome).state.schema ≡ state.schema
unless_keeps None state outcome kept = kept
unless_keeps (Some refusal) state outcome kept = refl

-- A command that is no definition does not change the catalog.
pub leads_keep : (command : Command) (state : State) (outcome : Outcome) → is_definition command ≡ false → MayLeadTo (Ok command) state outcome
    → outcome.state.schema ≡ state.schema
leads_keep command state outcome other leads =
    ⊎_elim
    (λ (is : outcome ≡ step command state). ap (λ (o : Outcome). o.state.schema) is
    ∙ unless_keeps (first_refusal (conditions command state)) state (record { reply = reply_to command state; state = state_after command state })
    (after_keeps command state other))
    (λ (h : (outcome ≡ refused_outcome Memory state) × IsTrue (command_takes_memory command)). ap (λ (o : Outcome). o.state.schema) h.0)
    leads
