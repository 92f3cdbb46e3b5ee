-- Statements that are ready, and the sessions that calls reach.
use Rattle.std.proofs.Common.{◌≡◌, ◌++◌, ◌∷◌, ℕ, Bool, false, List, [], Option, Some, None, Result, Ok, Err, IsTrue, length, map, get_or, set}
use Rattle.std.proofs.Common.{inl, inr, ⊎_elim, refl, sym, ap, subst, ◌∙◌}
use Rattle.std.specs.List.{All}
use Rattle.std.specs.Option.{option_map}
use Rattle.std.specs.Prelude.{IfErr, IfSome, OnErr, OnOk, slice_get}
use Rattle.std.proofs.lemmas.List.{length-map, map-append, map-set}
use Rattle.std.proofs.Math.Seq.{map-set_same}
use Rattle.std.proofs.lemmas.List.Elements.{All-map, All-push, All-set}
use Rattle.std.proofs.lemmas.Option.{slice_get-map}
use Rattle.mm_value.specs.declared.refusal.Refusal.{Refusal}
use Rattle.mm_value.specs.declared.refusal.Refusal.TheVariants.{Memory}
use Rattle.mm_value.specs.declared.values.Value.{Value}
use Rattle.mm_schema.specs.Schema.{Schema}
use Rattle.mm_query.specs.Machine.{Outcome}
use Rattle.mm_query.specs.State.{State}
use Rattle.mm_query.specs.declared.command.Command.{Command}
use Rattle.mm_query.specs.declared.reply.Reply.{Reply}
use Rattle.mm_lang.specs.Reading.{command_takes_memory}
use Rattle.mm_lang.specs.Templates.{holes_of, template_of}
use Rattle.mm_statement.specs.Filling.{IsFilling}
use Rattle.mm_statement.specs.Holes.{HolePlaces, hole_count, hole_places}
use Rattle.mm_session.proofs.FormLemmas.{forms_with}
use Rattle.mm_session.proofs.KindLemmas.{kind_defines}
use Rattle.mm_session.proofs.LineReadings.{defines_alike}
use Rattle.mm_session.specs.Session.{Finalizes, TakesNumber}
use Rattle.mm_session.specs.Statements.{line_at}
use Rattle.mm_session.specs.declared.bound_form.BoundForm.{BoundForm}
use Rattle.mm_session.specs.declared.misuse.Misuse.{Misuse}
use Rattle.mm_session.specs.declared.misuse.Misuse.TheVariants.{NoSuchStatement}
use Rattle.mm_session.specs.declared.statement.Statement.{Statement}
use Rattle.mm_session.specs.steps.Forms.{HasForm, IsBoundForm, IsFormOf, IsReady, IsReadyStatement}
use Rattle.mm_session.specs.steps.Places.{PutsStatement, forgotten, line_in}
use Rattle.mm_reply.specs.Sinks.{Delivers, defines, is_definition}
use Rattle.mm_session.specs.steps.Readings.{FillsLine, is_of_catalog}

-- A consequence of a property of a refusal, if there is one.
pub if_err : {X E : Type 0} (P Q : E → Type 0) (result : Result X E) → ((e : E) → P e → Q e) → IfErr result P → IfErr result Q
if_err P Q (Ok x) more holds = tt
if_err P Q (Err e) more holds = more e holds

-- ---- one statement

same_command : (line : List ℕ) (c d : Command) → template_of line ≡ Ok c → template_of line ≡ Ok d → c ≡ d
same_command line c d p q = cc

module _ (schema : Schema) (statement : Statement) (values : List Value) (filled : Command) (ready : IsReadyStatement schema statement)
    (count : length values ≡ hole_count (holes_of statement.line.items)) (fills : FillsLine statement.line.items values (Ok filled)) where
  same : fills.command ≡ ready.command
  same = same_command statement.line.items fills.command ready.command fills.read ready.read

  -- The filled command is that of the line with the values.
  pub is_filled : IsFilling (holes_of statement.line.items) values fills.command (Ok filled)
  is_filled =
      ⊎_elim
      (λ (f : IsFilling (holes_of statement.line.items) values fills.command (Ok filled)). f)
      (λ (h : (Ok filled ≡ Err Memory) × IsTrue (command_takes_memory fills.command)). absurd (let clash = h.0 in cc))
      fills.fills

  -- After a run the bound form that it left is good.
  pub ready_after : (after : Schema) (kept : Option BoundForm) → IfSome kept (IsBoundForm after filled)
      → IsReadyStatement after (record statement { bound = kept })
  ready_after after kept bound = record {
    command = ready.command;
    read = ready.read;
    holes = ready.holes;
    kind = ready.kind;
    bound = subst (λ (c : Command). IfSome kept (IsFormOf after (holes_of statement.line.items) c)) same
        (forms_with after (holes_of statement.line.items) values fills.command filled kept count is_filled.0 is_filled.1 bound);
  }

  filled_defines : is_of_catalog statement.kind ≡ false → is_definition filled ≡ false
  filled_defines other =
      defines_alike fills.command filled is_filled.0.same ∙ (ap is_definition same
      ∙ (sym (kind_defines ready.command) ∙ (ap is_of_catalog (sym ready.kind) ∙ other)))

-- The filled command of a statement of another kind is no definition.
pub run_defines : (schema : Schema) (statement : Statement) (values : List Value) (read : Result Command Refusal) → IsReadyStatement schema statement
    → length values ≡ hole_count (holes_of statement.line.items) → FillsLine statement.line.items values read → is_of_catalog statement.kind ≡ false
    → defines read ≡ false
run_defines schema statement values (Ok filled) ready count fills other = filled_defines schema statement values filled ready count fills other
run_defines schema statement values (Err refusal) ready count fills other = refl

-- A statement knows where the holes of its line are, ..
pub flags : (schema : Schema) (statement : Statement) → IsReadyStatement schema statement → statement.holes.are_holes ≡ holes_of statement.line.items
flags schema statement ready = ap (λ (h : HolePlaces). h.are_holes) ready.holes

-- .. and a bound form that it keeps can be run again, ..
pub has_form : (schema : Schema) (statement : Statement) (ready : IsReadyStatement schema statement) (bound : BoundForm) → statement.bound ≡ Some bound
    → HasForm schema statement.holes ready.command bound
has_form schema statement ready bound is = record {
  places = ready.holes ∙ ap (λ (h : List Bool). hole_places h ready.command) (sym (flags schema statement ready));
  form = subst (λ (h : List Bool). IsFormOf schema h ready.command bound) (sym (flags schema statement ready))
      (subst (λ (o : Option BoundForm). IfSome o (IsFormOf schema (holes_of statement.line.items) ready.command)) is ready.bound);
}

-- A statement stays ready if a run consumes the rows that were built for it.
pub ready_run : (before after : Schema) (old new : Statement) → after ≡ before → new ≡ record old { rows = new.rows } → IsReadyStatement before old
    → IsReadyStatement after new
ready_run before after old new same kept ready =
    subst (λ (schema : Schema). IsReadyStatement schema new) (sym same)
    (subst (IsReadyStatement before) (sym kept)
    (record { command = ready.command; read = ready.read; holes = ready.holes; kind = ready.kind; bound = ready.bound }))

-- A statement is ready whatever the catalog once its bound form is forgotten.
unbound_ready : (schema after : Schema) (slot : Option Statement) → IsReady schema slot → IsReady after (forgotten slot)
unbound_ready schema after None ready = tt
unbound_ready schema after (Some statement) ready =
    record { command = ready.command; read = ready.read; holes = ready.holes; kind = ready.kind; bound = tt }

-- ---- all statements

pub forgotten_ready : (after : Schema) (slots : List (Option Statement)) → All (λ slot. (schema : Schema) × IsReady schema slot) slots
    → All (IsReady after) (map forgotten slots)
forgotten_ready after slots all =
    All-map (IsReady after) forgotten slots (λ k d within. let ready = all k d within in unbound_ready ready.0 after (get_or slots k d) ready.1)

pub some_ready : (schema : Schema) (slots : List (Option Statement)) → All (IsReady schema) slots → All (λ slot. (s : Schema) × IsReady s slot) slots
some_ready schema slots all = λ k d within. (schema, all k d within)

line_kept : (slot : Option Statement) → line_in (forgotten slot) ≡ line_in slot
line_kept None = refl
line_kept (Some statement) = refl

-- Lines stay when bound forms are forgotten.
pub lines_kept : (slots : List (Option Statement)) → map line_in (map forgotten slots) ≡ map line_in slots
lines_kept [] = refl
lines_kept (slot ∷ slots) = ap (λ l. l ∷ map line_in (map forgotten slots)) (line_kept slot) ∙ ap (λ ls. line_in slot ∷ ls) (lines_kept slots)

-- A statement that is stored among others is ready as they are, ..
pub put_ready : (schema : Schema) (statement : Statement) (number : ℕ) (old new : List (Option Statement)) → PutsStatement statement number old new
    → IsReadyStatement schema statement → All (IsReady schema) old → All (IsReady schema) new
put_ready schema statement number old new puts ready all =
    ⊎_elim
    (λ (h : (number ≡ length old) × (new ≡ old ++ Some statement ∷ [])).
    subst (All (IsReady schema)) (sym h.1) (All-push (IsReady schema) old (Some statement) all ready))
    (λ (h : (slice_get old number ≡ Some None) × (new ≡ set old number (Some statement))).
    subst (All (IsReady schema)) (sym h.1) (All-set (IsReady schema) old number (Some statement) ready all))
    puts

-- .. and its line among theirs.
pub put_line : (line : List ℕ) (statement : Statement) (number : ℕ) (old new : List (Option Statement)) → PutsStatement statement number old new
    → statement.line.items ≡ line → TakesNumber line number (map line_in old) (map line_in new)
put_line line statement number old new puts is =
    ⊎_elim
    (λ (h : (number ≡ length old) × (new ≡ old ++ Some statement ∷ [])).
    inl (
      h.0 ∙ sym (length-map old line_in),
      ap (map line_in) h.1 ∙ (map-append line_in old (Some statement ∷ []) ∙ ap (λ (l : List ℕ). map line_in old ++ Some l ∷ []) is),
    ))
    (λ (h : (slice_get old number ≡ Some None) × (new ≡ set old number (Some statement))).
    inr (
      slice_get-map line_in old number ∙ ap (option_map line_in) h.0,
      ap (map line_in) h.1 ∙ (map-set line_in old number (Some statement) ∙ ap (λ (l : List ℕ). set (map line_in old) number (Some l)) is),
    ))
    puts

-- A place without a statement is ready.
pub removed_ready : (schema : Schema) (number : ℕ) (old new : List (Option Statement)) (result : Result (Unit {0}) Misuse)
    → OnOk result (new ≡ set old number None) → OnErr result (new ≡ old) → All (IsReady schema) old → All (IsReady schema) new
removed_ready schema number old new (Ok done) gone kept all = subst (All (IsReady schema)) (sym gone) (All-set (IsReady schema) old number None tt all)
removed_ready schema number old new (Err misuse) gone kept all = subst (All (IsReady schema)) (sym kept) all

-- A statement knows as many holes as its line has.
pub counted : (schema : Schema) (statement : Statement) → IsReadyStatement schema statement
    → hole_count statement.holes.are_holes ≡ hole_count (holes_of statement.line.items)
counted schema statement ready = ap (λ (h : HolePlaces). hole_count h.are_holes) ready.holes

module _ (before after : Schema) (slots : List (Option Statement)) (number : ℕ) (slot : Option Statement) (all : All (IsReady before) slots)
    (ready : IsReady after slot) where
  -- All statements are ready after one of them was run, if the catalog stays, ..
  pub ready_beside : after ≡ before → All (IsReady after) (set slots number slot)
  ready_beside same =
      All-set (IsReady after) slots number slot ready (subst (λ (schema : Schema). All (IsReady schema) slots) (sym same) all)

  -- .. and if they forget their bound forms.
  pub ready_forgotten : All (IsReady after) (map forgotten (set slots number slot))
  ready_forgotten =
      forgotten_ready after (set slots number slot)
      (All-set (λ s. (schema : Schema) × IsReady schema s) slots number slot (after, ready) (some_ready before slots all))

-- The lines stay the same if a line is replaced by itself.
pub lines_beside : (slots : List (Option Statement)) (number : ℕ) (slot d : Option Statement) → line_in slot ≡ line_in (get_or slots number d)
    → map line_in (set slots number slot) ≡ map line_in slots
lines_beside slots number slot d same = map-set_same line_in slots number slot d same

-- ---- sessions

-- A statement was deleted, or there was none.
pub finalized : (number : ℕ) (state : State) (reply : Option Reply) (changes : ℕ) (old new : List (Option Statement)) (result : Result (Unit {0}) Misuse)
    → OnOk result (new ≡ set old number None) → OnOk result ((line : List ℕ) × (line_at number (map line_in old) ≡ Some line))
    → IfErr result (λ misuse. (misuse ≡ NoSuchStatement) × (line_at number (map line_in old) ≡ None)) → OnErr result (new ≡ old)
    → Finalizes number (record { state = state; lines = map line_in old; reply = reply; changes = changes })
    (record { state = state; lines = map line_in new; reply = reply; changes = changes }) result
finalized number state reply changes old new (Ok done) gone stands misused kept = record {
  line = stands.0;
  stands = stands.1;
  lines = ap (map line_in) gone ∙ map-set line_in old number None;
  state = refl;
  reply = refl;
  changes = refl;
}
finalized number state reply changes old new (Err misuse) gone stands misused kept = (
  ap (λ (slots : List (Option Statement)). record { state = state; lines = map line_in slots; reply = reply; changes = changes }) kept,
  misused.0,
  misused.1,
)

-- The reply passed to the stored reply is that of the call's outcome.
pub stored_outcome : {T : Type 0} {old new : Option Reply} {taken : T} {after : State} {IsOutcome : Outcome → Type 0}
    → Delivers (λ (_ : Option Reply) (stored : Option Reply) (reply : Option Reply) (_ : T). stored ≡ reply) old new taken after IsOutcome
    → IsOutcome (record { reply = new; state = after })
stored_outcome {new = new} {after = after} {IsOutcome = IsOutcome} d =
    subst IsOutcome
    (sym (ap (λ (r : Option Reply). record { reply = r; state = after }) d.took
    ∙ ap (λ (s : State). record { reply = d.outcome.reply; state = s }) d.state)) d.is
