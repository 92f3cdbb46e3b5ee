-- Bound forms with values in their holes, and the lines that they are run for.
use Rattle.std.proofs.Common.{◌≡◌, ℕ, Bool, true, false, List, Option, Some, Result, Ok, Err, ◌<◌, length, get_or, set, refl, sym, ap, subst, ◌∙◌}
use Rattle.std.proofs.lemmas.Option.{get_or_from_slice_get}
use Rattle.std.specs.Prelude.{IfOk}
use Rattle.std.specs.Result.{result_unwrap_or}
use Rattle.mm_value.specs.declared.refusal.Refusal.{Refusal}
use Rattle.mm_value.specs.declared.values.Value.{Value}
use Rattle.mm_schema.specs.Schema.{Schema}
use Rattle.mm_query.specs.declared.command.Command.{Command}
use Rattle.mm_lang.specs.Reading.{reading}
use Rattle.mm_lang.specs.Templates.{holes_of, template_of}
use Rattle.mm_statement.specs.Filling.{IsFilling}
use Rattle.mm_session.proofs.FormLemmas.{HasFilled, filled_of}
use Rattle.mm_session.proofs.ReadyStatements.{flags, has_form}
use Rattle.mm_session.proofs.SlotLemmas.{put_there}
use Rattle.mm_session.specs.steps.Templates.{IsBoundAt}
use Rattle.mm_session.specs.declared.bound_form.BoundForm.{BoundForm}
use Rattle.mm_session.specs.declared.statement.Statement.{Statement}
use Rattle.mm_session.specs.declared.templates.Templates.{Templates}
use Rattle.mm_session.specs.steps.Filled.{IsFilledAt, IsFilledIn, IsFilledStatement, IsToRun, RunsAs, RunsCommand}
use Rattle.mm_session.specs.steps.Forms.{HasForm, IsFormOf, IsReadyStatement}

-- The guarantee of a call that returns true, if a failure counts as false.
pub of_true : {E : Type 0} (P : Type 0) (result : Result Bool E) → IfOk result (λ b. b ≡ true → P) → result_unwrap_or result false ≡ true → P
of_true P (Ok b) holds is = holds is
of_true P (Err e) holds is = absurd (cc)

-- ---- statements

-- A ready statement whose bound form has new values stays ready, ..
module _ (schema : Schema) (statement : Statement) (ready : IsReadyStatement schema statement) (old new : BoundForm) (is : statement.bound ≡ Some old)
    (rows : Option (List (List Value))) where
  pub refilled_ready : ((schema : Schema) (command : Command) → HasForm schema statement.holes command old
      → IsFormOf schema statement.holes.are_holes command new) → IsReadyStatement schema (record statement { bound = Some new; rows = rows })
  refilled_ready kept = record {
    command = ready.command;
    read = ready.read;
    holes = ready.holes;
    kind = ready.kind;
    bound = subst (λ (h : List Bool). IsFormOf schema h ready.command new) (flags schema statement ready)
        (kept schema ready.command (has_form schema statement ready old is));
  }

  -- .. and has a form to run.
  pub refilled_filled : (values : List Value) → ((schema : Schema) (command : Command) → HasForm schema statement.holes command old
      → IsToRun schema statement.holes.are_holes values command new rows)
      → IsFilledStatement schema statement.line.items values (record statement { bound = Some new; rows = rows })
  refilled_filled values runs = record {
    same = refl;
    form = new;
    is = refl;
    command = ready.command;
    read = ready.read;
    runs = subst (λ (h : List Bool). IsToRun schema h values ready.command new rows) (flags schema statement ready)
        (runs schema ready.command (has_form schema statement ready old is));
  }

-- A statement runs its bound form.
pub runs_as : (schema : Schema) (command : Command) (statement : Statement) (bound : BoundForm) → RunsCommand schema command statement
    → statement.bound ≡ Some bound → RunsAs schema command bound statement.rows
runs_as schema command statement bound own is =
    let both : ◌≡◌ {A = Option BoundForm} (Some own.form) (Some bound) = sym own.is ∙ is in
    let same : own.form ≡ bound = cc in
    subst (λ (b : BoundForm). RunsAs schema command b statement.rows) same own.runs

module _ (schema : Schema) (line : List ℕ) (values : List Value) (statement : Statement) (own : IsFilledStatement schema line values statement) where
  -- A filled statement has a command with the values, ..
  pub own_filled : HasFilled schema (holes_of line) values own.command own.runs.ran
  own_filled = filled_of schema (holes_of line) values own.command own.runs.ran own.runs.binds

  -- .. which it runs.
  pub runs_own : RunsCommand schema own_filled.filled statement
  runs_own = record {
    form = own.form;
    is = own.is;
    runs = record { ran = own.runs.ran; is = own.runs.is; binds = own_filled.binds };
  }

-- A slot that is filled and put back is at its place.
pub filled_there : (schema : Schema) (template : List ℕ) (values : List Value) (slots : List (Option Statement)) (number : ℕ) (slot : Option Statement)
    → number < length slots → IsFilledIn schema template values slot → IsFilledAt schema template values number (set slots number slot)
filled_there schema template values slots number slot within own =
    (own.0, put_there slots number slot within ∙ ap (λ o. Some o) own.1, own.2)

-- ---- lines

-- The template of a line, filled with the line's values, is bound for the line, if the line reads as its filling.
pub filled_found : (schema : Schema) (line template : List ℕ) (values : List Value) (number : ℕ) (templates : Templates)
    → IsFilledAt schema template values number templates.slots.items
    → ((command : Command) (result : Result Command Refusal) → template_of template ≡ Ok command
    → IsFilling (holes_of template) values command result → reading line ≡ result)
    → IsBoundAt number schema line templates
filled_found schema line template values number templates at reads =
    let own = own_filled schema template values at.0 at.2 in
    record {
      statement = at.0;
      is = at.1;
      command = own.filled;
      read = reads at.2.command (Ok own.filled) at.2.read (own.fills, own.within);
      runs = runs_own schema template values at.0 at.2;
    }

-- The statement that was found for a line is the one in its place.
pub found_runs : (number : ℕ) (schema : Schema) (line : List ℕ) (templates : Templates) (at : IsBoundAt number schema line templates)
    (slot : Option Statement) (statement : Statement) → slot ≡ get_or templates.slots.items number slot → slot ≡ Some statement
    → RunsCommand schema at.command statement
found_runs number schema line templates at slot statement there is =
    let both : ◌≡◌ {A = Option Statement} (Some at.statement) (Some statement) =
    sym (get_or_from_slice_get templates.slots.items number (Some at.statement) slot at.is) ∙ (sym there ∙ is) in
    let same : at.statement ≡ statement = cc in
    subst (λ (s : Statement). RunsCommand schema at.command s) same at.runs
