-- Bound forms with values in their holes.
use Rattle.std.specs.Prelude.{◌≡◌, ◌⊎◌, ℕ, Bool, List, Option, Some, Ok, slice_get}
use Rattle.std.specs.Option.{option_map}
use Rattle.mm_value.specs.declared.values.Value.{Value}
use Rattle.mm_schema.specs.Schema.{Schema}
use Rattle.mm_query.specs.declared.bind.BoundChange.{BoundChange}
use Rattle.mm_query.specs.declared.bind.BoundChange.TheVariants as bound
use Rattle.mm_query.specs.declared.command.Command.{Command}
use Rattle.mm_lang.specs.Templates.{holes_of, template_of}
use Rattle.mm_statement.specs.Holes.{HolePlaces}
use Rattle.mm_statement.specs.Refilling.{RefillsChange}
use Rattle.mm_session.specs.declared.bound_form.BoundForm.{BoundForm}
use Rattle.mm_session.specs.declared.bound_form.BoundForm.TheVariants as form
use Rattle.mm_session.specs.declared.statement.Statement.{Statement}
use Rattle.mm_session.specs.steps.Forms.{IsBoundForm, IsFormWith}

-- The bound change that a run makes with the rows that were built for it: an INSERT gets these rows, and there are none without them.
abbrev pub change_to_run : BoundChange → Option (List (List Value)) → Option BoundChange
change_to_run (bound.Insert table tuples) rows = option_map (bound.Insert table) rows
change_to_run other rows = Some other

-- The bound form that is run.
abbrev pub form_to_run : BoundForm → Option (List (List Value)) → Option BoundForm
form_to_run (form.Query bound) rows = Some (form.Query bound)
form_to_run (form.Change bound) rows = option_map form.Change (change_to_run bound rows)

-- The form that is run is the bound form, in a catalog, of a command.
pub record RunsAs (schema : Schema) (command : Command) (bound : BoundForm) (rows : Option (List (List Value))) : Type 0 where
  pub ran : BoundForm
  pub is : form_to_run bound rows ≡ Some ran
  pub binds : IsBoundForm schema command ran

-- The form that is run is the bound form, in a catalog, of a command with these values in its holes.
pub record IsToRun (schema : Schema) (holes : List Bool) (values : List Value) (command : Command) (bound : BoundForm)
    (rows : Option (List (List Value))) : Type 0 where
  pub ran : BoundForm
  pub is : form_to_run bound rows ≡ Some ran
  pub binds : IsFormWith schema holes values command ran

-- The change that is run has new values in the holes of a bound change, which is kept as it was or as it is run.
pub record RefillsToRun (holes : HolePlaces) (values : List Value) (old new : BoundChange) (rows : Option (List (List Value))) : Type 0 where
  pub ran : BoundChange
  pub is : change_to_run new rows ≡ Some ran
  pub refills : RefillsChange holes values old ran
  pub kept : (new ≡ old) ⊎ (new ≡ ran)

-- A run of the statement runs a form that is the bound form, in a catalog, of this command.
pub record RunsCommand (schema : Schema) (command : Command) (statement : Statement) : Type 0 where
  pub form : BoundForm
  pub is : statement.bound ≡ Some form
  pub runs : RunsAs schema command form statement.rows

-- The statement of this line has a bound form to run, in a catalog, of its command with these values in its holes.
pub record IsFilledStatement (schema : Schema) (line : List ℕ) (values : List Value) (statement : Statement) : Type 0 where
  pub same : statement.line.items ≡ line
  pub form : BoundForm
  pub is : statement.bound ≡ Some form
  pub command : Command
  pub read : template_of line ≡ Ok command
  pub runs : IsToRun schema (holes_of line) values command form statement.rows

-- The slot has a statement with such a form.
abbrev pub IsFilledIn : Schema → List ℕ → List Value → Option Statement → Type 0
IsFilledIn schema line values slot = (statement : Statement) × (slot ≡ Some statement) × IsFilledStatement schema line values statement

-- The slot with this number has a statement with such a form.
abbrev pub IsFilledAt : Schema → List ℕ → List Value → ℕ → List (Option Statement) → Type 0
IsFilledAt schema line values number slots =
    (statement : Statement) × (slice_get slots number ≡ Some (Some statement)) × IsFilledStatement schema line values statement
