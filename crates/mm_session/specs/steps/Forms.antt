-- Statements and their bound forms.
use Rattle.std.specs.Prelude.{◌≡◌, ◌⊎◌, ℕ, Bool, List, Option, Result, Ok, Err, IfSome}
use Rattle.mm_value.specs.declared.refusal.Refusal.{Refusal}
use Rattle.mm_value.specs.declared.refusal.Refusal.TheVariants.{Memory}
use Rattle.mm_value.specs.declared.values.Value.{Value}
use Rattle.mm_schema.specs.Schema.{HasDistinctNames, Schema}
use Rattle.mm_query.specs.Resolving.{places_in}
use Rattle.mm_query.specs.declared.bind.BoundChange.{BoundChange}
use Rattle.mm_query.specs.declared.bound_query.Bound.{Bound}
use Rattle.mm_query.specs.declared.command.Command.{Command}
use Rattle.mm_query.specs.declared.command.Command.TheVariants.{Change, Select}
use Rattle.mm_query.specs.declared.command.Mutation.{Mutation}
use Rattle.mm_query.specs.declared.query.Query.{Query}
use Rattle.mm_lang.specs.Templates.{holes_of, template_of}
use Rattle.mm_statement.specs.Holes.{HolePlaces, hole_places}
use Rattle.mm_statement.specs.Refilling.{BindsFilledChange, BindsFilledQuery}
use Rattle.mm_txn.specs.Bound.{IsBoundChange, IsBoundQuery}
use Rattle.mm_session.specs.Kinds.{kind_of}
use Rattle.mm_session.specs.declared.bound_form.BoundForm.{BoundForm}
use Rattle.mm_session.specs.declared.bound_form.BoundForm.TheVariants as form
use Rattle.mm_session.specs.declared.statement.Statement.{Statement}

-- This is the bound form of a command in a catalog.
abbrev pub IsBoundForm : Schema → Command → BoundForm → Type 0
IsBoundForm schema (Select query) (form.Query bound) = IsBoundQuery schema query bound
IsBoundForm schema (Change mutation) (form.Change bound) = IsBoundChange schema mutation bound
IsBoundForm schema command bound = ⊥

-- This is the bound form, in a catalog, of a SELECT with these values in its holes.
pub record IsQueryForm (schema : Schema) (holes : List Bool) (values : List Value) (command : Command) (bound : Bound) : Type 0 where
  pub template : Query
  pub is : command ≡ Select template
  pub query : Query
  pub binds : BindsFilledQuery schema holes values template query bound.query
  pub tables : bound.tables ≡ places_in schema query.from

-- This is the bound form, in a catalog, of a change of rows with these values in its holes.
pub record IsChangeForm (schema : Schema) (holes : List Bool) (values : List Value) (command : Command) (bound : BoundChange) : Type 0 where
  pub template : Mutation
  pub is : command ≡ Change template
  pub mutation : Mutation
  pub binds : BindsFilledChange schema holes values template mutation bound
  pub distinct : HasDistinctNames schema

-- This is the bound form, in a catalog, of a command with these values in its holes.
abbrev pub IsFormWith : Schema → List Bool → List Value → Command → BoundForm → Type 0
IsFormWith schema holes values command (form.Query bound) = IsQueryForm schema holes values command bound
IsFormWith schema holes values command (form.Change bound) = IsChangeForm schema holes values command bound

-- This is the bound form, in a catalog, of a command with some values in its holes.
abbrev pub IsFormOf : Schema → List Bool → Command → BoundForm → Type 0
IsFormOf schema holes command bound = (values : List Value) × IsFormWith schema holes values command bound

-- The places are those of the command's holes, and this is a bound form of the command.
pub record HasForm (schema : Schema) (holes : HolePlaces) (command : Command) (bound : BoundForm) : Type 0 where
  pub places : holes ≡ hole_places holes.are_holes command
  pub form : IsFormOf schema holes.are_holes command bound

-- A statement has the holes and the kind of its line's command, and its bound form, if any, is one in this catalog.
pub record IsReadyStatement (schema : Schema) (statement : Statement) : Type 0 where
  pub command : Command
  pub read : template_of statement.line.items ≡ Ok command
  pub holes : statement.holes ≡ hole_places (holes_of statement.line.items) command
  pub kind : statement.kind ≡ kind_of command
  pub bound : IfSome statement.bound (IsFormOf schema (holes_of statement.line.items) command)

-- The slot is empty or has a ready statement.
abbrev pub IsReady : Schema → Option Statement → Type 0
IsReady schema slot = IfSome slot (IsReadyStatement schema)

-- The line is now a statement that is ready in this catalog; or it cannot be read, or an allocation failed.
abbrev pub ReadsStatement : Schema → List ℕ → Result Statement Refusal → Type 0
ReadsStatement schema line (Ok statement) = (statement.line.items ≡ line) × IsReadyStatement schema statement
ReadsStatement schema line (Err refusal) = (template_of line ≡ Err refusal) ⊎ (refusal ≡ Memory)
