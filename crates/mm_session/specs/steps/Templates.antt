-- Templates of lines, kept with their bound forms.
use Rattle.std.specs.Prelude.{◌≡◌, ℕ, List, Some, Ok, slice_get}
use Rattle.std.specs.List.{All}
use Rattle.mm_schema.specs.Schema.{Schema}
use Rattle.mm_query.specs.declared.command.Command.{Command}
use Rattle.mm_lang.specs.Reading.{reading}
use Rattle.mm_session.specs.declared.statement.Statement.{Statement}
use Rattle.mm_session.specs.declared.templates.Templates.{Templates}
use Rattle.mm_session.specs.steps.Filled.{RunsCommand}
use Rattle.mm_session.specs.steps.Forms.{IsReady}

-- Each kept template reads as a command, and its bound form, if any, is one in this catalog.
abbrev pub AreReady : Schema → Templates → Type 0
AreReady schema templates = All (IsReady schema) templates.slots.items

-- The line was found: the statement with this number runs, in a catalog, the bound form of the command that the line reads as.
pub record IsBoundAt (number : ℕ) (schema : Schema) (line : List ℕ) (templates : Templates) : Type 0 where
  pub statement : Statement
  pub is : slice_get templates.slots.items number ≡ Some (Some statement)
  pub command : Command
  pub read : reading line ≡ Ok command
  pub runs : RunsCommand schema command statement
