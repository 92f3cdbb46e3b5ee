-- Reading a statement's line and filling its holes.
use Rattle.std.specs.Prelude.{◌≡◌, ◌⊎◌, ℕ, Bool, true, false, List, Some, Result, Ok, Err, IsTrue}
use Rattle.mm_value.specs.declared.refusal.Refusal.{Refusal}
use Rattle.mm_value.specs.declared.refusal.Refusal.TheVariants.{Memory}
use Rattle.mm_value.specs.declared.values.Value.{Value}
use Rattle.mm_query.specs.declared.command.Command.{Command}
use Rattle.mm_query.specs.declared.command.Command.TheVariants.{Explain, Select}
use Rattle.mm_query.specs.declared.query.Query.{Query}
use Rattle.mm_lang.specs.Reading.{command_takes_memory}
use Rattle.mm_lang.specs.Templates.{holes_of, template_of}
use Rattle.mm_statement.specs.Filling.{IsFilling}
use Rattle.mm_session.specs.Kinds.{query_of}
use Rattle.mm_session.specs.declared.statement_kind.StatementKind.{StatementKind}
use Rattle.mm_session.specs.declared.statement_kind.StatementKind.TheVariants as kind

-- Whether commands of this kind are definitions.
abbrev pub is_of_catalog : StatementKind → Bool
is_of_catalog kind.Table = true
is_of_catalog kind.DropTable = true
is_of_catalog kind.Index = true
is_of_catalog kind.DropIndex = true
is_of_catalog kind.Watch = true
is_of_catalog kind.Unwatch = true
is_of_catalog other = false

-- The EXPLAIN of a SELECT's query; any other command unchanged.
abbrev pub explained : Command → Command
explained (Select query) = Explain query
explained command = command

-- The result is the line's command with the holes filled, the refusal of a value, or a failed allocation if the command allocates.
pub record FillsLine (line : List ℕ) (values : List Value) (result : Result Command Refusal) : Type 0 where
  pub command : Command
  pub read : template_of line ≡ Ok command
  pub fills : IsFilling (holes_of line) values command result ⊎ ((result ≡ Err Memory) × IsTrue (command_takes_memory command))

-- The result is the EXPLAIN of the line's query with the holes filled, the refusal of a value, or a failed allocation.
pub record FillsExplain (line : List ℕ) (values : List Value) (result : Result Command Refusal) : Type 0 where
  pub command : Command
  pub query : Query
  pub read : template_of line ≡ Ok command
  pub asks : query_of command ≡ Some query
  pub fills : IsFilling (holes_of line) values (Explain query) result ⊎ (result ≡ Err Memory)
