-- The kinds of commands.
use Rattle.std.specs.Prelude.{Bool, true, false, Option, Some, None}
use Rattle.mm_query.specs.declared.command.Command.{Command}
use Rattle.mm_query.specs.declared.command.Command.TheVariants.{Nothing, Define, Change, Scan, ScanIndex, Select, Explain, Show, Tables, Begin, Commit}
use Rattle.mm_query.specs.declared.command.Command.TheVariants.{Rollback, Savepoint, RollbackTo}
use Rattle.mm_query.specs.declared.command.Definition.TheVariants as define
use Rattle.mm_query.specs.declared.command.Mutation.TheVariants.{Insert, Update, Delete}
use Rattle.mm_query.specs.declared.query.Query.{Query}
use Rattle.mm_session.specs.declared.statement_kind.StatementKind.{StatementKind}
use Rattle.mm_session.specs.declared.statement_kind.StatementKind.TheVariants as kind

-- The kind of a command, named after its first keywords.
abbrev pub kind_of : Command → StatementKind
kind_of Nothing = kind.Nothing
kind_of (Define (define.Table definition)) = kind.Table
kind_of (Define (define.DropTable name)) = kind.DropTable
kind_of (Define (define.Index index)) = kind.Index
kind_of (Define (define.DropIndex name)) = kind.DropIndex
kind_of (Define (define.Watch watched)) = kind.Watch
kind_of (Define (define.Unwatch name)) = kind.Unwatch
kind_of (Change (Insert table tuples)) = kind.Insert
kind_of (Change (Update table assignments tests)) = kind.Update
kind_of (Change (Delete table tests)) = kind.Delete
kind_of (Scan table) = kind.Scan
kind_of (ScanIndex index) = kind.ScanIndex
kind_of (Select query) = kind.Select
kind_of (Show name) = kind.Show
kind_of (Explain query) = kind.Explain
kind_of Tables = kind.Tables
kind_of Begin = kind.Begin
kind_of Commit = kind.Commit
kind_of Rollback = kind.Rollback
kind_of (Savepoint name) = kind.Savepoint
kind_of (RollbackTo name) = kind.RollbackTo

-- The query of a SELECT or an EXPLAIN, whose plan EXPLAIN shows.
abbrev pub query_of : Command → Option Query
query_of (Select query) = Some query
query_of (Explain query) = Some query
query_of command = None

-- The kinds whose commands have a query whose plan EXPLAIN shows.
abbrev pub has_plan : StatementKind → Bool
has_plan kind.Select = true
has_plan kind.Explain = true
has_plan other = false
