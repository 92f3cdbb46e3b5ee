-- The numbers of the kinds of statements.
use Rattle.std.specs.Prelude.{ℕ}
use Rattle.mm_session.specs.declared.statement_kind.StatementKind.{StatementKind}
use Rattle.mm_session.specs.declared.statement_kind.StatementKind.TheVariants.{Nothing, Table, DropTable, Index, DropIndex, Watch, Unwatch, Insert}
use Rattle.mm_session.specs.declared.statement_kind.StatementKind.TheVariants.{Update, Delete, Scan, ScanIndex, Select, Show, Explain, Tables}
use Rattle.mm_session.specs.declared.statement_kind.StatementKind.TheVariants.{Begin, Commit, Rollback, Savepoint, RollbackTo}

-- The number of a kind, in groups of ten: definitions, changes of rows, queries with rows, queries with a text, and transactions.
abbrev pub kind_number : StatementKind → ℕ
kind_number Nothing = 0
kind_number Table = 10
kind_number DropTable = 11
kind_number Index = 12
kind_number DropIndex = 13
kind_number Watch = 14
kind_number Unwatch = 15
kind_number Insert = 20
kind_number Update = 21
kind_number Delete = 22
kind_number Scan = 30
kind_number ScanIndex = 31
kind_number Select = 32
kind_number Show = 33
kind_number Explain = 40
kind_number Tables = 41
kind_number Begin = 50
kind_number Commit = 51
kind_number Rollback = 52
kind_number Savepoint = 53
kind_number RollbackTo = 54
