use Rattle.std.proofs.Common.{ℕ, ◌<◌, get_or}
use Rattle.mm_tables.specs.declared.logged_table.LoggedTable.{LoggedTable}
use Rattle.mm_base.specs.Bases.{IsWhole}
use Rattle.mm_base.proofs.base_tables.BaseTables.are_whole.Given as goal

abbrev pub invariant-loop-table : goal.invariant-loop-table
invariant-loop-table l = (k : ℕ) (d : LoggedTable) → k < l.table → IsWhole (get_or l.self.stored.tables k d).rows
