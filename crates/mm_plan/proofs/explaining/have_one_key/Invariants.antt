use Rattle.std.proofs.Common.{take}
use Rattle.mm_plan.specs.Kept.{HaveOneKey}
use Rattle.mm_plan.proofs.explaining.have_one_key.Given as goal

-- each table so far has exactly one key column
abbrev pub invariant-loop-table : goal.invariant-loop-table
invariant-loop-table l = HaveOneKey (take l.table-index l.tables)
