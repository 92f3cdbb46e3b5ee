use Rattle.std.proofs.Common.{ℕ, ◌<◌, get_or}
use Rattle.mm_tables.specs.Commands.{IsApart}
use Rattle.mm_tables.specs.declared.edit.Edit.{Edit}
use Rattle.tables_tests.proofs.ready.is_apart_from.Given as goal

abbrev pub invariant-loop-other : goal.invariant-loop-other
invariant-loop-other l = (k : ℕ) (d : Edit) → k < l.other-index → IsApart l.edit (get_or l.others k d)
