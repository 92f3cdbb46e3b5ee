use Rattle.std.proofs.Common.{rules}
use Rattle.mm_session.proofs.ColumnArrays.{sorted_offsets}
use Rattle.std.proofs.lemmas.List.Sorted.{non_decreasing_from_is_sorted}
use Rattle.mm_session.proofs.column_array.are_offsets.Goals as goal

pub returns-then-last-length : goal.returns-then-last-length
returns-then-last-length c =
    sorted_offsets c.args.length c.in-Some.last.now c.args.offsets.now c.is_sorted.result (search rules)
    (search rules) c.if-last-length.true
    (non_decreasing_from_is_sorted c.args.offsets.now c.is_sorted.result c.is_sorted.ensures.cases)
