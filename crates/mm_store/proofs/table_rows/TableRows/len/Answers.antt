use Rattle.std.proofs.Common.{length, sym, ap, ◌∙◌, arith}
use Rattle.std.proofs.lemmas.List.{length-map}
use Rattle.std.proofs.lemmas.List.Sorted.{length_permutation}
use Rattle.mm_partition.specs.Places.{slot_at}
use Rattle.mm_row_order.specs.Refs.{row_at}
use Rattle.mm_indexed.specs.RowLists.{rows_of}
use Rattle.mm_schema.proofs.InOrder.{IsPermutation-in_order}
use Rattle.mm_schema.specs.Rows.{rows_by}
use Rattle.mm_store.specs.Ordered.{ordered_rows, rows_in_order}
use Rattle.mm_store.proofs.table_rows.TableRows.len.Goals as goal

pub returns-in-Tree : goal.returns-in-Tree
returns-in-Tree c =
    let stored = c.self.inside.relation.now in
    let column = c.in-Tree.column in
    let same = length_permutation (rows_of stored) (rows_in_order column stored) (IsPermutation-in_order (rows_by column stored.key) (rows_of stored)) in
    let rows = ap length (sym (ap (ordered_rows stored) c.in-Tree.is) ∙ c.self.view_is) in
    omega (arith, c.len-in-Tree.ensures, length-map stored.refs (row_at (slot_at stored.places)), same, rows)
