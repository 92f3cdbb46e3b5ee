use Rattle.std.proofs.Common.{◌≢◌, ap, sym, ◌∙◌, subst}
use Rattle.std.specs.Prelude.{map, IsPermutation}
use Rattle.std.proofs.lemmas.List.Sorted.{All-permutation, IsPermutation-map, IsPermutation-sym}
use Rattle.std.proofs.lemmas.Result.{IfOk-weaker}
use Rattle.mm_row_order.specs.InOrder.{InOrder}
use Rattle.mm_row_order.specs.Sorting.{IsOf, ref_of}
use Rattle.mm_value.specs.declared.row_ref.RowRef.{RowRef}
use Rattle.mm_partition.proofs.Permuted.{AllPairs-permutation}
use Rattle.mm_row_order.proofs.SortedRows.{InOrder-sorted, apart_turned}
use Rattle.mm_row_order.proofs.sorting.in_order.Goals as goal

pub returns-clause-ordered : goal.returns-clause-ordered
returns-clause-ordered g c =
    let read = g.V.AsValue.value in
    let moved = IsPermutation-map ref_of c.args.list.now.items c.sort.new.list.items c.sort.ensures.permutation in
    IfOk-weaker c.refs_of.result _ _
    (λ refs made column key now all apart. subst (InOrder column key now) (sym (made ∙ ap (map ref_of) c.as_slice.ensures.value))
    (InOrder-sorted read column key now c.sort.new.list.items
    (All-permutation (IsOf read column key now) c.args.list.now.items c.sort.new.list.items c.sort.ensures.permutation all) c.sort.ensures.sorted
    (AllPairs-permutation (λ (a b : RowRef). a ≢ b) apart_turned (map ref_of c.args.list.now.items) (map ref_of c.sort.new.list.items) moved apart)))
    c.refs_of.ensures

pub returns-clause-same : goal.returns-clause-same
returns-clause-same g c =
    let moved = IsPermutation-map ref_of c.args.list.now.items c.sort.new.list.items c.sort.ensures.permutation in
    IfOk-weaker c.refs_of.result _ _
    (λ refs made. subst (λ xs. IsPermutation xs (map ref_of c.args.list.now.items)) (sym (made ∙ ap (map ref_of) c.as_slice.ensures.value))
    (IsPermutation-sym (map ref_of c.args.list.now.items) (map ref_of c.sort.new.list.items) moved)) c.refs_of.ensures
