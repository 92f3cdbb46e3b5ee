use Rattle.std.proofs.Common.{◌++◌, List, None, map, sym, ap, ◌∙◌, subst, arith}
use Rattle.std.specs.List.{All}
use Rattle.std.specs.List.Sorted.{IsPermutation}
use Rattle.std.proofs.lemmas.List.Sorted.{All-permutation, IsPermutation-map, IsPermutation-sym}
use Rattle.mm_partition.specs.Places.{IsLive}
use Rattle.mm_plan.proofs.KeyOrder.{few_in_order, once_in_order}
use Rattle.mm_plan.specs.Finding.{IsKeyed, once}
use Rattle.mm_plan.specs.declared.finding.Keyed.{Keyed}
use Rattle.mm_value.specs.declared.row_ref.RowRef.{RowRef}
use Rattle.mm_store.proofs.Shown.{table_seen}
use Rattle.mm_plan.proofs.finding.in_key_order.Goals as goal

pub returns-then-len-lt2-clause-found : goal.returns-then-len-lt2-clause-found
returns-then-len-lt2-clause-found c = λ stored here.
    few_in_order stored (table_seen c.args.view.now c.args.table stored here) c.args.refs.items (c.requires.live stored here)
    (omega (arith, c.len.ensures.value, c.if-len-lt2.true))

pub with_keys-requires-clause-key : goal.with_keys-requires-clause-key
with_keys-requires-clause-key c = λ stored here. (c.key_of-key.ensures.key stored here, c.key_of-key.ensures.within stored here)

pub with_keys-requires-clause-live : goal.with_keys-requires-clause-live
with_keys-requires-clause-live c = λ stored here. subst (All (IsLive stored.places)) (sym c.as_slice.ensures) (c.requires.live stored here)

pub returns-clause-found : goal.returns-clause-found
returns-clause-found c = λ stored here.
    let rows : List Keyed = c.in_ok-rows.rows.items in
    let sorted : List Keyed = c.sort_by_key.new.rows.items in
    let ats : List Keyed → List RowRef = λ rs. map (λ (row : Keyed). row.at) rs in
    let given = c.in_ok-rows.ensures.refs ∙ c.as_slice.ensures in
    let same : IsPermutation (ats sorted) c.args.refs.items =
    subst (IsPermutation (ats sorted)) given
    (IsPermutation-sym (ats rows) (ats sorted) (IsPermutation-map (λ (row : Keyed). row.at) rows sorted c.sort_by_key.ensures.permutation)) in
    let keys : All (IsKeyed stored) sorted = All-permutation (IsKeyed stored) rows sorted c.sort_by_key.ensures.permutation
    (c.in_ok-rows.ensures.keys stored here) in
    c.in_ok-append_once.ensures ∙ ap (λ (xs : List RowRef). xs ++ once None (ats c.as_slice-2.result.now)) c.clear.ensures.items
    ∙ ap (λ rs. once None (ats rs)) c.as_slice-2.ensures.value
    ∙ once_in_order stored (table_seen c.args.view.now c.args.table stored here) c.args.refs.items (c.requires.live stored here) sorted keys
    c.sort_by_key.ensures.sorted same
