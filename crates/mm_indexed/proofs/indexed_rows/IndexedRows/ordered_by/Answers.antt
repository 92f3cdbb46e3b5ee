use Rattle.std.proofs.Common.{◌≢◌, ◌<◌, ◌≤◌, List, length, sym, ap, ◌∙◌, subst, arith}
use Rattle.std.specs.Prelude.{IsPermutation}
use Rattle.std.specs.List.{All, AllPairs}
use Rattle.std.proofs.lemmas.List.Sorted.{All-permutation, IsPermutation-sym, length_permutation}
use Rattle.std.proofs.lemmas.Result.{IfOk-weaker}
use Rattle.mm_value.specs.declared.row_ref.RowRef.{RowRef}
use Rattle.mm_partition.specs.Places.{IsLive, slot_at}
use Rattle.mm_row_order.specs.InOrder.{InOrder}
use Rattle.mm_indexed.specs.Kept.{StoredRows}
use Rattle.mm_indexed.specs.Reads.{IsWalk}
use Rattle.mm_row_order.specs.Refs.{IsWide}
use Rattle.mm_indexed.proofs.Building.{distinct, live_refs, wide_refs}
use Rattle.mm_indexed.proofs.WalkRows.{walk_rows}
use Rattle.mm_indexed.proofs.indexed_rows.IndexedRows.ordered_by.Goals as goal
use Rattle.mm_schema.specs.Rows.{most_rows}

pub sorted_refs-requires-clause-wide : goal.sorted_refs-requires-clause-wide
sorted_refs-requires-clause-wide c =
    let now = slot_at c.self.inside.rows in
    let within : c.args.column < length c.self.inside.rows.types =
    subst (λ (v : StoredRows). c.args.column < length v.places.types) (sym c.self.view_is) c.requires.column in
    subst (All (IsWide c.args.column c.self.inside.key now)) (sym (c.as_slice.ensures.value ∙ c.in_ok-refs.ensures))
    (wide_refs c.self.inside.rows.types c.args.column c.self.inside.key now c.self.inside.by_key.refs c.self.invariant.typed within
    c.self.invariant.key_in
    (live_refs c.self.inside.rows.types c.self.inside.key now c.self.inside.by_key.refs c.self.inside.indexes.items c.self.invariant))

pub sorted_refs-requires-clause-apart : goal.sorted_refs-requires-clause-apart
sorted_refs-requires-clause-apart c =
    subst (AllPairs (λ (a b : RowRef). a ≢ b)) (sym (c.as_slice.ensures.value ∙ c.in_ok-refs.ensures))
    (distinct c.self.inside.key (slot_at c.self.inside.rows) c.self.inside.by_key.refs c.self.invariant.by_key)

pub returns-clause-walk : goal.returns-clause-walk
returns-clause-walk c =
    let refs : List RowRef = c.self.inside.by_key.refs in
    let sorted : List RowRef = c.in_ok-sorted.sorted.items in
    let same : IsPermutation sorted refs =
    subst (IsPermutation sorted) (c.as_slice.ensures.value ∙ c.in_ok-refs.ensures) c.in_ok-sorted.ensures.same
    in
    let walk : IsWalk c.args.column c.args.self.now sorted =
    subst (λ (v : StoredRows). IsWalk c.args.column v sorted) c.self.view_is (record { ordered = c.in_ok-sorted.ensures.ordered; same = same })
    in
    IfOk-weaker c.from_sorted.result _ _
    (λ tree made. subst (IsWalk c.args.column c.args.self.now) (sym (made ∙ c.as_slice-2.ensures.value)) walk) c.from_sorted.ensures.refs

pub returns-clause-rows : goal.returns-clause-rows
returns-clause-rows c = λ apart.
    let refs : List RowRef = c.self.inside.by_key.refs in
    let sorted : List RowRef = c.in_ok-sorted.sorted.items in
    let same : IsPermutation sorted refs =
    subst (IsPermutation sorted) (c.as_slice.ensures.value ∙ c.in_ok-refs.ensures) c.in_ok-sorted.ensures.same
    in
    let by_key : InOrder c.args.self.now.key c.args.self.now.key (slot_at c.args.self.now.places) c.args.self.now.refs =
    subst (λ (v : StoredRows). InOrder v.key v.key (slot_at v.places) v.refs) c.self.view_is c.self.invariant.by_key
    in
    let walk : IsWalk c.args.column c.args.self.now sorted =
    subst (λ (v : StoredRows). IsWalk c.args.column v sorted) c.self.view_is (record { ordered = c.in_ok-sorted.ensures.ordered; same = same })
    in
    IfOk-weaker c.from_sorted.result _ _
    (λ tree made. walk_rows c.args.column c.args.self.now tree.refs apart by_key
    (subst (IsWalk c.args.column c.args.self.now) (sym (made ∙ c.as_slice-2.ensures.value)) walk)) c.from_sorted.ensures.refs

pub returns-clause-live : goal.returns-clause-live
returns-clause-live c =
    let refs : List RowRef = c.self.inside.by_key.refs in
    let sorted : List RowRef = c.in_ok-sorted.sorted.items in
    let same : IsPermutation sorted refs =
    subst (IsPermutation sorted) (c.as_slice.ensures.value ∙ c.in_ok-refs.ensures) c.in_ok-sorted.ensures.same
    in
    let live : All (IsLive c.args.self.now.places) sorted =
    subst (λ (v : StoredRows). All (IsLive v.places) sorted) c.self.view_is
    (All-permutation (IsLive c.self.inside.rows) refs sorted (IsPermutation-sym sorted refs same)
    (live_refs c.self.inside.rows.types c.self.inside.key (slot_at c.self.inside.rows) refs c.self.inside.indexes.items c.self.invariant))
    in
    IfOk-weaker c.from_sorted.result _ _
    (λ tree made. subst (All (IsLive c.args.self.now.places)) (sym (made ∙ c.as_slice-2.ensures.value)) live) c.from_sorted.ensures.refs

pub returns-clause-few : goal.returns-clause-few
returns-clause-few c =
    let refs : List RowRef = c.self.inside.by_key.refs in
    let sorted : List RowRef = c.in_ok-sorted.sorted.items in
    let same : IsPermutation sorted refs =
    subst (IsPermutation sorted) (c.as_slice.ensures.value ∙ c.in_ok-refs.ensures) c.in_ok-sorted.ensures.same
    in
    let few : length refs ≤ most_rows = subst (λ (v : StoredRows). length v.refs ≤ most_rows) (sym c.self.view_is) c.requires.few in
    IfOk-weaker c.from_sorted.result _ _
    (λ tree made. omega (arith, few, length_permutation sorted refs same, ap (λ (xs : List RowRef). length xs) (made ∙ c.as_slice-2.ensures.value)))
    c.from_sorted.ensures.refs
