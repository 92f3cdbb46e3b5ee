-- Rows that have the key of a deleted row in a column.
use Rattle.std.proofs.Common.{◌≡◌, ◌≢◌, ℕ, Bool, true, false, cond, ◌||◌, List, [], ◌∷◌, ◌++◌, Option, Some, None, inl, inr, ⊎_elim, refl, sym, ap, ◌∙◌, subst}
use Rattle.std.specs.Prelude.{slice_get}
use Rattle.std.specs.List.{All, AllByRecursion, filter, filter_map, list_any}
use Rattle.std.specs.Option.{option_cmp}
use Rattle.std.specs.Ordering.{is_eq}
use Rattle.std.specs.Cmp.Lexicographic.{options_total}
use Rattle.std.specs.declared.cmp.Ordering.TheVariants.{Equal}
use Rattle.std.proofs.lemmas.Cmp.{tied_itself}
use Rattle.std.proofs.lemmas.List.Elements.{All-append, All-filter, recursion_from_All}
use Rattle.std.proofs.lemmas.List.Folds.{list_any-append}
use Rattle.std.proofs.lemmas.List.Sorted.{Contains-permutation, IsPermutation-sym}
use Rattle.mm_partition.specs.Places.{IsLive, slot_at}
use Rattle.mm_tables.proofs.Slots.{same_from_test, test_from_same}
use Rattle.mm_indexed.proofs.RefTests.{same_or_apart}
use Rattle.mm_tables.specs.Edits.{Fits, same_ref}
use Rattle.mm_store.specs.Edits.{old_slot, pairs_of}
use Rattle.mm_indexed.specs.Kept.{StoredRows}
use Rattle.mm_indexed.specs.Twins.{AreApart}
use Rattle.mm_indexed.specs.Reads.{AreMatches, has_value}
use Rattle.mm_row_order.specs.Refs.{HasRow, Slots, row_at}
use Rattle.mm_tables.specs.declared.edit.Edit.{Edit}
use Rattle.mm_tables.specs.declared.edit.Edit.TheVariants.{Delete, Insert, Move, Stage, Update}
use Rattle.mm_schema.proofs.StrictOrder.{Contains-from_IsIn, IsIn, IsIn-from_Contains}
use Rattle.mm_schema.proofs.Duplicates.{Row}
use Rattle.mm_schema.specs.References.{refers}
use Rattle.mm_schema.specs.Rows.{Pair, column_cmp}
use Rattle.mm_query.proofs.FoundTargets.{some_among, some_by_one}
use Rattle.mm_link.proofs.Referring.{agree, refers_same, same_from_refers}
use Rattle.mm_link.specs.Links.{RefersTo}
use Rattle.mm_value.proofs.Orders.{value_cmp_total}
use Rattle.mm_value.specs.Order.{value_cmp}
use Rattle.mm_value.specs.declared.row_ref.RowRef.{RowRef}
use Rattle.mm_value.specs.declared.values.Value.{Value}
use Rattle.mm_delta.specs.Steps.{takes}
use Rattle.mm_txn.specs.Cascades.{AddsReferrers}

-- ---- the result of a filter

module _ {X : Type 0} (p : X → Bool) where
  pub passes_in_filter : (xs : List X) (x : X) → IsIn x xs → p x ≡ true → IsIn x (filter p xs)
  passes_in_filter [] x here passes = here
  passes_in_filter (y ∷ ys) x (inl same) passes = rw (ap p same ∙ passes) (inl same)
  passes_in_filter (y ∷ ys) x (inr later) passes = by (p y) (passes_in_filter ys x later passes)
    where
      by : (b : Bool) → IsIn x (filter p ys) → IsIn x (cond b (y ∷ filter p ys) (filter p ys))
      by true there = inr there
      by false there = there

  pub from_filter : (xs : List X) (x : X) → IsIn x (filter p xs) → p x ≡ true
  from_filter [] x here = absurd here
  from_filter (y ∷ ys) x here = by (p y) refl here (from_filter ys x)
    where
      by : (b : Bool) → p y ≡ b → IsIn x (cond b (y ∷ filter p ys) (filter p ys)) → (IsIn x (filter p ys) → p x ≡ true) → p x ≡ true
      by true is (inl same) later = sym (ap p same) ∙ is
      by true is (inr there) later = later there
      by false is there later = later there

-- ---- references in lists

pub is_in : (at : RowRef) (refs : List RowRef) → list_any (same_ref at) refs ≡ true → IsIn at refs
is_in at refs some =
    let found = some_among (same_ref at) refs some in
    subst (λ r. IsIn r refs) (sym (same_from_test at found.0 found.2)) found.1

pub in_any : (at : RowRef) (refs : List RowRef) → IsIn at refs → list_any (same_ref at) refs ≡ true
in_any at refs here = some_by_one (same_ref at) refs at here (test_from_same at at refl)

-- The rows with a value are found by it.
matched : (column : ℕ) (now : Slots) (value : Value) (refs found : List RowRef) → AreMatches column now value refs found → (at : RowRef) → IsIn at refs
    → list_any (same_ref at) found ≡ has_value column now value at
matched column now value refs found are at here =
    let chosen : List RowRef = filter (has_value column now value) refs in
    agree (list_any (same_ref at) found) (has_value column now value at)
    (λ yes. from_filter (has_value column now value) refs at
    (IsIn-from_Contains chosen at (Contains-permutation found chosen at are (Contains-from_IsIn found at (is_in at found yes)))))
    (λ yes. in_any at found
    (IsIn-from_Contains found at (Contains-permutation chosen found at (IsPermutation-sym found chosen are)
    (Contains-from_IsIn chosen at (passes_in_filter (has_value column now value) refs at here yes)))))

-- ---- rows that edits delete

abbrev pub rows_taken : Slots → List Edit → List Row
rows_taken now edits = filter_map (λ (p : Pair). p.0) (pairs_of now edits)

pub rows_taken-append : (now : Slots) (xs ys : List Edit) → rows_taken now (xs ++ ys) ≡ rows_taken now xs ++ rows_taken now ys
rows_taken-append now [] ys = refl
rows_taken-append now (Stage at ∷ xs) ys = rows_taken-append now xs ys
rows_taken-append now (Insert at ∷ xs) ys = rows_taken-append now xs ys
rows_taken-append now (Update at other ∷ xs) ys = ap (λ rows. row_at now at ∷ rows) (rows_taken-append now xs ys)
rows_taken-append now (Move at other ∷ xs) ys = ap (λ rows. row_at now at ∷ rows) (rows_taken-append now xs ys)
rows_taken-append now (Delete at ∷ xs) ys = ap (λ rows. row_at now at ∷ rows) (rows_taken-append now xs ys)

pub one_taken : (now : Slots) (edit : Edit) (at : RowRef) → old_slot edit ≡ Some at → rows_taken now (edit ∷ []) ≡ row_at now at ∷ []
one_taken now (Stage other) at is = cc
one_taken now (Insert other) at is = cc
one_taken now (Update taken other) at is = let same : taken ≡ at = cc in ap (λ r. row_at now r ∷ []) same
one_taken now (Move taken other) at is = let same : taken ≡ at = cc in ap (λ r. row_at now r ∷ []) same
one_taken now (Delete taken) at is = let same : taken ≡ at = cc in ap (λ r. row_at now r ∷ []) same

pub none_taken : (now : Slots) (edit : Edit) → old_slot edit ≡ None → rows_taken now (edit ∷ []) ≡ []
none_taken now (Stage other) is = refl
none_taken now (Insert other) is = refl
none_taken now (Update taken other) is = cc
none_taken now (Move taken other) is = cc
none_taken now (Delete taken) is = cc

-- ---- added along an index

abbrev pub tests : ℕ → ℕ → List Row → Row → Bool
tests column key rows row = list_any (refers column key row) rows

module _ (stored : StoredRows) where
  module _ (column key : ℕ) (then : Slots) (done : List Edit) (edit : Edit) (old mid : List RowRef)
      (adds : AddsReferrers stored (tests column key (rows_taken then done)) old mid) where
    tests_push : (row : Row) → tests column key (rows_taken then (done ++ edit ∷ [])) row
        ≡ (tests column key (rows_taken then done) row || tests column key (rows_taken then (edit ∷ [])) row)
    tests_push row = ap (list_any (refers column key row)) (rows_taken-append then done (edit ∷ []))
        ∙ list_any-append (refers column key row) (rows_taken then done) (rows_taken then (edit ∷ []))

    pub skipped : old_slot edit ≡ None → AddsReferrers stored (tests column key (rows_taken then (done ++ edit ∷ []))) old mid
    skipped none = record {
      live = adds.live;
      found = λ at here. adds.found at here ∙ ap (λ b. list_any (same_ref at) old || b) (sym (tests_push (row_at (slot_at stored.places) at)
          ∙ ap (λ rows. tests column key (rows_taken then done) (row_at (slot_at stored.places) at) || tests column key rows
          (row_at (slot_at stored.places) at)) (none_taken then edit none)
          ∙ or_false (tests column key (rows_taken then done) (row_at (slot_at stored.places) at))));
    }
      where
        or_false : (b : Bool) → (b || false) ≡ b
        or_false true = refl
        or_false false = refl

    pub matches_added : (gone : RowRef) → old_slot edit ≡ Some gone → (value : Value) → slice_get (row_at then gone) key ≡ Some value
        → (found new : List RowRef) → new ≡ mid ++ found → AreMatches column (slot_at stored.places) value stored.refs found
        → (All (IsLive stored.places) mid → All (IsLive stored.places) new)
        → AddsReferrers stored (tests column key (rows_taken then (done ++ edit ∷ []))) old new
    matches_added gone taken value has found new is are alive = record {
      live = λ live. alive (adds.live live);
      found = λ at here.
          let row : Row = row_at now at in
          ap (list_any (same_ref at)) is ∙ list_any-append (same_ref at) mid found
          ∙ ap (λ b. b || list_any (same_ref at) found) (adds.found at here)
          ∙ ap (λ b. (list_any (same_ref at) old || tests column key (rows_taken then done) row) || b)
          (matched column now value stored.refs found are at (IsIn-from_Contains stored.refs at here) ∙ sym (one_test row))
          ∙ or_assoc (list_any (same_ref at) old) (tests column key (rows_taken then done) row) (tests column key (rows_taken then (edit ∷ [])) row)
          ∙ ap (λ b. list_any (same_ref at) old || b) (sym (tests_push row));
    }
      where
        now : Slots
        now = slot_at stored.places

        or_assoc : (a b c : Bool) → ((a || b) || c) ≡ (a || (b || c))
        or_assoc true b c = refl
        or_assoc false b c = refl

        or_false : (b : Bool) → (b || false) ≡ b
        or_false true = refl
        or_false false = refl

        one_test : (row : Row) → tests column key (rows_taken then (edit ∷ [])) row ≡ is_eq (option_cmp value_cmp (slice_get row column) (Some value))
        one_test row = ap (list_any (refers column key row)) (one_taken then edit gone taken)
            ∙ or_false (refers column key row (row_at then gone))
            ∙ ap (λ (o : Option Value). is_eq (option_cmp value_cmp (slice_get row column) o)) has

-- ---- added by a pass over all rows

-- The rows that pass were appended.
pub passing_added : (stored : StoredRows) → All (IsLive stored.places) stored.refs → (test : Row → Bool)
    → (old new : List RowRef) → new ≡ old ++ filter (λ at. test (row_at (slot_at stored.places) at)) stored.refs → AddsReferrers stored test old new
passing_added stored rows test old new is = record {
  live = λ live. subst (All (IsLive stored.places)) (sym is) (All-append (IsLive stored.places) old (filter q stored.refs) live
      (All-filter q (IsLive stored.places) stored.refs rows));
  found = λ at here.
      ap (list_any (same_ref at)) is ∙ list_any-append (same_ref at) old (filter q stored.refs)
      ∙ ap (λ b. list_any (same_ref at) old || b)
      (agree (list_any (same_ref at) (filter q stored.refs)) (q at)
      (λ yes. from_filter q stored.refs at (is_in at (filter q stored.refs) yes))
      (λ yes. in_any at (filter q stored.refs) (passes_in_filter q stored.refs at (IsIn-from_Contains stored.refs at here) yes)));
}
  where
    q : RowRef → Bool
    q at = test (row_at (slot_at stored.places) at)

module _ (column : ℕ) (target : StoredRows) (apart : AreApart target.key (slot_at target.places))
    (row : Row) (to : RowRef) (refers_to : RefersTo column target.key (slot_at target.places) row to) where
  abbrev then : Slots
  then = slot_at target.places

  same_key : (x : RowRef) → HasRow then x → same_ref x to ≡ refers column target.key row (row_at then x)
  same_key x live = agree (same_ref x to) (refers column target.key row (row_at then x))
      (λ yes. refers_same column target.key row (row_at then x)
      (refers_to.same ∙ ap (λ r. slice_get (row_at then r) target.key) (sym (same_from_test x to yes))))
      (λ yes.
      let keys : slice_get (row_at then x) target.key ≡ slice_get (row_at then to) target.key =
      sym (same_from_refers column target.key row (row_at then x) yes) ∙ refers_to.same in
      let tie : column_cmp target.key (row_at then x) (row_at then to) ≡ Equal =
      subst (λ (o : Option Value). option_cmp value_cmp (slice_get (row_at then x) target.key) o ≡ Equal) keys
      (tied_itself (options_total value_cmp_total) (slice_get (row_at then x) target.key)) in
      ⊎_elim (λ (same : x ≡ to). test_from_same x to same)
      (λ (differ : x ≢ to). absurd (apart to refers_to.live (x, live, differ, tie))) (same_or_apart x to))

  goes_as_told : (edits : List Edit) → AllByRecursion (Fits target.key then) edits
      → list_any (takes to) edits ≡ tests column target.key (rows_taken then edits) row
  goes_as_told [] fits = refl
  goes_as_told (Stage x ∷ edits) fits = goes_as_told edits fits.1
  goes_as_told (Insert x ∷ edits) fits = goes_as_told edits fits.1
  goes_as_told (Update x other ∷ edits) fits = λ i. same_key x fits.0.0 i || goes_as_told edits fits.1 i
  goes_as_told (Move x other ∷ edits) fits = λ i. same_key x fits.0.0 i || goes_as_told edits fits.1 i
  goes_as_told (Delete x ∷ edits) fits = λ i. same_key x fits.0 i || goes_as_told edits fits.1 i

  -- The row that a row refers to is deleted exactly if the row has the key of a deleted row.
  pub target_goes : (edits : List Edit) → All (Fits target.key then) edits → list_any (takes to) edits ≡ tests column target.key (rows_taken then edits) row
  target_goes edits fits = goes_as_told edits (recursion_from_All (Fits target.key then) edits fits)

-- ---- added by several tests

pub adds_same : (stored : StoredRows) (p q : Row → Bool) → ((row : Row) → p row ≡ q row) → (old new : List RowRef) → AddsReferrers stored p old new
    → AddsReferrers stored q old new
adds_same stored p q same old new adds = record {
  live = adds.live;
  found = λ at here. adds.found at here ∙ ap (λ b. list_any (same_ref at) old || b) (same (row_at (slot_at stored.places) at));
}

pub adds_both : (stored : StoredRows) (p q : Row → Bool) (old mid new : List RowRef) → AddsReferrers stored p old mid → AddsReferrers stored q mid new
    → AddsReferrers stored (λ row. p row || q row) old new
adds_both stored p q old mid new first second = record {
  live = λ live. second.live (first.live live);
  found = λ at here. second.found at here ∙ ap (λ b. b || q (row_at (slot_at stored.places) at)) (first.found at here)
      ∙ assoc (list_any (same_ref at) old) (p (row_at (slot_at stored.places) at)) (q (row_at (slot_at stored.places) at));
}
  where
    assoc : (a b c : Bool) → ((a || b) || c) ≡ (a || (b || c))
    assoc true b c = refl
    assoc false b c = refl
