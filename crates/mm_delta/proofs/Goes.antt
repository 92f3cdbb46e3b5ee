-- The rows that stay and the new rows are the rows after the edits.
use Rattle.std.proofs.Common.{◌≡◌, ◌≢◌, ℕ, ◌+◌, Bool, true, false, not, cond, ◌||◌, List, [], ◌∷◌, ◌++◌, append-nil, get_or, map, inl, inr}
use Rattle.std.proofs.Common.{refl, sym, ap, ap₂, ◌∙◌, subst, arith}
use Rattle.std.specs.List.{All, AllPairs, Contains, filter, list_any, sum_by}
use Rattle.std.specs.List.Sorted.{IsPermutation}
use Rattle.std.specs.Ordering.{is_eq}
use Rattle.std.proofs.lemmas.Bool.{cases_Bool, false≢true}
use Rattle.std.proofs.lemmas.Cmp.{tied_itself}
use Rattle.std.proofs.lemmas.List.Elements.{All-contains, All-head, All-tail, Contains-append_cases, Contains-append_left, Contains-append_right}
use Rattle.std.proofs.lemmas.List.Elements.{Contains-get_or}
use Rattle.std.proofs.lemmas.List.Folds.{Any-from_list_any, list_any_at}
use Rattle.std.proofs.lemmas.List.Kept.{AllPairs-filter}
use Rattle.std.proofs.lemmas.List.Sums.{sum_by-append}
use Rattle.std.proofs.lemmas.List.Sorted.{IsPermutation-refl, sum_by-IsPermutation}
use Rattle.mm_base.proofs.References.{IsPermutation-same, in_filter, out_of_filter}
use Rattle.mm_indexed.proofs.Building.{distinct}
use Rattle.mm_indexed.proofs.RefTests.{same_from_test, test_from_same}
use Rattle.mm_indexed.specs.Kept.{StoredRows}
use Rattle.mm_indexed.specs.RowLists.{rows_of}
use Rattle.mm_order.proofs.Filtered.{filter-all}
use Rattle.mm_order.proofs.Pairs.{AllPairs-append}
use Rattle.mm_partition.specs.Places.{slot_at}
use Rattle.mm_row_order.specs.Refs.{HasRow, Slots, row_at}
use Rattle.mm_schema.proofs.Duplicates.{column_cmp_total}
use Rattle.mm_schema.proofs.InOrder.{IsPermutation-in_order}
use Rattle.mm_schema.proofs.Orderings.{equal_from_is_eq}
use Rattle.mm_schema.specs.Rows.{Pair, changed, column_cmp, goes, same_in_column, unsorted}
use Rattle.mm_store.specs.Joined.{IsTable}
use Rattle.mm_store.specs.Edits.{AreReady, pairs_of, rows_after, rows_come}
use Rattle.mm_tables.specs.Edits.{same_ref}
use Rattle.mm_tables.specs.declared.edit.Edit.{Edit}
use Rattle.mm_tables.specs.declared.edit.Edit.TheVariants.{Delete, Insert, Move, Stage, Update}
use Rattle.mm_value.specs.declared.row_ref.RowRef.{RowRef}
use Rattle.mm_value.specs.declared.values.Value.{Value}
use Rattle.mm_delta.specs.Edited.{old_slots}
use Rattle.mm_delta.specs.Steps.{stays, takes}
use Rattle.mm_delta.proofs.OldSlots.{old_apart, old_live}
use Rattle.mm_delta.proofs.Product.{filter-map}
use Rattle.mm_delta.proofs.Sums.{Balance, sum_by-map}

-- Two tests that agree at each element of a list keep the same of it.
pub filter_same : {X : Type 0} (p q : X → Bool) (xs : List X) → All (λ x. p x ≡ q x) xs → filter p xs ≡ filter q xs
filter_same p q [] all = refl
filter_same p q (x ∷ xs) all =
    λ i. cond (All-head (λ y. p y ≡ q y) x xs all i) (x ∷ filter_same p q xs (All-tail (λ y. p y ≡ q y) x xs all) i)
    (filter_same p q xs (All-tail (λ y. p y ≡ q y) x xs all) i)

-- Changed rows are those before they are sorted, in some order.
changed_moved : (key : ℕ) (pairs : List Pair) (rows : List (List Value)) → IsPermutation (unsorted key pairs rows) (changed key pairs rows)
changed_moved key [] rows =
    subst (λ xs. IsPermutation xs rows) (sym (append-nil (filter (λ _. true) rows) ∙ filter-all (λ _. true) rows (λ k d within. refl)))
    (IsPermutation-refl rows)
changed_moved key (p ∷ ps) rows = IsPermutation-in_order (column_cmp key) (unsorted key (p ∷ ps) rows)

-- ---- the references of the old rows of edits

takes_named : (edits : List Edit) (at : RowRef) → list_any (takes at) edits ≡ list_any (λ (r : RowRef). same_ref r at) (old_slots edits)
takes_named [] at = refl
takes_named (Stage r ∷ edits) at = takes_named edits at
takes_named (Insert r ∷ edits) at = takes_named edits at
takes_named (Update r other ∷ edits) at = ap (λ b. same_ref r at || b) (takes_named edits at)
takes_named (Move r other ∷ edits) at = ap (λ b. same_ref r at || b) (takes_named edits at)
takes_named (Delete r ∷ edits) at = ap (λ b. same_ref r at || b) (takes_named edits at)

module _ (stored : StoredRows) (is_table : IsTable stored) where
  abbrev now : Slots
  now = slot_at stored.places

  -- A row in use has the key of another exactly if it is the same row.
  same_test : (at r : RowRef) → HasRow now at → HasRow now r → same_in_column stored.key (row_at now at) (row_at now r) ≡ same_ref r at
  same_test at r live there =
      elim (cases_Bool (same_ref r at)) [
        | inl met ↦ ap (λ x. same_in_column stored.key (row_at now at) (row_at now x)) (same_from_test r at met)
            ∙ (ap is_eq (tied_itself (column_cmp_total stored.key) (row_at now at)) ∙ sym met)
        | inr unmet ↦ elim (cases_Bool (same_in_column stored.key (row_at now at) (row_at now r))) [
          | inl tied ↦ absurd (is_table.apart r there (
            at,
            live,
            λ same. false≢true (sym unmet ∙ test_from_same r at (sym same)),
            equal_from_is_eq (column_cmp stored.key (row_at now at) (row_at now r)) tied,
          ))
          | inr apart ↦ apart ∙ sym unmet
        ]
      ]

  -- So a row is removed if an edit names it.
  goes_taken : (at : RowRef) → HasRow now at → (edits : List Edit) → All (HasRow now) (old_slots edits)
      → list_any (λ (p : Pair). goes stored.key (row_at now at) p.0) (pairs_of now edits) ≡ list_any (takes at) edits
  goes_taken at live [] all = refl
  goes_taken at live (Stage r ∷ edits) all = goes_taken at live edits all
  goes_taken at live (Insert r ∷ edits) all = goes_taken at live edits all
  goes_taken at live (Update r other ∷ edits) all =
      ap₂ (λ a b. a || b) (same_test at r live (All-head (HasRow now) r (old_slots edits) all))
      (goes_taken at live edits (All-tail (HasRow now) r (old_slots edits) all))
  goes_taken at live (Move r other ∷ edits) all =
      ap₂ (λ a b. a || b) (same_test at r live (All-head (HasRow now) r (old_slots edits) all))
      (goes_taken at live edits (All-tail (HasRow now) r (old_slots edits) all))
  goes_taken at live (Delete r ∷ edits) all =
      ap₂ (λ a b. a || b) (same_test at r live (All-head (HasRow now) r (old_slots edits) all))
      (goes_taken at live edits (All-tail (HasRow now) r (old_slots edits) all))

  module _ (edits : List Edit) (fit : AreReady stored edits) where
    abbrev kept : List RowRef
    kept = filter (stays edits) stored.refs

    -- Before they are sorted, the rows after the edits are those that stay and the new ones.
    unsorted_is : unsorted stored.key (pairs_of now edits) (rows_of stored) ≡ map (row_at now) kept ++ rows_come now edits
    unsorted_is =
        let stays_in : List Value → Bool = λ row. not (list_any (λ (p : Pair). goes stored.key row p.0) (pairs_of now edits)) in
        ap₂ (λ (xs ys : List (List Value)). xs ++ ys)
        (filter-map stays_in (row_at now) stored.refs
        ∙ ap (map (row_at now)) (filter_same (λ at. stays_in (row_at now at)) (stays edits) stored.refs
        (λ k d within.
        let at : RowRef = get_or stored.refs k d in
        ap not (goes_taken at ((is_table.kept.held at).0 (Contains-get_or stored.refs k d within)) edits (old_live stored.key now edits fit.fits)))))
        refl

    -- The rows after the edits are the new ones and those that stay.
    pub after_edits : (f : List Value → ℕ) → sum_by f (rows_after stored edits) ≡ sum_by f (map (row_at now) kept) + sum_by f (rows_come now edits)
    after_edits f =
        sum_by-IsPermutation f (unsorted stored.key (pairs_of now edits) (rows_of stored)) (rows_after stored edits)
        (changed_moved stored.key (pairs_of now edits) (rows_of stored))
        ∙ ap (sum_by f) unsorted_is
        ∙ sum_by-append f (map (row_at now) kept) (rows_come now edits)

    gone_taken : (at : RowRef) → Contains (old_slots edits) at → stays edits at ≡ false
    gone_taken at (k, within, is) =
        ap not (takes_named edits at
        ∙ list_any_at (λ (r : RowRef). same_ref r at) (old_slots edits) k at within (test_from_same (get_or (old_slots edits) k at) at is))

    stay_apart : (at : RowRef) → Contains (old_slots edits) at → Contains kept at → ⊥
    stay_apart at goes here = false≢true (sym (gone_taken at goes) ∙ (out_of_filter (stays edits) stored.refs at here).1)

    -- A reference that no edit names stays.
    cases : (at : RowRef) → Contains stored.refs at → Contains (old_slots edits ++ kept) at
    cases at here =
        elim (cases_Bool (list_any (λ (r : RowRef). same_ref r at) (old_slots edits))) [
          | inl met ↦
              let found = Any-from_list_any (λ (r : RowRef). same_ref r at) (old_slots edits) met in
              Contains-append_left (old_slots edits) kept at
              (subst (Contains (old_slots edits)) (same_from_test found.1 at found.4) (found.0, found.2, found.3))
          | inr unmet ↦ Contains-append_right (old_slots edits) kept at
              (in_filter (stays edits) stored.refs at here (ap not (takes_named edits at ∙ unmet)))
        ]

    -- The references of the old rows of edits and of those that stay are those of all rows.
    same : IsPermutation stored.refs (old_slots edits ++ kept)
    same =
        let all : AllPairs (λ a b. a ≢ b) stored.refs = distinct stored.key now stored.refs is_table.kept.by_key in
        IsPermutation-same stored.refs (old_slots edits ++ kept) all
        (AllPairs-append (λ (a b : RowRef). a ≢ b) (old_slots edits) kept (old_apart edits fit.apart)
        (AllPairs-filter (λ a b. a ≢ b) (stays edits) stored.refs all)
        (λ i e below k d within is.
        stay_apart (get_or (old_slots edits) i e) (Contains-get_or (old_slots edits) i e below)
        (subst (Contains kept) (sym is) (Contains-get_or kept k d within))))
        cases
        (λ at here.
        elim (Contains-append_cases (old_slots edits) kept at here) [
          | inl goes ↦ (is_table.kept.held at).1 (All-contains (HasRow now) (old_slots edits) at (old_live stored.key now edits fit.fits) goes)
          | inr stays_there ↦ (out_of_filter (stays edits) stored.refs at stays_there).0
        ])

    -- The rows after the edits plus the old rows of edits are the rows before plus the new rows.
    pub edits_balance : Balance (rows_after stored edits) (map (row_at now) (old_slots edits)) (rows_of stored) (rows_come now edits)
    edits_balance f =
        omega (
          arith,
          after_edits f,
          sum_by-map f (row_at now) kept,
          sum_by-map f (row_at now) (old_slots edits),
          sum_by-map f (row_at now) stored.refs,
          sum_by-IsPermutation (λ at. f (row_at now at)) stored.refs (old_slots edits ++ kept) same,
          sum_by-append (λ at. f (row_at now at)) (old_slots edits) kept,
        )
