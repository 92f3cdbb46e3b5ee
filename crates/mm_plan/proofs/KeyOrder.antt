-- References sorted by their keys, each once, are in the order of the relation.
use Rattle.std.proofs.Common.{◌≡◌, ℕ, suc, ◌+◌, ◌<◌, Bool, true, false, cond, ◌||◌, List, [], ◌∷◌, length, get_or, Option, Some, None, ◌⊎◌, inl, inr, map}
use Rattle.std.proofs.Common.{refl, sym, ap, ◌∙◌, subst, arith, add-one}
use Rattle.std.specs.Prelude.{slice_get, IsPermutation}
use Rattle.std.specs.List.{All, filter, list_any}
use Rattle.std.specs.List.Sorted.{IsSortedByKey, IsStrictlySortedBy}
use Rattle.std.specs.Option.{option_cmp}
use Rattle.std.specs.Ordering.{is_lt, nat_cmp, ordering_reverse, ordering_then}
use Rattle.std.specs.declared.cmp.Ordering.{Ordering}
use Rattle.std.specs.declared.cmp.Ordering.TheVariants.{Less, Equal, Greater}
use Rattle.std.proofs.Math.ListN.{get_or-map}
use Rattle.std.proofs.lemmas.Bool.{false≢true}
use Rattle.std.proofs.lemmas.List.{length-map}
use Rattle.std.proofs.lemmas.List.Elements.{All-contains}
use Rattle.std.proofs.lemmas.List.Sorted.{All-permutation, Contains-permutation, IsPermutation-refl, IsPermutation-sym}
use Rattle.std.proofs.lemmas.List.Kept.{AllPairs-filter}
use Rattle.mm_value.specs.Views.{value_of}
use Rattle.mm_partition.specs.Places.{slot_at}
use Rattle.mm_indexed.proofs.RefTests.{same_from_test, test_from_same}
use Rattle.mm_tables.specs.Edits.{same_ref}
use Rattle.mm_indexed.specs.Kept.{StoredRows}
use Rattle.mm_row_order.specs.Orders.{refs_by_total}
use Rattle.mm_row_order.specs.Refs.{HasRow, Slots, refs_by, row_at}
use Rattle.mm_schema.proofs.StrictOrder.{Contains-from_IsIn, IsIn, IsIn-from_Contains, IsStrictlySortedBy-before, IsStrictlySortedBy-from_neighbours}
use Rattle.mm_schema.proofs.StrictOrder.{IsStrictlySortedBy-nil, same_from_elements}
use Rattle.mm_schema.specs.Rows.{column_cmp}
use Rattle.mm_select.proofs.KeyWalks.{same_from_keys}
use Rattle.mm_store.specs.Joined.{IsTable}
use Rattle.mm_value.proofs.Orders.{value_cmp_total}
use Rattle.mm_value.specs.Order.{value_cmp}
use Rattle.mm_value.specs.declared.row_ref.RowRef.{RowRef}
use Rattle.mm_value.specs.declared.values.Value.{Value}
use Rattle.mm_plan.specs.Finding.{IsKeyed, among, is_again, once}
use Rattle.mm_plan.specs.declared.finding.Keyed.{Keyed}

-- ---- elements that pass a test

module _ {X : Type 0} (p : X → Bool) where
  pub some_among : (xs : List X) → list_any p xs ≡ true → (x : X) × IsIn x xs × (p x ≡ true)
  some_among [] some = absurd (false≢true some)
  some_among (y ∷ ys) some = by (p y) refl some (some_among ys)
    where
      by : (b : Bool) → p y ≡ b → (b || list_any p ys) ≡ true → (list_any p ys ≡ true → (x : X) × IsIn x ys × (p x ≡ true))
          → (x : X) × IsIn x (y ∷ ys) × (p x ≡ true)
      by true is either later = (y, inl refl, is)
      by false is either later = let found = later either in (found.0, inr found.1, found.2)

  pub some_by_one : (xs : List X) (x : X) → IsIn x xs → p x ≡ true → list_any p xs ≡ true
  some_by_one [] x here passes = absurd here
  some_by_one (y ∷ ys) x (inl same) passes = ap (λ b. b || list_any p ys) (ap p same ∙ passes)
  some_by_one (y ∷ ys) x (inr later) passes = either (p y) (list_any p ys) (some_by_one ys x later passes)
    where
      either : (a b : Bool) → b ≡ true → (a || b) ≡ true
      either true b is = refl
      either false b is = is

  pub passes_in_filter : (xs : List X) (x : X) → IsIn x xs → p x ≡ true → IsIn x (filter p xs)
  passes_in_filter [] x here passes = here
  passes_in_filter (y ∷ ys) x (inl same) passes = rw (ap p same ∙ passes) (inl same)
  passes_in_filter (y ∷ ys) x (inr later) passes = by (p y) (passes_in_filter ys x later passes)
    where
      by : (b : Bool) → IsIn x (filter p ys) → IsIn x (cond b (y ∷ filter p ys) (filter p ys))
      by true there = inr there
      by false there = there

  pub from_filter : (xs : List X) (x : X) → IsIn x (filter p xs) → p x ≡ true
  from_filter [] x here = absurd here
  from_filter (y ∷ ys) x here = by (p y) refl here (from_filter ys x)
    where
      by : (b : Bool) → p y ≡ b → IsIn x (cond b (y ∷ filter p ys) (filter p ys)) → (IsIn x (filter p ys) → p x ≡ true) → p x ≡ true
      by true is (inl same) later = sym (ap p same) ∙ is
      by true is (inr there) later = later there
      by false is there later = later there

-- ---- consecutive equal elements, once

there_still : (z : RowRef) (x : RowRef) (rest : List RowRef) (b : Bool) → IsIn z rest → IsIn z (cond b rest (x ∷ rest))
there_still z x rest true here = here
there_still z x rest false here = inr here

-- each is among them, unless it is first and equals the one before
first_kept : (z x : RowRef) (rest : List RowRef) (before : Option RowRef) (b : Bool) → x ≡ z → is_again before x ≡ b
    → (before ≡ Some z) ⊎ IsIn z (cond b rest (x ∷ rest))
first_kept z x rest None true same again = absurd (false≢true again)
first_kept z x rest (Some other) true same again = inl (ap (λ (r : RowRef). Some r) (same_from_test other x again ∙ same))
first_kept z x rest before false same again = inr (inl same)

later_kept : (z x : RowRef) (rest : List RowRef) (before : Option RowRef) → (Some x ≡ Some z) ⊎ IsIn z rest
    → (before ≡ Some z) ⊎ IsIn z (cond (is_again before x) rest (x ∷ rest))
later_kept z x rest before (inl same) = let one : x ≡ z = cc in first_kept z x rest before (is_again before x) one refl
later_kept z x rest before (inr there) = inr (there_still z x rest (is_again before x) there)

kept_once : (before : Option RowRef) (refs : List RowRef) (z : RowRef) → IsIn z refs → (before ≡ Some z) ⊎ IsIn z (once before refs)
kept_once before [] z here = absurd here
kept_once before (x ∷ xs) z (inl same) = first_kept z x (once (Some x) xs) before (is_again before x) same refl
kept_once before (x ∷ xs) z (inr rest) = later_kept z x (once (Some x) xs) before (kept_once (Some x) xs z rest)

all_once : (refs : List RowRef) (z : RowRef) → IsIn z refs → IsIn z (once None refs)
all_once refs z here = elim (kept_once None refs z here) [ inl none ↦ cc | inr there ↦ there ]

none_new : (before : Option RowRef) (refs : List RowRef) (z : RowRef) → IsIn z (once before refs) → IsIn z refs
none_new before [] z here = absurd here
none_new before (x ∷ xs) z here = by (is_again before x) here (none_new (Some x) xs z)
  where
    by : (b : Bool) → IsIn z (cond b (once (Some x) xs) (x ∷ once (Some x) xs)) → (IsIn z (once (Some x) xs) → IsIn z xs) → IsIn z (x ∷ xs)
    by true there later = inr (later there)
    by false (inl same) later = inl same
    by false (inr there) later = inr (later there)

-- ---- sorted references

less_from_rest : (o : Ordering) → is_lt (ordering_reverse o) ≡ false → (o ≡ Equal) ⊎ (o ≡ Less)
less_from_rest Less behind = inr refl
less_from_rest Equal behind = inl refl
less_from_rest Greater behind = cc

module _ (stored : StoredRows) (always : IsTable stored) where
  abbrev now : Slots
  now = slot_at stored.places

  abbrev by_key : RowRef → RowRef → Ordering
  by_key = refs_by stored.key stored.key (slot_at stored.places)

  -- each is after the one before it, or equals it
  abbrev Climbs : RowRef → List RowRef → Type 0
  Climbs x [] = Unit {0}
  Climbs x (y ∷ ys) = ((x ≡ y) ⊎ (by_key x y ≡ Less)) × Climbs y ys

  abbrev Rises : RowRef → List RowRef → Type 0
  Rises x [] = Unit {0}
  Rises x (y ∷ ys) = (by_key x y ≡ Less) × Rises y ys

  rises_once : (x : RowRef) (refs : List RowRef) → Climbs x refs → Rises x (once (Some x) refs)
  rises_once x [] climbs = tt
  rises_once x (y ∷ ys) climbs = by (same_ref x y) refl (rises_once y ys climbs.1)
    where
      by : (b : Bool) → same_ref x y ≡ b → Rises y (once (Some y) ys) → Rises x (cond b (once (Some y) ys) (y ∷ once (Some y) ys))
      by true again later = subst (λ r. Rises r (once (Some y) ys)) (sym (same_from_test x y again)) later
      by false again later = (elim climbs.0 [ inl same ↦ absurd (false≢true (sym again ∙ test_from_same x y same)) | inr less ↦ less ], later)

  sorted_from_rises : (x : RowRef) (refs : List RowRef) → Rises x refs → IsStrictlySortedBy by_key (x ∷ refs)
  sorted_from_rises x [] rises = IsStrictlySortedBy-from_neighbours (refs_by_total stored.key stored.key now) (x ∷ []) (λ k d within. absurd (omega arith))
  sorted_from_rises x (y ∷ ys) rises =
      IsStrictlySortedBy-before (refs_by_total stored.key stored.key now) x y ys rises.0 (sorted_from_rises y ys rises.1)

  once_sorted : (x : RowRef) (refs : List RowRef) → Climbs x refs → IsStrictlySortedBy by_key (once None (x ∷ refs))
  once_sorted x refs climbs = sorted_from_rises x (once (Some x) refs) (rises_once x refs climbs)

  abbrev Follows : Keyed → Keyed → Type 0
  Follows a b = (a.at ≡ b.at) ⊎ (by_key a.at b.at ≡ Less)

  follows : (a b : Keyed) → IsKeyed stored a → IsKeyed stored b → HasRow now a.at → HasRow now b.at
      → is_lt (value_cmp (value_of b.key) (value_of a.key)) ≡ false → Follows a b
  follows a b key_a key_b live_a live_b behind =
      let keyed : column_cmp stored.key (row_at now a.at) (row_at now b.at) ≡ value_cmp (value_of a.key) (value_of b.key) =
      ap (λ (o : Option Value). option_cmp value_cmp o (slice_get (row_at now b.at) stored.key)) key_a
      ∙ ap (λ (o : Option Value). option_cmp value_cmp (Some (value_of a.key)) o) key_b in
      let turned : is_lt (ordering_reverse (value_cmp (value_of a.key) (value_of b.key))) ≡ false =
      sym (ap is_lt (value_cmp_total.antisymm (value_of b.key) (value_of a.key))) ∙ behind in
      elim (less_from_rest (value_cmp (value_of a.key) (value_of b.key)) turned) [
        | inl tie ↦ inl (same_from_keys stored always a.at b.at live_a live_b (keyed ∙ tie))
        | inr less ↦ let first : column_cmp stored.key (row_at now a.at) (row_at now b.at) ≡ Less = keyed ∙ less in
            inr (ap (λ o. ordering_then (ordering_then o o) (nat_cmp a.at.slot b.at.slot)) first)
      ]

  climbs_from : (r : Keyed) (rs : List Keyed) → ((k : ℕ) (d : Keyed) → k + 1 < length (r ∷ rs) → Follows (get_or (r ∷ rs) k d) (get_or (r ∷ rs) (suc k) d))
      → Climbs r.at (map (λ (row : Keyed). row.at) rs)
  climbs_from r [] each = tt
  climbs_from r (s ∷ rs) each = (each 0 r (omega arith), climbs_from s rs (λ k d within. each (suc k) d (omega (arith, within))))

  module _ (sorted : List Keyed) (keys : All (IsKeyed stored) sorted) (order : IsSortedByKey (λ (row : Keyed). value_of row.key) value_cmp sorted)
      (live : All (λ (row : Keyed). HasRow now row.at) sorted) where
    each_follows : (k : ℕ) (d : Keyed) → k + 1 < length sorted → Follows (get_or sorted k d) (get_or sorted (suc k) d)
    each_follows k d within =
        follows (get_or sorted k d) (get_or sorted (suc k) d) (keys k d (omega (arith, within))) (keys (suc k) d (omega (arith, within)))
        (live k d (omega (arith, within))) (live (suc k) d (omega (arith, within)))
        (subst (λ n. is_lt (value_cmp (value_of (get_or sorted n d).key) (value_of (get_or sorted k d).key)) ≡ false) (add-one k)
        (order k d (omega arith) (omega (arith, within))))

  sorted_once : (sorted : List Keyed) → All (IsKeyed stored) sorted → IsSortedByKey (λ (row : Keyed). value_of row.key) value_cmp sorted
      → All (λ (row : Keyed). HasRow now row.at) sorted → IsStrictlySortedBy by_key (once None (map (λ (row : Keyed). row.at) sorted))
  sorted_once [] keys order live = IsStrictlySortedBy-nil (refs_by_total stored.key stored.key now)
  sorted_once (r ∷ rs) keys order live =
      once_sorted r.at (map (λ (row : Keyed). row.at) rs) (climbs_from r rs (each_follows (r ∷ rs) keys order live))

  among_in_order : (refs : List RowRef) → IsStrictlySortedBy by_key (among refs stored)
  among_in_order refs =
      IsStrictlySortedBy-from_neighbours (refs_by_total stored.key stored.key now) (among refs stored)
      (λ k d within. AllPairs-filter (λ a b. by_key a b ≡ Less) (λ at. list_any (same_ref at) refs) stored.refs always.kept.by_key.ascending
      k (suc k) d (omega arith) (omega (arith, within)))

  moved : (xs ys : List RowRef) → IsPermutation xs ys → (at : RowRef) → IsIn at xs → IsIn at ys
  moved xs ys there at here = IsIn-from_Contains ys at (Contains-permutation xs ys at there (Contains-from_IsIn xs at here))

  module _ (refs : List RowRef) (live : All (HasRow now) refs) (ats : List RowRef) (same : IsPermutation ats refs) where
    -- References in strict order are the relation's references that are among them.
    strictly_in_order : IsStrictlySortedBy by_key (once None ats) → once None ats ≡ among refs stored
    strictly_in_order order =
        same_from_elements (refs_by_total stored.key stored.key now) (once None ats) (among refs stored) order (among_in_order refs)
        (λ z here.
        let given : IsIn z refs = moved ats refs same z (none_new None ats z here) in
        passes_in_filter (λ at. list_any (same_ref at) refs) stored.refs z
        (IsIn-from_Contains stored.refs z ((always.kept.held z).1 (All-contains (HasRow now) refs z live (Contains-from_IsIn refs z given))))
        (some_by_one (same_ref z) refs z given (test_from_same z z refl)))
        (λ z here.
        let passes : list_any (same_ref z) refs ≡ true = from_filter (λ at. list_any (same_ref at) refs) stored.refs z here in
        let (x, among_refs, is) = some_among (same_ref z) refs passes in
        all_once ats z (moved refs ats (IsPermutation-sym ats refs same) z (subst (λ r. IsIn r refs) (sym (same_from_test z x is)) among_refs)))

  -- Sorted references, each once, are the relation's references that are among them.
  pub once_in_order : (refs : List RowRef) → All (HasRow now) refs → (sorted : List Keyed) → All (IsKeyed stored) sorted
      → IsSortedByKey (λ (row : Keyed). value_of row.key) value_cmp sorted → IsPermutation (map (λ (row : Keyed). row.at) sorted) refs
      → once None (map (λ (row : Keyed). row.at) sorted) ≡ among refs stored
  once_in_order refs live sorted keys order same =
      let ats : List RowRef = map (λ (row : Keyed). row.at) sorted in
      let live_sorted : All (λ (row : Keyed). HasRow now row.at) sorted = λ k d within.
      subst (HasRow now) (get_or-map (λ (row : Keyed). row.at) sorted k d)
      (All-permutation (HasRow now) refs ats (IsPermutation-sym ats refs same) live k d.at
      (omega (arith, within, length-map sorted (λ (row : Keyed). row.at)))) in
      strictly_in_order refs live ats same (sorted_once sorted keys order live_sorted)

  -- At most one reference is in the order of the relation.
  pub few_in_order : (refs : List RowRef) → All (HasRow now) refs → length refs < 2 → refs ≡ among refs stored
  few_in_order [] live few = strictly_in_order [] live [] (IsPermutation-refl []) (IsStrictlySortedBy-nil (refs_by_total stored.key stored.key now))
  few_in_order (x ∷ []) live few = strictly_in_order (x ∷ []) live (x ∷ []) (IsPermutation-refl (x ∷ [])) (sorted_from_rises x [] tt)
  few_in_order (x ∷ y ∷ others) live few = absurd (omega (arith, few))
