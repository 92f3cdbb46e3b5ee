-- The rows of a table after a change: which rows, in which order, and the effect of inserts.
use Rattle.std.proofs.Common.{◌≡◌, ℕ, ◌<◌, Bool, true, false, not, List, [], ◌∷◌, ◌++◌, Option, Some, None, length, ◌⊎◌, inl, inr, refl, sym, ap, ◌∙◌, subst}
use Rattle.std.proofs.Common.{arith}
use Rattle.std.specs.List.{Contains, filter, filter_map, list_any}
use Rattle.std.specs.List.Sorted.{IsPermutation}
use Rattle.std.specs.Ordering.{is_eq}
use Rattle.std.specs.declared.cmp.Ordering.TheVariants.{Equal}
use Rattle.std.proofs.lemmas.Bool.{or_parts, or_from, cases_Bool, false≢true}
use Rattle.std.proofs.lemmas.List.{append-nil}
use Rattle.std.proofs.lemmas.List.Elements.{Contains-append_left, Contains-append_right, Contains-append_cases}
use Rattle.std.proofs.lemmas.List.Sorted.{Contains-permutation, IsPermutation-refl, IsPermutation-sym}
use Rattle.mm_schema.specs.Rows.{IsInKeyOrder, Pair, additions, changed, column_cmp, goes, has_duplicate_keys, same_in_column, unsorted}
use Rattle.mm_schema.specs.Sorting.{in_order}
use Rattle.mm_schema.proofs.InOrder.{IsPermutation-in_order, IsStrictlySortedBy-in_order, in_order_is}
use Rattle.mm_schema.proofs.Orderings.{equal_from_is_eq}
use Rattle.mm_schema.proofs.StrictOrder.{IsIn, IsIn-from_Contains, Contains-from_IsIn}
use Rattle.mm_schema.proofs.Duplicates.{Row, has_duplicate_keys-IsPermutation}

-- ---- the result of a filter

module _ {X : Type 0} (p : X → Bool) where
  passes_in_filter : (xs : List X) (x : X) → IsIn x xs → p x ≡ true → IsIn x (filter p xs)
  passes_in_filter [] x here passes = here
  passes_in_filter (y ∷ ys) x here passes = elim (cases_Bool (p y)) [
    | inl first ↦ rw first (elim here [ inl same ↦ inl same | inr later ↦ inr (passes_in_filter ys x later passes) ])
    | inr first ↦ rw first (elim here [
      | inl same ↦ absurd (false≢true (sym first ∙ ap p same ∙ passes))
      | inr later ↦ passes_in_filter ys x later passes
    ])
  ]

  from_filter : (xs : List X) (x : X) → IsIn x (filter p xs) → IsIn x xs × (p x ≡ true)
  from_filter [] x here = absurd here
  from_filter (y ∷ ys) x here = elim (cases_Bool (p y)) [
    | inl first ↦
        let kept : IsIn x (y ∷ filter p ys) = rw first at here in
        elim kept [ inl same ↦ (inl same, sym (ap p same) ∙ first) | inr later ↦ let found = from_filter ys x later in (inr found.0, found.1) ]
    | inr first ↦
        let kept : IsIn x (filter p ys) = rw first at here in
        let found = from_filter ys x kept in (inr found.0, found.1)
  ]

-- ---- new rows

-- a row is the new row of a pair in the list
abbrev ComesIn : Row → List Pair → Type 0
ComesIn row pairs = (old : Option Row) × IsIn {X = Pair} (old, Some row) pairs

comes_in_new : (row : Row) (pairs : List Pair) (old : Option Row) → IsIn {X = Pair} (old, Some row) pairs → IsIn row (filter_map (λ (p : Pair). p.1) pairs)
comes_in_new row [] old here = here
comes_in_new row ((was, Some new) ∷ ps) old (inl same) = inl (let e : ◌≡◌ {A = Option Row} (Some new) (Some row) = ap (λ (p : Pair). p.1) same in cc)
comes_in_new row ((was, None) ∷ ps) old (inl same) = absurd (let e : ◌≡◌ {A = Option Row} None (Some row) = ap (λ (p : Pair). p.1) same in cc)
comes_in_new row ((was, Some new) ∷ ps) old (inr later) = inr (comes_in_new row ps old later)
comes_in_new row ((was, None) ∷ ps) old (inr later) = comes_in_new row ps old later

new_comes_in : (row : Row) (pairs : List Pair) → IsIn row (filter_map (λ (p : Pair). p.1) pairs) → ComesIn row pairs
new_comes_in row [] here = absurd here
new_comes_in row ((was, Some new) ∷ ps) (inl same) = (was, inl (ap (λ (r : Row). (was, Some r)) same))
new_comes_in row ((was, Some new) ∷ ps) (inr later) = let found = new_comes_in row ps later in (found.0, inr found.1)
new_comes_in row ((was, None) ∷ ps) here = let found = new_comes_in row ps here in (found.0, inr found.1)

-- ---- kept rows

-- no old row of the pairs has the row's key
abbrev StaysIn : ℕ → Row → List Pair → Type 0
StaysIn key row pairs = (old : Row) (new : Option Row) → IsIn {X = Pair} (Some old, new) pairs → column_cmp key row old ≡ Equal → ⊥

not_gone : (key : ℕ) (row : Row) (gone : Option Row) → ((old : Row) → gone ≡ Some old → column_cmp key row old ≡ Equal → ⊥) → goes key row gone ≡ false
not_gone key row None other = refl
not_gone key row (Some old) other = elim (cases_Bool (same_in_column key row old)) [
  | inl same ↦ absurd (other old refl (equal_from_is_eq (column_cmp key row old) same))
  | inr differs ↦ differs
]

none_goes : (key : ℕ) (row : Row) (pairs : List Pair) → StaysIn key row pairs → list_any (λ (p : Pair). goes key row p.0) pairs ≡ false
none_goes key row [] stays = refl
none_goes key row ((gone, new) ∷ ps) stays =
    or_from _ _
    (not_gone key row gone (λ old is same. stays old new (inl (ap (λ (o : Option Row). (o, new)) is)) same))
    (none_goes key row ps (λ old new later same. stays old new (inr later) same))

stays_from_none : (key : ℕ) (row : Row) (pairs : List Pair) → list_any (λ (p : Pair). goes key row p.0) pairs ≡ false → StaysIn key row pairs
stays_from_none key row [] none old new here same = here
stays_from_none key row ((gone, come) ∷ ps) none old new (inl is) same =
    let parts = or_parts (goes key row gone) (list_any (λ (p : Pair). goes key row p.0) ps) none in
    let went : gone ≡ Some old = let e : ◌≡◌ {A = Pair} (gone, come) (Some old, new) = is in ap (λ (p : Pair). p.0) e in
    false≢true (sym parts.0 ∙ ap (goes key row) went ∙ ap is_eq same)
stays_from_none key row ((gone, come) ∷ ps) none old new (inr later) same =
    let parts = or_parts (goes key row gone) (list_any (λ (p : Pair). goes key row p.0) ps) none in
    stays_from_none key row ps parts.1 old new later same

-- ---- the rows after a change

pub not_true : (b : Bool) → not b ≡ true → b ≡ false
not_true true e = (cc)
not_true false e = refl

-- the rows before sorting are those after it
to_changed : (key : ℕ) (pairs : List Pair) (rows : List Row) (row : Row) → Contains (unsorted key pairs rows) row → 0 < length pairs
    → Contains (changed key pairs rows) row
to_changed key [] rows row here some = absurd (omega arith)
to_changed key (p ∷ ps) rows row here some = Contains-permutation _ _ row (IsPermutation-in_order (column_cmp key) (unsorted key (p ∷ ps) rows)) here

some_pairs : (pairs : List Pair) (p : Pair) → Contains pairs p → 0 < length pairs
some_pairs pairs p here = omega (arith, here.1)

staying : (key : ℕ) (pairs : List Pair) (row : Row)
    → ((old : Row) (new : Option Row) → Contains {X = Pair} pairs (Some old, new) → column_cmp key row old ≡ Equal → ⊥)
    → StaysIn key row pairs
staying key pairs row stays old new here same = stays old new (Contains-from_IsIn {X = Pair} pairs (Some old, new) here) same

-- A row whose key no old row of the change has is kept.
pub row_stays : (key : ℕ) (pairs : List Pair) (rows : List Row) (row : Row) → Contains rows row
    → ((old : Row) (new : Option Row) → Contains {X = Pair} pairs (Some old, new) → column_cmp key row old ≡ Equal → ⊥) → Contains (changed key pairs rows) row
row_stays key [] rows row here stays = here
row_stays key (p ∷ ps) rows row here stays =
    let kept : not (list_any (λ (q : Pair). goes key row q.0) (p ∷ ps)) ≡ true = ap not (none_goes key row (p ∷ ps) (staying key (p ∷ ps) row stays)) in
    to_changed key (p ∷ ps) rows row
    (Contains-append_left _ _ row
    (Contains-from_IsIn _ row
    (passes_in_filter (λ r. not (list_any (λ (q : Pair). goes key r q.0) (p ∷ ps))) rows row (IsIn-from_Contains rows row here) kept)))
    (omega arith)

-- A new row is in the table.
pub row_comes : (key : ℕ) (pairs : List Pair) (rows : List Row) (old : Option Row) (new : Row) → Contains {X = Pair} pairs (old, Some new)
    → Contains (changed key pairs rows) new
row_comes key pairs rows old new here =
    to_changed key pairs rows new
    (Contains-append_right _ _ new (Contains-from_IsIn _ new (comes_in_new new pairs old (IsIn-from_Contains {X = Pair} pairs (old, Some new) here))))
    (some_pairs pairs (old, Some new) here)

-- Each other row was kept.
pub no_other_row : (key : ℕ) (pairs : List Pair) (rows : List Row) (row : Row) → Contains (changed key pairs rows) row
    → ((old : Option Row) × Contains {X = Pair} pairs (old, Some row))
    ⊎ (Contains rows row × ((old : Row) (new : Option Row) → Contains {X = Pair} pairs (Some old, new) → column_cmp key row old ≡ Equal → ⊥))
no_other_row key [] rows row here = inr (here, λ old new none same. absurd (omega (arith, none.1)))
no_other_row key (p ∷ ps) rows row here =
    let before = Contains-permutation _ _ row (IsPermutation-sym _ _ (IsPermutation-in_order (column_cmp key) (unsorted key (p ∷ ps) rows))) here in
    elim (Contains-append_cases (filter (λ r. not (list_any (λ (q : Pair). goes key r q.0) (p ∷ ps))) rows) (filter_map (λ (q : Pair). q.1) (p ∷ ps))
    row before) [
      | inl old ↦
          let found = from_filter (λ r. not (list_any (λ (q : Pair). goes key r q.0) (p ∷ ps))) rows row (IsIn-from_Contains _ row old) in
          let none = not_true (list_any (λ (q : Pair). goes key row q.0) (p ∷ ps)) found.1 in
          inr (
            Contains-from_IsIn rows row found.0,
            λ gone new there same. stays_from_none key row (p ∷ ps) none gone new
                (IsIn-from_Contains {X = Pair} (p ∷ ps) (Some gone, new) there) same,
          )
      | inr come ↦
          let found = new_comes_in row (p ∷ ps) (IsIn-from_Contains _ row come) in
          inl (found.0, Contains-from_IsIn {X = Pair} (p ∷ ps) (found.0, Some row) found.1)
    ]

-- ---- inserts

none_goes_for_additions : (key : ℕ) (row : Row) (fresh : List Row) → list_any (λ (p : Pair). goes key row p.0) (additions fresh) ≡ false
none_goes_for_additions key row [] = refl
none_goes_for_additions key row (f ∷ fs) = none_goes_for_additions key row fs

all_stay : (key : ℕ) (fresh rows : List Row) → filter (λ row. not (list_any (λ (p : Pair). goes key row p.0) (additions fresh))) rows ≡ rows
all_stay key fresh [] = refl
all_stay key fresh (r ∷ rs) = rw (none_goes_for_additions key r fresh) (ap (λ xs. r ∷ xs) (all_stay key fresh rs))

all_come : (fresh : List Row) → filter_map (λ (p : Pair). p.1) (additions fresh) ≡ fresh
all_come [] = refl
all_come (f ∷ fs) = ap (λ xs. f ∷ xs) (all_come fs)

-- Before sorting, new rows follow the old ones.
pub unsorted-additions : (key : ℕ) (fresh rows : List Row) → unsorted key (additions fresh) rows ≡ rows ++ fresh
unsorted-additions key fresh rows =
    ap (λ xs. xs ++ filter_map (λ (p : Pair). p.1) (additions fresh)) (all_stay key fresh rows) ∙ ap (λ xs. rows ++ xs) (all_come fresh)

-- The old and new rows together are a permutation of the changed rows, ..
pub IsPermutation-additions : (key : ℕ) (fresh rows : List Row) → IsPermutation (rows ++ fresh) (changed key (additions fresh) rows)
IsPermutation-additions key [] rows = subst (λ xs. IsPermutation xs rows) (sym (append-nil rows)) (IsPermutation-refl rows)
IsPermutation-additions key (f ∷ fs) rows =
    subst (λ xs. IsPermutation xs (in_order (column_cmp key) (unsorted key (additions (f ∷ fs)) rows))) (unsorted-additions key (f ∷ fs) rows)
    (IsPermutation-in_order (column_cmp key) (unsorted key (additions (f ∷ fs)) rows))

-- .. and a permutation of them in key order equals the changed rows.
pub changed-additions : (key : ℕ) (fresh rows ordered : List Row) → IsInKeyOrder key rows → IsPermutation (rows ++ fresh) ordered → IsInKeyOrder key ordered
    → changed key (additions fresh) rows ≡ ordered
changed-additions key [] rows ordered order moved ascends =
    sym (in_order_is key rows rows (IsPermutation-refl rows) order)
    ∙ in_order_is key rows ordered (subst (λ xs. IsPermutation xs ordered) (append-nil rows) moved) ascends
changed-additions key (f ∷ fs) rows ordered order moved ascends =
    ap (in_order (column_cmp key)) (unsorted-additions key (f ∷ fs) rows) ∙ in_order_is key (rows ++ f ∷ fs) ordered moved ascends

-- ---- in key order

-- Rows in key order are in key order after a change, unless two of them have the same key.
pub IsInKeyOrder-changed : (key : ℕ) (pairs : List Pair) (rows : List Row) → IsInKeyOrder key rows → has_duplicate_keys key (changed key pairs rows) ≡ false
    → IsInKeyOrder key (changed key pairs rows)
IsInKeyOrder-changed key [] rows order none = order
IsInKeyOrder-changed key (p ∷ ps) rows order none =
    IsStrictlySortedBy-in_order key (unsorted key (p ∷ ps) rows)
    (has_duplicate_keys-IsPermutation key _ _ (IsPermutation-in_order (column_cmp key) (unsorted key (p ∷ ps) rows)) ∙ none)
