-- Lists of references: those that contain each reference of a row in use once.
use Rattle.std.proofs.Common.{◌≡◌, ◌≢◌, ℕ, suc, ◌-◌, ◌^◌, ◌<◌, ◌⊎◌, inl, inr, ⊎_elim, Bool, true, false, cond}
use Rattle.std.proofs.Common.{List, [], ◌∷◌, Option, Some, None, length, map, get_or, refl, sym, ap, ◌∙◌, subst, arith}
use Rattle.std.specs.Prelude.{◌↔◌, IsPermutation, sum_by}
use Rattle.std.specs.List.{AllPairs, Contains, cons_option, filter, filter_map}
use Rattle.std.proofs.lemmas.Bool.{cases_Bool, cond-true}
use Rattle.std.proofs.lemmas.List.Elements.{Contains-append_right}
use Rattle.std.proofs.lemmas.List.Elements.{Contains-append_cases}
use Rattle.std.proofs.lemmas.List.FromFn.{get_or-map-range_with_len, length-map-range_with_len}
use Rattle.std.proofs.lemmas.List.Kept.{AllPairs-filter}
use Rattle.std.proofs.lemmas.List.Sums.{sum_by-cons}
use Rattle.mm_value.specs.declared.row_ref.RowRef.{RowRef}
use Rattle.mm_value.specs.declared.values.Value.{Value}
use Rattle.mm_partition.specs.Places.{Content, Free, Live, Hidden}
use Rattle.mm_row_order.specs.Refs.{Slots, HasRow}
use Rattle.mm_indexed.proofs.Bags.{IsPermutation-from_counts}
use Rattle.mm_indexed.proofs.RefTests.{same_ref, same_from_test, test_from_same, same_or_apart}
use Rattle.mm_base.specs.RowLists.{is_live, reference_at, references_below, every_reference, live_references, AreSmall}

-- ---- elements

pub none_in : {X : Type 0} (x : X) → Contains [] x → ⊥
none_in x (k, within, is) = omega arith

pub first_in : {X : Type 0} (x : X) (xs : List X) → Contains (x ∷ xs) x
first_in x xs = (0, omega arith, refl)

pub later_in : {X : Type 0} (x y : X) (ys : List X) → Contains ys x → Contains (y ∷ ys) x
later_in x y ys here = Contains-append_right (y ∷ []) ys x here

only_one : {X : Type 0} (x y : X) → Contains (y ∷ []) x → y ≡ x
only_one x y (k, within, is) = ap (λ n. get_or (y ∷ []) n x) (let first : 0 ≡ k = omega arith in first) ∙ is

pub one_of : {X : Type 0} (x y : X) (ys : List X) → Contains (y ∷ ys) x → (y ≡ x) ⊎ Contains ys x
one_of x y ys here = ⊎_elim (λ (h : Contains (y ∷ []) x). inl (only_one x y h)) (λ (h : Contains ys x). inr h) (Contains-append_cases (y ∷ []) ys x here)

-- a reference is in a list, or it is not
pub in_or_out : (refs : List RowRef) (at : RowRef) → Contains refs at ⊎ (Contains refs at → ⊥)
in_or_out [] at = inr (λ here. none_in at here)
in_or_out (r ∷ rs) at =
    ⊎_elim
    (λ (same : r ≡ at). inl (subst (Contains (r ∷ rs)) same (first_in r rs)))
    (λ (apart : r ≢ at).
    ⊎_elim
    (λ (here : Contains rs at). inl (later_in at r rs here))
    (λ (out : Contains rs at → ⊥). inr (λ (here : Contains (r ∷ rs) at). ⊎_elim apart out (one_of at r rs here)))
    (in_or_out rs at))
    (same_or_apart r at)

-- ---- the result of a filter

module _ {X : Type 0} (p : X → Bool) where
  pub in_filter : (xs : List X) (x : X) → Contains xs x → p x ≡ true → Contains (filter p xs) x
  in_filter [] x here passes = absurd (none_in x here)
  in_filter (y ∷ ys) x here passes =
      ⊎_elim
      (λ (same : y ≡ x). subst (λ (l : List X). Contains l x) (sym (cond-true _ _ _ (ap p same ∙ passes)))
      (subst (Contains (y ∷ filter p ys)) same (first_in y (filter p ys))))
      (λ (later : Contains ys x). step (p y) (in_filter ys x later passes))
      (one_of x y ys here)
    where
      step : (b : Bool) → Contains (filter p ys) x → Contains (cond b (y ∷ filter p ys) (filter p ys)) x
      step true rest = later_in x y (filter p ys) rest
      step false rest = rest

  pub out_of_filter : (xs : List X) (x : X) → Contains (filter p xs) x → Contains xs x × (p x ≡ true)
  out_of_filter [] x here = absurd (none_in x here)
  out_of_filter (y ∷ ys) x here = step (p y) refl here (λ rest. out_of_filter ys x rest)
    where
      step : (b : Bool) → p y ≡ b → Contains (cond b (y ∷ filter p ys) (filter p ys)) x → (Contains (filter p ys) x → Contains ys x × (p x ≡ true))
          → Contains (y ∷ ys) x × (p x ≡ true)
      step true is rest later =
          ⊎_elim
          (λ (same : y ≡ x). (subst (Contains (y ∷ ys)) same (first_in y ys), ap p (sym same) ∙ is))
          (λ (more : Contains (filter p ys) x). let found = later more in (later_in x y ys found.0, found.1))
          (one_of x y (filter p ys) rest)
      step false is rest later = let found = later rest in (later_in x y ys found.0, found.1)

pub filter-map : {X Y : Type 0} (f : X → Y) (p : Y → Bool) (xs : List X) → filter p (map f xs) ≡ map f (filter (λ x. p (f x)) xs)
filter-map f p [] = refl
filter-map f p (x ∷ xs) = step (p (f x)) (filter-map f p xs)
  where
    step : (b : Bool) → filter p (map f xs) ≡ map f (filter (λ y. p (f y)) xs)
        → cond b (f x ∷ filter p (map f xs)) (filter p (map f xs)) ≡ map f (cond b (x ∷ filter (λ y. p (f y)) xs) (filter (λ y. p (f y)) xs))
    step true same = ap (λ ys. f x ∷ ys) same
    step false same = same

-- the results of a partial function for the elements
module _ {X Y : Type 0} (f : X → Option Y) where
  pub in_filter_map : (xs : List X) (x : X) (y : Y) → Contains xs x → f x ≡ Some y → Contains (filter_map f xs) y
  in_filter_map [] x y here is = absurd (none_in x here)
  in_filter_map (z ∷ zs) x y here is =
      ⊎_elim
      (λ (same : z ≡ x). subst (λ (o : Option Y). Contains (cons_option o (filter_map f zs)) y) (sym (ap f same ∙ is)) (first_in y (filter_map f zs)))
      (λ (later : Contains zs x). step (f z) (in_filter_map zs x y later is))
      (one_of x z zs here)
    where
      step : (o : Option Y) → Contains (filter_map f zs) y → Contains (cons_option o (filter_map f zs)) y
      step None rest = rest
      step (Some w) rest = later_in y w (filter_map f zs) rest

  pub out_of_filter_map : (xs : List X) (y : Y) → Contains (filter_map f xs) y → (x : X) × Contains xs x × (f x ≡ Some y)
  out_of_filter_map [] y here = absurd (none_in y here)
  out_of_filter_map (z ∷ zs) y here = step (f z) refl here (λ rest. out_of_filter_map zs y rest)
    where
      step : (o : Option Y) → f z ≡ o → Contains (cons_option o (filter_map f zs)) y
          → (Contains (filter_map f zs) y → (x : X) × Contains zs x × (f x ≡ Some y)) → (x : X) × Contains (z ∷ zs) x × (f x ≡ Some y)
      step None is rest later = let found = later rest in (found.0, later_in found.0 z zs found.1, found.2)
      step (Some w) is rest later =
          ⊎_elim
          (λ (same : w ≡ y). (z, first_in z zs, is ∙ ap Some same))
          (λ (more : Contains (filter_map f zs) y). let found = later more in (found.0, later_in found.0 z zs found.1, found.2))
          (one_of y w (filter_map f zs) rest)

-- ---- lists without a reference twice

abbrev one : RowRef → RowRef → ℕ
one x y = cond (same_ref x y) 1 0

abbrev count : RowRef → List RowRef → ℕ
count x refs = sum_by (one x) refs

one-same : (x y : RowRef) → x ≡ y → one x y ≡ 1
one-same x y same = ap {B = ℕ} (λ b. cond b 1 0) (test_from_same x y same)

one-apart : (x y : RowRef) → x ≢ y → one x y ≡ 0
one-apart x y apart =
    ⊎_elim
    (λ (yes : same_ref x y ≡ true). absurd (apart (same_from_test x y yes)))
    (λ (no : same_ref x y ≡ false). ap {B = ℕ} (λ b. cond b 1 0) no)
    (cases_Bool (same_ref x y))

count-out : (x : RowRef) (refs : List RowRef) → (Contains refs x → ⊥) → count x refs ≡ 0
count-out x [] out = refl
count-out x (r ∷ rs) out =
    omega (
      arith,
      sum_by-cons (one x) r rs,
      one-apart x r (λ same. out (subst (Contains (r ∷ rs)) (sym same) (first_in r rs))),
      count-out x rs (λ here. out (later_in x r rs here)),
    )

pub first_out : (r : RowRef) (rs : List RowRef) → AllPairs (λ a b. a ≢ b) (r ∷ rs) → Contains rs r → ⊥
first_out r rs apart (k, within, is) = apart 0 (suc k) r (omega arith) (omega arith) (sym is)

pub rest_apart : (r : RowRef) (rs : List RowRef) → AllPairs (λ a b. a ≢ b) (r ∷ rs) → AllPairs (λ a b. a ≢ b) rs
rest_apart r rs apart i j d before within = apart (suc i) (suc j) d (omega arith) (omega arith)

count-in : (x : RowRef) (refs : List RowRef) → AllPairs (λ a b. a ≢ b) refs → Contains refs x → count x refs ≡ 1
count-in x [] apart here = absurd (none_in x here)
count-in x (r ∷ rs) apart here =
    ⊎_elim
    (λ (same : r ≡ x).
    let out : count x rs ≡ 0 = count-out x rs (λ later. first_out r rs apart (subst (Contains rs) (sym same) later)) in
    omega (arith, sum_by-cons (one x) r rs, one-same x r (sym same), out))
    (λ (later : Contains rs x).
    let other : x ≢ r = λ same. first_out r rs apart (subst (Contains rs) same later) in
    omega (arith, sum_by-cons (one x) r rs, one-apart x r other, count-in x rs (rest_apart r rs apart) later))
    (one_of x r rs here)

-- such lists of the same references are permutations
pub IsPermutation-same : (xs ys : List RowRef) → AllPairs (λ a b. a ≢ b) xs → AllPairs (λ a b. a ≢ b) ys → ((r : RowRef) → Contains xs r → Contains ys r)
    → ((r : RowRef) → Contains ys r → Contains xs r) → IsPermutation xs ys
IsPermutation-same xs ys apart_xs apart_ys there back =
    IsPermutation-from_counts same_ref same_from_test (λ a. test_from_same a a refl) xs ys
    (λ x.
    ⊎_elim
    (λ (here : Contains xs x). count-in x xs apart_xs here ∙ sym (count-in x ys apart_ys (there x here)))
    (λ (out : Contains xs x → ⊥). count-out x xs out ∙ sym (count-out x ys (λ here. out (back x here))))
    (in_or_out xs x))

-- ---- the references of the rows in use

-- The list has the reference of each row in use once, and no others.
pub record AreReferences (now : Slots) (refs : List RowRef) : Type 0 where
  pub apart : AllPairs (λ a b. a ≢ b) refs
  pub held : (at : RowRef) → Contains refs at ↔ HasRow now at

pub IsPermutation-references : (now : Slots) (xs ys : List RowRef) → AreReferences now xs → AreReferences now ys → IsPermutation xs ys
IsPermutation-references now xs ys first second =
    IsPermutation-same xs ys first.apart second.apart (λ r here. (second.held r).1 ((first.held r).0 here))
    (λ r here. (first.held r).1 ((second.held r).0 here))

below_at : (n i : ℕ) (d : RowRef) → i < n → get_or (references_below n) i d ≡ reference_at i
unfolding references_below
below_at n i d within = get_or-map-range_with_len reference_at 0 n i i d within (omega arith)

below_size : (n : ℕ) → length (references_below n) ≡ n
unfolding references_below
below_size n = length-map-range_with_len reference_at 0 n

below_apart : (n : ℕ) → AllPairs (λ a b. a ≢ b) (references_below n)
below_apart n i j d before within same =
    let first : (get_or (references_below n) i d).slot ≡ i = ap (λ (at : RowRef). at.slot) (below_at n i d (omega (arith, before, within, below_size n))) in
    let second : (get_or (references_below n) j d).slot ≡ j = ap (λ (at : RowRef). at.slot) (below_at n j d (omega (arith, within, below_size n))) in
    omega (arith, before, first, second, ap (λ (at : RowRef). at.slot) same)

below_in : (n : ℕ) (at : RowRef) → at.slot < n → Contains (references_below n) at
below_in n at within = (at.slot, omega (arith, within, below_size n), below_at n at.slot at within)

every_apart : AllPairs (λ a b. a ≢ b) every_reference
unfolding every_reference
every_apart = below_apart (2 ^ 32 - 1)

every_in : (at : RowRef) → at.slot < 2 ^ 32 - 1 → Contains every_reference at
unfolding every_reference
every_in at small = below_in (2 ^ 32 - 1) at small

pub row_from_live : (c : Content) → is_live c ≡ true → (row : List Value) × (c ≡ Live row)
row_from_live Free live = cc
row_from_live (Live row) live = (row, refl)
row_from_live (Hidden row) live = cc

pub AreReferences-live : (now : Slots) → AreSmall now → AreReferences now (live_references now)
AreReferences-live now small = record {
  apart = AllPairs-filter (λ (a b : RowRef). a ≢ b) (λ at. is_live (now at)) every_reference every_apart;
  held = λ at. (
    λ here. row_from_live (now at) (out_of_filter (λ r. is_live (now r)) every_reference at here).1,
    λ row. in_filter (λ r. is_live (now r)) every_reference at (every_in at (small at row)) (ap is_live row.1),
  );
}
