-- Lists strictly sorted by a total order: parts, inserts, and uniqueness.
use Rattle.std.proofs.Common.{◌≡◌, ℕ, zero, suc, ◌+◌, ◌-◌, ◌<◌, List, [], ◌∷◌, ◌++◌, length, get_or, take, ◌⊎◌, inl, inr, refl, sym, ap, ◌∙◌, subst, arith}
use Rattle.std.specs.Cmp.{IsTotalOrder}
use Rattle.std.specs.List.{AllByRecursion, Contains}
use Rattle.std.specs.List.Sorted.{IsStrictlySortedBy}
use Rattle.std.specs.Ordering.{ordering_reverse}
use Rattle.std.specs.declared.cmp.Ordering.{Ordering}
use Rattle.std.specs.declared.cmp.Ordering.TheVariants.{Less, Equal, Greater}
use Rattle.std.proofs.lemmas.Cmp.{tied_itself}
use Rattle.std.proofs.lemmas.List.{take_all, take_more}

-- ---- properties of all elements

module _ {X : Type 0} {P Q : X → Type 0} where
  pub AllByRecursion-weaker : ((x : X) → P x → Q x) → (xs : List X) → AllByRecursion P xs → AllByRecursion Q xs
  AllByRecursion-weaker f [] all = tt
  AllByRecursion-weaker f (x ∷ xs) all = (f x all.0, AllByRecursion-weaker f xs all.1)

module _ {X : Type 0} (P : X → Type 0) where
  pub AllByRecursion-append : (xs ys : List X) → AllByRecursion P xs → AllByRecursion P ys → AllByRecursion P (xs ++ ys)
  AllByRecursion-append [] ys first second = second
  AllByRecursion-append (x ∷ xs) ys first second = (first.0, AllByRecursion-append xs ys first.1 second)

  pub AllByRecursion-append_left : (xs ys : List X) → AllByRecursion P (xs ++ ys) → AllByRecursion P xs
  AllByRecursion-append_left [] ys all = tt
  AllByRecursion-append_left (x ∷ xs) ys all = (all.0, AllByRecursion-append_left xs ys all.1)

  pub AllByRecursion-append_right : (xs ys : List X) → AllByRecursion P (xs ++ ys) → AllByRecursion P ys
  AllByRecursion-append_right [] ys all = all
  AllByRecursion-append_right (x ∷ xs) ys all = AllByRecursion-append_right xs ys all.1

  pub AllByRecursion-at : (xs : List X) (k : ℕ) (d : X) → k < length xs → AllByRecursion P xs → P (get_or xs k d)
  AllByRecursion-at [] k d within all = absurd (omega arith)
  AllByRecursion-at (x ∷ xs) zero d within all = all.0
  AllByRecursion-at (x ∷ xs) (suc k) d within all = AllByRecursion-at xs k d (omega arith) all.1

-- an element that is `IsIn` a list is one of its elements
abbrev pub IsIn : {X : Type 0} → X → List X → Type 0
IsIn x [] = ⊥
IsIn x (y ∷ ys) = (y ≡ x) ⊎ IsIn x ys

module _ {X : Type 0} where
  pub IsIn-from_Contains : (xs : List X) (x : X) → Contains xs x → IsIn x xs
  IsIn-from_Contains [] x (k, within, is) = absurd (omega arith)
  IsIn-from_Contains (y ∷ ys) x (zero, within, is) = inl is
  IsIn-from_Contains (y ∷ ys) x (suc k, within, is) = inr (IsIn-from_Contains ys x (k, omega arith, is))

  pub Contains-from_IsIn : (xs : List X) (x : X) → IsIn x xs → Contains xs x
  Contains-from_IsIn [] x here = absurd here
  Contains-from_IsIn (y ∷ ys) x (inl same) = (zero, omega arith, same)
  Contains-from_IsIn (y ∷ ys) x (inr later) =
      let place = Contains-from_IsIn ys x later in
      (suc place.0, omega arith, place.2)

  pub AllByRecursion-IsIn : (P : X → Type 0) (xs : List X) (x : X) → AllByRecursion P xs → IsIn x xs → P x
  AllByRecursion-IsIn P [] x all here = absurd here
  AllByRecursion-IsIn P (y ∷ ys) x all (inl same) = subst P same all.0
  AllByRecursion-IsIn P (y ∷ ys) x all (inr later) = AllByRecursion-IsIn P ys x all.1 later

-- a list ends in its last element
pub split_last : {X : Type 0} (xs : List X) (last : X) → 0 < length xs → last ≡ get_or xs (length xs - 1) last → xs ≡ take (length xs - 1) xs ++ last ∷ []
split_last xs last some is =
    sym (take_all (length xs - 1 + 1) xs (omega arith)) ∙ take_more xs (length xs - 1) last (omega arith) ∙ ap (λ x. take (length xs - 1) xs ++ x ∷ []) (sym is)

-- ---- a total order

module _ {X : Type 0} {cmp : X → X → Ordering} (total : IsTotalOrder cmp) where
  pub less_from_greater : (x y : X) → cmp x y ≡ Greater → cmp y x ≡ Less
  less_from_greater x y e = total.antisymm y x ∙ ap ordering_reverse e

  pub greater_from_less : (x y : X) → cmp x y ≡ Less → cmp y x ≡ Greater
  greater_from_less x y e = total.antisymm y x ∙ ap ordering_reverse e

  not_both : (x y : X) → cmp x y ≡ Less → cmp y x ≡ Less → ⊥
  not_both x y first second =
      let turned : cmp x y ≡ Greater = greater_from_less y x second in
      cc

  not_itself : (x y : X) → cmp x y ≡ Less → x ≡ y → ⊥
  not_itself x y less same =
      let tied : cmp x x ≡ Equal = tied_itself total x in
      cc

  -- an element less than the first one of a sorted list is less than all of it
  below_all : (x y : X) (ys : List X) → cmp x y ≡ Less → AllByRecursion (λ z. cmp y z ≡ Less) ys → AllByRecursion (λ z. cmp x z ≡ Less) (y ∷ ys)
  below_all x y ys less all = (less, AllByRecursion-weaker (λ z later. total.trans x y z less later) ys all)

  -- ---- strictly in order

  pub IsStrictlySortedBy-nil : IsStrictlySortedBy cmp []
  unfolding IsStrictlySortedBy
  IsStrictlySortedBy-nil = tt

  pub IsStrictlySortedBy-cons : (x : X) (xs : List X) → AllByRecursion (λ y. cmp x y ≡ Less) xs → IsStrictlySortedBy cmp xs → IsStrictlySortedBy cmp (x ∷ xs)
  unfolding IsStrictlySortedBy
  IsStrictlySortedBy-cons x xs below order = (below, order)

  pub IsStrictlySortedBy-head : (x : X) (xs : List X) → IsStrictlySortedBy cmp (x ∷ xs) → AllByRecursion (λ y. cmp x y ≡ Less) xs
  unfolding IsStrictlySortedBy
  IsStrictlySortedBy-head x xs order = order.0

  pub IsStrictlySortedBy-tail : (x : X) (xs : List X) → IsStrictlySortedBy cmp (x ∷ xs) → IsStrictlySortedBy cmp xs
  unfolding IsStrictlySortedBy
  IsStrictlySortedBy-tail x xs order = order.1

  pub IsStrictlySortedBy-append_right : (xs ys : List X) → IsStrictlySortedBy cmp (xs ++ ys) → IsStrictlySortedBy cmp ys
  IsStrictlySortedBy-append_right [] ys order = order
  IsStrictlySortedBy-append_right (x ∷ xs) ys order = IsStrictlySortedBy-append_right xs ys (IsStrictlySortedBy-tail x (xs ++ ys) order)

  pub IsStrictlySortedBy-append_left : (xs ys : List X) → IsStrictlySortedBy cmp (xs ++ ys) → IsStrictlySortedBy cmp xs
  IsStrictlySortedBy-append_left [] ys order = IsStrictlySortedBy-nil
  IsStrictlySortedBy-append_left (x ∷ xs) ys order =
      IsStrictlySortedBy-cons x xs (AllByRecursion-append_left (λ y. cmp x y ≡ Less) xs ys (IsStrictlySortedBy-head x (xs ++ ys) order))
      (IsStrictlySortedBy-append_left xs ys (IsStrictlySortedBy-tail x (xs ++ ys) order))

  -- an element less than the first one, before a sorted list
  pub IsStrictlySortedBy-before : (x y : X) (ys : List X) → cmp x y ≡ Less → IsStrictlySortedBy cmp (y ∷ ys) → IsStrictlySortedBy cmp (x ∷ y ∷ ys)
  IsStrictlySortedBy-before x y ys less order = IsStrictlySortedBy-cons x (y ∷ ys) (below_all x y ys less (IsStrictlySortedBy-head y ys order)) order

  -- an element between a lesser one and a greater one
  pub IsStrictlySortedBy-between : (front : List X) (x y : X) (back : List X) → cmp x y ≡ Less → IsStrictlySortedBy cmp (front ++ x ∷ back)
      → IsStrictlySortedBy cmp (y ∷ back) → IsStrictlySortedBy cmp (front ++ x ∷ y ∷ back)
  IsStrictlySortedBy-between [] x y back less order behind = IsStrictlySortedBy-before x y back less behind
  IsStrictlySortedBy-between (z ∷ front) x y back less order behind =
      let below : AllByRecursion (λ w. cmp z w ≡ Less) (front ++ x ∷ back) = IsStrictlySortedBy-head z (front ++ x ∷ back) order in
      let first : cmp z x ≡ Less = (AllByRecursion-append_right (λ w. cmp z w ≡ Less) front (x ∷ back) below).0 in
      let before : AllByRecursion (λ w. cmp z w ≡ Less) front = AllByRecursion-append_left (λ w. cmp z w ≡ Less) front (x ∷ back) below in
      let after : AllByRecursion (λ w. cmp z w ≡ Less) back = (AllByRecursion-append_right (λ w. cmp z w ≡ Less) front (x ∷ back) below).1 in
      IsStrictlySortedBy-cons z (front ++ x ∷ y ∷ back)
      (AllByRecursion-append (λ w. cmp z w ≡ Less) front (x ∷ y ∷ back) before (first, (total.trans z x y first less, after)))
      (IsStrictlySortedBy-between front x y back less (IsStrictlySortedBy-tail z (front ++ x ∷ back) order) behind)

  -- a list after one whose last element is less than its first
  pub IsStrictlySortedBy-append : (xs : List X) (x y : X) (ys : List X) → cmp x y ≡ Less → IsStrictlySortedBy cmp (xs ++ x ∷ [])
      → IsStrictlySortedBy cmp (y ∷ ys) → IsStrictlySortedBy cmp ((xs ++ x ∷ []) ++ (y ∷ ys))
  IsStrictlySortedBy-append [] x y ys less order behind = IsStrictlySortedBy-before x y ys less behind
  IsStrictlySortedBy-append (z ∷ xs) x y ys less order behind =
      let below : AllByRecursion (λ w. cmp z w ≡ Less) (xs ++ x ∷ []) = IsStrictlySortedBy-head z (xs ++ x ∷ []) order in
      let first : cmp z x ≡ Less = (AllByRecursion-append_right (λ w. cmp z w ≡ Less) xs (x ∷ []) below).0 in
      let after : AllByRecursion (λ w. cmp z w ≡ Less) (y ∷ ys) = below_all z y ys (total.trans z x y first less) (IsStrictlySortedBy-head y ys behind) in
      IsStrictlySortedBy-cons z ((xs ++ x ∷ []) ++ (y ∷ ys)) (AllByRecursion-append (λ w. cmp z w ≡ Less) (xs ++ x ∷ []) (y ∷ ys) below after)
      (IsStrictlySortedBy-append xs x y ys less (IsStrictlySortedBy-tail z (xs ++ x ∷ []) order) behind)

  -- ---- by neighbours

  pub IsStrictlySortedBy-at : (xs : List X) (i j : ℕ) (d : X) → i < j → j < length xs → IsStrictlySortedBy cmp xs → cmp (get_or xs i d) (get_or xs j d) ≡ Less
  IsStrictlySortedBy-at [] i j d before within order = absurd (omega arith)
  IsStrictlySortedBy-at (x ∷ xs) i zero d before within order = absurd (omega arith)
  IsStrictlySortedBy-at (x ∷ xs) zero (suc j) d before within order =
      AllByRecursion-at (λ y. cmp x y ≡ Less) xs j d (omega arith) (IsStrictlySortedBy-head x xs order)
  IsStrictlySortedBy-at (x ∷ xs) (suc i) (suc j) d before within order =
      IsStrictlySortedBy-at xs i j d (omega arith) (omega arith) (IsStrictlySortedBy-tail x xs order)

  pub IsStrictlySortedBy-from_neighbours : (xs : List X) → ((k : ℕ) (d : X) → k + 1 < length xs → cmp (get_or xs k d) (get_or xs (suc k) d) ≡ Less)
      → IsStrictlySortedBy cmp xs
  IsStrictlySortedBy-from_neighbours [] next = IsStrictlySortedBy-nil
  IsStrictlySortedBy-from_neighbours (x ∷ []) next = IsStrictlySortedBy-cons x [] tt IsStrictlySortedBy-nil
  IsStrictlySortedBy-from_neighbours (x ∷ y ∷ ys) next =
      IsStrictlySortedBy-before x y ys (next 0 x (omega arith)) (IsStrictlySortedBy-from_neighbours (y ∷ ys) (λ k d within. next (suc k) d (omega arith)))

  -- ---- the elements determine the list

  same_heads : (x y : X) (xs ys : List X) → IsStrictlySortedBy cmp (x ∷ xs) → IsStrictlySortedBy cmp (y ∷ ys) → IsIn x (y ∷ ys) → IsIn y (x ∷ xs) → x ≡ y
  same_heads x y xs ys first second (inl same) there = sym same
  same_heads x y xs ys first second (inr later) (inl same) = same
  same_heads x y xs ys first second (inr later) (inr back) =
      absurd (not_both x y (AllByRecursion-IsIn (λ z. cmp x z ≡ Less) xs y (IsStrictlySortedBy-head x xs first) back)
      (AllByRecursion-IsIn (λ z. cmp y z ≡ Less) ys x (IsStrictlySortedBy-head y ys second) later))

  in_tail : (x y z : X) (xs ys : List X) → x ≡ y → IsStrictlySortedBy cmp (x ∷ xs) → IsIn z xs → IsIn z (y ∷ ys) → IsIn z ys
  in_tail x y z xs ys same order here (inl first) =
      absurd (not_itself x z (AllByRecursion-IsIn (λ w. cmp x w ≡ Less) xs z (IsStrictlySortedBy-head x xs order) here) (same ∙ first))
  in_tail x y z xs ys same order here (inr later) = later

  pub same_from_elements : (xs ys : List X) → IsStrictlySortedBy cmp xs → IsStrictlySortedBy cmp ys → ((z : X) → IsIn z xs → IsIn z ys)
      → ((z : X) → IsIn z ys → IsIn z xs) → xs ≡ ys
  same_from_elements [] [] first second there back = refl
  same_from_elements [] (y ∷ ys) first second there back = absurd (back y (inl refl))
  same_from_elements (x ∷ xs) [] first second there back = absurd (there x (inl refl))
  same_from_elements (x ∷ xs) (y ∷ ys) first second there back =
      let head : x ≡ y = same_heads x y xs ys first second (there x (inl refl)) (back y (inl refl)) in
      let tail : xs ≡ ys = same_from_elements xs ys (IsStrictlySortedBy-tail x xs first) (IsStrictlySortedBy-tail y ys second)
      (λ z here. in_tail x y z xs ys head first here (there z (inr here))) (λ z here. in_tail y x z ys xs (sym head) second here (back z (inr here))) in
      cc
