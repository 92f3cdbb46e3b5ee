-- Tables may be joined one after another.
use Rattle.std.proofs.Common.{◌≡◌, ◌⊎◌, ℕ, zero, suc, ◌+◌, Bool, true, false, cond, ◌&&◌, List, [], ◌∷◌, ◌++◌, Option, Some, None, get_or, inl, inr, map}
use Rattle.std.proofs.Common.{refl, sym, ap, ◌∙◌, subst}
use Rattle.std.specs.List.{filter, flat_map, list_all, sum_by}
use Rattle.std.specs.List.Sorted.{IsPermutation}
use Rattle.std.specs.Option.{option_map}
use Rattle.std.specs.Ordering.{is_eq}
use Rattle.std.proofs.lemmas.Bool.{and_parts, cases_Bool, false≢true}
use Rattle.std.proofs.lemmas.Cmp.{tied_itself}
use Rattle.std.proofs.lemmas.List.{map-append}
use Rattle.std.proofs.lemmas.List.Concat.{flat_map-append}
use Rattle.std.proofs.lemmas.List.Elements.{filter-append}
use Rattle.std.proofs.lemmas.List.Sorted.{sum_by-IsPermutation}
use Rattle.std.proofs.lemmas.List.Sums.{sum_by-append, sum_by-cons}
use Rattle.std.proofs.lemmas.Simd.{map-map}
use Rattle.mm_query.specs.Atoms.{holds, holds_of, operand_of, shifted, value_in}
use Rattle.mm_query.specs.Queries.{combinations, none_fails, same_row, value_at}
use Rattle.mm_query.specs.declared.atom.Atom.{Atom}
use Rattle.mm_query.specs.declared.atom.Comparison.{Comparison}
use Rattle.mm_query.specs.declared.atom.Operand.{Operand}
use Rattle.mm_query.specs.declared.atom.Operand.TheVariants.{Literal, Column, Shifted}
use Rattle.mm_query.specs.declared.bound_query.FieldPlace.{FieldPlace}
use Rattle.mm_indexed.proofs.Bags.{IsPermutation-from_counts}
use Rattle.mm_schema.proofs.Orderings.{equal_from_is_eq}
use Rattle.mm_select.specs.Fitting.{fitting}
use Rattle.mm_value.proofs.Orders.{row_cmp_exact, row_cmp_total}
use Rattle.mm_value.specs.Order.{row_cmp}
use Rattle.mm_value.specs.declared.values.Value.{Value}
use Rattle.mm_join.specs.Joined.{joined}

abbrev pub Row : Type 0
Row = List Value

-- ---- a combination of one more table

module _ {X : Type 0} where
  -- each list followed by each element
  abbrev behind : List (List X) → List X → List (List X)
  behind outers next = flat_map (λ outer. map (λ x. outer ++ x ∷ []) next) outers

  behind_front : (x : X) (next : List X) (cs : List (List X)) → behind (map (λ c. x ∷ c) cs) next ≡ map (λ c. x ∷ c) (behind cs next)
  behind_front x next [] = refl
  behind_front x next (c ∷ cs) =
      (λ i. sym (map-map (λ (d : List X). x ∷ d) (λ (y : X). c ++ y ∷ []) next) i ++ behind_front x next cs i)
      ∙ sym (map-append (λ (d : List X). x ∷ d) (map (λ y. c ++ y ∷ []) next) (behind cs next))

  behind_fronts : (others : List (List X)) (next : List X) (xs : List X)
      → behind (flat_map (λ x. map (λ c. x ∷ c) others) xs) next ≡ flat_map (λ x. map (λ c. x ∷ c) (behind others next)) xs
  behind_fronts others next [] = refl
  behind_fronts others next (x ∷ xs) =
      flat_map-append (λ (outer : List X). map (λ y. outer ++ y ∷ []) next) (map (λ c. x ∷ c) others) (flat_map (λ y. map (λ c. y ∷ c) others) xs)
      ∙ (λ i. behind_front x next others i ++ behind_fronts others next xs i)

  singles : (next : List X) → flat_map (λ x. map (λ c. x ∷ c) ([] ∷ [])) next ≡ behind ([] ∷ []) next
  singles [] = refl
  singles (x ∷ next) = ap (λ l. (x ∷ []) ∷ l) (singles next)

  -- The combinations of one list more are those of the others, each followed by each element of that list.
  combinations_behind : (lists : List (List X)) (next : List X) → combinations (lists ++ next ∷ []) ≡ behind (combinations lists) next
  combinations_behind [] next = singles next
  combinations_behind (xs ∷ lists) next =
      ap (λ l. flat_map (λ x. map (λ c. x ∷ c) l) xs) (combinations_behind lists next) ∙ sym (behind_fronts (combinations lists) next xs)

-- ---- an atom that is false stays false

-- The value is known and stays the same, or it is not known yet.
abbrev IsKnown : {X : Type 0} → Option X → Option X → Type 0
IsKnown now then = (now ≡ None) ⊎ (now ≡ then)

known_row : (c : List Row) (row : Row) (place : ℕ) → IsKnown (get_or (map Some c) place None) (get_or (map Some (c ++ row ∷ [])) place None)
known_row [] row place = inl refl
known_row (x ∷ c) row zero = inr refl
known_row (x ∷ c) row (suc place) = known_row c row place

known_map : {X Y : Type 0} (f : X → Y) (a b : Option X) → IsKnown a b → IsKnown (option_map f a) (option_map f b)
known_map f a b (inl none) = inl (ap (option_map f) none)
known_map f a b (inr same) = inr (ap (option_map f) same)

right_open : (comparison : Comparison) (a : Option Value) → holds_of comparison a None ≡ true
right_open comparison None = refl
right_open comparison (Some a) = refl

known_holds : (comparison : Comparison) (a a' b b' : Option Value) → IsKnown a a' → IsKnown b b'
    → holds_of comparison a' b' ≡ true → holds_of comparison a b ≡ true
known_holds comparison a a' b b' (inl none) right holds = ap (λ x. holds_of comparison x b) none
known_holds comparison a a' b b' (inr same) (inl none) holds = ap (λ y. holds_of comparison a y) none ∙ right_open comparison a
known_holds comparison a a' b b' (inr same) (inr as_well) holds = (λ i. holds_of comparison (same i) (as_well i)) ∙ holds

module _ (c : List Row) (row : Row) where
  abbrev now : FieldPlace → Option Value
  now = value_at (map Some c)

  abbrev then : FieldPlace → Option Value
  then = value_at (map Some (c ++ row ∷ []))

  known_value : (field : FieldPlace) → IsKnown (now field) (then field)
  known_value field =
      known_map (value_in field.column) (get_or (map Some c) field.place None) (get_or (map Some (c ++ row ∷ [])) field.place None)
      (known_row c row field.place)

  known_operand : (right : Operand FieldPlace) → IsKnown (operand_of now right) (operand_of then right)
  known_operand (Literal value) = inr refl
  known_operand (Column field) = known_value field
  known_operand (Shifted field by) = known_map (shifted by) (now field) (then field) (known_value field)

  held : (atoms : List (Atom FieldPlace)) → list_all (holds then) atoms ≡ true → list_all (holds now) atoms ≡ true
  held [] all = refl
  held (atom ∷ atoms) all =
      let parts = and_parts (holds then atom) (list_all (holds then) atoms) all in
      let first : holds now atom ≡ true =
      known_holds atom.comparison (now atom.left) (then atom.left) (operand_of now atom.right) (operand_of then atom.right)
      (known_value atom.left) (known_operand atom.right) parts.0 in
      λ i. first i && held atoms parts.1 i

  -- A combination that does not fit does not fit with a further row either.
  stays_unfit : (atoms : List (Atom FieldPlace)) → none_fails atoms (map Some c) ≡ false → none_fails atoms (map Some (c ++ row ∷ [])) ≡ false
  stays_unfit atoms unfit =
      elim (cases_Bool (none_fails atoms (map Some (c ++ row ∷ [])))) [
        | inl fits ↦ absurd (false≢true (sym unfit ∙ held atoms fits))
        | inr unfit' ↦ unfit'
      ]

-- ---- the extended combinations that fit

module _ {X Y : Type 0} (p : Y → Bool) (f : X → List Y) where
  filter-flat_map : (xs : List X) → filter p (flat_map f xs) ≡ flat_map (λ x. filter p (f x)) xs
  filter-flat_map [] = refl
  filter-flat_map (x ∷ xs) = filter-append p (f x) (flat_map f xs) ∙ ap (λ l. filter p (f x) ++ l) (filter-flat_map xs)

module _ {X Y : Type 0} (q : X → Bool) (f : X → List Y) (empty : (x : X) → q x ≡ false → f x ≡ []) where
  -- Elements with an empty result can be left out.
  flat_map-filter : (xs : List X) → flat_map f (filter q xs) ≡ flat_map f xs
  flat_map-filter [] = refl
  flat_map-filter (x ∷ xs) = by (q x) refl (flat_map-filter xs)
    where
      by : (b : Bool) → q x ≡ b → flat_map f (filter q xs) ≡ flat_map f xs
          → flat_map f (cond b (x ∷ filter q xs) (filter q xs)) ≡ f x ++ flat_map f xs
      by true is later = ap (λ l. f x ++ l) later
      by false is later = later ∙ ap (λ l. l ++ flat_map f xs) (sym (empty x is))

module _ (atoms : List (Atom FieldPlace)) where
  abbrev pub fits : List Row → Bool
  fits c = none_fails atoms (map Some c)

  -- the extensions of a combination by a row that fit
  abbrev pub fitting_behind : List Row → List Row → List (List Row)
  fitting_behind next outer = filter fits (map (λ row. outer ++ row ∷ []) next)

  nothing_behind : (next : List Row) (outer : List Row) → fits outer ≡ false → fitting_behind next outer ≡ []
  nothing_behind [] outer unfit = refl
  nothing_behind (row ∷ next) outer unfit = by (fits (outer ++ row ∷ [])) (stays_unfit outer row atoms unfit) (nothing_behind next outer unfit)
    where
      by : (b : Bool) → b ≡ false → fitting_behind next outer ≡ []
          → cond b ((outer ++ row ∷ []) ∷ fitting_behind next outer) (fitting_behind next outer) ≡ []
      by true is later = absurd (false≢true (sym is))
      by false is later = later

  pub joined_each : (outers : List (List Row)) (next : List Row) → joined atoms outers next ≡ flat_map (fitting_behind next) outers
  joined_each outers next = filter-flat_map fits (λ outer. map (λ row. outer ++ row ∷ []) next) outers

  -- A join of the fitting combinations, in their order.
  joined_in_order : (lists : List (List Row)) (next : List Row) → joined atoms (fitting atoms lists) next ≡ fitting atoms (lists ++ next ∷ [])
  joined_in_order lists next =
      joined_each (fitting atoms lists) next
      ∙ (flat_map-filter fits (fitting_behind next) (nothing_behind next) (combinations lists)
      ∙ (sym (joined_each (combinations lists) next) ∙ ap (filter fits) (sym (combinations_behind lists next))))

-- ---- in any order

module _ {X Y : Type 0} (same : Y → Y → Bool) (told : (a b : Y) → same a b ≡ true → a ≡ b) (itself : (a : Y) → same a a ≡ true) (f : X → List Y) where
  abbrev count : Y → List Y → ℕ
  count y ys = sum_by (λ z. cond (same y z) 1 0) ys

  counted : (y : Y) (xs : List X) → count y (flat_map f xs) ≡ sum_by (λ x. count y (f x)) xs
  counted y [] = refl
  counted y (x ∷ xs) =
      sum_by-append (λ z. cond (same y z) 1 0) (f x) (flat_map f xs)
      ∙ (ap (λ n. count y (f x) + n) (counted y xs) ∙ sym (sum_by-cons (λ x. count y (f x)) x xs))

  -- Permuted lists have permuted results.
  IsPermutation-flat_map : (xs ys : List X) → IsPermutation xs ys → IsPermutation (flat_map f xs) (flat_map f ys)
  IsPermutation-flat_map xs ys moved =
      IsPermutation-from_counts same told itself (flat_map f xs) (flat_map f ys)
      (λ y. counted y xs ∙ (sym (sum_by-IsPermutation (λ (x : X). count y (f x)) xs ys moved) ∙ sym (counted y ys)))

-- Two combinations are equal.
abbrev same_combination : List Row → List Row → Bool
same_combination [] [] = true
same_combination (x ∷ xs) (y ∷ ys) = same_row x y && same_combination xs ys
same_combination [] (y ∷ ys) = false
same_combination (x ∷ xs) [] = false

same_told : (xs ys : List Row) → same_combination xs ys ≡ true → xs ≡ ys
same_told [] [] same = refl
same_told [] (y ∷ ys) same = absurd (false≢true same)
same_told (x ∷ xs) [] same = absurd (false≢true same)
same_told (x ∷ xs) (y ∷ ys) same =
    let parts = and_parts (same_row x y) (same_combination xs ys) same in
    λ i. row_cmp_exact x y (equal_from_is_eq (row_cmp x y) parts.0) i ∷ same_told xs ys parts.1 i

same_itself : (xs : List Row) → same_combination xs xs ≡ true
same_itself [] = refl
same_itself (x ∷ xs) = λ i. is_eq (tied_itself row_cmp_total x i) && same_itself xs i

-- Joining the fitting combinations of some tables with the rows of a further table gives the fitting combinations of them all.
pub joined_fitting : (atoms : List (Atom FieldPlace)) (lists outers : List (List (List Value))) (next : List (List Value))
    → IsPermutation outers (fitting atoms lists) → IsPermutation (joined atoms outers next) (fitting atoms (lists ++ next ∷ []))
joined_fitting atoms lists outers next same =
    subst (λ l. IsPermutation l (fitting atoms (lists ++ next ∷ []))) (sym (joined_each atoms outers next))
    (subst (IsPermutation (flat_map (fitting_behind atoms next) outers))
    (sym (joined_each atoms (fitting atoms lists) next) ∙ joined_in_order atoms lists next)
    (IsPermutation-flat_map same_combination same_told same_itself (fitting_behind atoms next) outers (fitting atoms lists) same))
