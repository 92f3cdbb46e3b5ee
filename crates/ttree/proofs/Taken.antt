-- Lemmas about a reference that is removed from an ordered list, or not found in it.
use Rattle.std.proofs.Common.{◌≡◌, ◌≢◌, true, eqb, ℕ, suc, ◌-◌, ◌<◌, ◌≤◌, List, [], ◌∷◌, ◌++◌, length, get_or, take, drop, ◌⊎◌, refl, sym, ap}
use Rattle.std.proofs.Common.{◌∙◌, subst, ⊎_elim, arith, append_assoc}
use Rattle.std.specs.Prelude.{Some, slice_get, Contains}
use Rattle.std.proofs.lemmas.Bool.{eqb-true}
use Rattle.std.proofs.lemmas.List.{take-append-drop, append-nil}
use Rattle.std.proofs.lemmas.Option.{get_or_from_slice_get}
use Rattle.std.proofs.Math.ListN.{drop_of_length-le}
use Rattle.std.proofs.Math.Seq.{drop-cons}
use Rattle.std.specs.List.{All, AllPairs, remove}
use Rattle.std.specs.Ordering.{ordering_reverse}
use Rattle.std.specs.declared.cmp.Ordering.{Ordering}
use Rattle.std.specs.declared.cmp.Ordering.TheVariants.{Less, Equal, Greater}
use Rattle.mm_value.specs.declared.row_ref.RowRef.{RowRef}
use Rattle.mm_order.specs.Order.{IsTotalOrderOn, IsOrdered}
use Rattle.mm_order.specs.Refs.{AddsInOrder}
use Rattle.std.proofs.lemmas.List.{get_or_append_left}
use Rattle.std.proofs.lemmas.List.Elements.{Contains-append_cases}
use Rattle.ttree.proofs.Parts.{IsOrdered-front, IsOrdered-middle, IsOrdered-back, below_all}
use Rattle.mm_order.proofs.Pairs.{AllPairs-append_right, AllPairs-append_across}

-- Lemma: removing the last entry and appending it again changes nothing.
pub remove_last-append : (xs : List RowRef) (last : RowRef) → 1 ≤ length xs → slice_get xs (length xs - 1) ≡ Some last
    → remove xs (length xs - 1) ++ last ∷ [] ≡ xs
remove_last-append xs last some is =
    let n : ℕ = length xs - 1 in
    let none : drop (suc n) xs ≡ [] = drop_of_length-le xs {i = suc n} (omega arith) in
    let end : drop n xs ≡ last ∷ [] = drop-cons xs n last (omega arith) ∙ (λ i. get_or_from_slice_get xs n last last is i ∷ none i) in
    ap (λ ys. take n xs ++ ys ++ last ∷ []) none ∙ ap (λ ys. ys ++ last ∷ []) (append-nil (take n xs)) ∙ sym (ap (λ ys. take n xs ++ ys) end)
    ∙ take-append-drop n xs

-- Lemma: references that compare equal by `==` are equal.
pub same_from_test : (a b : RowRef) → eqb a.slot b.slot ≡ true → a ≡ b
same_from_test a b e = λ i. record { slot = eqb-true a.slot b.slot e i }

pub self_equal : (o : Ordering) → o ≡ ordering_reverse o → o ≡ Equal
self_equal Less e = (cc)
self_equal Equal e = refl
self_equal Greater e = (cc)

module _ (Covers : RowRef → Type 0) (cmp : RowRef → RowRef → Ordering) (total : IsTotalOrderOn Covers cmp) (gone : RowRef) (covered : Covers gone) where
  equal_to_itself : cmp gone gone ≡ Equal
  equal_to_itself = self_equal (cmp gone gone) (total.antisymm gone gone covered covered)

  pub itself : cmp gone gone ≡ Equal
  itself = equal_to_itself

-- Lemmas: a reference in a list of three parts is in the part on whose side it compares.
module _ (Covers : RowRef → Type 0) (cmp : RowRef → RowRef → Ordering) (total : IsTotalOrderOn Covers cmp) (gone : RowRef) (covered : Covers gone)
    (left middle right : List RowRef) (was : IsOrdered Covers cmp (left ++ middle ++ right)) (some : 1 ≤ length middle) where
  rest_was : IsOrdered Covers cmp (middle ++ right)
  rest_was = IsOrdered-back Covers cmp left (middle ++ right) (subst (IsOrdered Covers cmp) (append_assoc left middle right) was)

  front_was : IsOrdered Covers cmp (left ++ middle)
  front_was = IsOrdered-front Covers cmp (left ++ middle) right was

  pub contains_left : cmp gone (get_or middle 0 gone) ≡ Less → Contains (left ++ middle ++ right) gone → Contains left gone
  contains_left before held =
      let first : cmp gone (get_or (middle ++ right) 0 gone) ≡ Less = ap (cmp gone) (get_or_append_left middle right gone 0 (omega arith)) ∙ before in
      ⊎_elim
      (λ (h : Contains left gone). h)
      (λ (h : Contains (middle ++ right) gone).
      let less : cmp gone gone ≡ Less = ap (cmp gone) (sym h.2) ∙ below_all Covers cmp total gone covered (middle ++ right) rest_was first h.0 gone h.1 in
      let equal : cmp gone gone ≡ Equal = equal_to_itself Covers cmp total gone covered in
      absurd (cc))
      (Contains-append_cases left (middle ++ right) gone (subst (λ xs. Contains xs gone) (append_assoc left middle right) held))

  in_left : Contains left gone → cmp gone (get_or middle 0 gone) ≡ Less
  in_left h =
      let across : All (λ a. All (λ b. cmp a b ≡ Less) middle) left = AllPairs-append_across (λ a b. cmp a b ≡ Less) left middle front_was.ascending in
      ap (λ a. cmp a (get_or middle 0 gone)) (sym h.2) ∙ across h.0 gone h.1 0 gone (omega arith)

  -- Lemma: a reference in the right part is after the middle.
  pub after_middle : Contains right gone → cmp gone (get_or middle (length middle - 1) gone) ≡ Greater
  after_middle h =
      let across : All (λ a. All (λ b. cmp a b ≡ Less) right) middle = AllPairs-append_across (λ a b. cmp a b ≡ Less) middle right rest_was.ascending in
      let greatest : RowRef = get_or middle (length middle - 1) gone in
      let less : cmp greatest gone ≡ Less = ap (cmp greatest) (sym h.2) ∙ across (length middle - 1) gone (omega arith) h.0 gone h.1 in
      total.antisymm gone greatest covered ((IsOrdered-middle Covers cmp left middle right was).covered (length middle - 1) gone (omega arith))
      ∙ ap ordering_reverse less

  -- Lemma: a reference in the list that is not before the middle is in the middle or in the right part.
  pub contains_from : cmp gone (get_or middle 0 gone) ≢ Less → Contains (left ++ middle ++ right) gone → Contains middle gone ⊎ Contains right gone
  contains_from not_before held =
      ⊎_elim
      (λ (l : Contains left gone). absurd (not_before (in_left l)))
      (λ (h : Contains (middle ++ right) gone). Contains-append_cases middle right gone h)
      (Contains-append_cases left (middle ++ right) gone (subst (λ xs. Contains xs gone) (append_assoc left middle right) held))

-- Lemma: removing a reference of the middle part from an ordered list.
pub adds_taken : (Covers : RowRef → Type 0) (cmp : RowRef → RowRef → Ordering) (left middle right : List RowRef) (i : ℕ) (gone : RowRef)
    → IsOrdered Covers cmp (left ++ middle ++ right) → i < length middle → slice_get middle i ≡ Some gone
    → AddsInOrder cmp (left ++ remove middle i ++ right) gone (left ++ middle ++ right)
adds_taken Covers cmp left middle right i gone was inside is =
    let front : List RowRef = left ++ take i middle in
    let back : List RowRef = drop (suc i) middle ++ right in
    let rest : drop i middle ≡ gone ∷ drop (suc i) middle = drop-cons middle i gone inside
    ∙ ap (λ a. a ∷ drop (suc i) middle) (get_or_from_slice_get middle i gone gone is) in
    let parts : take i middle ++ gone ∷ drop (suc i) middle ≡ middle = ap (λ ys. take i middle ++ ys) (sym rest) ∙ take-append-drop i middle in
    let whole : front ++ gone ∷ back ≡ left ++ middle ++ right = regrouped left (take i middle) gone (drop (suc i) middle) right
    ∙ ap (λ ys. left ++ ys ++ right) parts in
    let ascend : AllPairs (λ a b. cmp a b ≡ Less) (front ++ gone ∷ back) = subst (AllPairs (λ a b. cmp a b ≡ Less)) (sym whole) was.ascending in
    let across : All (λ a. All (λ b. cmp a b ≡ Less) (gone ∷ back)) front = AllPairs-append_across (λ a b. cmp a b ≡ Less) front (gone ∷ back) ascend in
    let tail : AllPairs (λ a b. cmp a b ≡ Less) (gone ∷ back) = AllPairs-append_right (λ a b. cmp a b ≡ Less) front (gone ∷ back) ascend in
    record {
      front = front;
      back = back;
      refs_are = simp append_assoc;
      more_are = sym whole;
      above_front = λ k d within. across k d within 0 d (omega arith);
      below_back = λ k d within. tail 0 (suc k) d (omega arith) (omega arith);
    }
  where
    regrouped : (a b : List RowRef) (x : RowRef) (c d : List RowRef) → (a ++ b) ++ x ∷ (c ++ d) ≡ a ++ (b ++ x ∷ c) ++ d
    regrouped a b x c d = simp append_assoc
