-- An ordered list is determined by its elements.
use Rattle.std.proofs.Common.{◌≡◌, ◌⊎◌, List, [], ◌∷◌, get_or, refl, sym, ap, ◌∙◌, subst, inl, inr, ⊎_elim, arith}
use Rattle.std.proofs.lemmas.List.Elements.{All-head, All-tail, All-contains, Contains-append_cases, Contains-append_left, Contains-append_right, Contains-push}
use Rattle.std.specs.List.{All, Contains}
use Rattle.std.specs.Ordering.{ordering_reverse}
use Rattle.std.specs.declared.cmp.Ordering.{Ordering}
use Rattle.std.specs.declared.cmp.Ordering.TheVariants.{Less, Equal, Greater}
use Rattle.mm_value.specs.declared.row_ref.RowRef.{RowRef}
use Rattle.mm_order.specs.Order.{IsTotalOrderOn, IsOrdered}
use Rattle.mm_order.proofs.Pairs.{AllPairs-append_across, AllPairs-append_right}

pub only : (a b : RowRef) → Contains (a ∷ []) b → a ≡ b
only a b (k, within, is) = ap (λ n. get_or (a ∷ []) n b) (let first : 0 ≡ k = omega arith in first) ∙ is

cons_cases : (a b : RowRef) (rest : List RowRef) → Contains (a ∷ rest) b → (a ≡ b) ⊎ Contains rest b
cons_cases a b rest here = ⊎_elim (λ (h : Contains (a ∷ []) b). inl (only a b h)) (λ (h : Contains rest b). inr h) (Contains-append_cases (a ∷ []) rest b here)

empty : (a : RowRef) → Contains [] a → ⊥
empty a (k, within, is) = omega arith

module _ (Covers : RowRef → Type 0) (cmp : RowRef → RowRef → Ordering) (total : IsTotalOrderOn Covers cmp) where
  below_rest : (a : RowRef) (rest : List RowRef) → IsOrdered Covers cmp (a ∷ rest) → All (λ b. cmp a b ≡ Less) rest
  below_rest a rest was = All-head (λ b. All (λ c. cmp b c ≡ Less) rest) a [] (AllPairs-append_across (λ b c. cmp b c ≡ Less) (a ∷ []) rest was.ascending)

  rest_ordered : (a : RowRef) (rest : List RowRef) → IsOrdered Covers cmp (a ∷ rest) → IsOrdered Covers cmp rest
  rest_ordered a rest was = record {
    covered = All-tail Covers a rest was.covered;
    ascending = AllPairs-append_right (λ b c. cmp b c ≡ Less) (a ∷ []) rest was.ascending;
  }

  never_both : (o p : Ordering) → o ≡ ordering_reverse p → o ≡ Less → p ≡ Less → ⊥
  never_both Less Less e l m = (cc)
  never_both Less Equal e l m = (cc)
  never_both Less Greater e l m = (cc)
  never_both Equal p e l m = (cc)
  never_both Greater p e l m = (cc)

  -- the first reference is not among the later ones
  not_later : (a : RowRef) (rest : List RowRef) → IsOrdered Covers cmp (a ∷ rest) → Contains rest a → ⊥
  not_later a rest was later =
      let itself : cmp a a ≡ Less = All-contains (λ b. cmp a b ≡ Less) rest a (below_rest a rest was) later in
      let covered : Covers a = All-head Covers a rest was.covered in
      never_both (cmp a a) (cmp a a) (total.antisymm a a covered covered) itself itself

  same_first : (a b : RowRef) (xs ys : List RowRef) → IsOrdered Covers cmp (a ∷ xs) → IsOrdered Covers cmp (b ∷ ys) → Contains (b ∷ ys) a → Contains (a ∷ xs) b
      → a ≡ b
  same_first a b xs ys in_xs in_ys a_there b_there =
      ⊎_elim
      (λ (same : b ≡ a). sym same)
      (λ (a_later : Contains ys a).
      ⊎_elim
      (λ (same : a ≡ b). same)
      (λ (b_later : Contains xs b).
      absurd
      (never_both (cmp a b) (cmp b a) (total.antisymm a b (All-head Covers a xs in_xs.covered) (All-head Covers b ys in_ys.covered))
      (All-contains (λ c. cmp a c ≡ Less) xs b (below_rest a xs in_xs) b_later)
      (All-contains (λ c. cmp b c ≡ Less) ys a (below_rest b ys in_ys) a_later)))
      (cons_cases a b xs b_there))
      (cons_cases b a ys a_there)

  -- an element of the rest of one list is in the rest of the other, if both lists have the same first element and the same elements
  rest_within : (a : RowRef) (xs ys : List RowRef) → IsOrdered Covers cmp (a ∷ xs) → ((c : RowRef) → Contains (a ∷ xs) c → Contains (a ∷ ys) c) → (c : RowRef)
      → Contains xs c → Contains ys c
  rest_within a xs ys in_xs through c here =
      ⊎_elim
      (λ (same : a ≡ c). absurd (not_later a xs in_xs (subst (Contains xs) (sym same) here)))
      (λ (there : Contains ys c). there)
      (cons_cases a c ys (through c (Contains-append_right (a ∷ []) xs c here)))

  -- two ordered lists with the same references are equal
  pub same_from_same_references : (xs ys : List RowRef) → IsOrdered Covers cmp xs → IsOrdered Covers cmp ys → ((c : RowRef) → Contains xs c → Contains ys c)
      → ((c : RowRef) → Contains ys c → Contains xs c) → xs ≡ ys
  same_from_same_references [] [] in_xs in_ys there back = refl
  same_from_same_references [] (b ∷ ys) in_xs in_ys there back = absurd (empty b (back b (Contains-append_left (b ∷ []) ys b (Contains-push [] b))))
  same_from_same_references (a ∷ xs) [] in_xs in_ys there back = absurd (empty a (there a (Contains-append_left (a ∷ []) xs a (Contains-push [] a))))
  same_from_same_references (a ∷ xs) (b ∷ ys) in_xs in_ys there back =
      let same : a ≡ b = same_first a b xs ys in_xs in_ys (there a (Contains-append_left (a ∷ []) xs a (Contains-push [] a)))
      (back b (Contains-append_left (b ∷ []) ys b (Contains-push [] b))) in
      let in_ys_a : IsOrdered Covers cmp (a ∷ ys) = subst (λ r. IsOrdered Covers cmp (r ∷ ys)) (sym same) in_ys in
      let there_a : (c : RowRef) → Contains (a ∷ xs) c → Contains (a ∷ ys) c =
      subst (λ r. (c : RowRef) → Contains (a ∷ xs) c → Contains (r ∷ ys) c) (sym same) there in
      let back_a : (c : RowRef) → Contains (a ∷ ys) c → Contains (a ∷ xs) c =
      subst (λ r. (c : RowRef) → Contains (r ∷ ys) c → Contains (a ∷ xs) c) (sym same) back in
      ap (λ r. r ∷ xs) same ∙ ap (λ rest. b ∷ rest)
      (same_from_same_references xs ys (rest_ordered a xs in_xs) (rest_ordered b ys in_ys) (rest_within a xs ys in_xs there_a)
      (rest_within a ys xs in_ys_a back_a))
