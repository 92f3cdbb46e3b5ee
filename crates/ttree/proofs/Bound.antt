-- Lemmas about entries after a bound.
use Rattle.std.proofs.Common.{◌≡◌, ◌≢◌, ◌-◌, ◌≤◌, List, ◌++◌, length, get_or, refl, ap, ◌∙◌, arith}
use Rattle.std.specs.Prelude.{Option, Some, None, IfSome}
use Rattle.std.specs.List.{All}
use Rattle.std.specs.Ordering.{ordering_reverse}
use Rattle.std.specs.declared.cmp.Ordering.{Ordering}
use Rattle.std.specs.declared.cmp.Ordering.TheVariants.{Less, Equal, Greater}
use Rattle.mm_value.specs.declared.row_ref.RowRef.{RowRef}
use Rattle.mm_order.specs.Order.{IsOrdered, IsTotalOrderOn}
use Rattle.mm_order.proofs.Pairs.{All-append_left, All-append_right, AllPairs-append_across}
use Rattle.ttree.specs.Bound.{LiesBelow}
use Rattle.ttree.proofs.Parts.{IsOrdered-middle, rest_ordered}

-- Lemma: if a list is after the bound, so is its front.
pub behind_front : (cmp : RowRef → RowRef → Ordering) (bound : Option RowRef) (xs ys : List RowRef) → IfSome bound (λ b. All (λ a. cmp b a ≡ Less) (xs ++ ys))
    → IfSome bound (λ b. All (λ a. cmp b a ≡ Less) xs)
behind_front cmp None xs ys behind = tt
behind_front cmp (Some b) xs ys behind = All-append_left (λ a. cmp b a ≡ Less) xs ys behind

is_greater : (o : Ordering) → o ≢ Less → o ≢ Equal → o ≡ Greater
is_greater Less not_less not_equal = absurd (not_less refl)
is_greater Equal not_less not_equal = absurd (not_equal refl)
is_greater Greater not_less not_equal = refl

module _ (Covers : RowRef → Type 0) (cmp : RowRef → RowRef → Ordering) (total : IsTotalOrderOn Covers cmp) (left middle right : List RowRef)
    (was : IsOrdered Covers cmp (left ++ middle ++ right)) (some : 1 ≤ length middle) (added : RowRef) (covered : Covers added) where
  -- Lemma: an entry that is not before the middle is not below a bound before all entries.
  pub not_below : cmp added (get_or middle 0 added) ≢ Less → (bound : Option RowRef) → IfSome bound Covers
      → IfSome bound (λ b. All (λ a. cmp b a ≡ Less) (left ++ middle ++ right)) → LiesBelow cmp added bound → ⊥
  not_below not_before None bound_covered behind below = below
  not_below not_before (Some b) bound_covered behind below =
      let first : cmp b (get_or middle 0 added) ≡ Less =
      All-append_right (λ a. cmp b a ≡ Less) left middle (All-append_left (λ a. cmp b a ≡ Less) (left ++ middle) right behind) 0 added some in
      not_before (total.trans added b (get_or middle 0 added) covered bound_covered
      ((IsOrdered-middle Covers cmp left middle right was).covered 0 added some) below first)

  -- Lemma: the right part is after the last entry of the middle.
  pub last_behind : (d : RowRef) → All (λ a. cmp (get_or middle (length middle - 1) d) a ≡ Less) right
  last_behind d =
      AllPairs-append_across (λ a b. cmp a b ≡ Less) middle right (rest_ordered Covers cmp left middle right was).ascending (length middle - 1) d (omega arith)

  -- Lemma: a reference that is not before the last of the middle is after it.
  pub after_last : All (λ a. cmp a added ≢ Equal) middle → cmp added (get_or middle (length middle - 1) added) ≢ Less
      → cmp added (get_or middle (length middle - 1) added) ≡ Greater
  after_last apart not_less =
      let last : RowRef = get_or middle (length middle - 1) added in
      let turned : cmp last added ≡ ordering_reverse (cmp added last) =
      total.antisymm last added ((IsOrdered-middle Covers cmp left middle right was).covered (length middle - 1) added (omega arith)) covered in
      is_greater (cmp added last) not_less (λ (equal : cmp added last ≡ Equal).
      apart (length middle - 1) added (omega arith) (turned ∙ ap ordering_reverse equal))
