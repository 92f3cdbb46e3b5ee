-- Lemmas about the entries between two probes, in an ordered list of three parts.
use Rattle.std.proofs.Common.{◌≡◌, ◌≢◌, Bool, true, false, ◌&&◌, ◌-◌, ◌≤◌, List, [], ◌++◌, length, get_or, take, refl, sym, ap, ◌∙◌, subst, arith}
use Rattle.std.proofs.lemmas.List.{append_assoc, take-take, take_at, length-append}
use Rattle.std.specs.Prelude.{Result, Ok, Err, OnErr}
use Rattle.std.specs.List.{All}
use Rattle.std.specs.List.Sorted.{IsNonDecreasingBy}
use Rattle.std.specs.Ordering.{ordering_index, is_ge, is_le, is_gt}
use Rattle.std.specs.declared.cmp.Ordering.{Ordering}
use Rattle.std.specs.declared.cmp.Ordering.TheVariants.{Less, Equal, Greater}
use Rattle.mm_value.specs.declared.row_ref.RowRef.{RowRef}
use Rattle.mm_order.specs.Order.{IsOrdered}
use Rattle.mm_order.specs.Probe.{IsMonotone, is_between, entries_between}
use Rattle.mm_order.proofs.Filtered.{filter-all, filter-none}
use Rattle.mm_order.proofs.Pairs.{AllPairs-append_across}
use Rattle.mm_order.proofs.Places.{less_below, greater_above, less_up_to, not_less_from, not_greater_up_to, greater_from}
use Rattle.ttree_node.specs.Entries.{first_entry, last_entry}
use Rattle.ttree.proofs.Parts.{IsOrdered-front, IsOrdered-middle, IsOrdered-back, rest_ordered}

pub and_false : (b : Bool) → (b && false) ≡ false
and_false true = refl
and_false false = refl

module _ (Covers : RowRef → Type 0) (cmp : RowRef → RowRef → Ordering) (left middle right : List RowRef) (was : IsOrdered Covers cmp (left ++ middle ++ right))
    (some : 1 ≤ length middle) (d : RowRef) where
  -- Lemma: if the least of the middle is before the low position, no entry on the left is in the range.
  pub nothing_left : (Reaches : RowRef → Type 0) (low : RowRef → Ordering) → IsMonotone Covers cmp Reaches low → low (get_or middle 0 d) ≡ Less
      → (high : RowRef → Ordering) → entries_between low high left ≡ []
  nothing_left Reaches low rises least high =
      let front : IsOrdered Covers cmp (left ++ middle) = IsOrdered-front Covers cmp (left ++ middle) right was in
      let across : All (λ a. All (λ b. cmp a b ≡ Less) middle) left = AllPairs-append_across (λ a b. cmp a b ≡ Less) left middle front.ascending in
      let covered_left = (IsOrdered-front Covers cmp left middle front).covered in
      let covered_middle = (IsOrdered-middle Covers cmp left middle right was).covered in
      filter-none (is_between low high) left (λ k e within.
      let low_is : low (get_or left k e) ≡ Less = less_below (low (get_or left k e))
      (subst (λ o. ordering_index (low (get_or left k e)) ≤ ordering_index o) least
      (rises.rises (get_or left k e) (get_or middle 0 d) (covered_left k e within) (covered_middle 0 d (omega arith)) (across k e within 0 d (omega arith)))) in
      ap (λ o. is_ge o && is_le (high (get_or left k e))) low_is)

  -- Lemma: if the greatest of the middle is after the high position, no entry on the right is in the range.
  pub nothing_right : (Reaches : RowRef → Type 0) (high : RowRef → Ordering) → IsMonotone Covers cmp Reaches high
      → high (get_or middle (length middle - 1) d) ≡ Greater → (low : RowRef → Ordering) → entries_between low high right ≡ []
  nothing_right Reaches high rises greatest low =
      let rest : IsOrdered Covers cmp (middle ++ right) = rest_ordered Covers cmp left middle right was in
      let across : All (λ a. All (λ b. cmp a b ≡ Less) right) middle = AllPairs-append_across (λ a b. cmp a b ≡ Less) middle right rest.ascending in
      let covered_right = (IsOrdered-back Covers cmp middle right rest).covered in
      let covered_middle = (IsOrdered-middle Covers cmp left middle right was).covered in
      filter-none (is_between low high) right (λ k e within.
      let high_is : high (get_or right k e) ≡ Greater = greater_above (high (get_or right k e))
      (subst (λ o. ordering_index o ≤ ordering_index (high (get_or right k e))) greatest
      (rises.rises (get_or middle (length middle - 1) d) (get_or right k e) (covered_middle (length middle - 1) d (omega arith)) (covered_right k e within)
      (across (length middle - 1) d (omega arith) k e within))) in
      ap (λ o. is_ge (low (get_or right k e)) && is_le o) high_is ∙ and_false (is_ge (low (get_or right k e))))

pub greater_from_test : (o : Ordering) → is_gt o ≡ true → o ≡ Greater
greater_from_test Less e = (cc)
greater_from_test Equal e = (cc)
greater_from_test Greater e = refl

-- Lemma: `is_ge` holds for all but Less, and `is_le` for all but Greater.
is_ge_from : (o : Ordering) → o ≢ Less → is_ge o ≡ true
is_ge_from Less not = absurd (not refl)
is_ge_from Equal not = refl
is_ge_from Greater not = refl

is_le_from : (o : Ordering) → o ≢ Greater → is_le o ≡ true
is_le_from Less not = refl
is_le_from Equal not = refl
is_le_from Greater not = absurd (not refl)

-- Entries whose places for two probes are non-decreasing.
module _ (low high : RowRef → Ordering) (entries : List RowRef) (some : 1 ≤ length entries)
    (low_rises : IsNonDecreasingBy (λ a. ordering_index (low a)) entries) (high_rises : IsNonDecreasingBy (λ a. ordering_index (high a)) entries) where
  -- Lemma: if the first is not before the low position and the last is not after the high one, all entries are in the range.
  pub all_between : low (first_entry entries) ≢ Less → high (last_entry entries) ≢ Greater → entries_between low high entries ≡ entries
  all_between first last =
      filter-all (is_between low high) entries (λ k e within.
      let not_less : low (get_or entries k e) ≢ Less = not_less_from low entries 0 _ low_rises some first k e (omega arith) within in
      let not_greater : high (get_or entries k e) ≢ Greater =
      not_greater_up_to high entries (length entries - 1) _ high_rises (omega arith) last k e (omega arith) (omega arith) in
      rw (is_ge_from (low (get_or entries k e)) not_less) (is_le_from (high (get_or entries k e)) not_greater))

  -- Lemma: if the last is before the low position, no entry is in the range.
  pub none_from_low : low (last_entry entries) ≡ Less → entries_between low high entries ≡ []
  none_from_low last =
      filter-none (is_between low high) entries (λ k e within.
      let less : low (get_or entries k e) ≡ Less = less_up_to low entries (length entries - 1) _ low_rises (omega arith) last k e (omega arith) (omega arith) in
      ap (λ o. is_ge o && is_le (high (get_or entries k e))) less)

  -- Lemma: if the first is after the high position, no entry is in the range.
  pub none_to_high : high (first_entry entries) ≡ Greater → entries_between low high entries ≡ []
  none_to_high first =
      filter-none (is_between low high) entries (λ k e within.
      let greater : high (get_or entries k e) ≡ Greater = greater_from high entries 0 _ high_rises some first k e (omega arith) within in
      ap (λ o. is_ge (low (get_or entries k e)) && is_le o) greater ∙ and_false (is_ge (low (get_or entries k e))))

-- Lemma: if a list begins with another list and two appended ones, it begins with the other list.
pub front_kept : {X : Type 0} (old more rest mid new : List X) → mid ≡ old ++ more ++ rest → take (length mid) new ≡ mid → take (length old) new ≡ old
front_kept old more rest mid new is kept =
    let within : length old ≤ length mid = omega (arith, ap length is, length-append (old ++ more) rest, length-append old more) in
    sym (take-take (length old) (length mid) new within) ∙ ap (take (length old)) (kept ∙ is ∙ append_assoc old more rest)
    ∙ take_at old (more ++ rest) (length old) refl

-- Lemma: a consequence of an error's guarantee.
pub OnErr-weaker : {T E : Type 0} (r : Result T E) (P Q : Type 0) → (P → Q) → OnErr r P → OnErr r Q
OnErr-weaker (Ok v) P Q f h = tt
OnErr-weaker (Err e) P Q f h = f h
