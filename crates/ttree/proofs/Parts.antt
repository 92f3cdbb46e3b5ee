-- Lemmas about an ordered list in three parts, left, middle and right, and the position of a new reference.
use Rattle.std.proofs.Common.{◌≡◌, ◌≢◌, ℕ, zero, suc, ◌+◌, ◌-◌, ◌<◌, ◌≤◌, List, [], ◌∷◌, ◌++◌, length, get_or, take, drop, refl, sym, ap, ◌∙◌, subst, ⊎_elim}
use Rattle.std.proofs.Common.{arith, append_assoc, length-append, length-take, length-drop}
use Rattle.std.proofs.lemmas.Bool.{cases_lt}
use Rattle.std.proofs.lemmas.List.{take-append-drop, get_or_append_left, get_or-append-add, get_or_default, get_or-take}
use Rattle.std.proofs.lemmas.List.Elements.{All-append}
use Rattle.std.specs.List.{All, insert, remove}
use Rattle.std.specs.Ordering.{ordering_reverse}
use Rattle.std.specs.declared.cmp.Ordering.{Ordering}
use Rattle.std.specs.declared.cmp.Ordering.TheVariants.{Less, Greater}
use Rattle.mm_value.specs.declared.row_ref.RowRef.{RowRef}
use Rattle.mm_order.specs.Order.{IsTotalOrderOn, IsOrdered}
use Rattle.mm_order.specs.Refs.{AddsInOrder}
use Rattle.mm_order.proofs.Pairs.{All-append_left, All-append_right, AllPairs-append_left, AllPairs-append_right}

regroup : (a b c d : List RowRef) → (a ++ b) ++ (c ++ d) ≡ a ++ (b ++ c) ++ d
regroup a b c d = simp append_assoc

module _ (Covers : RowRef → Type 0) (cmp : RowRef → RowRef → Ordering) where
  -- Lemmas: the parts of an ordered list are ordered.
  pub IsOrdered-front : (xs ys : List RowRef) → IsOrdered Covers cmp (xs ++ ys) → IsOrdered Covers cmp xs
  IsOrdered-front xs ys was = record {
    covered = All-append_left Covers xs ys was.covered;
    ascending = AllPairs-append_left (λ a b. cmp a b ≡ Less) xs ys was.ascending;
  }

  pub IsOrdered-back : (xs ys : List RowRef) → IsOrdered Covers cmp (xs ++ ys) → IsOrdered Covers cmp ys
  IsOrdered-back xs ys was = record {
    covered = All-append_right Covers xs ys was.covered;
    ascending = AllPairs-append_right (λ a b. cmp a b ≡ Less) xs ys was.ascending;
  }

  pub IsOrdered-middle : (xs ys zs : List RowRef) → IsOrdered Covers cmp (xs ++ ys ++ zs) → IsOrdered Covers cmp ys
  IsOrdered-middle xs ys zs was = IsOrdered-back xs ys (IsOrdered-front (xs ++ ys) zs was)

  pub rest_ordered : (xs ys zs : List RowRef) → IsOrdered Covers cmp (xs ++ ys ++ zs) → IsOrdered Covers cmp (ys ++ zs)
  rest_ordered xs ys zs was = IsOrdered-back xs (ys ++ zs) (subst (IsOrdered Covers cmp) (append_assoc xs ys zs) was)

  -- Lemma: a reference is inserted into the empty list.
  pub adds_alone : (added : RowRef) → AddsInOrder cmp [] added (added ∷ [])
  adds_alone added = record {
    front = [];
    back = [];
    refs_are = refl;
    more_are = refl;
    above_front = λ k d within. absurd (omega arith);
    below_back = λ k d within. absurd (omega arith);
  }

  module _ (total : IsTotalOrderOn Covers cmp) where
    pub less_from_greater : (a b : RowRef) → Covers a → Covers b → cmp a b ≡ Greater → cmp b a ≡ Less
    less_from_greater a b in_a in_b e = total.antisymm b a in_b in_a ∙ ap ordering_reverse e

    module _ (added : RowRef) (covered : Covers added) (xs : List RowRef) (was : IsOrdered Covers cmp xs) where
      -- Lemma: a reference before the first of an ordered list is before all.
      pub below_all : cmp added (get_or xs 0 added) ≡ Less → All (λ a. cmp added a ≡ Less) xs
      below_all first zero d within = ap (cmp added) (get_or_default xs 0 d added within) ∙ first
      below_all first (suc k) d within =
          let head : cmp added (get_or xs 0 d) ≡ Less = ap (cmp added) (get_or_default xs 0 d added (omega arith)) ∙ first in
          total.trans added (get_or xs 0 d) (get_or xs (suc k) d) covered (was.covered 0 d (omega arith)) (was.covered (suc k) d within) head
          (was.ascending 0 (suc k) d (omega arith) within)

      -- Lemma: a reference after the last of an ordered list is after all.
      pub above_all : cmp (get_or xs (length xs - 1) added) added ≡ Less → All (λ a. cmp a added ≡ Less) xs
      above_all last k d within =
          let tail : cmp (get_or xs (length xs - 1) d) added ≡ Less = ap (λ a. cmp a added) (get_or_default xs (length xs - 1) d added (omega arith)) ∙ last in
          ⊎_elim
          (λ (before : k < length xs - 1). total.trans (get_or xs k d) (get_or xs (length xs - 1) d) added (was.covered k d within)
          (was.covered (length xs - 1) d (omega arith)) covered (was.ascending k (length xs - 1) d before (omega arith)) tail)
          (λ (at_end : length xs - 1 ≤ k). let same : length xs - 1 ≡ k = omega arith in subst (λ n. cmp (get_or xs n d) added ≡ Less) same tail)
          (cases_lt k (length xs - 1))

    module _ (middle : List RowRef) (was : IsOrdered Covers cmp middle) (some : 1 ≤ length middle) (added : RowRef) (covered : Covers added) where
      -- Lemma: if the reference is after all entries before a position, but not after the last, the position is not past the end.
      pub below_last : (at : ℕ) → All (λ a. cmp a added ≡ Less) (take at middle) → cmp added (get_or middle (length middle - 1) added) ≢ Greater
          → at < length middle
      below_last at before not_after =
          ⊎_elim
          (λ (h : at < length middle). h)
          (λ (beyond : length middle ≤ at).
          let place : length middle - 1 < at = omega arith in
          let less : cmp (get_or middle (length middle - 1) added) added ≡ Less =
          ap (λ a. cmp a added) (sym (get_or-take at middle (length middle - 1) added place))
          ∙ before (length middle - 1) added (omega (arith, length-take at middle)) in
          absurd (not_after (total.antisymm added (get_or middle (length middle - 1) added) covered (was.covered (length middle - 1) added (omega arith))
          ∙ ap ordering_reverse less)))
          (cases_lt at (length middle))

    -- Lemma: a reference is inserted into an ordered list before another ordered list.
    pub adds_before : (left middle right : List RowRef) → IsOrdered Covers cmp (middle ++ right) → 1 ≤ length middle → (added : RowRef) → Covers added
        → (more : List RowRef) → cmp added (get_or middle 0 added) ≡ Less → AddsInOrder cmp left added more
        → AddsInOrder cmp (left ++ middle ++ right) added (more ++ middle ++ right)
    adds_before left middle right rest_was some added covered more before adds =
        let first : cmp added (get_or (middle ++ right) 0 added) ≡ Less = ap (cmp added) (get_or_append_left middle right added 0 (omega arith)) ∙ before in
        record {
          front = adds.front;
          back = adds.back ++ (middle ++ right);
          refs_are = ap (λ xs. xs ++ middle ++ right) adds.refs_are ∙ simp append_assoc;
          more_are = ap (λ xs. xs ++ middle ++ right) adds.more_are ∙ simp append_assoc;
          above_front = adds.above_front;
          below_back = All-append (λ a. cmp added a ≡ Less) adds.back (middle ++ right) adds.below_back
              (below_all added covered (middle ++ right) rest_was first);
        }

    pub last_of : (left middle : List RowRef) (added : RowRef) → 1 ≤ length middle
        → get_or (left ++ middle) (length (left ++ middle) - 1) added ≡ get_or middle (length middle - 1) added
    last_of left middle added some =
        let place : length (left ++ middle) - 1 ≡ length left + (length middle - 1) = omega (arith, length-append left middle) in
        ap (λ n. get_or (left ++ middle) n added) place ∙ get_or-append-add left middle (length middle - 1) added

    -- Lemma: a reference is inserted into an ordered list after another ordered list.
    pub adds_after : (left middle right : List RowRef) → IsOrdered Covers cmp (left ++ middle) → 1 ≤ length middle → (added : RowRef) → Covers added
        → (more : List RowRef) → cmp added (get_or middle (length middle - 1) added) ≡ Greater → AddsInOrder cmp right added more
        → AddsInOrder cmp (left ++ middle ++ right) added (left ++ middle ++ more)
    adds_after left middle right front_was some added covered more after adds =
        let greatest : RowRef = get_or middle (length middle - 1) added in
        let greatest_covered : Covers greatest = (IsOrdered-back left middle front_was).covered (length middle - 1) added (omega arith) in
        let last : cmp (get_or (left ++ middle) (length (left ++ middle) - 1) added) added ≡ Less = ap (λ a. cmp a added) (last_of left middle added some)
        ∙ less_from_greater added greatest covered greatest_covered after in
        record {
          front = left ++ middle ++ adds.front;
          back = adds.back;
          refs_are = ap (λ xs. left ++ middle ++ xs) adds.refs_are ∙ simp append_assoc;
          more_are = ap (λ xs. left ++ middle ++ xs) adds.more_are ∙ simp append_assoc;
          above_front = All-append (λ a. cmp a added ≡ Less) (left ++ middle) adds.front
              (above_all added covered (left ++ middle) front_was last) adds.above_front;
          below_back = adds.below_back;
        }

    module _ (left middle right : List RowRef) (was : IsOrdered Covers cmp (left ++ middle ++ right)) (some : 1 ≤ length middle) (added : RowRef)
        (covered : Covers added) where
      -- Lemma: a reference is inserted before the middle.
      pub adds_left : (more : List RowRef) → cmp added (get_or middle 0 added) ≡ Less → AddsInOrder cmp left added more
          → AddsInOrder cmp (left ++ middle ++ right) added (more ++ middle ++ right)
      adds_left = adds_before left middle right (IsOrdered-back left (middle ++ right) (subst (IsOrdered Covers cmp) (append_assoc left middle right) was)) some
          added covered

      -- Lemma: a reference is inserted after the middle.
      pub adds_right : (more : List RowRef) → cmp added (get_or middle (length middle - 1) added) ≡ Greater → AddsInOrder cmp right added more
          → AddsInOrder cmp (left ++ middle ++ right) added (left ++ middle ++ more)
      adds_right = adds_after left middle right (IsOrdered-front (left ++ middle) right was) some added covered

      -- Lemma: a reference is inserted inside the middle.
      pub adds_between : (at : ℕ) → 1 ≤ at → at < length middle → All (λ a. cmp a added ≡ Less) (take at middle)
          → All (λ a. cmp a added ≡ Greater) (drop at middle) → AddsInOrder cmp (left ++ middle ++ right) added (left ++ insert middle at added ++ right)
      adds_between at above_first below_last before after =
          let front : List RowRef = left ++ take at middle in
          let back : List RowRef = drop at middle ++ right in
          let whole : front ++ back ≡ left ++ middle ++ right = regroup left (take at middle) (drop at middle) right
          ∙ ap (λ xs. left ++ xs ++ right) (take-append-drop at middle) in
          let parts_was : IsOrdered Covers cmp (front ++ back) = subst (IsOrdered Covers cmp) (sym whole) was in
          let last_place : length front - 1 ≡ length left + (at - 1) = omega (arith, length-append left (take at middle), length-take at middle) in
          let last_is : get_or front (length front - 1) added ≡ get_or (take at middle) (at - 1) added = ap (λ n. get_or front n added) last_place
          ∙ get_or-append-add left (take at middle) (at - 1) added in
          let last : cmp (get_or front (length front - 1) added) added ≡ Less = ap (λ a. cmp a added) last_is
          ∙ before (at - 1) added (omega (arith, length-take at middle)) in
          let first_is : get_or back 0 added ≡ get_or (drop at middle) 0 added =
          get_or_append_left (drop at middle) right added 0 (omega (arith, length-drop at middle)) in
          let first_after : cmp (get_or back 0 added) added ≡ Greater = ap (λ a. cmp a added) first_is ∙ after 0 added (omega (arith, length-drop at middle)) in
          let first_covered : Covers (get_or back 0 added) = (IsOrdered-back front back parts_was).covered 0 added
          (omega (arith, length-append (drop at middle) right, length-drop at middle)) in
          record {
            front = front;
            back = back;
            refs_are = sym whole;
            more_are = simp append_assoc;
            above_front = above_all added covered front (IsOrdered-front front back parts_was) last;
            below_back = below_all added covered back (IsOrdered-back front back parts_was)
                (less_from_greater (get_or back 0 added) added first_covered covered first_after);
          }

-- Lemma: a reference is inserted among the last entries of an ordered list, or after them.
module _ (Covers : RowRef → Type 0) (cmp : RowRef → RowRef → Ordering) (total : IsTotalOrderOn Covers cmp) (left middle : List RowRef)
    (was : IsOrdered Covers cmp (left ++ middle)) (added : RowRef) (covered : Covers added) where
  pub adds_behind : (at : ℕ) → 1 ≤ at → at ≤ length middle → All (λ a. cmp a added ≡ Less) (take at middle) → All (λ a. cmp a added ≡ Greater) (drop at middle)
      → AddsInOrder cmp (left ++ middle) added (left ++ insert middle at added)
  adds_behind at above_first bound before after =
      let front : List RowRef = left ++ take at middle in
      let whole : front ++ drop at middle ≡ left ++ middle = append_assoc left (take at middle) (drop at middle)
      ∙ ap (λ xs. left ++ xs) (take-append-drop at middle) in
      let parts_was : IsOrdered Covers cmp (front ++ drop at middle) = subst (IsOrdered Covers cmp) (sym whole) was in
      let last_place : length front - 1 ≡ length left + (at - 1) = omega (arith, length-append left (take at middle), length-take at middle) in
      let last : cmp (get_or front (length front - 1) added) added ≡ Less = ap (λ a. cmp a added) (ap (λ n. get_or front n added) last_place
      ∙ get_or-append-add left (take at middle) (at - 1) added)
      ∙ before (at - 1) added (omega (arith, length-take at middle)) in
      record {
        front = front;
        back = drop at middle;
        refs_are = sym whole;
        more_are = simp append_assoc;
        above_front = above_all Covers cmp total added covered front (IsOrdered-front Covers cmp front (drop at middle) parts_was) last;
        below_back = λ k d within. less_from_greater Covers cmp total (get_or (drop at middle) k d) added
            ((IsOrdered-back Covers cmp front (drop at middle) parts_was).covered k d within) covered (after k d within);
      }

moved : (left middle : List RowRef) (at : ℕ) (least added : RowRef) → 1 ≤ at → 1 ≤ length middle → get_or middle 0 least ≡ least
    → left ++ least ∷ [] ++ insert (remove middle 0) (at - 1) added ≡ left ++ insert middle at added
moved left [] at least added above_first some is = absurd (omega arith)
moved left (m ∷ ms) zero least added above_first some is = absurd (omega arith)
moved left (m ∷ ms) (suc n) least added above_first some is =
    let e : suc n - 1 ≡ n = omega arith in rw (e, append_assoc) (ap (λ a. left ++ a ∷ (take n ms ++ added ∷ drop n ms)) (sym is))

-- Lemma: moving the least entry to the left and inserting the new one among the others inserts the new one.
pub moved_least : (left middle : List RowRef) (at : ℕ) (least added : RowRef) → 1 ≤ at → 1 ≤ length middle → get_or middle 0 least ≡ least
    → left ++ least ∷ [] ++ insert (remove middle 0) (at - 1) added ≡ left ++ insert middle at added
moved_least left middle at least added above_first some is = moved left middle at least added above_first some is
