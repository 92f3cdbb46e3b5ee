-- Lemmas: when nothing matches a probe in an ordered list of three parts.
use Rattle.std.proofs.Common.{◌≡◌, ◌≢◌, ℕ, ◌+◌, ◌-◌, ◌<◌, ◌≤◌, List, ◌++◌, length, get_or, take, drop, ⊎_elim, sym, ap, ◌∙◌, subst, arith, length-append}
use Rattle.std.proofs.Common.{length-take, length-drop}
use Rattle.std.specs.Prelude.{Option, Some, None, IfNone}
use Rattle.std.proofs.lemmas.Bool.{cases_lt}
use Rattle.std.proofs.lemmas.List.{get_or_append_left, get_or-append-add, get_or-take, get_or-drop}
use Rattle.std.specs.List.{All}
use Rattle.std.specs.List.Sorted.{IsNonDecreasingBy}
use Rattle.std.specs.Ordering.{ordering_index}
use Rattle.std.specs.declared.cmp.Ordering.{Ordering}
use Rattle.std.specs.declared.cmp.Ordering.TheVariants.{Less, Equal, Greater}
use Rattle.mm_value.specs.declared.row_ref.RowRef.{RowRef}
use Rattle.mm_order.specs.Order.{IsOrdered}
use Rattle.mm_order.specs.Probe.{IsMonotone}
use Rattle.mm_order.proofs.Ordered.{IsNonDecreasingBy-places}
use Rattle.mm_order.proofs.Places.{less_up_to, greater_from}

module _ (Covers : RowRef → Type 0) (cmp : RowRef → RowRef → Ordering) (Reaches : RowRef → Type 0) (place : RowRef → Ordering)
    (monotone : IsMonotone Covers cmp Reaches place) (left middle right : List RowRef) (was : IsOrdered Covers cmp (left ++ middle ++ right)) (d : RowRef) where
  rise : IsNonDecreasingBy (λ a. ordering_index (place a)) (left ++ middle ++ right)
  rise = IsNonDecreasingBy-places Covers cmp (left ++ middle ++ right) was Reaches place monotone

  inside : (i : ℕ) → i < length middle → get_or (left ++ middle ++ right) (length left + i) d ≡ get_or middle i d
  inside i within = get_or_append_left (left ++ middle) right d (length left + i) (omega (arith, length-append left middle)) ∙ get_or-append-add left middle i d

  -- Lemma: from an entry of the middle on that is after the position, nothing matches.
  none_after : (i : ℕ) → i < length middle → place (get_or middle i d) ≡ Greater → (k : ℕ) (e : RowRef) → length left + i ≤ k
      → k < length (left ++ middle ++ right) → place (get_or (left ++ middle ++ right) k e) ≢ Equal
  none_after i within greater k e above below equal =
      let there : place (get_or (left ++ middle ++ right) (length left + i) d) ≡ Greater = ap place (inside i within) ∙ greater in
      let after : place (get_or (left ++ middle ++ right) k e) ≡ Greater =
      greater_from place (left ++ middle ++ right) (length left + i) d rise
      (omega (arith, length-append (left ++ middle) right, length-append left middle)) there k e above below in
      cc

  -- Lemma: up to an entry of the middle that is before the position, nothing matches.
  none_before : (i : ℕ) → i < length middle → place (get_or middle i d) ≡ Less → (k : ℕ) (e : RowRef) → k ≤ length left + i
      → place (get_or (left ++ middle ++ right) k e) ≢ Equal
  none_before i within less k e below equal =
      let there : place (get_or (left ++ middle ++ right) (length left + i) d) ≡ Less = ap place (inside i within) ∙ less in
      let before : place (get_or (left ++ middle ++ right) k e) ≡ Less =
      less_up_to place (left ++ middle ++ right) (length left + i) d rise
      (omega (arith, length-append (left ++ middle) right, length-append left middle)) there k e (omega arith) (omega arith) in
      cc

  -- Lemma: if the least of the middle is after the position and nothing on the left matches, nothing matches.
  pub none_from_left : 1 ≤ length middle → place (get_or middle 0 d) ≡ Greater → All (λ a. place a ≢ Equal) left
      → All (λ a. place a ≢ Equal) (left ++ middle ++ right)
  none_from_left some greater in_left k e within =
      ⊎_elim
      (λ (here : k < length left).
      let is : get_or (left ++ middle ++ right) k e ≡ get_or left k e = get_or_append_left (left ++ middle) right e k (omega (arith, length-append left middle))
      ∙ get_or_append_left left middle e k here in
      subst (λ x. place x ≢ Equal) (sym is) (in_left k e here))
      (λ (past : length left ≤ k). none_after 0 some greater k e (omega arith) within)
      (cases_lt k (length left))

  -- Lemma: if the least of the middle is before the position, nothing on the left matches.
  pub none_up_to : 1 ≤ length middle → place (get_or middle 0 d) ≡ Less → All (λ a. place a ≢ Equal) left
  none_up_to some less k e within =
      let is : get_or (left ++ middle ++ right) k e ≡ get_or left k e = get_or_append_left (left ++ middle) right e k (omega (arith, length-append left middle))
      ∙ get_or_append_left left middle e k within in
      subst (λ x. place x ≢ Equal) is (none_before 0 some less k e (omega arith))

-- Lemma: if all entries below an index are before the position of the probe, and the others after it, none matches.
pub none_around : (place : RowRef → Ordering) (entries : List RowRef) (at : ℕ) → at ≤ length entries → All (λ a. place a ≡ Less) (take at entries)
    → All (λ a. place a ≡ Greater) (drop at entries) → All (λ a. place a ≢ Equal) entries
none_around place entries at bound before after k e within equal =
    ⊎_elim
    (λ (low : k < at).
    let less : place (get_or entries k e) ≡ Less = ap place (sym (get_or-take at entries k e low)) ∙ before k e (omega (arith, length-take at entries)) in
    cc)
    (λ (high : at ≤ k).
    let there : at + (k - at) ≡ k = omega arith in
    let greater : place (get_or entries k e) ≡ Greater = ap place (ap (λ n. get_or entries n e) (sym there) ∙ sym (get_or-drop at entries (k - at) e))
    ∙ after (k - at) e (omega (arith, length-drop at entries)) in
    cc)
    (cases_lt k at)

-- Lemma: a fact holds in particular if there is no value.
pub IfNone-always : {X : Type 0} (o : Option X) (P : Type 0) → P → IfNone o P
IfNone-always None P p = p
IfNone-always (Some x) P p = tt
