use Rattle.std.proofs.Common.{◌≡◌, ◌≢◌, ℕ, ◌+◌, ◌-◌, ◌/◌, ◌^◌, ◌<◌, ◌≤◌, ◌⊎◌, get_or, length, refl, sym, ap, ◌∙◌, subst, ⊎_elim, arith}
use Rattle.std.proofs.lemmas.List.{get_or_default}
use Rattle.std.proofs.lemmas.Bool.{cases_order}
use Rattle.std.proofs.lemmas.Option.{slice_get_read}
use Rattle.std.specs.List.Sorted.{IsNonDecreasingBy}
use Rattle.std.specs.Ordering.{ordering_reverse, ordering_index}
use Rattle.std.specs.declared.cmp.Ordering.{Ordering}
use Rattle.std.specs.declared.cmp.Ordering.TheVariants.{Less, Equal, Greater}
use Rattle.mm_value.specs.declared.row_ref.RowRef.{RowRef}
use Rattle.ttree.proofs.Halving.{halved}
use Rattle.ttree.proofs.Taken.{itself, same_from_test}
use Rattle.mm_order.proofs.Monotone.{IsMonotone-at}
use Rattle.mm_order.proofs.Ordered.{IsNonDecreasingBy-places}
use Rattle.mm_order.proofs.Places.{greater_from_is_le, not_greater_from_is_le, greater_from}
use Rattle.mm_order.proofs.Same.{same_refs}
use Rattle.ttree.proofs.removes.find_held.Goals as goal
use Rattle.ttree.proofs.removes.find_held.Goals.{then-is_le, else-is_le}

pub loop-init : goal.loop-init
loop-init g c = record {
  some = omega (arith, c.requires.some, c.len-size.ensures.value);
  within = omega (arith, c.len-size.ensures.value);
  halved = omega (arith, c.requires.at_most_16, c.len-size.ensures.value);
  first = λ above. absurd (omega (arith, above));
  after = λ k e above below. absurd (omega (arith, above, below, c.len-size.ensures.value));
}

pub loop-preserved : goal.loop-preserved
loop-preserved g c =
    let was = c.loop.invariant in
    let cmp = g.O.RefOrder.cmp c.args.order.now in
    let place : RowRef → Ordering = λ a. cmp a c.args.gone in
    let entries = c.args.entries.now in
    let d : RowRef = record { slot = 0 } in
    let middle : ℕ = c.loop.low + c.loop.size / 2 in
    let rest : ℕ = c.loop.size - c.loop.size / 2 in
    let inside : middle < length entries = omega (arith, was.within, was.some) in
    let answer : place (get_or entries middle d) ≡ c.compare.result = sym (c.compare.ensures ∙ ap place c.get.ensures) in
    let half : rest ≤ 2 ^ (4 - (c.loop.counter + 1)) = halved 4 c.loop.counter c.loop.size rest c.loop-test.true was.halved (omega arith) in
    let rising : IsNonDecreasingBy (λ a. ordering_index (place a)) entries =
    IsNonDecreasingBy-places _ _ entries c.requires.ordered _ place
    (IsMonotone-at _ _ (g.met.O.RefOrder.total c.args.order.now) c.args.gone c.requires.covered) in
    elim c.if-is_le.branch [
      | then-is_le w ↦ record {
        some = omega (arith, was.some);
        within = omega (arith, w.low-is, was.within);
        halved = half;
        first = λ _. subst (λ k. place (get_or entries k d) ≢ Greater) (sym w.low-is)
            (subst (λ o. o ≢ Greater) (sym answer) (not_greater_from_is_le c.compare.result (sym c.is_le.ensures ∙ w.if-is_le.true)));
        after = λ k e above below. was.after k e (omega (arith, w.low-is)) below;
      }
      | else-is_le w ↦ record {
        some = omega (arith, was.some);
        within = omega (arith, w.low-is, was.within);
        halved = half;
        first = subst (λ k. 0 < k → place (get_or entries k d) ≢ Greater) (sym w.low-is) was.first;
        after = λ k e above below. greater_from place entries middle d rising inside
            (answer ∙ greater_from_is_le c.compare.result (sym c.is_le.ensures ∙ w.if-is_le.false)) k e (omega (arith, w.low-is)) below;
      }
    ]

pub returns-then-eq-clause-found : goal.returns-then-eq-clause-found
returns-then-eq-clause-found g c =
    let entries = c.args.entries.now in
    let d : RowRef = record { slot = 0 } in
    let low : ℕ = c.loop.low in
    let inside : low < length entries = omega (arith, c.loop.invariant.within, c.loop.invariant.some) in
    let same : c.get-2.result ≡ c.args.gone = same_from_test c.get-2.result c.args.gone (sym c.eq.ensures ∙ c.if-eq.true) in
    let read : c.args.gone ≡ get_or entries low c.args.gone = sym same ∙ c.get-2.ensures ∙ get_or_default entries low d c.args.gone inside in
    slice_get_read entries (length entries) low c.args.gone refl inside read

pub returns-clause-absent : goal.returns-clause-absent
returns-clause-absent g c (k, within, is) =
    let cmp = g.O.RefOrder.cmp c.args.order.now in
    let total = g.met.O.RefOrder.total c.args.order.now in
    let gone : RowRef = c.args.gone in
    let entries = c.args.entries.now in
    let d : RowRef = record { slot = 0 } in
    let low : ℕ = c.loop.low in
    let inside : low < length entries = omega (arith, c.loop.invariant.within, c.loop.invariant.some) in
    let ended : 4 - c.loop.counter ≡ 0 = omega arith in
    let one : c.loop.size ≤ 1 = omega (arith, c.loop.invariant.halved, ap (λ n. 2 ^ n) ended) in
    let equal : cmp gone gone ≡ Equal = itself _ cmp total gone c.requires.covered in
    ⊎_elim
    (λ (same : low ≡ k).
    let there : get_or entries low d ≡ gone = get_or_default entries low d gone inside ∙ ap (λ n. get_or entries n gone) same ∙ is in
    let e = same_refs c.get-2.result gone (c.get-2.ensures ∙ there) in
    cc (c.if-eq.false, c.eq.ensures))
    (λ (apart : (low < k) ⊎ (k < low)).
    ⊎_elim
    (λ (late : low < k).
    let greater : cmp gone gone ≡ Greater = ap (λ a. cmp a gone) (sym is) ∙ c.loop.invariant.after k gone (omega (arith, late, one)) within in
    cc)
    (λ (early : k < low).
    let less : cmp gone (get_or entries low gone) ≡ Less = ap (λ a. cmp a (get_or entries low gone)) (sym is)
    ∙ c.requires.ordered.ascending k low gone early inside in
    let greater : cmp (get_or entries low gone) gone ≡ Greater = total.antisymm (get_or entries low gone) gone
    (c.requires.ordered.covered low gone inside) c.requires.covered ∙ ap ordering_reverse less in
    absurd (c.loop.invariant.first (omega arith) (ap (λ a. cmp a gone) (get_or_default entries low d gone inside) ∙ greater)))
    apart)
    (cases_order low k)
