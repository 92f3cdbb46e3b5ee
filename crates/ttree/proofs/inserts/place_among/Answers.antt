use Rattle.std.proofs.Common.{◌≡◌, ◌≢◌, ℕ, ◌+◌, ◌-◌, ◌/◌, ◌^◌, ◌<◌, ◌≤◌, get_or, length, refl, sym, ap, ◌∙◌, subst, arith}
use Rattle.std.proofs.Common.{length-take}
use Rattle.std.proofs.lemmas.List.{get_or-take, get_or_default}
use Rattle.std.specs.List.Sorted.{IsNonDecreasingBy}
use Rattle.std.specs.Ordering.{ordering_reverse, ordering_index}
use Rattle.std.specs.declared.cmp.Ordering.{Ordering}
use Rattle.std.specs.declared.cmp.Ordering.TheVariants.{Less, Equal, Greater}
use Rattle.mm_value.specs.declared.row_ref.RowRef.{RowRef}
use Rattle.ttree.proofs.Halving.{halved}
use Rattle.mm_order.proofs.Monotone.{IsMonotone-at}
use Rattle.mm_order.proofs.Ordered.{IsNonDecreasingBy-places}
use Rattle.mm_order.proofs.Places.{less_from_is_lt, not_less_from_is_lt, less_up_to, greater_from}
use Rattle.ttree.proofs.inserts.place_among.Goals as goal
use Rattle.ttree.proofs.inserts.place_among.Goals.{then-is_lt, else-is_lt}

is_less : (o p : Ordering) → o ≡ ordering_reverse p → p ≢ Less → o ≢ Equal → o ≡ Less
is_less Less p turned not_less apart = refl
is_less Equal p turned not_less apart = absurd (apart refl)
is_less Greater Less turned not_less apart = absurd (not_less refl)
is_less Greater Equal turned not_less apart = cc
is_less Greater Greater turned not_less apart = cc

is_greater : (o : Ordering) → o ≢ Less → o ≢ Equal → o ≡ Greater
is_greater Less not_less not_equal = absurd (not_less refl)
is_greater Equal not_less not_equal = absurd (not_equal refl)
is_greater Greater not_less not_equal = refl

pub loop-init : goal.loop-init
loop-init g c =
    let cmp = g.O.RefOrder.cmp c.args.order.now in
    let entries = c.args.entries.now in
    let d : RowRef = record { slot = 0 } in
    let least : RowRef = get_or entries 0 d in
    let same : get_or entries 0 c.args.added ≡ least = get_or_default entries 0 c.args.added d c.requires.some in
    let turned = g.met.O.RefOrder.total c.args.order.now in
    record {
      some = omega (arith, c.requires.some, c.len-size.ensures.value);
      within = omega (arith, c.len-size.ensures.value);
      halved = omega (arith, c.requires.at_most_16, c.len-size.ensures.value);
      first = is_less (cmp least c.args.added) (cmp c.args.added least)
          (turned.antisymm least c.args.added (c.requires.ordered.covered 0 d c.requires.some) c.requires.covered)
          (subst (λ a. cmp c.args.added a ≢ Less) same c.requires.not_before) (c.requires.apart 0 d c.requires.some);
      after = λ k e above below. absurd (omega (arith, above, below, c.len-size.ensures.value));
    }

pub loop-preserved : goal.loop-preserved
loop-preserved g c =
    let was = c.loop.invariant in
    let cmp = g.O.RefOrder.cmp c.args.order.now in
    let place : RowRef → Ordering = λ a. cmp a c.args.added in
    let entries = c.args.entries.now in
    let d : RowRef = record { slot = 0 } in
    let middle : ℕ = c.loop.low + c.loop.size / 2 in
    let rest : ℕ = c.loop.size - c.loop.size / 2 in
    let inside : middle < length entries = omega (arith, was.within, was.some) in
    let answer : place (get_or entries middle d) ≡ c.compare.result = sym (c.compare.ensures ∙ ap place c.get.ensures) in
    let half : rest ≤ 2 ^ (4 - (c.loop.counter + 1)) = halved 4 c.loop.counter c.loop.size rest c.loop-test.true was.halved (omega arith) in
    let rising : IsNonDecreasingBy (λ a. ordering_index (place a)) entries =
    IsNonDecreasingBy-places _ _ entries c.requires.ordered _ place
    (IsMonotone-at _ _ (g.met.O.RefOrder.total c.args.order.now) c.args.added c.requires.covered) in
    elim c.if-is_lt.branch [
      | then-is_lt w ↦ record {
        some = omega (arith, was.some);
        within = omega (arith, w.low-is, was.within);
        halved = half;
        first = subst (λ k. place (get_or entries k d) ≡ Less) (sym w.low-is)
            (answer ∙ less_from_is_lt c.compare.result (sym c.is_lt.ensures ∙ w.if-is_lt.true));
        after = λ k e above below. was.after k e (omega (arith, w.low-is)) below;
      }
      | else-is_lt w ↦ record {
        some = omega (arith, was.some);
        within = omega (arith, w.low-is, was.within);
        halved = half;
        first = subst (λ k. place (get_or entries k d) ≡ Less) (sym w.low-is) was.first;
        after = λ k e above below. greater_from place entries middle d rising inside
            (is_greater (place (get_or entries middle d)) (subst (λ o. o ≢ Less) (sym answer)
            (not_less_from_is_lt c.compare.result (sym c.is_lt.ensures ∙ w.if-is_lt.false))) (c.requires.apart middle d inside)) k e (omega (arith, w.low-is))
            below;
      }
    ]

pub returns-clause-before : goal.returns-clause-before
returns-clause-before g c =
    let place : RowRef → Ordering = λ a. g.O.RefOrder.cmp c.args.order.now a c.args.added in
    let entries = c.args.entries.now in
    let low : ℕ = c.loop.low in
    let d : RowRef = record { slot = 0 } in
    let rising : IsNonDecreasingBy (λ a. ordering_index (place a)) entries =
    IsNonDecreasingBy-places _ _ entries c.requires.ordered _ place
    (IsMonotone-at _ _ (g.met.O.RefOrder.total c.args.order.now) c.args.added c.requires.covered) in
    λ k e below.
    let within : k < low + 1 = omega (arith, length-take (low + 1) entries) in
    ap place (get_or-take (low + 1) entries k e within)
    ∙ less_up_to place entries low d rising (omega (arith, c.loop.invariant.within, c.loop.invariant.some)) c.loop.invariant.first k e (omega arith) within
