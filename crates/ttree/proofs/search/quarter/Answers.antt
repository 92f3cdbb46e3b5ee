use Rattle.std.proofs.Common.{◌≡◌, ℕ, ◌+◌, ◌<◌, ◌≤◌, List, length, get_or, sym, ap, ◌∙◌, arith}
use Rattle.std.specs.List.{AllWithin}
use Rattle.std.specs.List.Sorted.{IsNonDecreasingBy}
use Rattle.std.specs.Ordering.{ordering_index}
use Rattle.std.specs.declared.cmp.Ordering.{Ordering}
use Rattle.std.specs.declared.cmp.Ordering.TheVariants.{Greater}
use Rattle.mm_value.specs.declared.row_ref.RowRef.{RowRef}
use Rattle.mm_order.proofs.Places.{greater_from, greater_from_is_le}
use Rattle.ttree.proofs.search.quarter.Goals as goal
use Rattle.ttree.proofs.search.quarter.Goals.{then-is_le, else-is_le, then-is_le-2, else-is_le-2}

-- Lemma: all entries from a later one on are after the position too.
greater_past : (place : RowRef → Ordering) (entries : List RowRef) (at from : ℕ) (d : RowRef) → IsNonDecreasingBy (λ a. ordering_index (place a)) entries
    → at < length entries → place (get_or entries at d) ≡ Greater → at ≤ from → AllWithin (λ a. place a ≡ Greater) entries from (length entries)
greater_past place entries at from d rising within is past k e above below = greater_from place entries at d rising within is k e (omega arith) below

pub returns-else-is_le-3-clause-after : goal.returns-else-is_le-3-clause-after
returns-else-is_le-3-clause-after g c =
    let place = g.P.Probe.place_of c.args.seek.now.probe in
    let entries = c.args.entries.now in
    let d : RowRef = record { slot = 0 } in
    let start : ℕ = c.if-is_le-2.start in
    let probe = ap (λ s. s.probe) c.place.ensures.counted in
    let probe_later = ap (λ s. s.probe) c.place-2.ensures.counted ∙ probe in
    let second : place (get_or entries c.min-second.result d) ≡ c.place.result = sym (c.place.ensures.answer ∙ ap place c.get.ensures) in
    let third : place (get_or entries c.min-third.result d) ≡ c.place-2.result =
    sym (c.place-2.ensures.answer ∙ ap (g.P.Probe.place_of c.place.new.self.probe) c.get-2.ensures
    ∙ ap (λ p. g.P.Probe.place_of p (get_or entries c.min-third.result d)) probe) in
    let fourth : place (get_or entries c.min-fourth.result d) ≡ c.place-3.result =
    sym (c.place-3.ensures.answer ∙ ap (g.P.Probe.place_of c.place-2.new.self.probe) c.get-3.ensures
    ∙ ap (λ p. g.P.Probe.place_of p (get_or entries c.min-fourth.result d)) probe_later) in
    elim c.if-is_le-2.branch [
      | then-is_le-2 w ↦ greater_past place entries c.min-fourth.result (start + c.args.width) d c.requires.rising (omega arith)
          (fourth ∙ greater_from_is_le c.place-3.result (sym c.is_le-3.ensures ∙ c.if-is_le-3.false)) (omega (arith, w.start-is))
      | else-is_le-2 w ↦ elim c.if-is_le.branch [
        | then-is_le v ↦ greater_past place entries c.min-third.result (start + c.args.width) d c.requires.rising (omega arith)
            (third ∙ greater_from_is_le c.place-2.result (sym c.is_le-2.ensures ∙ w.if-is_le-2.false)) (omega (arith, w.start-is, v.start-is))
        | else-is_le v ↦ greater_past place entries c.min-second.result (start + c.args.width) d c.requires.rising (omega arith)
            (second ∙ greater_from_is_le c.place.result (sym c.is_le.ensures ∙ v.if-is_le.false)) (omega (arith, w.start-is, v.start-is))
      ]
    ]
