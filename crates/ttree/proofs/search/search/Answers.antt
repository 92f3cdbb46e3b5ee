use Rattle.std.proofs.Common.{◌≡◌, ℕ, ◌+◌, ◌<◌, get_or, sym, ap, ◌∙◌, arith, length-take}
use Rattle.std.proofs.lemmas.List.{get_or-take}
use Rattle.std.specs.declared.cmp.Ordering.TheVariants.{Less}
use Rattle.mm_value.specs.declared.row_ref.RowRef.{RowRef}
use Rattle.mm_order.proofs.Places.{less_up_to}
use Rattle.ttree.proofs.search.search.Goals as goal

pub returns-in-Less-clause-before : goal.returns-in-Less-clause-before
returns-in-Less-clause-before g c =
    let place = g.P.Probe.place_of c.args.seek.now.probe in
    let low : ℕ = c.quarter-low.result in
    let entries = c.args.entries.now in
    let d : RowRef = record { slot = 0 } in
    let there : place (get_or entries low d) ≡ Less =
    sym (c.in-Less.ensures.answer ∙ ap (g.P.Probe.place_of c.quarter-low.new.seek.probe) c.get.ensures
    ∙ ap (λ p. g.P.Probe.place_of p (get_or entries low d)) (c.quarter-low.ensures.probe ∙ c.quarter-fourth.ensures.probe)) in
    λ k e below.
    let within : k < low + 1 = omega (arith, length-take (low + 1) entries) in
    ap place (get_or-take (low + 1) entries k e within)
    ∙ less_up_to place entries low d c.requires.rising c.quarter-low.ensures.in_bounds there k e (omega arith) within
