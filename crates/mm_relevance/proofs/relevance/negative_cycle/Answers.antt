use Rattle.std.proofs.Common.{◌≡◌, ap, false, map, ◌∙◌, arith}
use Rattle.mm_relevance.specs.declared.edge.Edge.{Edge}
use Rattle.mm_relevance.specs.Walks.{number_in}
use Rattle.mm_relevance.proofs.Fulfilled.{no_walk_below, no_walk_met}
use Rattle.mm_relevance.proofs.Names.{cycle_of, no_cycle}
use Rattle.mm_relevance.proofs.relevance.negative_cycle.Goals as goal

pub returns-then-not-has_negative_edge : goal.returns-then-not-has_negative_edge
returns-then-not-has_negative_edge g c =
    let row = g.R.AsRow.row in
    let yes = c.if-not-has_negative_edge.true in
    let none : c.has_negative_edge.result ≡ false = grind arith in
    no_cycle c.args.query.now c.args.place (row c.args.row.now) c.as_slice-edges.result.now (c.as_slice-edges.ensures.value ∙ c.in_ok-found.ensures.value)
    (no_walk_below c.as_slice-edges.result.now (c.has_negative_edge.ensures none))

pub returns-then-meets_all : goal.returns-then-meets_all
returns-then-meets_all g c =
    let row = g.R.AsRow.row in
    no_cycle c.args.query.now c.args.place (row c.args.row.now) c.as_slice-edges.result.now (c.as_slice-edges.ensures.value ∙ c.in_ok-found.ensures.value)
    (no_walk_met c.as_slice-edges.result.now (number_in c.of-relaxation.result.numbers) (c.meets_all.ensures c.if-meets_all.true))

pub returns-in-Some : goal.returns-in-Some
returns-in-Some g c = rw c.in-Some.is at c.in_ok-cycle.ensures

pub returns-in-Some-2 : goal.returns-in-Some-2
returns-in-Some-2 g c =
    let row = g.R.AsRow.row in
    let h = rw c.in-Some-2.is at c.in_ok-walk.ensures in
    cycle_of c.args.query.now c.args.place (row c.args.row.now) c.as_slice-edges.result.now c.in-Some-2.walk.items _
    (c.as_slice-edges.ensures.value ∙ c.in_ok-found.ensures.value) h (c.in_ok-names-in-Some-2.ensures ∙ ap (map (λ (e : Edge). e.name)) c.deref.ensures.value)

pub returns : goal.returns
returns g c =
    let row = g.R.AsRow.row in
    let h = rw c.in-None.is at c.in_ok-walk.ensures in
    no_cycle c.args.query.now c.args.place (row c.args.row.now) c.as_slice-edges.result.now (c.as_slice-edges.ensures.value ∙ c.in_ok-found.ensures.value) h
