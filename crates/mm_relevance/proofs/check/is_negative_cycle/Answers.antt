use Rattle.std.proofs.Common.{◌≤◌, length, refl, sym, ◌∙◌, arith}
use Rattle.std.proofs.lemmas.Int.{ints}
use Rattle.mm_relevance.proofs.Checked.{closed, lost, none_accepted, follow_more, follow_stops, follow_ends, never, through}
use Rattle.mm_relevance.proofs.check.is_negative_cycle.Goals as goal

pub loop-name-preserved : goal.loop-name-preserved
loop-name-preserved g c =
    let row = g.R.AsRow.row in
    let i = c.loop-name.invariant in
    let near = c.in-Some-advance.ensures.near in
    let a = near.0 in
    let b = near.1 in
    record {
      followed = follow_more c.args.query.now c.args.place (row c.args.row.now) c.args.cycle.now c.loop-name.name-index _ _ c.loop-name.now
          c.in-Some-advance.next
          c.advance.result
          c.loop-name-test.true c.loop-name.invariant.followed c.advance.ensures.value c.in-Some-advance.is;
      high = omega (arith, ints);
      low = omega (arith, ints);
    }

pub returns-in_default : goal.returns-in_default
returns-in_default g c =
    let row = g.R.AsRow.row in
    let s : 1 ≤ length c.args.cycle.now = omega arith in
    never _ (none_accepted c.args.query.now c.args.place (row c.args.row.now) c.args.cycle.now _ _ s refl (sym c.edge_at.ensures.value ∙ c.in_default.is))

pub returns-in-None : goal.returns-in-None
returns-in-None g c =
    let row = g.R.AsRow.row in
    let s : 1 ≤ length c.args.cycle.now = omega arith in
    never _ (lost c.args.query.now c.args.place (row c.args.row.now) c.args.cycle.now _ _ c.in-Some.first _ s refl (sym c.in-Some.ensures.value) refl
    (follow_stops c.args.query.now c.args.place (row c.args.row.now) c.args.cycle.now c.loop-name.name-index _ _ c.loop-name.now c.advance.result
    c.loop-name-test.true c.loop-name.invariant.followed c.advance.ensures.value c.in-None.is))

pub returns : goal.returns
returns g c =
    let row = g.R.AsRow.row in
    let s : 1 ≤ length c.args.cycle.now = omega arith in
    through c.closes.result _ _ c.closes.ensures
    (closed c.args.query.now c.args.place (row c.args.row.now) c.args.cycle.now _ _ c.in-Some.first _ c.loop-name.now s (omega arith) refl
    (sym c.in-Some.ensures.value) refl
    (follow_ends c.args.query.now c.args.place (row c.args.row.now) c.args.cycle.now c.loop-name.name-index _ c.loop-name.now c.loop-name-test.false
    c.loop-name.invariant.followed))
