use Rattle.mm_relevance.proofs.Names.{edges_more, near_more}
use Rattle.mm_relevance.proofs.edge.edges.Goals as goal

pub loop-conjunct-preserved : goal.loop-conjunct-preserved
loop-conjunct-preserved g c =
    let row = g.R.AsRow.row in
    record {
      value = edges_more c.args.query.now c.args.place (row c.args.row.now) c.as_slice-atoms.result.now c.loop-conjunct.conjunct c.index-atoms-conjunct.result
          c.loop-conjunct.found.items c.add.new.edges.items c.add-in-loop-conjunct.new.edges.items _
          c.bounds_of-bounds.result.lower c.bounds_of-bounds.result.upper c.loop-conjunct-test.true c.index-atoms-conjunct.is c.loop-conjunct.invariant.value
          c.bounds_of-bounds.ensures.lower c.bounds_of-bounds.ensures.upper c.in_ok-add.ensures c.in_ok-add-2.ensures;
      near = near_more c.args.query.now c.args.place (row c.args.row.now) c.add.new.edges.items c.add-in-loop-conjunct.new.edges.items
          c.bounds_of-bounds.result.upper c.in_ok-add-2.ensures
          (near_more c.args.query.now c.args.place (row c.args.row.now) c.loop-conjunct.found.items c.add.new.edges.items c.bounds_of-bounds.result.lower
          c.in_ok-add.ensures c.loop-conjunct.invariant.near c.bounds_of-bounds.ensures.lower_near) c.bounds_of-bounds.ensures.upper_near;
    }
