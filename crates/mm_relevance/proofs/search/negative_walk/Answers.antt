use Rattle.std.proofs.Common.{arith}
use Rattle.mm_relevance.proofs.Turned.{no_walk, none_starts, skipped}
use Rattle.mm_relevance.proofs.search.negative_walk.Goals as goal
use Rattle.mm_relevance.proofs.search.negative_walk.Goals.{then-is_start+in_ok-walk+in_default, else-is_start}

pub loop-i-preserved : goal.loop-i-preserved
loop-i-preserved c =
    elim c.if-is_start.branch [
      | then-is_start+in_ok-walk+in_default w ↦
          let h = rw w.in_default.is at w.in_ok-walk.ensures in
          none_starts c.args.edges.now c.loop-i.i _ c.loop-i-test.true c.loop-i.invariant h
      | else-is_start w ↦ skipped c.args.edges.now c.loop-i.i c.loop-i-test.true (c.is_start.ensures w.if-is_start.false) c.loop-i.invariant
    ]

pub returns : goal.returns
returns c =
    no_walk c.args.edges.now (λ k d inside cost begins. c.loop-i.invariant k d (let past = c.loop-i-test.false in omega arith) (cost, begins))
