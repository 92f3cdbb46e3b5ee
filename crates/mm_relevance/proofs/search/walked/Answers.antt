use Rattle.std.proofs.Common.{◌≡◌, ◌-◌, suc, ap, [], ◌∷◌, ◌++◌, ◌∙◌, arith}
use Rattle.mm_relevance.proofs.Closing.{fits_at, walking_moved, walking_takes, walking_stays, walking_done}
use Rattle.mm_relevance.proofs.search.walked.Goals as goal
use Rattle.mm_relevance.proofs.search.walked.Goals.{in-Some+in_ok-push, in_default}

pub taken-requires : goal.taken-requires
taken-requires c =
    fits_at c.args.edges.now c.args.target (c.loop-left.left - 1) c.deref.result.now (c.deref.ensures.value ∙ c.in_ok-reaches.ensures)
    (let few = c.loop-left.invariant.few in let t = c.loop-left-test.true in omega arith) c.requires.near

pub loop-left-preserved : goal.loop-left-preserved
loop-left-preserved c =
    let test = c.loop-left-test.true in
    let e : c.loop-left.left ≡ suc (c.loop-left.left - 1) = omega arith in
    let rs = c.deref.ensures.value ∙ c.in_ok-reaches.ensures in
    elim c.match-taken.branch [
      | in-Some+in_ok-push w ↦
          walking_moved c.args.edges.now c.args.target c.args.first (c.loop-left.left - 1) w.in-Some.reach.edge.right c.match-taken.at w.in-Some.reach.sum
          c.match-taken.owed
          (c.loop-left.cycle.items ++ w.in-Some.reach.edge ∷ []) c.match-taken.cycle.items w.at-is w.owed-is
          (ap (λ v. v.items) w.cycle-is ∙ w.in_ok-push.ensures.items)
          (walking_takes c.args.edges.now c.args.target c.args.first c.loop-left.left (c.loop-left.left - 1) c.loop-left.at c.loop-left.owed
          c.loop-left.cycle.items c.deref.result.now w.in-Some.reach
          c.loop-left.invariant e rs w.in-Some.ensures.0 w.in-Some.ensures.1)
      | in_default w ↦
          walking_moved c.args.edges.now c.args.target c.args.first (c.loop-left.left - 1) c.loop-left.at c.match-taken.at c.loop-left.owed c.match-taken.owed
          c.loop-left.cycle.items c.match-taken.cycle.items w.at-is w.owed-is (ap (λ v. v.items) w.cycle-is)
          (walking_stays c.args.edges.now c.args.target c.args.first c.loop-left.left (c.loop-left.left - 1) c.loop-left.at c.loop-left.owed
          c.loop-left.cycle.items c.deref.result.now
          c.loop-left.invariant e rs w.in_default.ensures)
    ]

pub returns : goal.returns
returns c =
    let test = c.loop-left-test.false in
    walking_done c.args.edges.now c.args.target c.args.first c.loop-left.left c.loop-left.at c.loop-left.owed c.loop-left.cycle.items c.loop-left.invariant
    (omega arith) c.requires.negative
