use Rattle.standing_tests.proofs.CaseSteps.{mark_now}
use Rattle.standing_tests.proofs.case.Case.set_mark.Goals as goal

pub invariant_of-self : goal.invariant_of-self
invariant_of-self c = record {
  case = c.self.invariant.case;
  start = c.self.invariant.start;
  mark = mark_now c.self.inside.store c.self.inside.standing c.self.invariant.case c.mark.result c.mark-2.result c.mark.ensures.is c.mark.ensures.rows
      c.mark-2.ensures;
}
