use Rattle.standing_tests.proofs.case.Case.remove.Goals as goal

pub invariant_of-self : goal.invariant_of-self
invariant_of-self c = record {
  case = c.remove.ensures.case;
  start = c.remove.ensures.marks 0 0 c.self.invariant.start;
  mark = c.remove.ensures.marks c.self.inside.mark.commands c.self.inside.mark.changes c.self.invariant.mark;
}
