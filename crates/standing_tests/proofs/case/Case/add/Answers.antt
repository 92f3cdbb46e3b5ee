use Rattle.standing_tests.proofs.case.Case.add.Goals as goal

pub invariant_of-self : goal.invariant_of-self
invariant_of-self c = record {
  case = c.add.ensures.case;
  start = c.add.ensures.marks 0 0 c.self.invariant.start;
  mark = c.add.ensures.marks c.self.inside.mark.commands c.self.inside.mark.changes c.self.invariant.mark;
}
