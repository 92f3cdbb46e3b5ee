use Rattle.standing_tests.proofs.case.Case.prepare_and_drop.Goals as goal

pub invariant_of-self : goal.invariant_of-self
invariant_of-self c = record {
  case = c.prepare_and_drop.ensures.case;
  start = c.prepare_and_drop.ensures.marks 0 0 c.self.invariant.start;
  mark = c.prepare_and_drop.ensures.marks c.self.inside.mark.commands c.self.inside.mark.changes c.self.invariant.mark;
}
