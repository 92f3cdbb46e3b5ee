use Rattle.std.proofs.Common.{arith}
use Rattle.standing_tests.proofs.case.Case.go_back.Goals as goal

pub invariant_of-self : goal.invariant_of-self
invariant_of-self c = record {
  case = c.go_back.ensures.case;
  start = c.go_back.ensures.marks 0 0 (omega arith) (omega arith) c.self.invariant.start;
  mark = c.go_back.ensures.marks c.self.inside.mark.commands c.self.inside.mark.changes (omega arith) (omega arith) c.self.invariant.mark;
}
