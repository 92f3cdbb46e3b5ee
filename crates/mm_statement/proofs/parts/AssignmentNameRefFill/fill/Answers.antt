use Rattle.mm_statement.proofs.Fills.{assignment_filled}
use Rattle.mm_statement.proofs.parts.AssignmentNameRefFill.fill.Goals as goal

pub returns : goal.returns
returns c = assignment_filled c.args.filler.now c.fill_operand.new.filler c.args.self c.in_ok-filled.filled c.in_ok-filled.ensures
