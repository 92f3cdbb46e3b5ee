use Rattle.mm_statement.specs.steps.Fills.{Goes}
use Rattle.mm_statement.proofs.parts.fill_few.Given as goal

abbrev pub invariant-loop-part : goal.invariant-loop-part
invariant-loop-part g l = Goes g.T.Fill.blank g.T.Fill.literals l.fn.filler l.filler l.fn.parts l.filled.items l.part-iterator
