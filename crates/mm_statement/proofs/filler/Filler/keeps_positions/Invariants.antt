use Rattle.std.proofs.Common.{take}
use Rattle.mm_statement.specs.steps.Fills.{Keeps}
use Rattle.mm_statement.proofs.filler.Filler.keeps_positions.Given as goal

abbrev pub invariant-loop-position : goal.invariant-loop-position
invariant-loop-position l = Keeps l.fn.self l.self (take l.position-index l.positions)
