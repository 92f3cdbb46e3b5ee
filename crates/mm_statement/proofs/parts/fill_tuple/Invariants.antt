use Rattle.std.proofs.Common.{map, take}
use Rattle.mm_statement.specs.Filling.{blank_value}
use Rattle.mm_statement.specs.steps.Fills.{Fills}
use Rattle.mm_statement.proofs.parts.fill_tuple.Given as goal

abbrev pub invariant-loop-literal : goal.invariant-loop-literal
invariant-loop-literal l = Fills (map blank_value) (λ tuple. tuple) l.fn.filler l.filler (take l.literal-index l.literal-items) l.filled
