use Rattle.std.proofs.Common.{List, map, take}
use Rattle.mm_value.specs.declared.values.Value.{Value}
use Rattle.mm_statement.specs.Filling.{blank_value}
use Rattle.mm_statement.specs.steps.Refills.{RefillsPart}
use Rattle.mm_statement.proofs.refilling.filled_row.Given as goal

abbrev pub invariant-loop-literal : goal.invariant-loop-literal
invariant-loop-literal l =
    RefillsPart (map blank_value) (λ (t : List Value). t) l.fn.refiller l.refiller (take l.literal-index l.literal-items) l.filled
