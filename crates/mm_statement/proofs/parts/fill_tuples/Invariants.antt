use Rattle.std.proofs.Common.{List, map, take}
use Rattle.std.specs.List.{flat_map}
use Rattle.mm_value.specs.declared.values.Value.{Value}
use Rattle.mm_statement.specs.Filling.{blank_value}
use Rattle.mm_statement.specs.steps.Fills.{Fills}
use Rattle.mm_statement.proofs.parts.fill_tuples.Given as goal

abbrev pub invariant-loop-tuple : goal.invariant-loop-tuple
invariant-loop-tuple l =
    Fills (map (map blank_value)) (flat_map (λ (t : List Value). t)) l.fn.filler l.filler (take l.tuple-index l.tuple-items) l.filled
