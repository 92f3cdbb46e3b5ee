use Rattle.std.proofs.Common.{List, map, take}
use Rattle.std.specs.List.{flat_map}
use Rattle.mm_value.specs.declared.values.Value.{Value}
use Rattle.mm_statement.specs.Filling.{blank_value}
use Rattle.mm_statement.specs.steps.Refills.{RefillsPart}
use Rattle.mm_statement.proofs.refilling.filled_rows.Given as goal

abbrev pub invariant-loop-row : goal.invariant-loop-row
invariant-loop-row l =
    RefillsPart (map (map blank_value)) (flat_map (λ (t : List Value). t)) l.initial.refiller l.refiller (take l.row-index l.row-items) l.filled
