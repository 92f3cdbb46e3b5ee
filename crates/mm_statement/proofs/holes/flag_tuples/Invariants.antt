use Rattle.std.proofs.Common.{◌≡◌, ◌++◌, List, map, take}
use Rattle.std.specs.List.{flat_map}
use Rattle.mm_value.specs.declared.values.Value.{Value}
use Rattle.mm_statement.specs.Holes.{is_minus_one}
use Rattle.mm_statement.proofs.holes.flag_tuples.Given as goal

abbrev pub invariant-loop-tuple : goal.invariant-loop-tuple
invariant-loop-tuple l = l.flags.items ≡ l.fn.flags.items ++ map is_minus_one (flat_map (λ (t : List Value). t) (take l.tuple-index l.tuple-items))
