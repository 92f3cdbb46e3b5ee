use Rattle.std.proofs.Common.{◌≡◌, ◌++◌, map, take}
use Rattle.std.specs.List.{flat_map}
use Rattle.mm_lang.specs.Reading.{position_literals}
use Rattle.mm_statement.specs.Holes.{is_minus_one}
use Rattle.mm_statement.proofs.holes.flag_positions.Given as goal

abbrev pub invariant-loop : goal.invariant-loop
invariant-loop l = l.flags.items ≡ l.fn.flags.items ++ map is_minus_one (flat_map position_literals (take l.index l.positions))
