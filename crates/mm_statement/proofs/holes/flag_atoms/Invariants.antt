use Rattle.std.proofs.Common.{◌≡◌, ◌++◌, map, take}
use Rattle.std.specs.List.{flat_map}
use Rattle.mm_lang.specs.Reading.{test_literals}
use Rattle.mm_statement.specs.Holes.{is_minus_one}
use Rattle.mm_statement.proofs.holes.flag_atoms.Given as goal

abbrev pub invariant-loop-atom : goal.invariant-loop-atom
invariant-loop-atom g l = l.flags.items ≡ l.fn.flags.items ++ map is_minus_one (flat_map test_literals (take l.atom-index l.atoms))
