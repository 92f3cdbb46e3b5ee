use Rattle.std.proofs.Common.{◌≡◌, ◌++◌, map, take}
use Rattle.std.specs.List.{flat_map}
use Rattle.mm_lang.specs.Reading.{assignment_literals}
use Rattle.mm_statement.specs.Holes.{is_minus_one}
use Rattle.mm_statement.proofs.holes.flag_assignments.Given as goal

abbrev pub invariant-loop-assignment : goal.invariant-loop-assignment
invariant-loop-assignment l = l.flags.items ≡ l.fn.flags.items ++ map is_minus_one (flat_map assignment_literals (take l.assignment-index l.assignments))
