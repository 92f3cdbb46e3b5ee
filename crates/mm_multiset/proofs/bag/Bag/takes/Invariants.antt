use Rattle.std.proofs.Common.{◌≡◌, map, take}
use Rattle.mm_value.specs.Types.{type_of}
use Rattle.mm_multiset.proofs.bag.Bag.takes.Given as goal

-- the values so far have the types of their columns
abbrev pub invariant-loop-i : goal.invariant-loop-i
invariant-loop-i l = take l.i (map type_of l.row) ≡ take l.i l.self-inside.rows.types
