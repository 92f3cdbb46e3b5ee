use Rattle.structure_tests.specs.Orders.{IsByPlace}
use Rattle.structure_tests.proofs.trees.remove_odd_numbers.Given as goal

-- the remaining references are in order
abbrev pub invariant-loop-half : goal.invariant-loop-half
invariant-loop-half g l = IsByPlace l.tree.refs
