use Rattle.structure_tests.specs.Orders.{IsByPlace}
use Rattle.structure_tests.proofs.trees.drain_right_side.Given as goal

-- the remaining references are in order
abbrev pub invariant-loop-number : goal.invariant-loop-number
invariant-loop-number g l = IsByPlace l.tree.refs

abbrev pub invariant-loop-number-2 : goal.invariant-loop-number-2
invariant-loop-number-2 g l = IsByPlace l.tree.refs
