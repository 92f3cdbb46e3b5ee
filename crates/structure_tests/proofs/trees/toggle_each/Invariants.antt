use Rattle.structure_tests.specs.Orders.{IsByPlace}
use Rattle.structure_tests.proofs.trees.toggle_each.Given as goal

-- the references are in order
abbrev pub invariant-loop-number : goal.invariant-loop-number
invariant-loop-number l = IsByPlace l.tree.refs
