use Rattle.structure_tests.specs.Orders.{IsByPlace}
use Rattle.structure_tests.proofs.trees.shrink.Given as goal

-- the remaining references are in order
abbrev pub invariant-loop-number : goal.invariant-loop-number
invariant-loop-number g l = IsByPlace l.tree.refs
