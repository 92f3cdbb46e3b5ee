use Rattle.std.proofs.Common.{◌≡◌}
use Rattle.structure_tests.proofs.tree_nodes.fill.Given as goal

abbrev pub invariant-loop-number : goal.invariant-loop-number
invariant-loop-number g l = (l.node.left ≡ l.initial.node.left) × (l.node.right ≡ l.initial.node.right)
