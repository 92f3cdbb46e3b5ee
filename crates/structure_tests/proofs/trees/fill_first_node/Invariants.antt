use Rattle.std.proofs.Common.{◌+◌, ◌<◌, ◌≤◌, All}
use Rattle.structure_tests.specs.Orders.{IsByPlace}
use Rattle.structure_tests.proofs.trees.fill_first_node.Given as goal

-- the references below the next are in the tree, in order, and there is capacity for the others
abbrev pub invariant-loop-number : goal.invariant-loop-number
invariant-loop-number g l = record {
  room : 17 ≤ l.number + l.tree.spare;
  ordered : IsByPlace l.tree.refs;
  earlier : All (λ a. a.slot < l.number) l.tree.refs;
}
