use Rattle.std.proofs.Common.{◌<◌, All}
use Rattle.structure_tests.specs.Orders.{IsByPlace}
use Rattle.structure_tests.proofs.trees.fill_in_order.Given as goal

-- the references below the next are in the tree, in order
abbrev pub invariant-loop-number : goal.invariant-loop-number
invariant-loop-number g l = record {
  ordered : IsByPlace l.tree.refs;
  earlier : All (λ a. a.slot < l.number) l.tree.refs;
}
