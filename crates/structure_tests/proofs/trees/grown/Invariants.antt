use Rattle.std.proofs.Common.{◌+◌, ◌<◌, ◌≤◌, All}
use Rattle.structure_tests.specs.Orders.{IsByPlace}
use Rattle.structure_tests.proofs.trees.grown.Given as goal

-- the references from 1000 - i on are in the tree, in order
abbrev pub invariant-down : goal.invariant-down
invariant-down g l = record {
  ordered : IsByPlace l.tree.refs;
  later : All (λ a. 1000 ≤ a.slot + l.i) l.tree.refs;
  earlier : All (λ a. a.slot < 1000) l.tree.refs;
}

-- the references below the next are in the tree, in order
abbrev pub invariant-up : goal.invariant-up
invariant-up g l = record {
  ordered : IsByPlace l.tree.refs;
  earlier : All (λ a. a.slot < l.number) l.tree.refs;
}
