use Rattle.structure_tests.specs.Orders.{IsByPlace}
use Rattle.structure_tests.proofs.trees.toggle_both.Given as goal

-- the references of both are in order
abbrev pub invariant-loop-step : goal.invariant-loop-step
invariant-loop-step g l = record {
  tree : IsByPlace l.tree.refs;
  sorted : IsByPlace l.sorted.refs;
}
