use Rattle.std.proofs.Common.{◌≡◌, ◌+◌, take}
use Rattle.ttree_node.specs.Tree.{Empty}
use Rattle.ttree.proofs.builds.node_of.Given as goal

-- The node has the references before `next`.
abbrev pub invariant-loop-i : goal.invariant-loop-i
invariant-loop-i l = record {
  node : l.node ≡ record { left = Empty; entries = take l.i l.refs; right = Empty };
  spare : l.spares + 1 ≡ l.fn.spares;
}
