use Rattle.std.proofs.Common.{◌≡◌, ◌+◌, ◌≤◌, length, IfSome}
use Rattle.std.specs.Option.{option_copied}
use Rattle.ttree_node.specs.Tree.{tree_of, in_order, height_of}
use Rattle.ttree.specs.Balanced.{IsTTree}
use Rattle.ttree.proofs.Decides.{Narrows, entries_of}
use Rattle.ttree.proofs.look_up.bounding_node.Given as goal

-- The entries found and the rest of the tree decide the search.
abbrev pub invariant-loop-rest : goal.invariant-loop-rest
invariant-loop-rest g l = record {
  probe : l.seek.probe ≡ l.initial.seek.probe;
  steps : l.seek.count + height_of (tree_of (option_copied l.rest)) ≤ l.initial.seek.count + height_of (tree_of (option_copied l.fn.tree));
  balanced : IsTTree (tree_of (option_copied l.rest));
  filled : IfSome l.found (λ node. 1 ≤ length node.now.entries);
  narrows : Narrows (g.O.RefOrder.covers l.order) (g.O.RefOrder.cmp l.order) (g.P.Probe.place_of l.initial.seek.probe)
      (in_order (tree_of (option_copied l.fn.tree))) (entries_of (option_copied l.found)) (in_order (tree_of (option_copied l.rest)));
}

abbrev pub decreases-loop-rest : goal.decreases-loop-rest
decreases-loop-rest g l = height_of (tree_of (option_copied l.rest))
