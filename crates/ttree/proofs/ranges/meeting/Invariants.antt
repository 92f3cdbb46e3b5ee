use Rattle.std.proofs.Common.{◌≡◌, ◌≤◌}
use Rattle.std.specs.Option.{option_copied}
use Rattle.mm_order.specs.Probe.{entries_between}
use Rattle.ttree_node.specs.Tree.{in_order, node_count, tree_of}
use Rattle.ttree.specs.Searchable.{IsSearchable}
use Rattle.ttree.proofs.ranges.meeting.Given as goal

-- All entries in the range are in the rest of the tree.
abbrev pub invariant-loop-at : goal.invariant-loop-at
invariant-loop-at g l = record {
  low : IsSearchable (g.O.RefOrder.covers l.order) (g.O.RefOrder.cmp l.order) (g.L.Probe.covers l.low) (g.L.Probe.place_of l.low)
      (tree_of (option_copied l.at));
  high : IsSearchable (g.O.RefOrder.covers l.order) (g.O.RefOrder.cmp l.order) (g.H.Probe.covers l.high) (g.H.Probe.place_of l.high)
      (tree_of (option_copied l.at));
  no_larger : node_count (tree_of (option_copied l.at)) ≤ node_count (tree_of (option_copied l.tree));
  same_entries : entries_between (g.L.Probe.place_of l.low) (g.H.Probe.place_of l.high) (in_order (tree_of (option_copied l.at)))
      ≡ entries_between (g.L.Probe.place_of l.low) (g.H.Probe.place_of l.high) (in_order (tree_of (option_copied l.tree)));
}

abbrev pub decreases-loop-at : goal.decreases-loop-at
decreases-loop-at g l = node_count (tree_of (option_copied l.at))
