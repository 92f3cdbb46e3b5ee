-- The requirements of a search by a probe.
use Rattle.std.specs.declared.cmp.Ordering.{Ordering}
use Rattle.mm_value.specs.declared.row_ref.RowRef.{RowRef}
use Rattle.mm_order.specs.Order.{IsOrdered}
use Rattle.mm_order.specs.Probe.{IsMonotone}
use Rattle.ttree_node.specs.Tree.{Tree, in_order}
use Rattle.ttree.specs.Balanced.{IsTTree}

-- A T-tree whose entries are ordered by an order that the probe agrees with.
pub record IsSearchable (Covers : RowRef → Type 0) (cmp : RowRef → RowRef → Ordering) (Reaches : RowRef → Type 0) (place : RowRef → Ordering)
    (tree : Tree) : Type 0 where
  pub balanced : IsTTree tree
  pub ordered : IsOrdered Covers cmp (in_order tree)
  pub monotone : IsMonotone Covers cmp Reaches place
