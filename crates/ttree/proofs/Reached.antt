-- Lemmas about a root in a search by a probe: which entries the probe covers, and how its results increase.
use Rattle.std.proofs.Common.{◌-◌, ◌++◌, length, get_or, arith}
use Rattle.std.specs.List.{All}
use Rattle.std.specs.List.Sorted.{IsNonDecreasingBy}
use Rattle.std.specs.Ordering.{ordering_index}
use Rattle.std.specs.declared.cmp.Ordering.{Ordering}
use Rattle.mm_value.specs.declared.row_ref.RowRef.{RowRef}
use Rattle.mm_order.specs.Order.{IsOrdered}
use Rattle.mm_order.proofs.Ordered.{IsNonDecreasingBy-places}
use Rattle.ttree_node.specs.Entries.{first_entry, last_entry}
use Rattle.ttree_node.specs.Tree.{Root, fork, in_order}
use Rattle.ttree.specs.Searchable.{IsSearchable}
use Rattle.ttree.proofs.Parts.{IsOrdered-front, IsOrdered-middle, IsOrdered-back}

module _ (Covers : RowRef → Type 0) (cmp : RowRef → RowRef → Ordering) (Reaches : RowRef → Type 0) (place : RowRef → Ordering) (n : Root)
    (is : IsSearchable Covers cmp Reaches place (fork n)) where
  -- Lemma: the root's entries are ordered.
  pub root_ordered : IsOrdered Covers cmp n.entries
  root_ordered = IsOrdered-middle Covers cmp (in_order n.left) n.entries (in_order n.right) is.ordered

  -- Lemma: the probe covers each of them.
  pub reached : All Reaches n.entries
  reached k d within = is.monotone.reaches (get_or n.entries k d) (root_ordered.covered k d within)

  pub reached_first : Reaches (first_entry n.entries)
  reached_first = reached 0 (record { slot = 0 }) is.balanced.2.filled

  pub reached_last : Reaches (last_entry n.entries)
  reached_last = reached (length n.entries - 1) (record { slot = 0 }) (omega (arith, is.balanced.2.filled))

  -- Lemma: its results are non-decreasing along them.
  pub risen : IsNonDecreasingBy (λ a. ordering_index (place a)) n.entries
  risen = IsNonDecreasingBy-places Covers cmp n.entries root_ordered Reaches place is.monotone

  -- Lemma: both sides of the root can be searched too.
  pub left_searchable : IsSearchable Covers cmp Reaches place n.left
  left_searchable = record {
    balanced = is.balanced.0;
    ordered = IsOrdered-front Covers cmp (in_order n.left) n.entries (IsOrdered-front Covers cmp (in_order n.left ++ n.entries) (in_order n.right) is.ordered);
    monotone = is.monotone;
  }

  pub right_searchable : IsSearchable Covers cmp Reaches place n.right
  right_searchable = record {
    balanced = is.balanced.1;
    ordered = IsOrdered-back Covers cmp (in_order n.left ++ n.entries) (in_order n.right) is.ordered;
    monotone = is.monotone;
  }
