use Rattle.std.proofs.Common.{◌≡◌, ◌≤◌, length, All, IfSome}
use Rattle.std.specs.Option.{option_copied}
use Rattle.std.specs.declared.cmp.Ordering.TheVariants.{Less}
use Rattle.ttree_node.specs.Tree.{fork, tree_of, height_of}
use Rattle.ttree_node.specs.Paths.{tree_at, trail}
use Rattle.ttree.specs.Balanced.{IsTTree}
use Rattle.ttree.proofs.Walks.{IsFound}
use Rattle.ttree.proofs.in_place.bounding_path.Given as goal

-- All entries to the right of the way are after the reference, and the node found is on the way.
abbrev pub invariant-loop-rest : goal.invariant-loop-rest
invariant-loop-rest g l = record {
  here : tree_at l.path.items (fork l.tree) ≡ tree_of (option_copied l.rest);
  balanced : IsTTree (tree_of (option_copied l.rest));
  deep : l.depth ≤ length l.path.items;
  behind : All (λ a. g.O.RefOrder.cmp l.order l.sought a ≡ Less) (trail l.path.items (fork l.tree));
  found : IfSome l.found (λ n. IsFound (g.O.RefOrder.cmp l.order) l.sought (fork l.tree) l.path.items l.depth n.now);
}

abbrev pub decreases-loop-rest : goal.decreases-loop-rest
decreases-loop-rest g l = height_of (tree_of (option_copied l.rest))
