use Rattle.std.proofs.Common.{rules}
use Rattle.mm_order.specs.Refs.{AddsInOrder}
use Rattle.mm_order.proofs.Ordered.{IsOrdered-added}
use Rattle.ttree_node.specs.Tree.{fork, tree_of, in_order}
use Rattle.ttree.proofs.tree.TTreeOrderedRefs.insert.Goals as goal

pub returns-clause-ordered : goal.returns-clause-ordered
returns-clause-ordered g c =
    let adds : AddsInOrder (g.O.RefOrder.cmp c.args.order.now) c.args.self.now.refs c.args.added (in_order (fork c.in-Ok.root)) = search rules in
    IsOrdered-added _ _ c.args.self.now.refs c.args.added (in_order (fork c.in-Ok.root)) c.requires.ordered c.requires.covered adds

pub returns-then-insert_in_place-clause-ordered : goal.returns-then-insert_in_place-clause-ordered
returns-then-insert_in_place-clause-ordered g c =
    let adds : AddsInOrder (g.O.RefOrder.cmp c.args.order.now) c.args.self.now.refs c.args.added (in_order (tree_of c.insert_in_place.new.tree)) = search
    rules in
    IsOrdered-added _ _ c.args.self.now.refs c.args.added (in_order (tree_of c.insert_in_place.new.tree)) c.requires.ordered c.requires.covered adds
