use Rattle.std.proofs.Common.{rules}
use Rattle.mm_order.specs.Refs.{AddsInOrder}
use Rattle.mm_order.proofs.Ordered.{IsOrdered-removed}
use Rattle.ttree_node.specs.Tree.{tree_of, in_order}
use Rattle.ttree.proofs.tree.TTreeOrderedRefs.remove.Goals as goal

pub returns-then-remove_in_place-clause-ordered : goal.returns-then-remove_in_place-clause-ordered
returns-then-remove_in_place-clause-ordered g c =
    let loses : AddsInOrder (g.O.RefOrder.cmp c.args.order.now) (in_order (tree_of c.remove_in_place.new.tree)) c.args.gone c.args.self.now.refs = search
    rules in
    IsOrdered-removed _ _ (in_order (tree_of c.remove_in_place.new.tree)) c.args.gone c.args.self.now.refs c.requires.ordered loses

pub returns-then-held-clause-ordered : goal.returns-then-held-clause-ordered
returns-then-held-clause-ordered g c =
    let loses : AddsInOrder (g.O.RefOrder.cmp c.args.order.now) (in_order (tree_of c.remove_from-root.result.0)) c.args.gone c.args.self.now.refs = search
    rules in
    IsOrdered-removed _ _ (in_order (tree_of c.remove_from-root.result.0)) c.args.gone c.args.self.now.refs c.requires.ordered loses
