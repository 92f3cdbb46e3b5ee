use Rattle.std.proofs.Common.{◌≡◌, ◌++◌, length, sym, ap, ◌∙◌, subst, arith}
use Rattle.std.specs.Option.{option_copied}
use Rattle.ttree_node.specs.Tree.{fork, tree_of, in_order, height_of}
use Rattle.ttree.specs.Balanced.{IsTTree}
use Rattle.ttree.specs.Path.{IsPath, to_come}
use Rattle.ttree.proofs.Path.{IsPath-descend, to_come-descend}
use Rattle.ttree.proofs.iters.descend.Goals as goal

pub loop-edge-preserved : goal.loop-edge-preserved
loop-edge-preserved c =
    let was = c.loop-edge.invariant in
    let is : tree_of (option_copied c.loop-edge.edge) ≡ fork c.in-Some.node.now = ap (λ o. tree_of (option_copied o)) c.in-Some.is in
    let tree : IsTTree (fork c.in-Some.node.now) = subst IsTTree is was.tree in
    let left : tree_of (option_copied c.left-edge.result) ≡ c.in-Some.node.now.left = c.left-edge.ensures in
    record {
      path = subst (IsPath 28) (sym c.push.ensures.items)
          (IsPath-descend c.loop-edge.path.items c.in-Some.node 28 was.path tree (omega (arith, ap height_of is, was.low)));
      tree = subst IsTTree (sym left) tree.0;
      low = omega (arith, ap length c.push.ensures.items, c.push.ensures.len, ap height_of left, ap height_of is, was.low);
      entries = ap (λ t. in_order t ++ to_come c.push.new.self.items) left
          ∙ ap (λ p. in_order c.in-Some.node.now.left ++ to_come p) c.push.ensures.items
          ∙ to_come-descend c.loop-edge.path.items c.in-Some.node
          ∙ ap (λ t. in_order t ++ to_come c.loop-edge.path.items) (sym is)
          ∙ was.entries;
    }
