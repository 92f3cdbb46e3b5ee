use Rattle.std.proofs.Common.{ap, arith}
use Rattle.ttree_node.specs.Tree.{tree_of, height_of}
use Rattle.ttree.proofs.Sizes.{height_at_most_52}
use Rattle.ttree.proofs.tree.TTree.height.Goals as goal

pub height-requires : goal.height-requires
height-requires c =
    let low = height_at_most_52 (tree_of c.self.inside.root) c.self.invariant.balanced (omega (arith, c.self.invariant.nodes_fit)) in
    omega (arith, low, ap (λ o. height_of (tree_of o)) c.in-Some.is)
