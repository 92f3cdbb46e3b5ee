use Rattle.std.proofs.Common.{refl}
use Rattle.ttree_node.proofs.SlideLemmas.{in_order-slid_to_right}
use Rattle.ttree_node.proofs.nodes.Subtree.slide.Goals as goal

pub returns-in-Right-clause-same_entries : goal.returns-in-Right-clause-same_entries
returns-in-Right-clause-same_entries c =
    rw c.slide_right.ensures (in_order-slid_to_right c.args.self.now.right c.args.self.now refl (rw c.in-Right.is at c.requires))
