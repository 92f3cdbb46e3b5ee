use Rattle.std.proofs.Common.{◌≡◌, arith, rules}
use Rattle.ttree_node.specs.Tree.{height_of}
use Rattle.ttree.proofs.removes.mend.Goals as goal

pub returns-then-is_leaf-2-clause-height : goal.returns-then-is_leaf-2-clause-height
returns-then-is_leaf-2-clause-height c =
    let left : height_of c.args.node.left ≡ 0 = search rules in
    let right : height_of c.args.node.right ≡ 1 = search rules in
    record {
      not_lower = omega (arith, left, right);
      at_most_one_higher = omega (arith, left, right, c.absorb_right.ensures.height);
      where_equal = λ same. absurd (omega (arith, left, right, same));
    }
