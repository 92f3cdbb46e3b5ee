use Rattle.std.proofs.Common.{◌≡◌, ℕ, ◌+◌, ◌-◌, ◌/◌, ◌≤◌, max, subst, arith}
use Rattle.ttree_node.specs.Tree.{tree_of, height_of}
use Rattle.ttree.specs.Balanced.{IsNode}
use Rattle.ttree.specs.Lowest.{IsLowest}
use Rattle.ttree.proofs.Leaves.{count_from_fork}
use Rattle.ttree.proofs.Lowest.{not_lower, one_level, IsLowest-root}
use Rattle.ttree.proofs.builds.+build.Goals as goal

pub returns-clause-tree : goal.returns-clause-tree
returns-clause-tree t c =
    let l : ℕ = c.args.nodes / 2 in
    let r : ℕ = c.args.nodes - 1 - c.args.nodes / 2 in
    let hl : ℕ = height_of (tree_of c.build-left.result) in
    let hr : ℕ = height_of (tree_of c.build-right.result) in
    let left : IsLowest l hl = c.build-left.ensures.lowest in
    let right : IsLowest r hr = c.build-right.ensures.lowest in
    let right_low : hr ≤ hl = not_lower l r hl hr left right (omega arith) (omega arith) in
    let left_low : hl ≤ hr + 1 = one_level l r hl hr left right (omega arith) (omega (arith, c.if-nodes-eq0.false)) in
    let node : IsNode 1 (tree_of c.build-left.result) c.split_at-2.result.0.now (tree_of c.build-right.result) = record {
      filled = omega (arith, c.split_at-2.ensures.front_len, c.min.ensures, c.split_at.ensures.back_len, c.requires.filled, c.if-nodes-eq0.false);
      fits = omega (arith, c.split_at-2.ensures.front_len, c.min.ensures);
      full = λ _ after. omega (
        arith,
        count_from_fork (tree_of c.build-right.result) after,
        c.build-right.ensures.nodes,
        c.split_at-2.ensures.front_len,
        c.min.ensures,
        c.split_at.ensures.back_len,
        c.requires.filled,
      );
      left_low = left_low;
      right_low = omega (arith, right_low);
    } in
    rw (c.set_right.ensures, c.set_left.ensures, c.node_of-node.ensures.node) (c.build-left.ensures.tree, c.build-right.ensures.tree, node)

pub returns-clause-lowest : goal.returns-clause-lowest
returns-clause-lowest t c =
    let l : ℕ = c.args.nodes / 2 in
    let r : ℕ = c.args.nodes - 1 - c.args.nodes / 2 in
    let hl : ℕ = height_of (tree_of c.build-left.result) in
    let hr : ℕ = height_of (tree_of c.build-right.result) in
    let root : IsLowest (l + r + 1) (max hl hr + 1) =
    IsLowest-root l r hl hr c.build-left.ensures.lowest c.build-right.ensures.lowest (omega arith) (omega (arith, c.if-nodes-eq0.false)) in
    let all : l + r + 1 ≡ c.args.nodes = omega (arith, c.if-nodes-eq0.false) in
    rw (c.set_right.ensures, c.set_left.ensures) (subst (λ (n : ℕ). IsLowest n (max hl hr + 1)) all root)
