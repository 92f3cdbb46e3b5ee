use Rattle.std.proofs.Common.{◌≡◌, ◌++◌, length, take, sym, ap, ◌∙◌, subst, rules}
use Rattle.std.specs.Option.{option_copied}
use Rattle.ttree_node.specs.Tree.{tree_of, fork, node_count}
use Rattle.ttree.specs.Searchable.{IsSearchable}
use Rattle.ttree.proofs.Between.{front_kept, OnErr-weaker}
use Rattle.ttree.proofs.Reached.{left_searchable, right_searchable}
use Rattle.ttree.proofs.ranges.+copy_between.Goals as goal

pub copy_between-requires : goal.copy_between-requires
copy_between-requires g t c κs within =
    let n = c.in-Some.node.now in
    let whole : node_count (tree_of (option_copied c.args.tree)) ≡ node_count (fork n) = ap (λ o. node_count (tree_of (option_copied o))) c.in-Some.is in
    let smaller : node_count (tree_of (option_copied c.left.result)) ≡ node_count n.left = ap node_count c.left.ensures in
    let low = subst (IsSearchable _ _ _ _) (sym c.left.ensures) (left_searchable _ _ _ _ n (rw c.in-Some.is at c.requires.low)) in
    let high = subst (IsSearchable _ _ _ _) (sym c.left.ensures) (left_searchable _ _ _ _ n (rw c.in-Some.is at c.requires.high)) in
    (search rules, (search rules, (search rules, (search rules, (low, high)))))

pub copy_between-requires-then-is_within : goal.copy_between-requires-then-is_within
copy_between-requires-then-is_within g t c κs within =
    let n = c.in-Some.node.now in
    let whole : node_count (tree_of (option_copied c.args.tree)) ≡ node_count (fork n) = ap (λ o. node_count (tree_of (option_copied o))) c.in-Some.is in
    let smaller : node_count (tree_of (option_copied c.right.result)) ≡ node_count n.right = ap node_count c.right.ensures in
    let low = subst (IsSearchable _ _ _ _) (sym c.right.ensures) (right_searchable _ _ _ _ n (rw c.in-Some.is at c.requires.low)) in
    let high = subst (IsSearchable _ _ _ _) (sym c.right.ensures) (right_searchable _ _ _ _ n (rw c.in-Some.is at c.requires.high)) in
    (search rules, (search rules, (search rules, (search rules, (low, high)))))

pub returns-then-is_within-clause-err : goal.returns-then-is_within-clause-err
returns-then-is_within-clause-err g t c =
    let old = c.args.out.now in
    let mid = c.copy_all.new.out in
    let first = c.in_ok-copy_between.ensures.ok in
    let is = c.in_ok-copy_all.ensures.ok ∙ ap (λ xs. xs ++ c.entries.result.now) first in
    let old_len : old.len ≡ length old.items = search rules in
    let mid_len : mid.len ≡ length mid.items = search rules in
    OnErr-weaker c.copy_between-then-is_within.result _ _ (λ kept.
    rw old_len (front_kept old.items _ _ mid.items _ is (subst (λ k. take k c.copy_between-then-is_within.new.out.items ≡ mid.items) mid_len kept)))
    c.copy_between-then-is_within.ensures.err
