use Rattle.std.proofs.Common.{◌≡◌, ◌≢◌, ◌++◌, [], ◌∷◌, length, get_or, sym, ap, ◌∙◌, subst, length-append, arith}
use Rattle.std.proofs.Common.{rules}
use Rattle.std.specs.List.{All}
use Rattle.std.specs.Borrow.{Bor}
use Rattle.std.specs.Option.{option_copied}
use Rattle.std.specs.declared.cmp.Ordering.TheVariants.{Less}
use Rattle.ttree_node.specs.Tree.{Empty, Root, fork, tree_of, in_order}
use Rattle.ttree_node.specs.Paths.{tree_at, trail}
use Rattle.ttree_node.specs.declared.slides.Side.TheVariants.{Left, Right}
use Rattle.ttree_node.proofs.PathLemmas.{tree_at-left, tree_at-right, trail-right}
use Rattle.ttree.specs.Balanced.{IsTTree}
use Rattle.ttree.proofs.Walks.{IsFound, ordered_at, behind_left, found_here, found_before, behind_found, if_some}
use Rattle.ttree.proofs.in_place.bounding_path.Goals as goal

pub loop-rest-init : goal.loop-rest-init
loop-rest-init g c = record {
  here = ap (λ path. tree_at path (fork c.args.tree.now)) c.requires.empty ∙ ap fork (sym c.node.ensures);
  balanced = subst (λ r. IsTTree (fork r)) (sym c.node.ensures) c.requires.tree;
  deep = omega arith;
  behind = λ k d within. absurd (omega (arith, within, ap (λ path. length (trail path (fork c.args.tree.now))) c.requires.empty));
  found = tt;
}

pub is_before-requires-clause-some : goal.is_before-requires-clause-some
is_before-requires-clause-some g c =
    let tree : IsTTree (fork c.in-Some.node.now) = rw c.in-Some.is at c.loop-rest.invariant.balanced in
    tree.2.filled

pub is_before-requires-clause-covered_entries : goal.is_before-requires-clause-covered_entries
is_before-requires-clause-covered_entries g c =
    let n = c.in-Some.node.now in
    let here : tree_at c.loop-rest.path.items (fork c.args.tree.now) ≡ fork n =
    c.loop-rest.invariant.here ∙ ap (λ o. tree_of (option_copied o)) c.in-Some.is in
    (ordered_at _ _ (fork c.args.tree.now) c.requires.ordered c.loop-rest.path.items n here).covered

pub loop-rest-preserved-then-is_before : goal.loop-rest-preserved-then-is_before
loop-rest-preserved-then-is_before g c =
    let was = c.loop-rest.invariant in
    let n = c.in-Some.node.now in
    let whole = fork c.args.tree.now in
    let path = c.loop-rest.path.items in
    let tree : IsTTree (fork n) = rw c.in-Some.is at was.balanced in
    let here : tree_at path whole ≡ fork n = was.here ∙ ap (λ o. tree_of (option_copied o)) c.in-Some.is in
    let now : c.push.new.self.items ≡ path ++ Left ∷ [] = c.push.ensures.items in
    let longer = length-append path (Left ∷ []) in
    record {
      here = ap (λ p. tree_at p whole) now ∙ tree_at-left path whole n.left n.right n.entries here ∙ sym c.left-rest.ensures;
      balanced = subst IsTTree (sym c.left-rest.ensures) tree.0;
      deep = omega (arith, was.deep, ap length now, longer);
      behind = subst (λ p. All (λ a. g.O.RefOrder.cmp c.args.order.now c.args.sought a ≡ Less) (trail p whole)) (sym now)
          (behind_left _ _ (g.met.O.RefOrder.total c.args.order.now) c.args.sought c.requires.covered whole c.requires.ordered path n here tree.2.filled
          (c.is_before.ensures.0 c.if-is_before.true));
      found = if_some
          (λ (m : Bor Root). IsFound (g.O.RefOrder.cmp c.args.order.now) c.args.sought whole path c.loop-rest.depth m.now)
          (λ (m : Bor Root). IsFound (g.O.RefOrder.cmp c.args.order.now) c.args.sought whole c.push.new.self.items c.loop-rest.depth m.now)
          c.loop-rest.found
          (λ m found. subst (λ p. IsFound (g.O.RefOrder.cmp c.args.order.now) c.args.sought whole p c.loop-rest.depth m.now) (sym now)
          (found_before _ _ (g.met.O.RefOrder.total c.args.order.now) c.args.sought c.requires.covered whole c.requires.ordered path n here
          c.loop-rest.depth m.now was.deep found))
          was.found;
    }

pub loop-rest-preserved : goal.loop-rest-preserved
loop-rest-preserved g c =
    let was = c.loop-rest.invariant in
    let n = c.in-Some.node.now in
    let whole = fork c.args.tree.now in
    let path = c.loop-rest.path.items in
    let cmp = g.O.RefOrder.cmp c.args.order.now in
    let tree : IsTTree (fork n) = rw c.in-Some.is at was.balanced in
    let here : tree_at path whole ≡ fork n = was.here ∙ ap (λ o. tree_of (option_copied o)) c.in-Some.is in
    let now : c.push-else-is_before.new.self.items ≡ path ++ Right ∷ [] = c.push-else-is_before.ensures.items in
    let deep : c.len-depth.result ≡ length path = search rules in
    let longer = length-append path (Right ∷ []) in
    let not_before : cmp c.args.sought (get_or n.entries 0 c.args.sought) ≢ Less =
    λ less. let e = sym (c.is_before.ensures.1 less) ∙ c.if-is_before.false in cc in
    record {
      here = ap (λ p. tree_at p whole) now ∙ tree_at-right path whole n.left n.right n.entries here ∙ sym c.right-rest.ensures;
      balanced = subst IsTTree (sym c.right-rest.ensures) tree.1;
      deep = omega (arith, deep, ap length now, longer);
      behind = subst (λ p. All (λ a. cmp c.args.sought a ≡ Less) (trail p whole)) (sym now)
          (subst (All (λ a. cmp c.args.sought a ≡ Less)) (sym (trail-right path whole n.left n.right n.entries here)) was.behind);
      found = subst (λ p. IsFound cmp c.args.sought whole p c.len-depth.result n) (sym now)
          (subst (λ k. IsFound cmp c.args.sought whole (path ++ Right ∷ []) k n) (sym deep)
          (found_here _ _ (g.met.O.RefOrder.total c.args.order.now) c.args.sought c.requires.covered whole c.requires.ordered path n here not_before));
    }

pub returns-clause-at : goal.returns-clause-at
returns-clause-at g c =
    if_some
    (λ (m : Bor Root). IsFound (g.O.RefOrder.cmp c.args.order.now) c.args.sought (fork c.args.tree.now) c.loop-rest.path.items c.loop-rest.depth m.now)
    (λ (m : Bor Root). tree_at c.truncate.new.self.items (fork c.args.tree.now) ≡ fork m.now)
    c.loop-rest.found
    (λ m found. ap (λ p. tree_at p (fork c.args.tree.now)) c.truncate.ensures.items ∙ found.at)
    c.loop-rest.invariant.found

pub returns-clause-not_before : goal.returns-clause-not_before
returns-clause-not_before g c =
    if_some
    (λ (m : Bor Root). IsFound (g.O.RefOrder.cmp c.args.order.now) c.args.sought (fork c.args.tree.now) c.loop-rest.path.items c.loop-rest.depth m.now)
    (λ (m : Bor Root). g.O.RefOrder.cmp c.args.order.now c.args.sought (get_or m.now.entries 0 c.args.sought) ≢ Less)
    c.loop-rest.found
    (λ m found. found.not_before)
    c.loop-rest.invariant.found

pub returns-clause-behind : goal.returns-clause-behind
returns-clause-behind g c =
    let whole = fork c.args.tree.now in
    let none : tree_at c.loop-rest.path.items whole ≡ Empty = c.loop-rest.invariant.here ∙ ap (λ o. tree_of (option_copied o)) c.in_default.is in
    if_some
    (λ (m : Bor Root). IsFound (g.O.RefOrder.cmp c.args.order.now) c.args.sought whole c.loop-rest.path.items c.loop-rest.depth m.now)
    (λ (m : Bor Root). All (λ a. g.O.RefOrder.cmp c.args.order.now c.args.sought a ≡ Less) (in_order m.now.right ++ trail c.truncate.new.self.items whole))
    c.loop-rest.found
    (λ m found. subst (λ p. All (λ a. g.O.RefOrder.cmp c.args.order.now c.args.sought a ≡ Less) (in_order m.now.right ++ trail p whole))
    (sym c.truncate.ensures.items)
    (behind_found _ _ (g.met.O.RefOrder.total c.args.order.now) c.args.sought c.requires.covered whole c.requires.ordered c.loop-rest.path.items
    c.loop-rest.depth m.now none found c.loop-rest.invariant.behind))
    c.loop-rest.invariant.found
