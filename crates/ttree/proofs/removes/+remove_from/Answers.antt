use Rattle.std.proofs.Common.{◌≡◌, ◌≢◌, ◌++◌, List, get_or, length, ◌-◌, sym, ap, ◌∙◌, subst, ⊎_elim, IsTrue, arith, rules}
use Rattle.std.specs.Prelude.{Contains}
use Rattle.std.proofs.lemmas.List.Elements.{Contains-append_left, Contains-append_right}
use Rattle.std.specs.declared.cmp.Ordering.{Ordering}
use Rattle.std.specs.declared.cmp.Ordering.TheVariants.{Less, Greater}
use Rattle.mm_value.specs.declared.row_ref.RowRef.{RowRef}
use Rattle.mm_order.specs.Order.{IsOrdered}
use Rattle.mm_order.specs.Refs.{AddsInOrder}
use Rattle.ttree_node.specs.Tree.{Tree, fork, height_of, tree_of, in_order}
use Rattle.ttree.specs.Balanced.{IsTTree, IsRootOver}
use Rattle.ttree.proofs.Parts.{IsOrdered-front, IsOrdered-middle, IsOrdered-back, adds_after, adds_before, rest_ordered}
use Rattle.ttree.proofs.Taken.{after_middle, contains_left, contains_from}
use Rattle.ttree.proofs.Turning.{lost_left, lost_right, over}
use Rattle.ttree.proofs.removes.+remove_from.Goals as goal

pub is_before-requires-clause-covered_entries : goal.is_before-requires-clause-covered_entries
is_before-requires-clause-covered_entries g t c =
    let n = c.in-Some.node in
    rw c.node.ensures (IsOrdered-middle _ _ (in_order n.left) n.entries (in_order n.right) (rw c.in-Some.is at c.requires.ordered)).covered

pub remove_from-left-requires : goal.remove_from-left-requires
remove_from-left-requires g t c κs within =
    let n = c.in-Some.node in
    let cmp : RowRef → RowRef → Ordering = g.O.RefOrder.cmp c.args.order.now in
    let is : in_order (tree_of c.take_left-left.result) ≡ in_order n.left = search rules in
    let was : IsOrdered (g.O.RefOrder.covers c.args.order.now) cmp (in_order n.left ++ n.entries ++ in_order n.right) = rw c.in-Some.is at c.requires.ordered in
    let ordered = IsOrdered-front _ _ (in_order n.left) n.entries (IsOrdered-front _ _ (in_order n.left ++ n.entries) (in_order n.right) was) in (
      search rules,
      (
        search rules,
        (
          search rules,
          (
            subst (IsOrdered (g.O.RefOrder.covers c.args.order.now) cmp) (sym is) ordered,
            (search rules, (search rules, search rules)),
          ),
        ),
      ),
    )

pub returns-then-not-held-clause-held : goal.returns-then-not-held-clause-held
returns-then-not-held-clause-held g t c =
    let n = c.in-Some.node in
    let cmp : RowRef → RowRef → Ordering = g.O.RefOrder.cmp c.args.order.now in
    let whole : in_order (tree_of c.args.tree) ≡ in_order n.left ++ n.entries ++ in_order n.right = search rules in
    let was : IsOrdered (g.O.RefOrder.covers c.args.order.now) cmp (in_order n.left ++ n.entries ++ in_order n.right) = rw c.in-Some.is at c.requires.ordered in
    let tree : IsTTree (fork n) = rw c.in-Some.is at c.requires.tree in
    let is : in_order (tree_of c.take_left-left.result) ≡ in_order n.left = search rules in
    let before : cmp c.args.gone (get_or n.entries 0 c.args.gone) ≡ Less = rw c.node.ensures at c.is_before.ensures.0 c.if-is_before.true in (
      λ no. absurd (search rules),
      λ held.
          let there : IsTrue c.remove_from-left.result.1 = c.remove_from-left.ensures.held.1 (subst (λ xs. Contains xs c.args.gone) (sym is)
          (contains_left _ _ (g.met.O.RefOrder.total c.args.order.now) c.args.gone c.requires.covered (in_order n.left) n.entries
          (in_order n.right) was tree.2.filled before (subst (λ xs. Contains xs c.args.gone) whole held))) in
          search rules,
    )

pub mend-requires-clause-root : goal.mend-requires-clause-root
mend-requires-clause-root g t c =
    let n = c.in-Some.node in
    let tree : IsTTree (fork n) = rw c.in-Some.is at c.requires.tree in
    let was : tree_of c.take_left-left.result ≡ n.left = search rules in
    let now : Tree = tree_of c.remove_from-left.result.0 in
    let is : c.set_left.new.self ≡ over now n.entries n.right = search rules in
    subst (IsRootOver 2) (sym is)
    (lost_left n.left n.entries n.right now tree c.remove_from-left.ensures.tree
    (omega (arith, c.remove_from-left.ensures.not_higher, ap height_of was))
    (omega (arith, c.remove_from-left.ensures.at_most_one_lower, ap height_of was))).0

pub returns-then-is_before-clause-taken : goal.returns-then-is_before-clause-taken
returns-then-is_before-clause-taken g t c =
    let n = c.in-Some.node in
    let cmp : RowRef → RowRef → Ordering = g.O.RefOrder.cmp c.args.order.now in
    let whole : in_order (tree_of c.args.tree) ≡ in_order n.left ++ n.entries ++ in_order n.right = search rules in
    let is : in_order (tree_of c.take_left-left.result) ≡ in_order n.left = search rules in
    let left : List RowRef = in_order (tree_of c.remove_from-left.result.0) in
    let made : in_order (fork c.mend.result) ≡ left ++ n.entries ++ in_order n.right = search rules in
    let was : IsOrdered (g.O.RefOrder.covers c.args.order.now) cmp (in_order n.left ++ n.entries ++ in_order n.right) = rw c.in-Some.is at c.requires.ordered in
    let tree : IsTTree (fork n) = rw c.in-Some.is at c.requires.tree in
    let before : cmp c.args.gone (get_or n.entries 0 c.args.gone) ≡ Less = rw c.node.ensures at c.is_before.ensures.0 c.if-is_before.true in
    let loses : AddsInOrder cmp left c.args.gone (in_order (tree_of c.take_left-left.result)) = search rules in
    subst (λ xs. AddsInOrder cmp xs c.args.gone (in_order (tree_of c.args.tree))) (sym made)
    (subst (AddsInOrder cmp (left ++ n.entries ++ in_order n.right) c.args.gone) (sym whole)
    (adds_before _ cmp (g.met.O.RefOrder.total c.args.order.now) left n.entries (in_order n.right)
    (rest_ordered _ cmp (in_order n.left) n.entries (in_order n.right) was) tree.2.filled c.args.gone c.requires.covered (in_order n.left) before
    (subst (AddsInOrder cmp left c.args.gone) is loses)))

pub remove_from-right-requires : goal.remove_from-right-requires
remove_from-right-requires g t c κs within =
    let n = c.in-Some.node in
    let cmp : RowRef → RowRef → Ordering = g.O.RefOrder.cmp c.args.order.now in
    let is : in_order (tree_of c.take_right-right.result) ≡ in_order n.right = search rules in
    let was : IsOrdered (g.O.RefOrder.covers c.args.order.now) cmp (in_order n.left ++ n.entries ++ in_order n.right) = rw c.in-Some.is at c.requires.ordered in
    let ordered = IsOrdered-back _ _ (in_order n.left ++ n.entries) (in_order n.right) was in (
      search rules,
      (
        search rules,
        (
          search rules,
          (
            subst (IsOrdered (g.O.RefOrder.covers c.args.order.now) cmp) (sym is) ordered,
            (search rules, (search rules, search rules)),
          ),
        ),
      ),
    )

pub returns-then-not-held-2-clause-held : goal.returns-then-not-held-2-clause-held
returns-then-not-held-2-clause-held g t c =
    let n = c.in-Some.node in
    let cmp : RowRef → RowRef → Ordering = g.O.RefOrder.cmp c.args.order.now in
    let whole : in_order (tree_of c.args.tree) ≡ in_order n.left ++ n.entries ++ in_order n.right = search rules in
    let was : IsOrdered (g.O.RefOrder.covers c.args.order.now) cmp (in_order n.left ++ n.entries ++ in_order n.right) = rw c.in-Some.is at c.requires.ordered in
    let tree : IsTTree (fork n) = rw c.in-Some.is at c.requires.tree in
    let is : in_order (tree_of c.take_right-right.result) ≡ in_order n.right = search rules in
    let not_before : cmp c.args.gone (get_or n.entries 0 c.args.gone) ≢ Less = λ less. let e = sym
    (c.is_before.ensures.1 (rw (← c.node.ensures) at less)) ∙ c.if-is_before.false in cc in
    let entries : c.set_right.new.self.entries ≡ n.entries = search rules in (
      λ found. subst (λ xs. Contains xs c.args.gone) (sym whole)
          (Contains-append_left (in_order n.left ++ n.entries) (in_order n.right) c.args.gone
          (Contains-append_right (in_order n.left) n.entries c.args.gone
          (subst (λ xs. Contains xs c.args.gone) entries (c.remove_among.ensures.held.0 found)))),
      λ held. ⊎_elim
          (λ (here : Contains n.entries c.args.gone).
          c.remove_among.ensures.held.1 (subst (λ xs. Contains xs c.args.gone) (sym entries) here))
          (λ (right : Contains (in_order n.right) c.args.gone).
          let there : IsTrue c.remove_from-right.result.1 =
          c.remove_from-right.ensures.held.1 (subst (λ xs. Contains xs c.args.gone) (sym is) right) in absurd (search rules))
          (contains_from _ _ (g.met.O.RefOrder.total c.args.order.now) c.args.gone c.requires.covered (in_order n.left) n.entries
          (in_order n.right) was tree.2.filled not_before (subst (λ xs. Contains xs c.args.gone) whole held)),
    )

pub mend-requires-2-clause-root : goal.mend-requires-2-clause-root
mend-requires-2-clause-root g t c =
    let n = c.in-Some.node in
    let tree : IsTTree (fork n) = rw c.in-Some.is at c.requires.tree in
    let was : tree_of c.take_right-right.result ≡ n.right = search rules in
    let now : Tree = tree_of c.remove_from-right.result.0 in
    let is : c.set_right.new.self ≡ over n.left n.entries now = search rules in
    subst (IsRootOver 2) (sym is)
    (lost_right n.left n.entries n.right now tree c.remove_from-right.ensures.tree
    (omega (arith, c.remove_from-right.ensures.not_higher, ap height_of was))
    (omega (arith, c.remove_from-right.ensures.at_most_one_lower, ap height_of was))).0

pub returns-clause-held : goal.returns-clause-held
returns-clause-held g t c =
    let n = c.in-Some.node in
    let whole : in_order (tree_of c.args.tree) ≡ in_order n.left ++ n.entries ++ in_order n.right = search rules in
    let is : in_order (tree_of c.take_right-right.result) ≡ in_order n.right = search rules in
    let there : IsTrue c.remove_from-right.result.1 = search rules in (
      λ some. subst (λ xs. Contains xs c.args.gone) (sym whole) (Contains-append_right (in_order n.left ++ n.entries) (in_order n.right) c.args.gone
          (subst (λ xs. Contains xs c.args.gone) is (c.remove_from-right.ensures.held.0 there))),
      λ _. search rules,
    )

pub returns-clause-taken : goal.returns-clause-taken
returns-clause-taken g t c =
    let n = c.in-Some.node in
    let cmp : RowRef → RowRef → Ordering = g.O.RefOrder.cmp c.args.order.now in
    let total = g.met.O.RefOrder.total c.args.order.now in
    let whole : in_order (tree_of c.args.tree) ≡ in_order n.left ++ n.entries ++ in_order n.right = search rules in
    let is : in_order (tree_of c.take_right-right.result) ≡ in_order n.right = search rules in
    let right : List RowRef = in_order (tree_of c.remove_from-right.result.0) in
    let made : in_order (fork c.mend-2.result) ≡ in_order n.left ++ n.entries ++ right = search rules in
    let was : IsOrdered (g.O.RefOrder.covers c.args.order.now) cmp (in_order n.left ++ n.entries ++ in_order n.right) = rw c.in-Some.is at c.requires.ordered in
    let tree : IsTTree (fork n) = rw c.in-Some.is at c.requires.tree in
    let there : IsTrue c.remove_from-right.result.1 = search rules in
    let held : Contains (in_order n.right) c.args.gone = subst (λ xs. Contains xs c.args.gone) is (c.remove_from-right.ensures.held.0 there) in
    let after : cmp c.args.gone (get_or n.entries (length n.entries - 1) c.args.gone) ≡ Greater =
    after_middle _ cmp total c.args.gone c.requires.covered (in_order n.left) n.entries (in_order n.right) was tree.2.filled held in
    let loses : AddsInOrder cmp right c.args.gone (in_order (tree_of c.take_right-right.result)) = search rules in
    subst (λ xs. AddsInOrder cmp xs c.args.gone (in_order (tree_of c.args.tree))) (sym made)
    (subst (AddsInOrder cmp (in_order n.left ++ n.entries ++ right) c.args.gone) (sym whole)
    (adds_after _ cmp total (in_order n.left) n.entries right (IsOrdered-front _ cmp (in_order n.left ++ n.entries) (in_order n.right) was)
    tree.2.filled c.args.gone c.requires.covered (in_order n.right) after (subst (AddsInOrder cmp right c.args.gone) is loses)))
