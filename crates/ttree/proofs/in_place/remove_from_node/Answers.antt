use Rattle.std.proofs.Common.{◌≡◌, ◌<◌, ◌≤◌, length, sym, ap, ◌∙◌, subst, arith}
use Rattle.std.specs.Prelude.{Some, slice_get}
use Rattle.std.proofs.lemmas.List.Edits.{length-remove}
use Rattle.std.specs.List.{remove}
use Rattle.mm_order.specs.Order.{IsOrdered}
use Rattle.mm_order.specs.Refs.{AddsInOrder}
use Rattle.ttree_node.specs.Tree.{Root, fork, in_order, node_count}
use Rattle.ttree_node.specs.Paths.{HasSpareOnLeft, tree_at, root_entries, entries_at, with_entries, with_tree, borrowed}
use Rattle.ttree_node.proofs.PathLemmas.{same_count, count_with_tree, borrowed_count, borrowed_root}
use Rattle.ttree.specs.Balanced.{IsTTree}
use Rattle.ttree.proofs.Walks.{IsTTree-with, IsTTree-at, MayHave, ordered_at}
use Rattle.ttree.proofs.InPlace.{IsTTree-with_tree, IsTTree-borrowed, in_order-borrowed_at, loses_at_path, held_at_path}
use Rattle.ttree.proofs.in_place.remove_from_node.Goals as goal

pub find_held-requires-clause-ordered : goal.find_held-requires-clause-ordered
find_held-requires-clause-ordered g c =
    subst (IsOrdered (g.O.RefOrder.covers c.args.order.now) (g.O.RefOrder.cmp c.args.order.now)) (sym c.entries.ensures.value)
    (ordered_at _ _ (fork c.args.root.now) c.requires.ordered c.bounding_path.new.path.items c.in-Some.node.now c.in-Some.ensures.at)

pub find_held-requires-clause-some : goal.find_held-requires-clause-some
find_held-requires-clause-some g c =
    let tree : IsTTree (fork c.in-Some.node.now) = subst IsTTree c.in-Some.ensures.at
    (IsTTree-at c.bounding_path.new.path.items (fork c.args.root.now) c.requires.tree) in
    omega (arith, tree.2.filled, ap length c.entries.ensures.value)

pub returns-then-has_spare-clause-tree : goal.returns-then-has_spare-clause-tree
returns-then-has_spare-clause-tree g c =
    let path = c.as_slice.result.now in
    let whole = fork c.args.root.now in
    let entries = entries_at path whole in
    let at = c.in-Some-find_held.at in
    let is : entries ≡ c.in-Some.node.now.entries = ap (λ p. entries_at p whole) c.as_slice.ensures.value ∙ ap root_entries c.in-Some.ensures.at in
    let inside : at < length entries = omega (arith, ap length is, ap length c.entries.ensures.value, c.in-Some-find_held.ensures.in_bounds) in
    let short = length-remove entries at inside in
    let n : Root = c.in-Some.node.now in
    let spare : 2 ≤ length n.entries = c.if-has_spare.ensures.some in
    let here : tree_at path whole ≡ fork n = ap (λ p. tree_at p whole) c.as_slice.ensures.value ∙ c.in-Some.ensures.at in
    let may : MayHave (remove entries at) (tree_at path whole) = subst (MayHave (remove entries at)) (sym here)
    (λ left right. omega (arith, c.if-has_spare.ensures.full left right, short, ap length is)) in
    subst IsTTree (sym c.take_entry_at.ensures.rest) (IsTTree-with path (remove entries at) whole c.requires.tree
    (omega (arith, short, spare, ap length is))
    (omega (arith, short, ap length is, ap length c.entries.ensures.value, c.entries.ensures.at_most_16)) may)

pub returns-then-has_spare-clause-nodes : goal.returns-then-has_spare-clause-nodes
returns-then-has_spare-clause-nodes g c = ap node_count c.take_entry_at.ensures.rest ∙ same_count c.as_slice.result.now _ (fork c.args.root.now)

pub returns-then-has_spare-clause-taken : goal.returns-then-has_spare-clause-taken
returns-then-has_spare-clause-taken g c =
    let n : Root = c.in-Some.node.now in
    let whole = fork c.args.root.now in
    let at = c.in-Some-find_held.at in
    let path = c.bounding_path.new.path.items in
    let is : entries_at path whole ≡ n.entries = ap root_entries c.in-Some.ensures.at in
    let made : fork c.take_entry_at.new.self ≡ with_entries path (remove n.entries at) whole =
    c.take_entry_at.ensures.rest ∙ ap (λ p. with_entries p (remove (entries_at p whole) at) whole) c.as_slice.ensures.value
    ∙ ap (λ es. with_entries path (remove es at) whole) is in
    let inside : at < length n.entries = omega (arith, ap length c.entries.ensures.value, c.in-Some-find_held.ensures.in_bounds) in
    let found : slice_get n.entries at ≡ Some c.args.gone = rw c.entries.ensures.value at c.in-Some-find_held.ensures.found in
    subst (λ t. AddsInOrder (g.O.RefOrder.cmp c.args.order.now) (in_order t) c.args.gone (in_order whole)) (sym made)
    (loses_at_path _ _ path at c.args.gone n whole c.requires.ordered c.in-Some.ensures.at inside found)

pub returns-then-has_spare-clause-held : goal.returns-then-has_spare-clause-held
returns-then-has_spare-clause-held g c =
    let n : Root = c.in-Some.node.now in
    let at = c.in-Some-find_held.at in
    let inside : at < length n.entries = omega (arith, ap length c.entries.ensures.value, c.in-Some-find_held.ensures.in_bounds) in
    let found : slice_get n.entries at ≡ Some c.args.gone = rw c.entries.ensures.value at c.in-Some-find_held.ensures.found in
    held_at_path c.bounding_path.new.path.items at c.args.gone n (fork c.args.root.now) c.in-Some.ensures.at inside found

pub returns-then-borrow_entry_at-clause-tree : goal.returns-then-borrow_entry_at-clause-tree
returns-then-borrow_entry_at-clause-tree g c =
    let n : Root = c.in-Some.node.now in
    let whole = fork c.args.root.now in
    let at = c.in-Some-find_held.at in
    let path = c.as_slice-2.result.now in
    let here : tree_at path whole ≡ fork n = ap (λ p. tree_at p whole) c.as_slice-2.ensures.value ∙ c.in-Some.ensures.at in
    let inside : at < length n.entries = omega (arith, ap length c.entries.ensures.value, c.in-Some-find_held.ensures.in_bounds) in
    let spare : HasSpareOnLeft (fork n) = subst HasSpareOnLeft here c.if-borrow_entry_at.ensures.spare in
    let node : IsTTree (fork n) = subst IsTTree here (IsTTree-at path whole c.requires.tree) in
    let made : IsTTree (borrowed at (tree_at path whole)) = subst (λ t. IsTTree (borrowed at t)) (sym here) (IsTTree-borrowed at n inside node spare) in
    subst IsTTree (sym c.if-borrow_entry_at.ensures.done)
    (IsTTree-with_tree path (borrowed at (tree_at path whole)) whole c.requires.tree made (borrowed_root at (tree_at path whole)))

pub returns-then-borrow_entry_at-clause-nodes : goal.returns-then-borrow_entry_at-clause-nodes
returns-then-borrow_entry_at-clause-nodes g c =
    let path = c.as_slice-2.result.now in
    let whole = fork c.args.root.now in
    let at = c.in-Some-find_held.at in
    ap node_count c.if-borrow_entry_at.ensures.done ∙ count_with_tree path (borrowed at (tree_at path whole)) whole (borrowed_count at (tree_at path whole))

pub returns-then-borrow_entry_at-clause-taken : goal.returns-then-borrow_entry_at-clause-taken
returns-then-borrow_entry_at-clause-taken g c =
    let n : Root = c.in-Some.node.now in
    let whole = fork c.args.root.now in
    let at = c.in-Some-find_held.at in
    let path = c.as_slice-2.result.now in
    let here : tree_at path whole ≡ fork n = ap (λ p. tree_at p whole) c.as_slice-2.ensures.value ∙ c.in-Some.ensures.at in
    let spare : HasSpareOnLeft (fork n) = subst HasSpareOnLeft here c.if-borrow_entry_at.ensures.spare in
    let inside : at < length n.entries = omega (arith, ap length c.entries.ensures.value, c.in-Some-find_held.ensures.in_bounds) in
    let found : slice_get n.entries at ≡ Some c.args.gone = rw c.entries.ensures.value at c.in-Some-find_held.ensures.found in
    let made : in_order (fork c.borrow_entry_at.new.self) ≡ in_order (with_entries path (remove n.entries at) whole) =
    ap in_order (c.if-borrow_entry_at.ensures.done ∙ ap (λ t. with_tree path (borrowed at t) whole) here) ∙ in_order-borrowed_at path at n whole here spare in
    subst (λ xs. AddsInOrder (g.O.RefOrder.cmp c.args.order.now) xs c.args.gone (in_order whole)) (sym made)
    (loses_at_path _ _ path at c.args.gone n whole c.requires.ordered here inside found)

pub returns-then-borrow_entry_at-clause-held : goal.returns-then-borrow_entry_at-clause-held
returns-then-borrow_entry_at-clause-held g c =
    let n : Root = c.in-Some.node.now in
    let at = c.in-Some-find_held.at in
    let inside : at < length n.entries = omega (arith, ap length c.entries.ensures.value, c.in-Some-find_held.ensures.in_bounds) in
    let found : slice_get n.entries at ≡ Some c.args.gone = rw c.entries.ensures.value at c.in-Some-find_held.ensures.found in
    held_at_path c.bounding_path.new.path.items at c.args.gone n (fork c.args.root.now) c.in-Some.ensures.at inside found
