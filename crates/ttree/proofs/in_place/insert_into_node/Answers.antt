use Rattle.std.proofs.Common.{◌≡◌, ◌≢◌, ◌<◌, ◌≤◌, List, length, take, drop, sym, ap, ◌∙◌, subst, arith}
use Rattle.std.proofs.lemmas.List.Edits.{length-insert}
use Rattle.std.specs.List.{All, insert}
use Rattle.std.specs.declared.cmp.Ordering.TheVariants.{Less, Equal, Greater}
use Rattle.mm_value.specs.declared.row_ref.RowRef.{RowRef}
use Rattle.mm_order.specs.Order.{IsOrdered}
use Rattle.mm_order.specs.Refs.{AddsInOrder}
use Rattle.ttree_node.specs.Tree.{Root, fork, in_order, node_count}
use Rattle.ttree_node.specs.Paths.{HasRoomOnLeft, tree_at, root_entries, entries_at, with_entries, with_tree, exchanged}
use Rattle.ttree_node.proofs.PathLemmas.{same_count, count_with_tree, exchanged_count, exchanged_root}
use Rattle.ttree.specs.Balanced.{IsTTree}
use Rattle.ttree.proofs.Walks.{IsTTree-with, IsTTree-at, MayHave-more, ordered_at, All-at, adds_at}
use Rattle.ttree.proofs.InPlace.{IsTTree-with_tree, IsTTree-exchanged, in_order-exchanged_at}
use Rattle.ttree.proofs.in_place.insert_into_node.Goals as goal

pub place_among-at-requires-clause-ordered : goal.place_among-at-requires-clause-ordered
place_among-at-requires-clause-ordered g c =
    subst (IsOrdered (g.O.RefOrder.covers c.args.order.now) (g.O.RefOrder.cmp c.args.order.now)) (sym c.entries-2.ensures.value)
    (ordered_at _ _ (fork c.args.root.now) c.requires.ordered c.bounding_path.new.path.items c.in-Some.node.now c.in-Some.ensures.at)

pub place_among-at-requires-clause-apart : goal.place_among-at-requires-clause-apart
place_among-at-requires-clause-apart g c =
    let P : RowRef → Type 0 = λ a. g.O.RefOrder.cmp c.args.order.now a c.args.added ≢ Equal in
    subst (All P) (sym c.entries-2.ensures.value)
    (All-at P (fork c.args.root.now) c.requires.apart c.bounding_path.new.path.items c.in-Some.node.now c.in-Some.ensures.at)

pub place_among-at-requires-clause-some : goal.place_among-at-requires-clause-some
place_among-at-requires-clause-some g c =
    let tree : IsTTree (fork c.in-Some.node.now) = subst IsTTree c.in-Some.ensures.at
    (IsTTree-at c.bounding_path.new.path.items (fork c.args.root.now) c.requires.tree) in
    omega (arith, tree.2.filled, ap length c.entries-2.ensures.value)

pub returns-then-len-lt16-clause-tree : goal.returns-then-len-lt16-clause-tree
returns-then-len-lt16-clause-tree g c =
    let at = c.place_among-at.result in
    let path = c.as_slice.result.now in
    let entries = entries_at path (fork c.args.root.now) in
    let is : entries ≡ c.in-Some.node.now.entries = ap (λ p. entries_at p (fork c.args.root.now)) c.as_slice.ensures.value
    ∙ ap root_entries c.in-Some.ensures.at in
    let within : at ≤ length entries = omega (arith, ap length is, ap length c.entries-2.ensures.value, c.place_among-at.ensures.in_bounds) in
    let long = length-insert entries at c.args.added within in
    let room : length entries < 16 = omega (arith, ap length is, ap length c.entries.ensures.value, c.len-len.ensures.value, c.if-len-lt16.true) in
    subst IsTTree (sym c.put_entry_at.ensures) (IsTTree-with path (insert entries at c.args.added) (fork c.args.root.now) c.requires.tree
    (omega (arith, long)) (omega (arith, long, room))
    (MayHave-more (insert entries at c.args.added) (tree_at path (fork c.args.root.now))
    (IsTTree-at path (fork c.args.root.now) c.requires.tree) (omega (arith, long))))

pub returns-then-len-lt16-clause-nodes : goal.returns-then-len-lt16-clause-nodes
returns-then-len-lt16-clause-nodes g c = ap node_count c.put_entry_at.ensures ∙ same_count c.as_slice.result.now _ (fork c.args.root.now)

pub returns-then-len-lt16-clause-adds : goal.returns-then-len-lt16-clause-adds
returns-then-len-lt16-clause-adds g c =
    let cmp = g.O.RefOrder.cmp c.args.order.now in
    let n : Root = c.in-Some.node.now in
    let whole = fork c.args.root.now in
    let at = c.place_among-at.result in
    let path = c.bounding_path.new.path.items in
    let is : entries_at path whole ≡ n.entries = ap root_entries c.in-Some.ensures.at in
    let made : fork c.put_entry_at.new.self ≡ with_entries path (insert n.entries at c.args.added) whole =
    c.put_entry_at.ensures ∙ ap (λ p. with_entries p (insert (entries_at p whole) at c.args.added) whole) c.as_slice.ensures.value
    ∙ ap (λ es. with_entries path (insert es at c.args.added) whole) is in
    let before : All (λ a. cmp a c.args.added ≡ Less) (take at n.entries) =
    subst (λ (xs : List RowRef). All (λ a. cmp a c.args.added ≡ Less) (take at xs)) c.entries-2.ensures.value c.place_among-at.ensures.before in
    let after : All (λ a. cmp a c.args.added ≡ Greater) (drop at n.entries) =
    subst (λ (xs : List RowRef). All (λ a. cmp a c.args.added ≡ Greater) (drop at xs)) c.entries-2.ensures.value c.place_among-at.ensures.after in
    subst (λ t. AddsInOrder cmp (in_order whole) c.args.added (in_order t)) (sym made)
    (adds_at _ _ (g.met.O.RefOrder.total c.args.order.now) c.args.added c.requires.covered whole c.requires.ordered path n c.in-Some.ensures.at at
    c.place_among-at.ensures.above_first (omega (arith, ap length c.entries-2.ensures.value, c.place_among-at.ensures.in_bounds)) before after
    c.in-Some.ensures.behind)

pub returns-then-exchange_entry_at-clause-tree : goal.returns-then-exchange_entry_at-clause-tree
returns-then-exchange_entry_at-clause-tree g c =
    let n : Root = c.in-Some.node.now in
    let whole = fork c.args.root.now in
    let at = c.place_among-at.result in
    let path = c.as_slice-2.result.now in
    let here : tree_at path whole ≡ fork n = ap (λ p. tree_at p whole) c.as_slice-2.ensures.value ∙ c.in-Some.ensures.at in
    let within : at ≤ length n.entries = omega (arith, ap length c.entries-2.ensures.value, c.place_among-at.ensures.in_bounds) in
    let room : HasRoomOnLeft (fork n) = subst HasRoomOnLeft here c.if-exchange_entry_at.ensures.room in
    let node : IsTTree (fork n) = subst IsTTree here (IsTTree-at path whole c.requires.tree) in
    let made : IsTTree (exchanged at c.args.added (tree_at path whole)) = subst (λ t. IsTTree (exchanged at c.args.added t)) (sym here)
    (IsTTree-exchanged at c.args.added n c.place_among-at.ensures.above_first within node room) in
    subst IsTTree (sym c.if-exchange_entry_at.ensures.done)
    (IsTTree-with_tree path (exchanged at c.args.added (tree_at path whole)) whole c.requires.tree made (exchanged_root at c.args.added (tree_at path whole)))

pub returns-then-exchange_entry_at-clause-nodes : goal.returns-then-exchange_entry_at-clause-nodes
returns-then-exchange_entry_at-clause-nodes g c =
    let path = c.as_slice-2.result.now in
    let whole = fork c.args.root.now in
    let at = c.place_among-at.result in
    ap node_count c.if-exchange_entry_at.ensures.done
    ∙ count_with_tree path (exchanged at c.args.added (tree_at path whole)) whole (exchanged_count at c.args.added (tree_at path whole))

pub returns-then-exchange_entry_at-clause-adds : goal.returns-then-exchange_entry_at-clause-adds
returns-then-exchange_entry_at-clause-adds g c =
    let cmp = g.O.RefOrder.cmp c.args.order.now in
    let n : Root = c.in-Some.node.now in
    let whole = fork c.args.root.now in
    let at = c.place_among-at.result in
    let path = c.bounding_path.new.path.items in
    let same : c.as_slice-2.result.now ≡ path = c.as_slice-2.ensures.value in
    let room : HasRoomOnLeft (fork n) = subst HasRoomOnLeft (ap (λ p. tree_at p whole) same ∙ c.in-Some.ensures.at) c.if-exchange_entry_at.ensures.room in
    let node : IsTTree (fork n) = subst IsTTree c.in-Some.ensures.at (IsTTree-at path whole c.requires.tree) in
    let made : in_order (fork c.exchange_entry_at.new.self) ≡ in_order (with_entries path (insert n.entries at c.args.added) whole) =
    ap in_order (c.if-exchange_entry_at.ensures.done ∙ ap (λ p. with_tree p (exchanged at c.args.added (tree_at p whole)) whole) same
    ∙ ap (λ t. with_tree path (exchanged at c.args.added t) whole) c.in-Some.ensures.at)
    ∙ in_order-exchanged_at path at c.args.added n whole c.in-Some.ensures.at c.place_among-at.ensures.above_first node.2.filled room in
    let before : All (λ a. cmp a c.args.added ≡ Less) (take at n.entries) =
    subst (λ (xs : List RowRef). All (λ a. cmp a c.args.added ≡ Less) (take at xs)) c.entries-2.ensures.value c.place_among-at.ensures.before in
    let after : All (λ a. cmp a c.args.added ≡ Greater) (drop at n.entries) =
    subst (λ (xs : List RowRef). All (λ a. cmp a c.args.added ≡ Greater) (drop at xs)) c.entries-2.ensures.value c.place_among-at.ensures.after in
    subst (AddsInOrder cmp (in_order whole) c.args.added) (sym made)
    (adds_at _ _ (g.met.O.RefOrder.total c.args.order.now) c.args.added c.requires.covered whole c.requires.ordered path n c.in-Some.ensures.at at
    c.place_among-at.ensures.above_first (omega (arith, ap length c.entries-2.ensures.value, c.place_among-at.ensures.in_bounds)) before after
    c.in-Some.ensures.behind)
