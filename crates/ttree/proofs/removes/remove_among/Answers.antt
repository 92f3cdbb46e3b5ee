use Rattle.std.proofs.Common.{◌≡◌, ◌<◌, ◌++◌, length, sym, ap, subst, arith, rules}
use Rattle.std.specs.Prelude.{Some, Contains, slice_get}
use Rattle.std.specs.List.{remove}
use Rattle.std.proofs.lemmas.Option.{get_or_from_slice_get}
use Rattle.mm_order.specs.Refs.{AddsInOrder}
use Rattle.ttree_node.specs.Tree.{tree_of, in_order}
use Rattle.ttree.proofs.Parts.{IsOrdered-middle}
use Rattle.ttree.proofs.Taken.{adds_taken}
use Rattle.ttree.proofs.removes.remove_among.Goals as goal

pub find_held-requires-clause-ordered : goal.find_held-requires-clause-ordered
find_held-requires-clause-ordered g c =
    let n = c.args.node in
    rw c.entries.ensures.value (IsOrdered-middle _ _ (in_order n.left) n.entries (in_order n.right) c.requires.ordered)

pub returns-in-Some-clause-held : goal.returns-in-Some-clause-held
returns-in-Some-clause-held g c =
    let entries = c.args.node.entries in
    let inside : c.in-Some.i < length entries = omega (arith, ap length c.entries.ensures.value, c.in-Some.ensures.in_bounds) in
    let found : slice_get entries c.in-Some.i ≡ Some c.args.gone = rw c.entries.ensures.value at c.in-Some.ensures.found in
    let held : Contains entries c.args.gone = (c.in-Some.i, inside, get_or_from_slice_get entries c.in-Some.i c.args.gone c.args.gone found) in (
      λ _. held,
      λ _. search rules,
    )

pub returns-in-Some-clause-taken : goal.returns-in-Some-clause-taken
returns-in-Some-clause-taken g c =
    let n = c.args.node in
    let i = c.in-Some.i in
    let cmp = g.O.RefOrder.cmp c.args.order.now in
    let inside : i < length n.entries = omega (arith, ap length c.entries.ensures.value, c.in-Some.ensures.in_bounds) in
    let found : slice_get n.entries i ≡ Some c.args.gone = rw c.entries.ensures.value at c.in-Some.ensures.found in
    let made : in_order (tree_of c.refill.result) ≡ in_order n.left ++ remove n.entries i ++ in_order n.right = search rules in
    subst (λ xs. AddsInOrder cmp xs c.args.gone (in_order n.left ++ n.entries ++ in_order n.right)) (sym made)
    (adds_taken _ cmp (in_order n.left) n.entries (in_order n.right) i c.args.gone c.requires.ordered inside found)
