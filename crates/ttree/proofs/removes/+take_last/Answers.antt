use Rattle.std.proofs.Common.{◌≡◌, ◌-◌, [], ◌∷◌, ◌++◌, length, sym, ap, ◌∙◌, append_assoc, rules}
use Rattle.std.specs.Prelude.{Some, slice_get}
use Rattle.std.proofs.lemmas.List.{append-nil}
use Rattle.std.specs.List.{remove}
use Rattle.ttree_node.specs.Tree.{Empty, tree_of, in_order}
use Rattle.ttree.proofs.Taken.{remove_last-append}
use Rattle.ttree.proofs.removes.+take_last.Goals as goal

pub returns-in-None-clause-entries : goal.returns-in-None-clause-entries
returns-in-None-clause-entries t c =
    let n = c.args.node in
    let last = c.take_entry-last.result in
    let left = in_order n.left in
    let taken : slice_get n.entries (length n.entries - 1) ≡ Some last = search rules in
    let made : in_order (tree_of c.settle.result) ≡ left ++ remove n.entries (length n.entries - 1) ++ [] = search rules in
    let none : Empty ≡ n.right = c.in-None.ensures.taken in
    ap (λ xs. xs ++ last ∷ []) (made ∙ append-nil (left ++ remove n.entries (length n.entries - 1)))
    ∙ append_assoc left (remove n.entries (length n.entries - 1)) (last ∷ [])
    ∙ ap (λ xs. left ++ xs) (remove_last-append n.entries last c.requires.tree.2.filled taken) ∙ sym (append-nil (left ++ n.entries))
    ∙ ap (λ r. left ++ n.entries ++ in_order r) none
