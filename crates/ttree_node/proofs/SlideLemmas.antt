-- Moving entries to a child keeps the order of all entries.
use Rattle.std.proofs.Common.{◌≡◌, ℕ, List, [], ◌++◌, ◌-◌, length, take, drop, arith}
use Rattle.std.proofs.lemmas.List.{take-append-drop}
use Rattle.std.proofs.lemmas.Grind.{common_steps}
use Rattle.mm_value.specs.declared.row_ref.RowRef.{RowRef}
use Rattle.ttree_node.specs.Tree.{Tree, Empty, Fork, Root, fork, in_order}
use Rattle.ttree_node.specs.Slide.{IsNextTo, handed_on, slid_to_right}
use Rattle.ttree_node.specs.declared.slides.Side.TheVariants.{Right}

-- the end of a list, moved to the front of the next
moved_right : (k : ℕ) (before xs ys after : List RowRef) → before ++ take k xs ++ ([] ++ (drop k xs ++ ys) ++ after) ≡ before ++ xs ++ ([] ++ ys ++ after)
moved_right k before xs ys after = let e = take-append-drop k xs in grind (arith, common_steps)

-- to the right
pub in_order-slid_to_right : (t : Tree) (r : Root) → r.right ≡ t → IsNextTo Right t → in_order (fork (slid_to_right t r)) ≡ in_order (fork r)
in_order-slid_to_right Empty r is next = absurd next
in_order-slid_to_right (Fork left entries right) r is next =
    rw (is, next) (moved_right (length r.entries - handed_on (length r.entries) (length entries)) (in_order r.left) r.entries entries (in_order right))
