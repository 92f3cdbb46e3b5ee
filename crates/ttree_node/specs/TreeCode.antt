-- A tree encoded as a list, node by node, in which proofs store it.
use Rattle.std.specs.Prelude.{◌≡◌, ℕ, List, [], ◌∷◌, Option, Some, None, refl}
use Rattle.std.proofs.Common.{◌∙◌, ap}
use Rattle.std.specs.Coded.{Coded, code_by, coded×, coded_ℕ, coded_list, coded_option}
use Rattle.mm_value.specs.declared.row_ref.RowRef.{RowRef}
use Rattle.ttree_node.specs.Tree.{Tree, Empty, Fork, Root}

-- a reference is stored as its number
abbrev pub row_ref_code : Coded RowRef
row_ref_code = code_by ℕ coded_ℕ (λ r. r.slot) (λ n. record { slot = n }) (λ _. refl)

-- a tree written before a list: its left subtree, its right subtree, and then the entries of its root
abbrev pub written : Tree → List (Option (List RowRef)) → List (Option (List RowRef))
written Empty rest = None ∷ rest
written (Fork left entries right) rest = written left (written right (Some entries ∷ rest))

-- a node with the last two trees as its subtrees
abbrev pub joined : List RowRef → List Tree → List Tree
joined entries [] = []
joined entries (right ∷ []) = []
joined entries (right ∷ left ∷ before) = Fork left entries right ∷ before

-- the trees that a list encodes, the last one first
abbrev pub spelled : List (Option (List RowRef)) → List Tree → List Tree
spelled [] trees = trees
spelled (None ∷ rest) trees = spelled rest (Empty ∷ trees)
spelled (Some entries ∷ rest) trees = spelled rest (joined entries trees)

-- the first tree of a list
abbrev pub first_tree : List Tree → Tree
first_tree [] = Empty
first_tree (tree ∷ trees) = tree

-- decoding an encoded tree gives the tree
abbrev pub spelled-written : (tree : Tree) (rest : List (Option (List RowRef))) (trees : List Tree)
    → spelled (written tree rest) trees ≡ spelled rest (tree ∷ trees)
spelled-written Empty rest trees = refl
spelled-written (Fork left entries right) rest trees =
    spelled-written left (written right (Some entries ∷ rest)) trees ∙ spelled-written right (Some entries ∷ rest) (left ∷ trees)

-- a tree is stored as that list
abbrev pub tree_code : Coded Tree
tree_code = code_by (List (Option (List RowRef))) (coded_list (coded_option (coded_list row_ref_code))) (λ t. written t []) (λ xs. first_tree (spelled xs []))
    (λ t. ap first_tree (spelled-written t [] []))

-- a root is stored as its three parts
abbrev pub root_code : Coded Root
root_code = code_by (Tree × (List RowRef × Tree)) (coded× tree_code (coded× (coded_list row_ref_code) tree_code)) (λ r. (r.left, (r.entries, r.right)))
    (λ p. record { left = p.0; entries = p.1.0; right = p.1.1 }) (λ _. refl)
