-- Lemmas about paths with one more node, and with one less.
use Rattle.std.proofs.Common.{◌≡◌, ℕ, suc, ◌+◌, ◌-◌, ◌≤◌, List, [], ◌∷◌, ◌++◌, Option, Some, length, sym, ap, ◌∙◌, subst, arith}
use Rattle.std.proofs.lemmas.List.{append-nil, append_assoc}
use Rattle.std.specs.Borrow.{Bor}
use Rattle.std.specs.Option.{option_copied}
use Rattle.ttree_node.specs.Tree.{Root, fork, tree_of, in_order, height_of}
use Rattle.ttree.specs.Balanced.{IsTTree}
use Rattle.ttree.specs.Path.{IsPath, IsStep, from_root, to_come}

-- Lemma: the entries of a new deepest node come first.
pub to_come-push : (path : List (Option (Bor Root))) (node : Option (Bor Root))
    → to_come (path ++ node ∷ []) ≡ from_root (tree_of (option_copied node)) ++ to_come path
to_come-push [] node = sym (append-nil (from_root (tree_of (option_copied node))))
to_come-push (top ∷ below) node =
    ap (λ xs. xs ++ from_root (tree_of (option_copied top))) (to_come-push below node)
    ∙ append_assoc (from_root (tree_of (option_copied node))) (to_come below) (from_root (tree_of (option_copied top)))

-- Lemma: a tree with no more levels than the path has left can be appended.
pub IsPath-push : (levels : ℕ) (path : List (Option (Bor Root))) (node : Option (Bor Root)) → IsPath levels path
    → IsStep (levels - length path) (tree_of (option_copied node)) → IsPath levels (path ++ node ∷ [])
IsPath-push levels [] node was step =
    let e : levels - 0 ≡ levels = omega arith in
    (subst (λ n. IsStep n (tree_of (option_copied node))) e step, tt)
IsPath-push levels (top ∷ below) node was step =
    let e : levels - suc (length below) ≡ levels - 1 - length below = omega arith in
    (was.0, IsPath-push (levels - 1) below node was.1 (subst (λ n. IsStep n (tree_of (option_copied node))) e step))

-- Lemma: the deepest node, and the path without it.
pub IsPath-last : (levels : ℕ) (path : List (Option (Bor Root))) (node : Option (Bor Root)) → IsPath levels (path ++ node ∷ [])
    → IsStep (levels - length path) (tree_of (option_copied node))
IsPath-last levels [] node was =
    let e : levels ≡ levels - 0 = omega arith in
    subst (λ n. IsStep n (tree_of (option_copied node))) e was.0
IsPath-last levels (top ∷ below) node was =
    let e : levels - 1 - length below ≡ levels - suc (length below) = omega arith in
    subst (λ n. IsStep n (tree_of (option_copied node))) e (IsPath-last (levels - 1) below node was.1)

pub IsPath-front : (levels : ℕ) (path : List (Option (Bor Root))) (node : Option (Bor Root)) → IsPath levels (path ++ node ∷ []) → IsPath levels path
IsPath-front levels [] _ was = tt
IsPath-front levels (top ∷ below) node was = (was.0, IsPath-front (levels - 1) below node was.1)

module _ (path : List (Option (Bor Root))) (node : Bor Root) where
  -- Lemma: a root whose levels fit can be appended to the path.
  pub IsPath-descend : (levels : ℕ) → IsPath levels path → IsTTree (fork node.now) → length path + height_of (fork node.now) ≤ levels
      → IsPath levels (path ++ Some node ∷ [])
  IsPath-descend levels was balanced low =
      IsPath-push levels path (Some node) was (record { some = tt; balanced = balanced; low = omega arith })

  -- Lemma: after a root is appended, its left side comes next, and then the entries of the path.
  pub to_come-descend : in_order node.now.left ++ to_come (path ++ Some node ∷ []) ≡ in_order (fork node.now) ++ to_come path
  to_come-descend =
      ap (λ xs. in_order node.now.left ++ xs) (to_come-push path (Some node))
      ∙ sym (append_assoc (in_order node.now.left) (node.now.entries ++ in_order node.now.right) (to_come path))
      ∙ ap (λ xs. xs ++ to_come path) (sym (append_assoc (in_order node.now.left) node.now.entries (in_order node.now.right)))
