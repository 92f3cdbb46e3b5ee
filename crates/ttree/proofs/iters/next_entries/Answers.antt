use Rattle.std.proofs.Common.{◌≡◌, ◌-◌, ◌++◌, [], ◌∷◌, List, Option, Some, None, length, sym, ap, ◌∙◌, subst, arith}
use Rattle.std.proofs.lemmas.List.{append_assoc}
use Rattle.std.specs.Borrow.{Bor}
use Rattle.std.specs.Option.{option_copied}
use Rattle.ttree_node.specs.Tree.{Root, fork, tree_of, in_order, height_of}
use Rattle.ttree.specs.Balanced.{IsTTree}
use Rattle.ttree.specs.Path.{IsPath, IsStep, from_root, to_come}
use Rattle.ttree.proofs.Path.{IsPath-front, IsPath-last, to_come-push}
use Rattle.ttree.proofs.iters.next_entries.Goals as goal

-- Lemma: no node of a path is missing.
never : (old new : List (Option (Bor Root))) (node : Option (Bor Root)) → IsPath 28 old → old ≡ new ++ node ∷ [] → node ≡ None → ⊥
never old new node was is none =
    let step : IsStep (28 - length new) (tree_of (option_copied node)) = IsPath-last 28 new node (subst (IsPath 28) is was) in
    (subst (λ o. IsStep (28 - length new) (tree_of (option_copied o))) none step).some

-- Lemma: the deepest node fits the levels that are left.
deepest : (old new : List (Option (Bor Root))) (node : Option (Bor Root)) (root : Bor Root) → IsPath 28 old → old ≡ new ++ node ∷ [] → node ≡ Some root
    → IsStep (28 - length new) (fork root.now)
deepest old new node root was is some =
    subst (λ o. IsStep (28 - length new) (tree_of (option_copied o))) some (IsPath-last 28 new node (subst (IsPath 28) is was))

pub returns-in_err-node-clause-path : goal.returns-in_err-node-clause-path
returns-in_err-node-clause-path c = absurd (never _ _ _ c.requires c.in_ok-pop.ensures.items c.in_err-node.was)

pub returns-in_err-node-clause-none_before : goal.returns-in_err-node-clause-none_before
returns-in_err-node-clause-none_before c = absurd (never _ _ _ c.requires c.in_ok-pop.ensures.items c.in_err-node.was)

pub returns-in_err-node-clause-none : goal.returns-in_err-node-clause-none
returns-in_err-node-clause-none c = absurd (never _ _ _ c.requires c.in_ok-pop.ensures.items c.in_err-node.was)

pub descend-requires-clause-path : goal.descend-requires-clause-path
descend-requires-clause-path c = IsPath-front 28 c.pop.new.self.items c.in_ok-pop.field-0 (subst (IsPath 28) c.in_ok-pop.ensures.items c.requires)

pub descend-requires-clause-tree : goal.descend-requires-clause-tree
descend-requires-clause-tree c =
    let step : IsStep (28 - length c.pop.new.self.items) (fork c.in_ok-node.node.now) =
    deepest c.args.path.now.items c.pop.new.self.items c.in_ok-pop.field-0 c.in_ok-node.node c.requires c.in_ok-pop.ensures.items c.in_ok-node.was in
    subst IsTTree (sym c.right.ensures) step.balanced.1

pub descend-requires-clause-low : goal.descend-requires-clause-low
descend-requires-clause-low c =
    let step : IsStep (28 - length c.pop.new.self.items) (fork c.in_ok-node.node.now) =
    deepest c.args.path.now.items c.pop.new.self.items c.in_ok-pop.field-0 c.in_ok-node.node c.requires c.in_ok-pop.ensures.items c.in_ok-node.was in
    omega (arith, ap height_of c.right.ensures, step.low)

pub returns-clause-some : goal.returns-clause-some
returns-clause-some c =
    let step : IsStep (28 - length c.pop.new.self.items) (fork c.in_ok-node.node.now) =
    deepest c.args.path.now.items c.pop.new.self.items c.in_ok-pop.field-0 c.in_ok-node.node c.requires c.in_ok-pop.ensures.items c.in_ok-node.was in
    omega (arith, ap length c.iter.ensures, ap length c.entries.ensures.value, step.balanced.2.filled)

pub returns-clause-entries : goal.returns-clause-entries
returns-clause-entries c =
    let n = c.in_ok-node.node.now in
    let path : List (Option (Bor Root)) = c.pop.new.self.items in
    let right : in_order (tree_of (option_copied c.right.result)) ≡ in_order n.right = ap in_order c.right.ensures in
    let rest : to_come c.descend.new.path.items ≡ in_order n.right ++ to_come path = c.descend.ensures.entries ∙ ap (λ xs. xs ++ to_come path) right in
    ap to_come c.in_ok-pop.ensures.items
    ∙ to_come-push path c.in_ok-pop.field-0
    ∙ ap (λ o. from_root (tree_of (option_copied o)) ++ to_come path) c.in_ok-node.was
    ∙ append_assoc n.entries (in_order n.right) (to_come path)
    ∙ ap (λ xs. n.entries ++ xs) (sym rest)
    ∙ ap (λ xs. xs ++ to_come c.descend.new.path.items) (sym (c.iter.ensures ∙ c.entries.ensures.value))
