use Rattle.std.proofs.Common.{◌≡◌, ◌+◌, ◌≤◌, length, sym, subst, rules}
use Rattle.ttree_node.specs.Slide.{IsNextTo, slid_to_left}
use Rattle.ttree_node.specs.Tree.{Root, height_of}
use Rattle.ttree_node.specs.Turn.{rotated_right}
use Rattle.ttree_node.specs.declared.slides.Side.TheVariants.{Left}
use Rattle.ttree.specs.Balanced.{IsRootOver}
use Rattle.ttree.proofs.Turning.{filled_left, low_left, raised_left, turned_left}
use Rattle.ttree.proofs.balance.lean_right.Goals as goal
use Rattle.ttree.proofs.balance.lean_right.Goals.{then-ends_at_root, else-ends_at_root}

pub returns-clause-root : goal.returns-clause-root
returns-clause-root c =
    let n = c.args.node in
    let high : height_of n.right + 1 ≤ height_of n.left = search rules in
    elim c.if-ends_at_root.branch [
      | then-ends_at_root w ↦
          let next : IsNextTo Left n.left = search rules in
          let made : c.rotate_right.result ≡ rotated_right (slid_to_left n.left n) = search rules in
          subst (IsRootOver 2) (sym made) (raised_left n.right n.entries n.left c.requires.tree high next)
      | else-ends_at_root w ↦
          let apart : IsNextTo Left n.left → ⊥ = search rules in
          let made : c.rotate_right.result ≡ rotated_right n = search rules in
          subst (IsRootOver 2) (sym made) (turned_left n.right n.entries n.left c.requires.tree high apart)
    ]

pub returns-clause-enough : goal.returns-clause-enough
returns-clause-enough c low none many =
    let n = c.args.node in
    let high : height_of n.right + 1 ≤ height_of n.left = search rules in
    elim c.if-ends_at_root.branch [
      | then-ends_at_root w ↦
          let next : IsNextTo Left n.left = search rules in
          let made : c.rotate_right.result ≡ rotated_right (slid_to_left n.left n) = search rules in
          subst (λ (r : Root). 14 ≤ length r.entries) (sym made) (filled_left n.right n.entries n.left c.requires.tree next many)
      | else-ends_at_root w ↦
          let apart : IsNextTo Left n.left → ⊥ = search rules in
          absurd (low_left n.right n.entries n.left low apart high)
    ]
