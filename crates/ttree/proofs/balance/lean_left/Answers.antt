use Rattle.std.proofs.Common.{◌≡◌, ◌+◌, ◌≤◌, length, sym, subst, rules}
use Rattle.ttree_node.specs.Slide.{IsNextTo, slid_to_right}
use Rattle.ttree_node.specs.Tree.{Root, height_of}
use Rattle.ttree_node.specs.Turn.{rotated_left}
use Rattle.ttree_node.specs.declared.slides.Side.TheVariants.{Right}
use Rattle.ttree.specs.Balanced.{IsRootOver}
use Rattle.ttree.proofs.Turning.{filled_right, low_right, raised_right, turned_right}
use Rattle.ttree.proofs.balance.lean_left.Goals as goal
use Rattle.ttree.proofs.balance.lean_left.Goals.{then-begins_at_root, else-begins_at_root}

pub returns-clause-root : goal.returns-clause-root
returns-clause-root c =
    let n = c.args.node in
    let high : height_of n.left + 1 ≤ height_of n.right = search rules in
    elim c.if-begins_at_root.branch [
      | then-begins_at_root w ↦
          let next : IsNextTo Right n.right = search rules in
          let made : c.rotate_left.result ≡ rotated_left (slid_to_right n.right n) = search rules in
          subst (IsRootOver 2) (sym made) (raised_right n.left n.entries n.right c.requires.tree high next)
      | else-begins_at_root w ↦
          let apart : IsNextTo Right n.right → ⊥ = search rules in
          let made : c.rotate_left.result ≡ rotated_left n = search rules in
          subst (IsRootOver 2) (sym made) (turned_right n.left n.entries n.right c.requires.tree high apart)
    ]

pub returns-clause-enough : goal.returns-clause-enough
returns-clause-enough c low none many =
    let n = c.args.node in
    let high : height_of n.left + 1 ≤ height_of n.right = search rules in
    elim c.if-begins_at_root.branch [
      | then-begins_at_root w ↦
          let next : IsNextTo Right n.right = search rules in
          let made : c.rotate_left.result ≡ rotated_left (slid_to_right n.right n) = search rules in
          subst (λ (r : Root). 14 ≤ length r.entries) (sym made) (filled_right n.left n.entries n.right c.requires.tree next many)
      | else-begins_at_root w ↦
          let apart : IsNextTo Right n.right → ⊥ = search rules in
          absurd (low_right n.left n.entries n.right low apart high)
    ]
