use Rattle.std.proofs.Common.{◌≡◌, ℕ, ◌<◌, get_or}
use Rattle.mm_link.specs.declared.link.Link.{Link}
use Rattle.mm_base.proofs.links.follow.Given as goal

abbrev pub invariant-loop-link : goal.invariant-loop-link
invariant-loop-link l = (k : ℕ) (d : Link) → k < l.link-index → (get_or l.links k d).reference.from ≡ l.table
    → (get_or l.links k d).reference.column ≡ l.column → ⊥
