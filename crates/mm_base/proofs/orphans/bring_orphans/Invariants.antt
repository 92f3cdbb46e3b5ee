use Rattle.std.proofs.Common.{◌≡◌, ◌<◌, ℕ, false, get_or, take}
use Rattle.std.specs.List.{list_any}
use Rattle.mm_link.specs.declared.link.Link.{Link}
use Rattle.mm_base.specs.Orphans.{BringsTargets, brings_orphan}
use Rattle.mm_base.proofs.orphans.bring_orphans.Given as goal

abbrev pub invariant-loop-link : goal.invariant-loop-link
invariant-loop-link l = record {
  rows : list_any (λ link. brings_orphan l.tables.tables l.table l.edits link.reference) (take l.link-index l.links) ≡ false;
  found : (k : ℕ) (d : Link) → k < l.link-index → BringsTargets l.tables.tables l.table l.edits (get_or l.links k d);
}
