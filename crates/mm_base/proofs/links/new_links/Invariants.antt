use Rattle.std.proofs.Common.{◌≡◌, take}
use Rattle.std.specs.Prelude.{map}
use Rattle.std.specs.List.{All}
use Rattle.mm_link.specs.declared.link.Link.{Link}
use Rattle.mm_base.specs.Joined.{IsReady}
use Rattle.mm_base.proofs.links.new_links.Given as goal

abbrev pub invariant-loop-reference : goal.invariant-loop-reference
invariant-loop-reference l = record {
  references : map (λ (link : Link). link.reference) l.links.items ≡ take l.reference-index l.references;
  ready : All (IsReady l.tables.tables) l.links.items;
}
