use Rattle.mm_indexed.specs.Index.{TurnedTo}
use Rattle.mm_link.specs.Grown.{HasMovedUp}
use Rattle.mm_base.proofs.links.drop_links.Given as goal

abbrev pub invariant-loop-link : goal.invariant-loop-link
invariant-loop-link l = TurnedTo (HasMovedUp l.table) l.link-index l.initial.link-items l.link-items
