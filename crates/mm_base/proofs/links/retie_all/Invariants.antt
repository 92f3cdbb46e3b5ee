use Rattle.mm_indexed.specs.Index.{TurnedTo}
use Rattle.mm_base.specs.Joined.{HasFollowed}
use Rattle.mm_base.proofs.links.retie_all.Given as goal

abbrev pub invariant-loop-link : goal.invariant-loop-link
invariant-loop-link l = TurnedTo (HasFollowed l.tables.tables l.tables.log) l.link-index l.fn.links.items l.link-items
