use Rattle.mm_indexed.specs.Index.{TurnedTo}
use Rattle.mm_base.specs.Joined.{GrownTo}
use Rattle.mm_base.proofs.links.reserve_all.Given as goal

abbrev pub invariant-loop-link : goal.invariant-loop-link
invariant-loop-link l = TurnedTo (GrownTo l.table l.extent) l.link-index l.fn.links.items l.link-items
