-- The lists are unchanged.
use Rattle.std.proofs.Common.{sym, ◌∙◌}
use Rattle.mm_standing.proofs.Dropping.{sound_same}
use Rattle.mm_standing.proofs.standing.Standing.stop_feed.Goals as goal

pub invariant_of-self : goal.invariant_of-self
invariant_of-self c =
    let old = c.self.inside in
    let same = c.stop_feed.ensures.same in (
      sound_same old.bags.items c.stop_feed.new.bags.items same old.prepared.items old.log.items c.self.invariant.0,
      c.self.invariant.1,
      c.self.invariant.2 ∙ sym same.size,
      same.types ∙ c.self.invariant.3,
    )
