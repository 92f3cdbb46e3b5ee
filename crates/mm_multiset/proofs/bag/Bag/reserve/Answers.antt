-- Reserving capacity changes no content.
use Rattle.std.proofs.Common.{ap, map, refl, ◌∙◌}
use Rattle.mm_multiset.proofs.Rooms.{entries_grown, feed_grown, kept_grown}
use Rattle.mm_multiset.specs.Slots.{in_use}
use Rattle.mm_multiset.proofs.SlotLists.{slots_same}
use Rattle.mm_multiset.proofs.bag.Bag.reserve.Goals as goal

pub invariant_of-self : goal.invariant_of-self
invariant_of-self c =
    kept_grown c.self.inside.rows c.reserve.new.self c.self.inside.counts.counts c.self.inside.counts.counts c.self.inside.by_hash.entries
    c.self.inside.by_hash.entries c.reserve.ensures.rows c.reserve.ensures.extent refl refl c.self.inside.total c.self.inside.counts.feed
    c.self.inside.counts.feed refl c.self.invariant

pub returns-in_err-reserve-clause-entries : goal.returns-in_err-reserve-clause-entries
returns-in_err-reserve-clause-entries c =
    entries_grown c.self.inside.rows c.reserve.new.self c.self.inside.counts.counts c.self.inside.counts.counts c.self.inside.by_hash.entries
    c.self.inside.by_hash.entries c.reserve.ensures.rows c.reserve.ensures.extent refl refl
    ∙ ap (λ v. v.entries) c.self.view_is

pub invariant_of-self-in_err-reserve-2 : goal.invariant_of-self-in_err-reserve-2
invariant_of-self-in_err-reserve-2 c =
    kept_grown c.self.inside.rows c.reserve.new.self c.self.inside.counts.counts c.reserve-2.new.self.counts c.self.inside.by_hash.entries
    c.self.inside.by_hash.entries c.reserve.ensures.rows c.reserve.ensures.extent c.reserve-2.ensures.counts refl c.self.inside.total
    c.self.inside.counts.feed c.reserve-2.new.self.feed c.reserve-2.ensures.feed c.self.invariant

pub returns-in_err-reserve-2-clause-entries : goal.returns-in_err-reserve-2-clause-entries
returns-in_err-reserve-2-clause-entries c =
    entries_grown c.self.inside.rows c.reserve.new.self c.self.inside.counts.counts c.reserve-2.new.self.counts c.self.inside.by_hash.entries
    c.self.inside.by_hash.entries c.reserve.ensures.rows c.reserve.ensures.extent c.reserve-2.ensures.counts refl
    ∙ ap (λ v. v.entries) c.self.view_is

pub invariant_of-self-2 : goal.invariant_of-self-2
invariant_of-self-2 c =
    kept_grown c.self.inside.rows c.reserve.new.self c.self.inside.counts.counts c.reserve-2.new.self.counts c.self.inside.by_hash.entries
    c.reserve-3.new.self.entries c.reserve.ensures.rows c.reserve.ensures.extent c.reserve-2.ensures.counts c.reserve-3.ensures.entries
    c.self.inside.total c.self.inside.counts.feed c.reserve-2.new.self.feed c.reserve-2.ensures.feed c.self.invariant

pub returns-clause-entries : goal.returns-clause-entries
returns-clause-entries c =
    entries_grown c.self.inside.rows c.reserve.new.self c.self.inside.counts.counts c.reserve-2.new.self.counts c.self.inside.by_hash.entries
    c.reserve-3.new.self.entries c.reserve.ensures.rows c.reserve.ensures.extent c.reserve-2.ensures.counts c.reserve-3.ensures.entries
    ∙ ap (λ v. v.entries) c.self.view_is

pub returns-in_err-reserve-clause-slots : goal.returns-in_err-reserve-clause-slots
returns-in_err-reserve-clause-slots c =
    ap (map in_use) (slots_same c.self.inside.rows c.reserve.new.self c.reserve.ensures.rows c.reserve.ensures.extent) ∙ ap (λ v. v.slots) c.self.view_is

pub returns-in_err-reserve-2-clause-slots : goal.returns-in_err-reserve-2-clause-slots
returns-in_err-reserve-2-clause-slots c =
    ap (map in_use) (slots_same c.self.inside.rows c.reserve.new.self c.reserve.ensures.rows c.reserve.ensures.extent) ∙ ap (λ v. v.slots) c.self.view_is

pub returns-clause-slots : goal.returns-clause-slots
returns-clause-slots c =
    ap (map in_use) (slots_same c.self.inside.rows c.reserve.new.self c.reserve.ensures.rows c.reserve.ensures.extent) ∙ ap (λ v. v.slots) c.self.view_is

pub returns-in_err-reserve-clause-feed : goal.returns-in_err-reserve-clause-feed
returns-in_err-reserve-clause-feed c =
    feed_grown c.self.inside.rows c.reserve.new.self c.self.inside.counts.counts c.self.inside.counts.counts c.self.inside.by_hash.entries
    c.self.inside.by_hash.entries c.reserve.ensures.rows c.reserve.ensures.extent refl refl c.self.inside.counts.feed c.self.inside.counts.feed refl
    ∙ ap (λ v. v.feed) c.self.view_is

pub returns-in_err-reserve-2-clause-feed : goal.returns-in_err-reserve-2-clause-feed
returns-in_err-reserve-2-clause-feed c =
    feed_grown c.self.inside.rows c.reserve.new.self c.self.inside.counts.counts c.reserve-2.new.self.counts c.self.inside.by_hash.entries
    c.self.inside.by_hash.entries c.reserve.ensures.rows c.reserve.ensures.extent c.reserve-2.ensures.counts refl c.self.inside.counts.feed
    c.reserve-2.new.self.feed c.reserve-2.ensures.feed ∙ ap (λ v. v.feed) c.self.view_is

pub returns-clause-feed : goal.returns-clause-feed
returns-clause-feed c =
    feed_grown c.self.inside.rows c.reserve.new.self c.self.inside.counts.counts c.reserve-2.new.self.counts c.self.inside.by_hash.entries
    c.self.inside.by_hash.entries c.reserve.ensures.rows c.reserve.ensures.extent c.reserve-2.ensures.counts refl c.self.inside.counts.feed
    c.reserve-2.new.self.feed c.reserve-2.ensures.feed ∙ ap (λ v. v.feed) c.self.view_is
