-- One slot has the row, with its count and its pair.
use Rattle.std.proofs.Common.{◌≡◌, ℕ, ap, ◌∙◌, subst, arith}
use Rattle.mm_partition.specs.Places.{ChangesOnly, Free, IsLive, Live}
use Rattle.slot_counts.specs.Numbers.{IsToldSame, IsWritten}
use Rattle.mm_multiset.specs.Slots.{IsFed, feed_of}
use Rattle.mm_multiset.proofs.Placing.{entries_put, kept_put, turned_put}
use Rattle.mm_multiset.proofs.SlotEntries.{Turns}
use Rattle.mm_multiset.proofs.Told.{feed_put}
use Rattle.mm_multiset.proofs.bag.slots.put.Goals as goal
use Rattle.mm_multiset.proofs.bag.slots.put.Goals.{After-insert}

pub set-requires-clause-few : goal.set-requires-clause-few
set-requires-clause-few c =
    let live : IsLive c.place-at.new.self c.place-at.result = (c.as_mut_slice.result.now, c.place-at.ensures.placed.changed) in
    omega (arith, c.index_of.ensures, c.are_references_small.ensures c.place-at.result live)

pub insert-requires-clause-small : goal.insert-requires-clause-small
insert-requires-clause-small c =
    let given : c.as_mut_slice.result.now ≡ c.args.row = c.as_mut_slice.ensures.value ∙ c.into_values-values.ensures in
    c.are_references_small.ensures c.place-at.result (c.args.row, c.place-at.ensures.placed.changed ∙ ap Live given)

placed : (c : After-insert) → ChangesOnly c.args.rows.now c.place-at.new.self c.place-at.result (Live c.args.row)
placed c =
    let given : c.as_mut_slice.result.now ≡ c.args.row = c.as_mut_slice.ensures.value ∙ c.into_values-values.ensures in
    subst (λ row. ChangesOnly c.args.rows.now c.place-at.new.self c.place-at.result (Live row)) given c.place-at.ensures.placed

pub returns-clause-placed : goal.returns-clause-placed
returns-clause-placed c = placed c

turned : (c : After-insert) → Turns c.place-at.result.slot c.args.rows.now.slots c.place-at.new.self.slots c.args.counts.now.counts
    c.set.new.self.counts Free (Live c.args.row) 0 0
turned c =
    let old = c.args.counts.now.counts in
    let new = c.set.new.self.counts in
    let written = subst (λ (i : ℕ). IsWritten i 0 old new) c.index_of.ensures c.set.ensures.counts in
    let place = c.place-at.ensures in
    turned_put c.args.rows.now c.place-at.new.self c.place-at.result c.args.row old new 0
    c.requires.kept.marked place.fresh (placed c) place.extent place.within written

pub returns-clause-kept : goal.returns-clause-kept
returns-clause-kept c =
    kept_put c.place-at.result.slot c.args.rows.now.slots c.place-at.new.self.slots c.args.counts.now.counts c.set.new.self.counts c.args.row 0
    (turned c) c.args.by_hash.now.entries c.insert.new.self.entries c.args.hash c.requires.kept c.requires.new c.requires.hash
    c.insert.ensures.entries

pub returns-clause-put : goal.returns-clause-put
returns-clause-put c =
    entries_put c.place-at.result.slot c.args.rows.now.slots c.place-at.new.self.slots c.args.counts.now.counts c.set.new.self.counts
    c.args.row 0 (turned c)

now_fed : (c : After-insert) → IsFed c.place-at.new.self.slots c.set.new.self.feed
    × (feed_of c.place-at.new.self.slots c.set.new.self.feed ≡ feed_of c.args.rows.now.slots c.args.counts.now.feed)
now_fed c =
    let place = c.place-at.ensures in
    let told = subst (λ (i : ℕ). IsToldSame i c.args.counts.now c.set.new.self.feed) c.index_of.ensures c.set.ensures.feed in
    feed_put c.args.rows.now c.place-at.new.self c.place-at.result c.args.row c.args.counts.now c.requires.kept.marked.size place.fresh (placed c)
    place.extent place.within c.requires.fed c.set.new.self.feed told

pub returns-clause-feed : goal.returns-clause-feed
returns-clause-feed c = (now_fed c).1

pub returns-clause-fed : goal.returns-clause-fed
returns-clause-fed c = (now_fed c).0
