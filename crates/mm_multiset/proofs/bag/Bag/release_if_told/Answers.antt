-- The slot of a removed row, for which 0 was told, is freed.
use Rattle.std.proofs.Common.{◌≡◌, List, get_or, map, set, sym, ap, ◌∙◌, subst}
use Rattle.mm_partition.specs.Places.{Content, Free, IsHidden}
use Rattle.slot_counts.specs.Numbers.{told_at}
use Rattle.mm_multiset.specs.Slots.{IsFed, IsKept, entries_of, feed_of, in_use}
use Rattle.mm_multiset.specs.Counts.{total_of}
use Rattle.mm_multiset.proofs.SlotLists.{slots_set}
use Rattle.mm_multiset.proofs.Told.{entries_freed, feed_freed, hidden_inside, in_use_freed, kept_freed}
use Rattle.mm_multiset.proofs.bag.Bag.release_if_told.Goals as goal
use Rattle.mm_multiset.proofs.bag.Bag.release_if_told.Goals.{After-release}

hidden : (c : After-release) → IsHidden c.self.inside.rows c.args.at
hidden c = c.is_hidden.ensures.0 c.if-is_hidden.true

freed : (c : After-release) → c.release.new.self.slots ≡ set c.self.inside.rows.slots c.args.at.slot Free
freed c =
    slots_set c.self.inside.rows c.release.new.self c.args.at Free c.release.ensures.freed c.release.ensures.extent
    (hidden_inside c.self.inside.rows.slots c.args.at.slot (hidden c).0 (hidden c).1)

nothing : (c : After-release) → told_at c.self.inside.counts.feed c.args.at.slot ≡ 0
nothing c = ap (told_at c.self.inside.counts.feed) (sym c.index_of.ensures) ∙ (sym c.told.ensures ∙ c.if-told-eq0.true)

now_fed : (c : After-release) → IsFed c.release.new.self.slots c.self.inside.counts.feed
    × (feed_of c.release.new.self.slots c.self.inside.counts.feed ≡ feed_of c.self.inside.rows.slots c.self.inside.counts.feed)
now_fed c =
    let feed = c.self.inside.counts.feed in
    subst (λ (l : List Content). IsFed l feed × (feed_of l feed ≡ feed_of c.self.inside.rows.slots feed)) (sym (freed c))
    (feed_freed c.self.inside.rows.slots c.args.at.slot (hidden c).0 feed (hidden c).1 c.self.invariant.2 (nothing c))

same_entries : (c : After-release) → entries_of c.release.new.self.slots c.self.inside.counts.counts
    ≡ entries_of c.self.inside.rows.slots c.self.inside.counts.counts
same_entries c =
    ap (λ (l : List Content). entries_of l c.self.inside.counts.counts) (freed c)
    ∙ entries_freed c.self.inside.rows.slots c.self.inside.counts.counts c.args.at.slot (hidden c).0 (hidden c).1

pub invariant_of-self : goal.invariant_of-self
invariant_of-self c = (
  subst (λ (l : List Content). IsKept l c.self.inside.counts.counts c.self.inside.by_hash.entries) (sym (freed c))
      (kept_freed c.self.inside.rows.slots c.self.inside.counts.counts c.self.inside.by_hash.entries c.args.at.slot (hidden c).0 (hidden c).1
      c.self.invariant.0),
  c.self.invariant.1 ∙ ap total_of (sym (same_entries c)),
  (now_fed c).0,
)

pub returns-then-told-eq0-clause-feed : goal.returns-then-told-eq0-clause-feed
returns-then-told-eq0-clause-feed c = (now_fed c).1 ∙ ap (λ v. v.feed) c.self.view_is

pub returns-then-told-eq0-clause-entries : goal.returns-then-told-eq0-clause-entries
returns-then-told-eq0-clause-entries c = same_entries c ∙ ap (λ v. v.entries) c.self.view_is

pub returns-then-told-eq0-clause-slots : goal.returns-then-told-eq0-clause-slots
returns-then-told-eq0-clause-slots c =
    ap (map in_use) (freed c)
    ∙ (in_use_freed c.self.inside.rows.slots c.args.at.slot (hidden c).0 (hidden c).1 ∙ ap (λ v. v.slots) c.self.view_is)
