-- The slot has no entry, and its pair is removed.
use Rattle.std.proofs.Common.{◌≡◌, ℕ, ◌∷◌, List, get_or, map, set, refl, sym, ap, ◌∙◌, subst}
use Rattle.std.specs.Prelude.{IsPermutation}
use Rattle.std.proofs.lemmas.List.{set-get_or}
use Rattle.mm_value.specs.declared.values.Value.{Value}
use Rattle.mm_partition.specs.Places.{ChangesOnly, Content, Free, Live}
use Rattle.mm_multiset.specs.Counts.{IsThere, row_at}
use Rattle.mm_multiset.specs.Slots.{IsFed, IsKept, entries_of, feed_of, in_use, left_by}
use Rattle.mm_multiset.proofs.Found.{entry_by_pair, pair_by_entry}
use Rattle.mm_multiset.proofs.Placing.{entries_taken, kept_taken, left_entry, left_marked, left_pair, turned_taken}
use Rattle.mm_multiset.proofs.SlotEntries.{Turns}
use Rattle.mm_multiset.proofs.SlotLists.{live_inside, slots_set}
use Rattle.mm_multiset.proofs.Told.{feed_left, in_use_live, there_in_use, there_of_use}
use Rattle.mm_multiset.proofs.bag.slots.take.Goals as goal
use Rattle.mm_multiset.proofs.bag.slots.take.Goals.{After-vacate}

-- the count is 0 already
zero_set : (counts : List ℕ) (i : ℕ) → get_or counts i 0 ≡ 0 → set counts i 0 ≡ counts
zero_set counts i zero = ap (set counts i) (sym zero) ∙ set-get_or counts i 0

pub returns-then-not-remove-clause-found : goal.returns-then-not-remove-clause-found
returns-then-not-remove-clause-found c =
    let slots = c.args.rows.now.slots in
    let pairs = c.args.by_hash.now.entries in (
      λ is. there_in_use slots c.args.entry (entry_by_pair slots pairs c.args.entry c.requires.kept.hashed (c.if-not-remove.ensures.found.0 is)),
      λ there. c.if-not-remove.ensures.found.1
          (pair_by_entry slots pairs c.args.entry c.requires.kept.hashed (there_of_use slots c.args.entry there)),
    )

pub vacate-requires : goal.vacate-requires
vacate-requires c =
    let it = entry_by_pair c.args.rows.now.slots c.args.by_hash.now.entries c.args.entry c.requires.kept.hashed (c.if-not-remove.ensures.found.0 refl) in
    (row_at c.args.rows.now.slots c.args.entry, it.live)

-- the entry is in a slot in use
there : (c : After-vacate) → IsThere (map in_use c.args.rows.now.slots) c.args.entry
there c =
    there_in_use c.args.rows.now.slots c.args.entry
    (entry_by_pair c.args.rows.now.slots c.args.by_hash.now.entries c.args.entry c.requires.kept.hashed (c.if-not-remove.ensures.found.0 refl))

abbrev row_of : (c : After-vacate) → List Value
row_of c = row_at (map in_use c.args.rows.now.slots) c.args.entry

live : (c : After-vacate) → get_or c.args.rows.now.slots c.args.entry.slot.slot Free ≡ Live (row_of c)
live c = in_use_live c.args.rows.now.slots c.args.entry.slot.slot (row_of c) (there c).live

left : (c : After-vacate) → ChangesOnly c.args.rows.now c.vacate.new.rows c.args.entry.slot (left_by c.args.is_owed (row_of c))
left c = c.vacate.ensures.left (row_of c) (live c)

turns : (c : After-vacate) → Turns c.args.entry.slot.slot c.args.rows.now.slots c.vacate.new.rows.slots c.args.counts.now.counts
    (set c.args.counts.now.counts c.args.entry.slot.slot 0) (Live (row_of c)) (left_by c.args.is_owed (row_of c))
    (get_or c.args.counts.now.counts c.args.entry.slot.slot 0) 0
turns c =
    turned_taken c.args.rows.now c.vacate.new.rows c.args.entry.slot (row_of c) (left_by c.args.is_owed (row_of c)) c.args.counts.now.counts
    c.requires.kept.marked (live c) (left c) c.vacate.ensures.extent

slots_left : (c : After-vacate) → c.vacate.new.rows.slots ≡ set c.args.rows.now.slots c.args.entry.slot.slot (left_by c.args.is_owed (row_of c))
slots_left c =
    slots_set c.args.rows.now c.vacate.new.rows c.args.entry.slot (left_by c.args.is_owed (row_of c)) (left c) c.vacate.ensures.extent
    (live_inside c.args.rows.now.slots c.args.entry.slot.slot (row_of c) (live c))

pub returns-clause-found : goal.returns-clause-found
returns-clause-found c = (λ _. there c, λ _. refl)

pub returns-clause-kept : goal.returns-clause-kept
returns-clause-kept c =
    let at = c.args.entry.slot in
    let counts = c.args.counts.now.counts in
    let owed = c.args.is_owed in
    subst (λ (l : List ℕ). IsKept c.vacate.new.rows.slots l c.remove.new.self.entries) (zero_set counts at.slot c.requires.zero)
    (kept_taken at.slot c.args.rows.now.slots c.vacate.new.rows.slots counts (set counts at.slot 0) (row_of c)
    (get_or counts at.slot 0) (left_by owed (row_of c)) (turns c) (left_entry owed (row_of c)) (left_pair owed (row_of c) at.slot)
    c.args.by_hash.now.entries c.remove.new.self.entries c.args.entry.hash (left_marked owed (row_of c)) c.requires.kept (there c).hash
    c.if-not-remove.ensures.entries)

pub returns-clause-taken : goal.returns-clause-taken
returns-clause-taken c =
    let old = c.args.rows.now in
    let at = c.args.entry.slot in
    let counts = c.args.counts.now.counts in
    let owed = c.args.is_owed in
    subst (λ (l : List ℕ). IsPermutation (entries_of old.slots counts) ((row_of c, 0) ∷ entries_of c.vacate.new.rows.slots l))
    (zero_set counts at.slot c.requires.zero)
    (subst (λ (n : ℕ). IsPermutation (entries_of old.slots counts) ((row_of c, n) ∷ entries_of c.vacate.new.rows.slots (set counts at.slot 0)))
    c.requires.zero
    (entries_taken at.slot old.slots c.vacate.new.rows.slots counts (set counts at.slot 0) (row_of c)
    (get_or counts at.slot 0) (left_by owed (row_of c)) (turns c) (left_entry owed (row_of c)) (left_pair owed (row_of c) at.slot)))

pub returns-clause-freed : goal.returns-clause-freed
returns-clause-freed c = slots_left c

now_fed : (c : After-vacate) → IsFed c.vacate.new.rows.slots c.args.counts.now.feed
    × (feed_of c.vacate.new.rows.slots c.args.counts.now.feed ≡ feed_of c.args.rows.now.slots c.args.counts.now.feed)
now_fed c =
    let feed = c.args.counts.now.feed in
    subst (λ (l : List Content). IsFed l feed × (feed_of l feed ≡ feed_of c.args.rows.now.slots feed)) (sym (slots_left c))
    (feed_left c.args.rows.now.slots c.args.entry.slot.slot (row_of c) c.args.is_owed feed (live c) c.requires.fed c.requires.told)

pub returns-clause-feed : goal.returns-clause-feed
returns-clause-feed c = (now_fed c).1

pub returns-clause-is_fed : goal.returns-clause-is_fed
returns-clause-is_fed c = (now_fed c).0
