use Rattle.std.proofs.Common.{◌≡◌, ◌+◌, ◌≤◌, length, map, replicate, take}
use Rattle.slot_counts.specs.Numbers.{Tells, shown_count}
use Rattle.slot_counts.proofs.slot_counts.feed_of.Given as goal

-- the feed has the slots so far, and nothing was told
abbrev pub invariant-loop-slot : goal.invariant-loop-slot
invariant-loop-slot l = record {
  distinct : l.feed.distinct ≡ l.distinct;
  told : l.feed.told ≡ replicate l.slot 0;
  tells : Tells l.feed.changed (map (shown_count l.distinct) (take l.slot l.counts)) l.feed.told;
  room : length l.counts ≤ l.feed.room + l.slot;
}
