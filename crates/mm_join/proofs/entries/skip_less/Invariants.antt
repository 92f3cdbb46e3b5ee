use Rattle.std.proofs.Common.{◌-◌, ◌<◌, ◌≤◌, All, drop, length, take}
use Rattle.mm_join.proofs.entries.skip_less.Given as goal

-- all entries before `low` are less, and none from `high` on
abbrev pub invariant-loop-low : goal.invariant-loop-low
invariant-loop-low l = record {
  from_start : l.start ≤ l.low;
  low_below : l.low ≤ l.high;
  high_within : l.high ≤ length l.entries;
  before : All (λ entry. entry.prefix < l.prefix) (take l.low l.entries);
  rest : All (λ entry. l.prefix ≤ entry.prefix) (drop l.high l.entries);
}

abbrev pub decreases-loop-low : goal.decreases-loop-low
decreases-loop-low l = l.high - l.low
