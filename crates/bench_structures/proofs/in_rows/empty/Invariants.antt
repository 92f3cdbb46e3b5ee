use Rattle.std.proofs.Common.{All, length}
use Rattle.mm_partition.specs.Places.{IsLive}
use Rattle.bench_structures.specs.Apart.{AreApart}
use Rattle.bench_structures.proofs.in_rows.empty.Given as goal

-- each remaining row is in use, at a place of its own
abbrev pub invariant-loop-at : goal.invariant-loop-at
invariant-loop-at l = record {
  live : All (IsLive l.rows) l.refs.items;
  apart : AreApart l.refs.items;
}

abbrev pub decreases-loop-at : goal.decreases-loop-at
decreases-loop-at l = length l.refs.items
