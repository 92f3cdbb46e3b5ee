use Rattle.std.proofs.Common.{◌≡◌, [], All}
use Rattle.mm_partition.specs.Places.{IsLive}
use Rattle.bench_structures.specs.Apart.{AreApart}
use Rattle.bench_structures.proofs.in_rows.fill.Given as goal

-- each row so far is in use, at a place of its own, and rows have no values
abbrev pub invariant-loop : goal.invariant-loop
invariant-loop l = record {
  live : All (IsLive l.rows) l.refs.items;
  apart : AreApart l.refs.items;
  types : l.rows.types ≡ [];
}
