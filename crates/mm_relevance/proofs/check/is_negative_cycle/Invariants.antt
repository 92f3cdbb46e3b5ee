use Rattle.std.proofs.Common.{◌≡◌, ◌*◌, ◌^◌, drop, pos, ◌+ℤ◌}
use Rattle.std.specs.Prelude.{◌≤ℤ◌}
use Rattle.mm_relevance.specs.Walks.{follow}
use Rattle.mm_relevance.proofs.check.is_negative_cycle.Given as goal

abbrev pub invariant-loop-name : goal.invariant-loop-name
invariant-loop-name g l = record {
  followed : follow l.query l.place (g.R.AsRow.row l.row) l.initial.now l.cycle ≡ follow l.query l.place (g.R.AsRow.row l.row) l.now
      (drop l.name-index l.cycle);
  high : l.now.sum ≤ℤ pos (l.name-index * 2 ^ 66);
  low : pos 0 ≤ℤ (l.now.sum +ℤ pos (l.name-index * 2 ^ 66));
}
