use Rattle.std.proofs.Common.{◌≡◌, ℕ, ◌+◌, ◌≤◌, Bool, List, map}
use Rattle.std.specs.List.{range_with_len, sum_by}
use Rattle.mm_value.specs.declared.values.Value.{Value}
use Rattle.mm_query.specs.Queries.{bag_of}
use Rattle.mm_multiset.specs.Counts.{count_in, count_of}
use Rattle.mm_delta.specs.Edited.{before_at}
use Rattle.mm_delta.specs.Skipping.{IsOfCyclicRows}
use Rattle.mm_delta.specs.Steps.{term_reads}
use Rattle.mm_delta.proofs.Terms.{halfway}
use Rattle.mm_delta.proofs.bag_change.delta.Given as goal

-- The terms of the places so far lead from the bag before the change to the one with the rows after it at these places.
abbrev pub invariant-loop-place : goal.invariant-loop-place
invariant-loop-place l = record {
  same : l.view.store ≡ l.fn.view.store;
  counts : (row : List Value) → count_in row l.comes.entries + count_of row (bag_of l.query (map (before_at l.fn.view.store) l.tables))
      ≡ count_in row l.goes.entries + halfway l.query l.fn.view.store l.changes l.tables row l.place;
  reads : (skipped : ℕ → List Value → Bool) → IsOfCyclicRows l.query skipped
      → l.view.reads ≤ l.fn.view.reads + sum_by (term_reads l.query l.fn.view.store l.changes l.tables skipped) (range_with_len 0 l.place);
}
