use Rattle.std.proofs.Common.{◌≡◌, ℕ, ◌+◌, ◌≤◌, Bool, List, [], ◌∷◌, map, take}
use Rattle.std.specs.List.{sum_by}
use Rattle.mm_partition.specs.Views.{viewed}
use Rattle.mm_value.specs.declared.values.Value.{Value}
use Rattle.mm_query.specs.Queries.{bag_of}
use Rattle.mm_multiset.specs.Counts.{count_in, count_of}
use Rattle.mm_delta.specs.Edited.{after_at, before_at}
use Rattle.mm_delta.specs.Skipping.{IsOfCyclicRows}
use Rattle.mm_delta.specs.Steps.{row_reads}
use Rattle.mm_delta.specs.Terms.{lists_around}
use Rattle.mm_delta.proofs.walk.Walk.from_rows.Given as goal

abbrev pub invariant-loop-row : goal.invariant-loop-row
invariant-loop-row l = record {
  same : l.view.store ≡ l.fn.view.store;
  counted : (other : List Value) → count_in other l.out.entries ≡ count_in other l.fn.out.entries
      + sum_by (λ x. count_of other (bag_of l.fn.self.query.now
      (lists_around 0 (after_at l.fn.view.store l.fn.self.changes.now.edits) (λ _. x ∷ []) (before_at l.fn.view.store) l.fn.self.tables.now l.fn.self.place)))
      (map viewed (take l.row-index l.rows));
  reads : (skipped : ℕ → List Value → Bool) → IsOfCyclicRows l.fn.self.query.now skipped → l.view.reads ≤ l.fn.view.reads
      + sum_by (row_reads l.fn.self.query.now l.fn.view.store l.fn.self.changes.now.edits l.fn.self.tables.now skipped l.fn.self.place)
      (map viewed (take l.row-index l.rows));
}
