use Rattle.std.proofs.Common.{◌≡◌, ◌+◌, ◌≤◌, Some, List, set, length, map, take}
use Rattle.std.specs.List.{sum_by}
use Rattle.mm_partition.specs.Views.{viewed}
use Rattle.mm_value.specs.declared.values.Value.{Value}
use Rattle.mm_multiset.specs.Counts.{count_in, count_of}
use Rattle.mm_delta.specs.Edited.{walked}
use Rattle.mm_delta.specs.Steps.{reads_for}
use Rattle.mm_delta.specs.Walk.{found}
use Rattle.mm_delta.proofs.walk.Walk.+extend.Given as goal

abbrev pub decreases-extend : goal.decreases-extend
decreases-extend l = length l.others.now

abbrev pub invariant-loop-row : goal.invariant-loop-row
invariant-loop-row l = record {
  same : l.view.store ≡ l.fn.view.store;
  counted : (other : List Value) → count_in other l.out.entries ≡ count_in other l.fn.out.entries
      + sum_by (λ row. count_of other (found l.fn.self.query.now (walked l.fn.view.store l.fn.self.changes.now.edits l.fn.self.tables.now l.fn.self.place)
      l.rest
      (set l.chosen l.place (Some row))))
      (map viewed (take l.row-index l.row-items));
  reads : l.view.reads ≤ l.initial.view.reads
      + sum_by (λ row. reads_for l.fn.self.query.now l.fn.view.store l.fn.self.changes.now.edits l.fn.self.tables.now l.fn.self.place l.rest
      (set l.chosen l.place (Some row)))
      (map viewed (take l.row-index l.row-items));
}
