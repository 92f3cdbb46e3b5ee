use Rattle.std.proofs.Common.{◌≡◌, ◌+◌, ◌≤◌, take}
use Rattle.std.specs.Prelude.{All, false}
use Rattle.std.specs.List.{sum_by}
use Rattle.mm_delta.specs.Edited.{after_at}
use Rattle.mm_standing.specs.Bags.{IsTyped}
use Rattle.mm_standing.specs.Queries.{StandingQuery, bag_over, is_too_large}
use Rattle.mm_standing.specs.Reads.{AreOfCyclicRows, RowTests, query_reads}
use Rattle.mm_standing.proofs.Segments.{IsStage}
use Rattle.mm_standing.proofs.prepare.changes_of_lists.Given as goal

-- the changes of the lists so far, none of which is too large, and the rows read for them
abbrev pub invariant-loop-list : goal.invariant-loop-list
invariant-loop-list l = record {
  stage : IsStage l.bags l.queries (bag_over (after_at l.fn.view.store l.changes)) l.list l.found.items;
  few : All (λ (s : StandingQuery). is_too_large (bag_over (after_at l.fn.view.store l.changes) s) ≡ false) (take l.list l.queries);
  reads : (skipped : RowTests) → AreOfCyclicRows skipped
      → l.view.reads ≤ l.fn.view.reads + sum_by (query_reads l.fn.view.store l.changes skipped) (take l.list l.queries);
  typed : All (IsTyped l.bags) l.found.items;
  same : l.view.store ≡ l.fn.view.store;
}
