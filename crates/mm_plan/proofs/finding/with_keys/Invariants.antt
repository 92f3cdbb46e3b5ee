use Rattle.std.proofs.Common.{◌≡◌, ◌+◌, ◌≤◌, map, take}
use Rattle.std.specs.List.{All}
use Rattle.mm_plan.specs.Finding.{IsKeyed}
use Rattle.mm_plan.specs.declared.finding.Keyed.{Keyed}
use Rattle.mm_indexed.specs.Kept.{StoredRows}
use Rattle.mm_store.specs.Tables.{IsAt}
use Rattle.mm_plan.proofs.finding.with_keys.Given as goal

-- the rows of the references so far were read, with their keys
abbrev pub invariant-loop-at : goal.invariant-loop-at
invariant-loop-at l = record {
  same : l.view.store ≡ l.fn.view.store;
  refs : map (λ (row : Keyed). row.at) l.rows.items ≡ take l.at-index l.refs;
  keys : (stored : StoredRows) → IsAt l.fn.view.store l.table stored → All (IsKeyed stored) l.rows.items;
  reads : l.view.reads ≤ l.fn.view.reads + l.at-index;
}
