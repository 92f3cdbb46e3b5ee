use Rattle.std.proofs.Common.{◌≡◌, ◌+◌, ◌++◌, ◌≤◌, length, take}
use Rattle.mm_partition.specs.Views.{viewed}
use Rattle.mm_query.specs.Queries.{rows_read}
use Rattle.mm_select.specs.Matches.{matches}
use Rattle.mm_join.proofs.inner.Inner.add_all.Given as goal

-- the candidates so far that fit were added
abbrev pub invariant-loop-at : goal.invariant-loop-at
invariant-loop-at l = record {
  list : l.list ≡ record l.fn.list {
    combos = l.fn.list.combos
        ++ matches l.fn.view.store l.self.table l.self.atoms.now (rows_read viewed l.fn.rows.items) l.outer (take l.at-index l.candidates);
  };
  rows : l.rows.items ≡ l.fn.rows.items;
  few : length l.list.combos ≤ l.self.cap;
  same : l.view.store ≡ l.fn.view.store;
  reads : l.view.reads ≤ l.fn.view.reads + l.at-index;
}
