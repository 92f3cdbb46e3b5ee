use Rattle.std.proofs.Common.{◌≡◌, ◌+◌, ◌≤◌, length, take}
use Rattle.std.specs.List.{sum_by}
use Rattle.mm_store.specs.Tables.{rows_at}
use Rattle.mm_templist.specs.Combos.{combo_rows}
use Rattle.mm_join.proofs.Progress.{Progress}
use Rattle.mm_join.specs.AccessMethods.{reads_along}
use Rattle.mm_join.proofs.join.Join.along.Given as goal

-- all that fits of the combinations so far was found, and the rows read are within their bound
abbrev pub invariant-loop-i : goal.invariant-loop-i
invariant-loop-i l = record {
  same : l.view.store ≡ l.fn.view.store;
  method : l.method ≡ l.fn.method;
  tables : l.list.tables ≡ l.self.descriptor.tables.now;
  fields : l.list.fields ≡ l.self.descriptor.fields.now;
  few : length l.list.combos ≤ l.self.cap;
  progress : Progress l.fn.view.store l.self.outer.now.tables l.inner.table l.self.atoms.now l.self.outer.now.combos l.i l.list.combos;
  reads : l.view.reads ≤ l.fn.view.reads
      + sum_by (reads_along l.fn.method (rows_at l.fn.view.store.tables l.inner.table)) (take l.i (combo_rows l.fn.view.store l.self.outer.now));
}
