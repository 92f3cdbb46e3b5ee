use Rattle.std.proofs.Common.{◌≡◌, ℕ, ◌<◌, ◌≤◌, [], Some, length, map, get_or}
use Rattle.mm_tables.specs.Tables.{extent_in, shape_of, state_of, HasCounted, HasFewSpares, HoldsAt}
use Rattle.mm_tables.specs.declared.log_record.LogRecord.{LogRecord}
use Rattle.mm_tables.proofs.trims.trim_all.Given as goal

abbrev pub invariant-loop-entry : goal.invariant-loop-entry
invariant-loop-entry l = record {
  done : (k : ℕ) (d : LogRecord) → k < l.entry-index → HoldsAt (HasFewSpares 64) l.tables.items (get_or l.log k d).table;
  last : (t : ℕ) → l.last ≡ Some t → HoldsAt (HasFewSpares 64) l.tables.items t;
  state : state_of l.tables.items ≡ state_of l.initial.tables.items;
  counted : (t : ℕ) → t < length l.tables.items → HoldsAt (HasCounted [] t) l.tables.items t;
  extents : (t : ℕ) → extent_in l.tables.items t ≤ extent_in l.initial.tables.items t;
  shapes : map shape_of l.tables.items ≡ map shape_of l.initial.tables.items;
}
