use Rattle.std.proofs.Common.{◌≡◌, ℕ, ◌<◌, length, map, drop, get_or}
use Rattle.mm_tables.specs.Edits.{DropsHidden}
use Rattle.mm_tables.specs.Tables.{extents_of, shape_of, slots_in, HasCounted, HoldsAt}
use Rattle.mm_tables.specs.declared.log_record.LogRecord.{LogRecord}
use Rattle.mm_tables.proofs.Settling.{ClearedIn}
use Rattle.mm_tables.proofs.trims.forget_all.Given as goal

abbrev pub invariant-loop-entry : goal.invariant-loop-entry
invariant-loop-entry l = record {
  cleared : (k : ℕ) (d : LogRecord) → k < l.entry-index → ClearedIn l.tables.items (get_or l.log k d);
  others : (t : ℕ) → DropsHidden (slots_in l.initial.tables.items t) (slots_in l.tables.items t);
  counted : (t : ℕ) → t < length l.tables.items → HoldsAt (HasCounted (drop l.entry-index l.log) t) l.tables.items t;
  extents : extents_of l.tables.items ≡ extents_of l.initial.tables.items;
  shapes : map shape_of l.tables.items ≡ map shape_of l.initial.tables.items;
}
