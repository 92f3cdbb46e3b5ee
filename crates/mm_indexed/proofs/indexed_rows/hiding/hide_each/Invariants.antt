use Rattle.std.proofs.Common.{◌≡◌}
use Rattle.mm_partition.specs.Places.{extent_of, slot_at}
use Rattle.mm_indexed.proofs.Hiding.{IsHiding}
use Rattle.mm_indexed.proofs.indexed_rows.hiding.hide_each.Given as goal

abbrev pub invariant-loop-at : goal.invariant-loop-at
invariant-loop-at l = record {
  hiding : IsHiding (slot_at l.initial.rows) (slot_at l.rows) l.at-iterator;
  room : l.rows.room ≡ l.initial.rows.room;
  extent : extent_of l.rows ≡ extent_of l.initial.rows;
  types : l.rows.types ≡ l.initial.rows.types;
}
