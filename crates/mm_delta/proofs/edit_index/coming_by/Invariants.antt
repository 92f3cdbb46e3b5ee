use Rattle.std.proofs.Common.{All, map}
use Rattle.mm_partition.specs.Views.{viewed}
use Rattle.mm_delta.specs.EditIndex.{AreUnder, HasNonePast}
use Rattle.mm_delta.proofs.edit_index.coming_by.Given as goal

abbrev pub invariant-loop-column : goal.invariant-loop-column
invariant-loop-column l = record {
  under : All (λ index. AreUnder index.column (map viewed l.come) index.rows.entries) l.indexes.items;
  past : All (λ index. HasNonePast index.rows.entries) l.indexes.items;
}
