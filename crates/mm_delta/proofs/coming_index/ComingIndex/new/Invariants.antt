use Rattle.std.proofs.Common.{map, take}
use Rattle.mm_partition.specs.Views.{viewed}
use Rattle.mm_delta.specs.EditIndex.{AreUnder, HasNonePast}
use Rattle.mm_delta.proofs.coming_index.ComingIndex.new.Given as goal

abbrev pub invariant-loop-row : goal.invariant-loop-row
invariant-loop-row l = record {
  under : AreUnder l.column (map viewed (take l.row-index l.come)) l.rows.entries;
  past : HasNonePast l.rows.entries;
}
