use Rattle.std.proofs.Common.{◌≡◌, ◌+◌, ◌*◌, ◌≤◌, length, take}
use Rattle.mm_templist.specs.Pieces.{pieces}
use Rattle.mm_templist.specs.Results.{projected_rows}
use Rattle.mm_templist.specs.Runs.{referred}
use Rattle.mm_templist.proofs.temp_list.TempList.projected.Given as goal

abbrev pub invariant-loop-i : goal.invariant-loop-i
invariant-loop-i l = record {
  same : l.view.store ≡ l.fn.view.store;
  rows : pieces (length l.self.fields) l.i (referred l.values.items) ≡ take l.i (projected_rows l.fn.view.store l.self);
  whole : length l.values.items ≡ l.i * length l.self.fields;
  reads : l.view.reads ≤ l.fn.view.reads + l.i * length l.self.tables;
}
