use Rattle.std.proofs.Common.{◌≡◌, All, map, take}
use Rattle.mm_templist.specs.Pieces.{pieces}
use Rattle.mm_templist.specs.Runs.{referred}
use Rattle.mm_templist.specs.Shown.{HasPrefix, placed_row}
use Rattle.mm_templist.proofs.shown.placed_rows.Given as goal

abbrev pub invariant-loop-i : goal.invariant-loop-i
invariant-loop-i l = record {
  rows : map (placed_row l.width l.values) l.places.items ≡ take l.i (pieces l.width l.count (referred l.values));
  prefixes : All (HasPrefix l.order l.width l.values) l.places.items;
}
