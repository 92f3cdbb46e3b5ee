use Rattle.std.proofs.Common.{◌≡◌, ◌≤◌, ◌*◌, take}
use Rattle.std.specs.List.{sum_by}
use Rattle.mm_tables.specs.Edits.{key_places, places}
use Rattle.mm_tables.proofs.edit.room_for.Given as goal

abbrev pub invariant-loop-edit : goal.invariant-loop-edit
invariant-loop-edit l = record {
  key : l.room.key ≡ sum_by key_places (take l.edit-index l.edits);
  indexes : l.room.indexes ≡ sum_by places (take l.edit-index l.edits);
  few_keys : l.room.key ≤ 2 * l.edit-index;
  few : l.room.indexes ≤ 2 * l.edit-index;
}
