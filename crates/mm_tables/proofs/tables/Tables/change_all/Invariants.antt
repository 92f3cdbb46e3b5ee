use Rattle.std.proofs.Common.{◌≡◌, ℕ, ◌+◌, ◌≤◌, ◌++◌, length, map, take, drop, set}
use Rattle.mm_tables.specs.Tables.{extents_of, shape_of, state_of, slots_in, key_in, at_mark, logged, HasRoomFor, HoldsAt, KeepsOthers}
use Rattle.mm_tables.specs.Commands.{after, FitsForth}
use Rattle.mm_tables.proofs.tables.Tables.change_all.Given as goal

abbrev pub invariant-loop-edit : goal.invariant-loop-edit
invariant-loop-edit l = record {
  fits : FitsForth (key_in l.self.tables l.table) (drop l.edit-index l.edits) (slots_in l.self.tables l.table);
  state : set (state_of l.self.tables) l.table (after (drop l.edit-index l.edits) (slots_in l.self.tables l.table))
      ≡ set (state_of l.initial.self.tables) l.table (after l.edits (slots_in l.initial.self.tables l.table));
  log : l.self.log ≡ l.initial.self.log ++ map (logged l.table) (take l.edit-index l.edits);
  marks : (mark : ℕ) → mark ≤ length l.initial.self.log → at_mark l.self mark ≡ at_mark l.initial.self mark;
  log_room : l.initial.self.log_room ≤ l.self.log_room + l.edit-index;
  capacity : HoldsAt (HasRoomFor (drop l.edit-index l.edits)) l.self.tables l.table;
  others : KeepsOthers l.table l.initial.self.tables l.self.tables;
  extents : extents_of l.self.tables ≡ extents_of l.initial.self.tables;
  shapes : map shape_of l.self.tables ≡ map shape_of l.initial.self.tables;
}
