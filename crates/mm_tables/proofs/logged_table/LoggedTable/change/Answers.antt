use Rattle.std.proofs.Common.{◌+◌, arith}
use Rattle.mm_tables.specs.Edits.{key_places_made, places_made, key_places, places}
use Rattle.mm_tables.proofs.Room.{HasSpare-less, HasRoom-used, HasRoom-fewer, shape_after}
use Rattle.mm_tables.proofs.logged_table.LoggedTable.change.Goals as goal

pub perform-requires-clause-spare : goal.perform-requires-clause-spare
perform-requires-clause-spare c =
    let t = c.args.self.now in
    let e = c.args.edit in
    HasSpare-less (t.owed.key + key_places e) (t.owed.indexes + places e) (key_places_made e) (places_made e) t.rows (omega arith) (omega arith)
    c.requires.room.spare

pub returns-clause-owed : goal.returns-clause-owed
returns-clause-owed c = record { key = omega (arith, c.owed-owed.ensures.key); indexes = omega (arith, c.owed-owed.ensures.indexes) }

pub returns-clause-room : goal.returns-clause-room
returns-clause-room c = HasRoom-used c.args.edit c.args.self.now _ (returns-clause-owed c) c.perform.ensures.table c.perform.ensures.room

pub returns-clause-spare : goal.returns-clause-spare
returns-clause-spare c =
    let t = c.args.self.now in
    let e = c.args.edit in
    let left = HasRoom-used e t _ (returns-clause-owed c) c.perform.ensures.table c.perform.ensures.room 0 0 0
    (HasRoom-fewer 0 (key_places e) (places e) 0 (0 + key_places e) (0 + places e) t (omega arith) (omega arith) (omega arith) c.requires.room) in
    HasSpare-less _ _ _ _ _ (omega arith) (omega arith) left.spare

pub returns-clause-shape : goal.returns-clause-shape
returns-clause-shape c = shape_after _ _ _ _ c.perform.ensures.table
