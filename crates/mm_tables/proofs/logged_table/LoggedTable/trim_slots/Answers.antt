use Rattle.mm_tables.proofs.Room.{shape_after}
use Rattle.mm_tables.proofs.Slots.{unchanged}
use Rattle.mm_tables.proofs.logged_table.LoggedTable.trim_slots.Goals as goal

pub returns-then-records-extent-clause-slots : goal.returns-then-records-extent-clause-slots
returns-then-records-extent-clause-slots c = unchanged c.args.self.now.rows.places c.trim_slots.new.self.places c.trim_slots.ensures.slots

pub returns-then-records-extent-clause-shape : goal.returns-then-records-extent-clause-shape
returns-then-records-extent-clause-shape c = shape_after 0 0 _ _ c.trim_slots.ensures.table
