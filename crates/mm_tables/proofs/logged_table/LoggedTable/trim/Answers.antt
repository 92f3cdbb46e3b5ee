use Rattle.std.proofs.Common.{ap, ◌∙◌}
use Rattle.mm_partition.specs.Places.{slot_at}
use Rattle.mm_indexed.specs.Kept.{StoredRows}
use Rattle.mm_tables.proofs.Room.{HasFewSpares-trimmed, shape_trimmed}
use Rattle.mm_tables.proofs.logged_table.LoggedTable.trim.Goals as goal

pub returns-clause-few : goal.returns-clause-few
returns-clause-few c = HasFewSpares-trimmed c.args.n c.trim_slots.new.self.rows _ c.trim_spares.ensures.spare c.trim_spares.ensures.indexes

pub returns-clause-slots : goal.returns-clause-slots
returns-clause-slots c =
    ap (λ (r : StoredRows). slot_at r.places) c.trim_spares.ensures.rest
    ∙ c.trim_slots.ensures.slots

pub returns-clause-shape : goal.returns-clause-shape
returns-clause-shape c =
    shape_trimmed c.args.n c.trim_slots.new.self.rows c.trim_spares.new.self c.trim_spares.ensures.rest c.trim_spares.ensures.indexes
    ∙ c.trim_slots.ensures.shape
