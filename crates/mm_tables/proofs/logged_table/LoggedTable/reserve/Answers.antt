use Rattle.mm_tables.proofs.Room.{shape_after}
use Rattle.mm_tables.proofs.logged_table.LoggedTable.reserve.Goals as goal

pub returns-clause-shape : goal.returns-clause-shape
returns-clause-shape c = shape_after _ _ _ _ c.reserve.ensures.table
