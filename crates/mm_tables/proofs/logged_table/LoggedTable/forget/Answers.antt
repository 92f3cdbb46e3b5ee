use Rattle.std.proofs.Common.{ap, ◌∙◌}
use Rattle.mm_tables.proofs.Room.{shape_after, shape_rows}
use Rattle.mm_tables.proofs.logged_table.LoggedTable.forget.Goals as goal

pub returns-clause-shape : goal.returns-clause-shape
returns-clause-shape c = ap shape_rows c.owe_less.ensures.rows ∙ shape_after _ _ _ _ c.release_hidden.ensures.table
