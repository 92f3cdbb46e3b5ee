use Rattle.std.proofs.Common.{◌*◌}
use Rattle.mm_tables.proofs.tables.Tables.reserve.Goals as goal

pub returns-clause-kept : goal.returns-clause-kept
returns-clause-kept c n m was = c.reserve_room.ensures.kept n (2 * m) (2 * m) was
