use Rattle.std.proofs.Common.{sym}
use Rattle.mm_store.proofs.Reading.{rows_shown}
use Rattle.mm_store.proofs.store.changing.rows_are_listed.Goals as goal

pub returns : goal.returns
returns c = sym (rows_shown c.args.base.now.stored.tables c.are_lawful.ensures c.are_whole.ensures)
