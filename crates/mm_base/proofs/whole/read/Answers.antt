use Rattle.mm_base.proofs.InBases.{read_extent, read_key, read_slots, read_types}
use Rattle.mm_base.proofs.whole.read.Goals as goal

pub returns-clause-slots : goal.returns-clause-slots
returns-clause-slots c = read_slots c.args.tables.now.tables c.args.table c.table.result.now c.requires c.table.ensures

pub returns-clause-key : goal.returns-clause-key
returns-clause-key c = read_key c.args.tables.now.tables c.args.table c.table.result.now c.requires c.table.ensures

pub returns-clause-types : goal.returns-clause-types
returns-clause-types c = read_types c.args.tables.now.tables c.args.table c.table.result.now c.requires c.table.ensures

pub returns-clause-extent : goal.returns-clause-extent
returns-clause-extent c = read_extent c.args.tables.now.tables c.args.table c.table.result.now c.requires c.table.ensures
