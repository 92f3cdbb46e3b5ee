use Rattle.store_tests.proofs.StagedRows.{insertion_brings}
use Rattle.store_tests.proofs.row_edits.insertion.Goals as goal

pub returns-clause-brings : goal.returns-clause-brings
returns-clause-brings c =
    insertion_brings c.args.table c.args.store.now c.stage.new.store c.requires.there c.stage.ensures.kept c.stage.result _ c.stage.ensures.staged
    c.stage.ensures.room
