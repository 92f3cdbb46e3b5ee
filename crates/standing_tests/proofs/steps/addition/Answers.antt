use Rattle.store_tests.proofs.StagedRows.{plain_staged}
use Rattle.standing_tests.proofs.Staging.{insertion_fit}
use Rattle.standing_tests.proofs.steps.addition.Goals as goal

pub returns-clause-fit : goal.returns-clause-fit
returns-clause-fit c =
    insertion_fit c.stage.new.store c.args.table
    (plain_staged c.args.table c.args.store.now c.stage.new.store c.requires.there c.stage.ensures.staged c.requires.plain)
    c.in_ok-stage.field-0 c.in_ok-stage.ensures.hidden
