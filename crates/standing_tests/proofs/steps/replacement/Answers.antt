use Rattle.std.proofs.Common.{sym, ◌∙◌}
use Rattle.mm_store.proofs.Staging.{HasStaged-none}
use Rattle.store_tests.proofs.StagedRows.{live_staged, plain_staged, still_there}
use Rattle.standing_tests.proofs.Staging.{move_fit, update_fit}
use Rattle.standing_tests.proofs.steps.replacement.Goals as goal

pub returns-in_default-clause-staged : goal.returns-in_default-clause-staged
returns-in_default-clause-staged c = HasStaged-none c.args.table c.args.store.now

pub keeps_key-requires-clause-there : goal.keeps_key-requires-clause-there
keeps_key-requires-clause-there c = still_there c.args.table c.args.store.now c.stage.new.store c.requires.there c.stage.ensures.staged

pub keeps_key-requires-clause-live : goal.keeps_key-requires-clause-live
keeps_key-requires-clause-live c =
    live_staged c.args.table c.args.store.now c.stage.new.store c.requires.there c.stage.ensures.staged c.in-Some.at c.in-Some.ensures

pub returns-then-keeps_key-clause-fit : goal.returns-then-keeps_key-clause-fit
returns-then-keeps_key-clause-fit c =
    update_fit c.stage.new.store c.args.table
    (plain_staged c.args.table c.args.store.now c.stage.new.store c.requires.there c.stage.ensures.staged c.requires.plain)
    c.in_ok-other.other c.in_ok-other.ensures.hidden c.in-Some.at
    (live_staged c.args.table c.args.store.now c.stage.new.store c.requires.there c.stage.ensures.staged c.in-Some.at c.in-Some.ensures)
    (λ stored here. sym (c.keeps_key.ensures stored here) ∙ c.if-keeps_key.true)

pub returns-else-keeps_key-clause-fit : goal.returns-else-keeps_key-clause-fit
returns-else-keeps_key-clause-fit c =
    move_fit c.stage.new.store c.args.table
    (plain_staged c.args.table c.args.store.now c.stage.new.store c.requires.there c.stage.ensures.staged c.requires.plain)
    c.in_ok-other.other c.in_ok-other.ensures.hidden c.in-Some.at
    (live_staged c.args.table c.args.store.now c.stage.new.store c.requires.there c.stage.ensures.staged c.in-Some.at c.in-Some.ensures)
