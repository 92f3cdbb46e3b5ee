use Rattle.std.proofs.Common.{◌∙◌, sym}
use Rattle.store_tests.proofs.StagedRows.{hidden_staged, live_staged, move_brings, still_there, update_brings}
use Rattle.store_tests.proofs.row_edits.replacement.Goals as goal

pub keeps_key-requires-clause-there : goal.keeps_key-requires-clause-there
keeps_key-requires-clause-there c = still_there c.args.table c.args.store.now c.stage-other.new.store c.requires.there c.stage-other.ensures.kept

pub keeps_key-requires-clause-live : goal.keeps_key-requires-clause-live
keeps_key-requires-clause-live c =
    live_staged c.args.table c.args.store.now c.stage-other.new.store c.requires.there c.stage-other.ensures.kept c.args.at c.requires.live

pub keeps_key-requires-clause-hidden : goal.keeps_key-requires-clause-hidden
keeps_key-requires-clause-hidden c =
    hidden_staged c.args.table c.args.store.now c.stage-other.new.store c.requires.there c.stage-other.ensures.kept c.stage-other.result _
    c.stage-other.ensures.staged c.stage-other.ensures.room

pub returns-then-keeps_key-clause-brings : goal.returns-then-keeps_key-clause-brings
returns-then-keeps_key-clause-brings c =
    update_brings c.args.table c.args.store.now c.stage-other.new.store c.requires.there c.stage-other.ensures.kept c.stage-other.result _
    c.stage-other.ensures.staged c.stage-other.ensures.room c.args.at c.requires.live
    (λ now here. sym (c.keeps_key.ensures now here) ∙ c.if-keeps_key.true)

pub returns-else-keeps_key-clause-brings : goal.returns-else-keeps_key-clause-brings
returns-else-keeps_key-clause-brings c =
    move_brings c.args.table c.args.store.now c.stage-other.new.store c.requires.there c.stage-other.ensures.kept c.stage-other.result _
    c.stage-other.ensures.staged c.stage-other.ensures.room c.args.at c.requires.live
