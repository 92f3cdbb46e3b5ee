use Rattle.std.proofs.Common.{refl, sym}
use Rattle.mm_store.proofs.Staging.{HasStaged-both}
use Rattle.store_tests.proofs.PlainStores.{plain_at}
use Rattle.store_tests.proofs.StagedRows.{plain_staged, still_there}
use Rattle.standing_tests.proofs.Staging.{hidden_staged}
use Rattle.standing_tests.proofs.steps.stage.Goals as goal

pub stage-requires-clause-there : goal.stage-requires-clause-there
stage-requires-clause-there c = still_there c.args.table c.args.store.now c.reserve_rows.new.self c.requires.there c.reserve_rows.ensures.kept

pub stage-requires-clause-typed : goal.stage-requires-clause-typed
stage-requires-clause-typed c = λ stored at.
    sym (plain_at c.reserve_rows.new.self c.args.table
    (plain_staged c.args.table c.args.store.now c.reserve_rows.new.self c.requires.there c.reserve_rows.ensures.kept c.requires.plain) stored at).types

pub returns-clause-staged : goal.returns-clause-staged
returns-clause-staged c =
    HasStaged-both c.args.table c.args.store.now c.reserve_rows.new.self c.stage.new.self c.reserve_rows.ensures.kept c.stage.ensures.kept

pub returns-clause-hidden : goal.returns-clause-hidden
returns-clause-hidden c =
    hidden_staged c.args.table c.reserve_rows.new.self c.stage.new.self
    (still_there c.args.table c.args.store.now c.reserve_rows.new.self c.requires.there c.reserve_rows.ensures.kept) c.stage.ensures.kept c.stage.result _
    c.stage.ensures.staged refl
