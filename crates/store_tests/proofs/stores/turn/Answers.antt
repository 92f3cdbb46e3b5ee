use Rattle.std.proofs.Common.{sym, subst}
use Rattle.mm_store.proofs.Staging.{HasStaged-both, HasStaged-none}
use Rattle.store_tests.specs.RowEdits.{AreReadyAt}
use Rattle.store_tests.proofs.StagedRows.{first_ready, live_staged, plain_staged, still_there}
use Rattle.store_tests.proofs.stores.turn.Goals as goal

pub returns-in_default-clause-staged : goal.returns-in_default-clause-staged
returns-in_default-clause-staged c = HasStaged-none c.args.table c.args.store.now

pub replacement-edit-requires-clause-there : goal.replacement-edit-requires-clause-there
replacement-edit-requires-clause-there c =
    still_there c.args.table c.args.store.now c.reserve_rows.new.self c.requires.there c.reserve_rows.ensures.kept

pub replacement-edit-requires-clause-plain : goal.replacement-edit-requires-clause-plain
replacement-edit-requires-clause-plain c =
    plain_staged c.args.table c.args.store.now c.reserve_rows.new.self c.requires.there c.reserve_rows.ensures.kept c.requires.plain

pub replacement-edit-requires-clause-live : goal.replacement-edit-requires-clause-live
replacement-edit-requires-clause-live c =
    live_staged c.args.table c.args.store.now c.reserve_rows.new.self c.requires.there c.reserve_rows.ensures.kept c.in-Some.at c.in-Some.ensures

pub returns-in_err-vec-clause-staged : goal.returns-in_err-vec-clause-staged
returns-in_err-vec-clause-staged c =
    HasStaged-both c.args.table c.args.store.now c.reserve_rows.new.self c.replacement-edit.new.store c.reserve_rows.ensures.kept
    c.replacement-edit.ensures.brings.staged

pub returns-clause-staged : goal.returns-clause-staged
returns-clause-staged c =
    HasStaged-both c.args.table c.args.store.now c.reserve_rows.new.self c.replacement-edit.new.store c.reserve_rows.ensures.kept
    c.replacement-edit.ensures.brings.staged

pub returns-clause-ready : goal.returns-clause-ready
returns-clause-ready c =
    subst (AreReadyAt c.replacement-edit.new.store c.args.table) (sym c.in_ok-vec.ensures.items)
    (first_ready c.args.table c.reserve_rows.new.self c.replacement-edit.new.store c.replacement-edit.result c.replacement-edit.ensures.brings)
