use Rattle.std.proofs.Common.{◌≢◌, ◌∙◌, sym, subst}
use Rattle.std.proofs.lemmas.Bool.{false≢true}
use Rattle.mm_indexed.proofs.RefTests.{test_from_same}
use Rattle.mm_store.proofs.Staging.{HasStaged-both, HasStaged-none}
use Rattle.store_tests.specs.RowEdits.{AreReadyAt}
use Rattle.store_tests.proofs.StagedRows.{both_ready, live_staged, plain_staged, still_there}
use Rattle.store_tests.proofs.stores.exchange.Goals as goal

pub returns-in_default-clause-staged : goal.returns-in_default-clause-staged
returns-in_default-clause-staged c = HasStaged-none c.args.table c.args.store.now

pub returns-then-eq-clause-staged : goal.returns-then-eq-clause-staged
returns-then-eq-clause-staged c = HasStaged-none c.args.table c.args.store.now

pub replacement-of_first-requires-clause-there : goal.replacement-of_first-requires-clause-there
replacement-of_first-requires-clause-there c =
    still_there c.args.table c.args.store.now c.reserve_rows.new.self c.requires.there c.reserve_rows.ensures.kept

pub replacement-of_first-requires-clause-plain : goal.replacement-of_first-requires-clause-plain
replacement-of_first-requires-clause-plain c =
    plain_staged c.args.table c.args.store.now c.reserve_rows.new.self c.requires.there c.reserve_rows.ensures.kept c.requires.plain

pub replacement-of_first-requires-clause-live : goal.replacement-of_first-requires-clause-live
replacement-of_first-requires-clause-live c =
    live_staged c.args.table c.args.store.now c.reserve_rows.new.self c.requires.there c.reserve_rows.ensures.kept c.in-Some-Some.first
    c.in-Some-Some.ensures

pub replacement-of_second-requires-clause-there : goal.replacement-of_second-requires-clause-there
replacement-of_second-requires-clause-there c =
    let staged = HasStaged-both c.args.table c.args.store.now c.reserve_rows.new.self c.replacement-of_first.new.store c.reserve_rows.ensures.kept
    c.replacement-of_first.ensures.brings.staged in
    still_there c.args.table c.args.store.now c.replacement-of_first.new.store c.requires.there staged

pub replacement-of_second-requires-clause-plain : goal.replacement-of_second-requires-clause-plain
replacement-of_second-requires-clause-plain c =
    let staged = HasStaged-both c.args.table c.args.store.now c.reserve_rows.new.self c.replacement-of_first.new.store c.reserve_rows.ensures.kept
    c.replacement-of_first.ensures.brings.staged in
    plain_staged c.args.table c.args.store.now c.replacement-of_first.new.store c.requires.there staged c.requires.plain

pub replacement-of_second-requires-clause-live : goal.replacement-of_second-requires-clause-live
replacement-of_second-requires-clause-live c =
    let staged = HasStaged-both c.args.table c.args.store.now c.reserve_rows.new.self c.replacement-of_first.new.store c.reserve_rows.ensures.kept
    c.replacement-of_first.ensures.brings.staged in
    live_staged c.args.table c.args.store.now c.replacement-of_first.new.store c.requires.there staged c.in-Some-Some.second c.in-Some-Some.ensures'

pub replacement-of_second-requires-clause-room : goal.replacement-of_second-requires-clause-room
replacement-of_second-requires-clause-room c = c.replacement-of_first.ensures.brings.room 1 c.in_ok-reserve_rows.ensures.room

pub returns-in_err-vec-clause-staged : goal.returns-in_err-vec-clause-staged
returns-in_err-vec-clause-staged c =
    let staged = HasStaged-both c.args.table c.args.store.now c.reserve_rows.new.self c.replacement-of_first.new.store c.reserve_rows.ensures.kept
    c.replacement-of_first.ensures.brings.staged in
    HasStaged-both c.args.table c.args.store.now c.replacement-of_first.new.store c.replacement-of_second.new.store staged
    c.replacement-of_second.ensures.brings.staged

pub returns-clause-staged : goal.returns-clause-staged
returns-clause-staged c =
    let staged = HasStaged-both c.args.table c.args.store.now c.reserve_rows.new.self c.replacement-of_first.new.store c.reserve_rows.ensures.kept
    c.replacement-of_first.ensures.brings.staged in
    HasStaged-both c.args.table c.args.store.now c.replacement-of_first.new.store c.replacement-of_second.new.store staged
    c.replacement-of_second.ensures.brings.staged

pub returns-clause-ready : goal.returns-clause-ready
returns-clause-ready c =
    let differ : c.in-Some-Some.first ≢ c.in-Some-Some.second =
    λ same. false≢true (sym c.if-eq.false ∙ (c.eq.ensures ∙ test_from_same c.in-Some-Some.first c.in-Some-Some.second same)) in
    subst (AreReadyAt c.replacement-of_second.new.store c.args.table) (sym c.in_ok-vec.ensures.items)
    (both_ready c.args.table c.reserve_rows.new.self c.replacement-of_first.new.store c.replacement-of_second.new.store c.replacement-of_first.result
    c.replacement-of_second.result c.in-Some-Some.first c.in-Some-Some.second c.replacement-of_first.ensures.brings c.replacement-of_second.ensures.brings
    c.replacement-of_first.ensures.replaces c.replacement-of_second.ensures.replaces differ)
