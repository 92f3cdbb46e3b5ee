-- Neither staged rows nor lists that keep their counts change the case.
use Rattle.std.proofs.Common.{arith}
use Rattle.mm_store.proofs.MarkLaws.{KeepsMarks-same}
use Rattle.standing_tests.proofs.CaseSteps.{case_listed, mark_still}
use Rattle.standing_tests.proofs.Staging.{case_staged, mark_staged}
use Rattle.standing_tests.proofs.steps.prepare_and_drop.Goals as goal

pub returns-in_err-edit-clause-case : goal.returns-in_err-edit-clause-case
returns-in_err-edit-clause-case c =
    case_staged c.args.table c.args.store.now c.addition.new.store c.requires.there c.addition.ensures.staged c.args.standing.now c.requires.case

pub returns-in_err-edit-clause-marks : goal.returns-in_err-edit-clause-marks
returns-in_err-edit-clause-marks c =
    mark_staged c.args.table c.args.store.now c.addition.new.store c.requires.there c.addition.ensures.staged c.args.standing.now

pub drop_prepared-requires-clause-plain : goal.drop_prepared-requires-clause-plain
drop_prepared-requires-clause-plain c =
    (case_staged c.args.table c.args.store.now c.addition.new.store c.requires.there c.addition.ensures.staged c.args.standing.now c.requires.case).plain

pub drop_prepared-requires-clause-typed : goal.drop_prepared-requires-clause-typed
drop_prepared-requires-clause-typed c =
    (case_staged c.args.table c.args.store.now c.addition.new.store c.requires.there c.addition.ensures.staged c.args.standing.now c.requires.case).typed

pub drop_prepared-requires-clause-served : goal.drop_prepared-requires-clause-served
drop_prepared-requires-clause-served c =
    (case_staged c.args.table c.args.store.now c.addition.new.store c.requires.there c.addition.ensures.staged c.args.standing.now c.requires.case).served

pub drop_prepared-requires-clause-fits : goal.drop_prepared-requires-clause-fits
drop_prepared-requires-clause-fits c =
    (case_staged c.args.table c.args.store.now c.addition.new.store c.requires.there c.addition.ensures.staged c.args.standing.now c.requires.case).fits

pub returns-clause-case : goal.returns-clause-case
returns-clause-case c =
    case_listed c.addition.new.store c.args.standing.now c.drop_prepared.new.standing c.drop_prepared.ensures.queries c.drop_prepared.ensures.now
    c.drop_prepared.ensures.ready
    (case_staged c.args.table c.args.store.now c.addition.new.store c.requires.there c.addition.ensures.staged c.args.standing.now c.requires.case)

pub returns-clause-marks : goal.returns-clause-marks
returns-clause-marks c = λ commands changes mark.
    let store = c.addition.new.store in
    let staged =
    mark_staged c.args.table c.args.store.now store c.requires.there c.addition.ensures.staged c.args.standing.now commands changes mark in
    let changes_there = staged.changes_there in
    let older = c.drop_prepared.ensures.older in
    mark_still store store c.args.standing.now c.drop_prepared.new.standing c.drop_prepared.ensures.queries commands changes
    (KeepsMarks-same store commands) (omega arith) (c.drop_prepared.ensures.counts changes changes_there) staged
