-- Staged rows do not change the case.
use Rattle.store_tests.proofs.StagedRows.{still_there}
use Rattle.standing_tests.proofs.Staging.{case_staged, mark_staged}
use Rattle.standing_tests.proofs.steps.renumber.Goals as goal

pub returns-in_err-edit-clause-case : goal.returns-in_err-edit-clause-case
returns-in_err-edit-clause-case c =
    case_staged c.args.table c.args.store.now c.replacement.new.store c.requires.there c.replacement.ensures.staged c.args.standing.now c.requires.case

pub returns-in_err-edit-clause-marks : goal.returns-in_err-edit-clause-marks
returns-in_err-edit-clause-marks c =
    mark_staged c.args.table c.args.store.now c.replacement.new.store c.requires.there c.replacement.ensures.staged c.args.standing.now

pub make_edit-requires-clause-case : goal.make_edit-requires-clause-case
make_edit-requires-clause-case c =
    case_staged c.args.table c.args.store.now c.replacement.new.store c.requires.there c.replacement.ensures.staged c.args.standing.now c.requires.case

pub make_edit-requires-clause-there : goal.make_edit-requires-clause-there
make_edit-requires-clause-there c = still_there c.args.table c.args.store.now c.replacement.new.store c.requires.there c.replacement.ensures.staged

pub returns-clause-marks : goal.returns-clause-marks
returns-clause-marks c = λ commands changes mark.
    c.make_edit.ensures.marks commands changes
    (mark_staged c.args.table c.args.store.now c.replacement.new.store c.requires.there c.replacement.ensures.staged c.args.standing.now commands changes mark)
