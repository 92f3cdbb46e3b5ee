-- Tables and lists are rolled back to one mark.
use Rattle.std.proofs.Common.{ap, ◌∙◌}
use Rattle.mm_standing.specs.State.{Lists}
use Rattle.standing_tests.proofs.CaseSteps.{case_back, mark_back}
use Rattle.standing_tests.proofs.steps.go_back.Goals as goal

pub returns-clause-case : goal.returns-clause-case
returns-clause-case c =
    case_back c.args.store.now c.revert.new.self c.args.standing.now c.revert-2.new.self
    (ap (λ (l : Lists). l.queries) c.revert-2.ensures.rest) c.args.commands c.args.changes c.revert-2.ensures.log c.revert-2.ensures.counts
    c.requires.case c.requires.mark c.revert.ensures.form c.revert.ensures.rows
    (ap (λ (l : Lists). l.prepared) c.revert-2.ensures.rest ∙ c.requires.case.ready)

pub returns-clause-marks : goal.returns-clause-marks
returns-clause-marks c =
    mark_back c.args.store.now c.revert.new.self c.args.standing.now c.revert-2.new.self
    (ap (λ (l : Lists). l.queries) c.revert-2.ensures.rest) c.args.commands c.args.changes c.revert-2.ensures.log c.revert-2.ensures.counts
    c.requires.mark c.revert.ensures.marks
