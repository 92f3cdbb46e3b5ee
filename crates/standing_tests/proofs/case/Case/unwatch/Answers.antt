-- With nothing to undo the other lists still fit.
use Rattle.std.proofs.Common.{sym, ap, subst, ◌∙◌}
use Rattle.mm_standing.specs.State.{Lists}
use Rattle.standing_tests.specs.Cases.{IsCase, IsMark}
use Rattle.standing_tests.proofs.CaseSteps.{case_left, start_now}
use Rattle.standing_tests.proofs.case.Case.unwatch.Goals as goal

pub invariant_of-self : goal.invariant_of-self
invariant_of-self c =
    let store = c.settle.new.store in
    let left = c.unwatch.new.self in
    let case : IsCase store left = subst (IsCase store) (sym c.unwatch.ensures) (case_left store c.settle.new.standing c.args.place c.settle.ensures.case) in
    let start : IsMark store left 0 0 =
    start_now store left case c.mark-now.result c.mark-now.ensures.mark c.mark-now.ensures.is c.mark-now.ensures.rows c.settle.ensures.settled
    (ap (λ (l : Lists). l.log) c.unwatch.ensures ∙ c.settle.ensures.log) in
    record { case = case; start = start; mark = start }
