-- Without standing queries the lists have the rows of their queries, now and at the start.
use Rattle.std.proofs.Common.{ap}
use Rattle.mm_standing.specs.State.{Lists}
use Rattle.standing_tests.specs.Cases.{IsCase, IsMark}
use Rattle.standing_tests.proofs.CaseSteps.{case_none, start_now}
use Rattle.standing_tests.proofs.case.Case.new.Goals as goal

pub invariant_of-result : goal.invariant_of-result
invariant_of-result c =
    let store = c.in_ok-store.store in
    let lists = c.new.result in
    let case : IsCase store lists =
    case_none store lists c.in_ok-store.ensures.two c.in_ok-store.ensures.plain c.in_ok-store.ensures.typed
    (ap (λ (l : Lists). l.queries) c.new.ensures) (ap (λ (l : Lists). l.prepared) c.new.ensures) in
    let start : IsMark store lists 0 0 =
    start_now store lists case c.mark-now.result c.mark-now.ensures.mark c.mark-now.ensures.is c.mark-now.ensures.rows c.in_ok-store.ensures.settled
    (ap (λ (l : Lists). l.log) c.new.ensures) in
    record { case = case; start = start; mark = start }
