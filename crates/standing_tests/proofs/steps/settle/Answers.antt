-- Rows and counts stay.
use Rattle.std.proofs.Common.{pos, ap, ◌∙◌, arith}
use Rattle.mm_delta.specs.Edited.{before_at}
use Rattle.mm_standing.specs.State.{Lists, count_now}
use Rattle.store_tests.proofs.PlainStores.{plain_formed}
use Rattle.standing_tests.proofs.CaseSteps.{case_still, start_now}
use Rattle.standing_tests.proofs.ListCounts.{counts_still}
use Rattle.standing_tests.proofs.TableRows.{before_same}
use Rattle.standing_tests.proofs.steps.settle.Goals as goal

pub returns-clause-case : goal.returns-clause-case
returns-clause-case c =
    let lists = c.args.standing.now in
    let left = c.settle-2.new.self in
    let size = c.settle.ensures.form.size in
    case_still c.args.store.now c.settle.new.self lists left (ap (λ (l : Lists). l.queries) c.settle-2.ensures.rest)
    c.requires.case (omega arith) (plain_formed c.args.store.now c.settle.new.self c.settle.ensures.form c.requires.case.plain)
    (before_at c.args.store.now) (before_same c.args.store.now c.settle.new.self c.settle.ensures.rows) c.requires.case.typed
    (counts_still (count_now lists) (count_now left) (before_at c.args.store.now) lists.queries left.queries
    (ap (λ (l : Lists). l.queries) c.settle-2.ensures.rest) (λ list row. ap (λ n. pos n) (c.settle-2.ensures.counts list row)) c.requires.case.fits)
    (ap (λ (l : Lists). l.prepared) c.settle-2.ensures.rest ∙ c.requires.case.ready)

pub returns-clause-start : goal.returns-clause-start
returns-clause-start c =
    start_now c.settle.new.self c.settle-2.new.self (returns-clause-case c) c.mark-now.result c.mark-now.ensures.mark c.mark-now.ensures.is
    c.mark-now.ensures.rows c.settle.ensures.log (ap (λ (l : Lists). l.log) c.settle-2.ensures.rest)

pub returns-clause-rows : goal.returns-clause-rows
returns-clause-rows c = before_same c.args.store.now c.settle.new.self c.settle.ensures.rows
