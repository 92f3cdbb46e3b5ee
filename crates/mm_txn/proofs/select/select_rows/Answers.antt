use Rattle.std.proofs.Common.{◌+◌, ◌≤◌, subst, ◌∙◌}
use Rattle.std.proofs.lemmas.Result.{err_from_is_err_and}
use Rattle.mm_templist.specs.Results.{result_rows}
use Rattle.mm_txn.proofs.PlanReads.{reads_found, reads_shown}
use Rattle.mm_txn.proofs.select.select_rows.Goals as goal

pub returns-in_err-list-clause-due : goal.returns-in_err-list-clause-due
returns-in_err-list-clause-due c = λ schema query are is.
    let p = err_from_is_err_and c.from_residual.result c.from_residual.ensures.1 in
    rw (p.1, p.2) (c.in_err-list.ensures.due schema query are is)

pub returns-in_err-list-clause-reads : goal.returns-in_err-list-clause-reads
returns-in_err-list-clause-reads c = reads_found _ _ _ _ c.fitting_combinations.ensures.reads

pub returns-in_err-rows-clause-reads : goal.returns-in_err-rows-clause-reads
returns-in_err-rows-clause-reads c =
    reads_shown _ _ _ _ _ c.fitting_combinations.ensures.reads
    (subst (λ n. c.shown.new.view.reads ≤ c.fitting_combinations.new.view.reads + n) c.in_ok-list.ensures.few c.shown.ensures.reads)

pub returns-clause-rows : goal.returns-clause-rows
returns-clause-rows c = λ schema query are is.
    let bound = c.args.bound.now.query in
    let list = c.in_ok-list.list in
    c.in_ok-rows.ensures.ok
    ∙ ((λ i. result_rows (c.fitting_combinations.ensures.same i) list bound.distinct (c.as_slice.ensures i)) ∙ c.in_ok-list.ensures.rows schema query are is)

pub returns-clause-reads : goal.returns-clause-reads
returns-clause-reads c =
    reads_shown _ _ _ _ _ c.fitting_combinations.ensures.reads
    (subst (λ n. c.shown.new.view.reads ≤ c.fitting_combinations.new.view.reads + n) c.in_ok-list.ensures.few c.shown.ensures.reads)
