use Rattle.std.proofs.Common.{ℕ, ◌+◌, ◌<◌, ◌≤◌, List, length, map, slice_index_or, sym, subst, ◌∙◌}
use Rattle.std.specs.Result.{IfOk}
use Rattle.std.specs.declared.result.Result.{Result}
use Rattle.std.specs.declared.result.Result.TheVariants.{Ok, Err}
use Rattle.std.proofs.lemmas.Result.{IfOk-weaker}
use Rattle.mm_plan.specs.Choosing.{steps_of}
use Rattle.mm_plan.specs.Steps.{plan_reads}
use Rattle.mm_query.proofs.PlacedQueries.{query_within}
use Rattle.mm_schema.specs.Refused.{AnswersDue}
use Rattle.mm_store.specs.Tables.{rows_at}
use Rattle.mm_txn.proofs.PlanReads.{few_shown}
use Rattle.mm_txn.proofs.Selecting.{all_there, due_of, rows_of_list}
use Rattle.mm_txn.proofs.select.fitting_combinations.Goals as goal

both : {T E : Type 0} (r : Result T E) (P Q : T → Type 0) → IfOk r P → IfOk r Q → IfOk r (λ x. P x × Q x)
both (Ok x) P Q p q = (p, q)
both (Err e) P Q p q = tt

pub run_query-requires-clause-there : goal.run_query-requires-clause-there
run_query-requires-clause-there c =
    let (schema, query, are, is) = c.requires.bound in
    subst (λ ts. (k : ℕ) → (d : ℕ) → k < length ts → slice_index_or ts k d < length c.args.view.now.store.tables)
    (sym (c.as_slice.ensures ∙ is.tables))
    (all_there schema c.args.view.now.store are query.from (query_within schema query is.due).tables)

pub returns-clause-due : goal.returns-clause-due
returns-clause-due c = λ schema query are is.
    subst (λ r. AnswersDue r c.run_query.result)
    (sym (due_of schema c.args.view.now.store are query is.due (query_within schema query is.due).tables c.args.bound.now.query is.placed
    c.as_slice.result.now (c.as_slice.ensures ∙ is.tables)))
    c.run_query.ensures.due

pub returns-clause-rows : goal.returns-clause-rows
returns-clause-rows c =
    let store = c.args.view.now.store in
    let bound = c.args.bound.now.query in
    IfOk-weaker c.run_query.result _ _
    (λ list found schema query are is.
    rows_of_list schema store are query is.due (query_within schema query is.due).tables bound is.placed c.as_slice.result.now
    (c.as_slice.ensures ∙ is.tables) list found.0 found.1.0 found.1.1)
    (both c.run_query.result _ _ c.run_query.ensures.tables (both c.run_query.result _ _ c.run_query.ensures.fields c.run_query.ensures.fitting))

pub returns-clause-few : goal.returns-clause-few
returns-clause-few c =
    let store = c.args.view.now.store in
    let bound = c.args.bound.now in
    IfOk-weaker c.run_query.result _ _
    (λ list found. few_shown store bound.query.atoms list bound.tables (found.0 ∙ c.as_slice.ensures) found.1)
    (both c.run_query.result _ _ c.run_query.ensures.tables c.run_query.ensures.fitting)

pub returns-clause-reads : goal.returns-clause-reads
returns-clause-reads c =
    let store = c.args.view.now.store in
    let atoms = c.args.bound.now.query.atoms in
    subst (λ (ts : List ℕ). c.run_query.new.view.reads ≤ c.args.view.now.reads
    + plan_reads atoms (steps_of store atoms ts) (map (rows_at store.tables) ts)) c.as_slice.ensures c.run_query.ensures.reads
