use Rattle.std.proofs.Common.{◌≡◌, ◌≤◌, ◌∙◌, ap, subst, sym}
use Rattle.std.proofs.lemmas.Result.{IfOk-weaker}
use Rattle.mm_query.specs.Machine.{conditions}
use Rattle.mm_query.specs.Resolving.{select_conditions, selected}
use Rattle.mm_query.specs.State.{State}
use Rattle.mm_query.specs.declared.command.Command.TheVariants.{Select}
use Rattle.mm_query.specs.declared.query.Query.{Query}
use Rattle.mm_plan.specs.Kept.{AreOf}
use Rattle.mm_schema.specs.Refused.{AnswersDue, first_refusal}
use Rattle.mm_schema.specs.Schema.{Schema}
use Rattle.mm_store.specs.Tables.{Tables}
use Rattle.mm_txn.proofs.PlanReads.{reads_by_plan, reads_from_none}
use Rattle.mm_txn.specs.Bound.{IsBoundQuery}
use Rattle.mm_txn.specs.Contents.{Holdings}
use Rattle.mm_txn.specs.Kept.{state_of}
use Rattle.mm_txn.specs.Listed.{queries_of}
use Rattle.mm_txn.specs.Reads.{ReadsByPlan, bound_rows, bound_steps, select_reads}
use Rattle.mm_txn.specs.Saved.{kept_state, saved_rows}
use Rattle.mm_txn.proofs.database.Db.select_bound.Goals as goal

pub select_rows-rows-requires : goal.select_rows-rows-requires
select_rows-rows-requires c =
    let seen = ap (λ (h : Holdings). kept_state h c.self.inside.is_open c.self.inside.marks.items) c.contents.view_is ∙ c.self.view_is in
    let (query, is) = c.requires in
    record {
      bound = subst (λ (t : Tables). (schema : Schema) × (query : Query) × AreOf schema.tables t.tables × IsBoundQuery schema query c.args.bound.now)
          (sym c.view-view.ensures.store) (
            c.contents.inside.catalog,
            query,
            c.contents.invariant.kept.relations,
            subst (λ (s : State). IsBoundQuery s.schema query c.args.bound.now) (sym seen) is,
          );
    }

pub returns-clause-due : goal.returns-clause-due
returns-clause-due c = λ query is.
    let seen = ap (λ (h : Holdings). kept_state h c.self.inside.is_open c.self.inside.marks.items) c.contents.view_is ∙ c.self.view_is in
    let catalog = c.contents.inside.catalog in
    let here = subst (λ (s : State). IsBoundQuery s.schema query c.args.bound.now) (sym seen) is in
    subst (λ (s : State). AnswersDue (first_refusal (conditions (Select query) s)) c.select_rows-rows.result) seen
    (subst (λ (t : Tables). AreOf catalog.tables t.tables
    → AnswersDue (first_refusal (select_conditions query (state_of catalog t.tables))) c.select_rows-rows.result)
    c.view-view.ensures.store (λ are. c.select_rows-rows.ensures.due catalog query are here) c.contents.invariant.kept.relations)

pub returns-clause-rows : goal.returns-clause-rows
returns-clause-rows c =
    let seen = ap (λ (h : Holdings). kept_state h c.self.inside.is_open c.self.inside.marks.items) c.contents.view_is ∙ c.self.view_is in
    let catalog = c.contents.inside.catalog in
    IfOk-weaker c.select_rows-rows.result
    (λ rows. (schema : Schema) (query : Query) → AreOf schema.tables c.view-view.result.store.tables → IsBoundQuery schema query c.args.bound.now
    → rows ≡ selected query (state_of schema c.view-view.result.store.tables))
    (λ rows. (query : Query) → IsBoundQuery c.args.self.now.schema query c.args.bound.now → rows ≡ selected query c.args.self.now)
    (λ rows found query is.
    let here = subst (λ (s : State). IsBoundQuery s.schema query c.args.bound.now) (sym seen) is in
    subst (λ (s : State). rows ≡ selected query s) seen
    (subst (λ (t : Tables). AreOf catalog.tables t.tables → rows ≡ selected query (state_of catalog t.tables)) c.view-view.ensures.store
    (λ are. found catalog query are here) c.contents.invariant.kept.relations))
    c.select_rows-rows.ensures.rows

pub returns-clause-reads : goal.returns-clause-reads
returns-clause-reads c = λ query is.
    let seen = ap (λ (h : Holdings). kept_state h c.self.inside.is_open c.self.inside.marks.items) c.contents.view_is ∙ c.self.view_is in
    let held = c.contents.inside in
    let bound = c.args.bound.now in
    let here = subst (λ (s : State). IsBoundQuery s.schema query bound) (sym seen) is in
    let read = c.select_rows-rows.new.view.reads in
    let within : read ≤ select_reads bound.query.atoms (bound_steps held.store bound) (bound_rows held.store bound) =
    subst (λ (t : Tables). read ≤ select_reads bound.query.atoms (bound_steps t bound) (bound_rows t bound)) c.view-view.ensures.store
    (reads_from_none read c.view-view.result.reads
    (select_reads bound.query.atoms (bound_steps c.view-view.result.store bound) (bound_rows c.view-view.result.store bound)) c.view-view.ensures.reads
    c.select_rows-rows.ensures.reads) in
    subst (λ n. ReadsByPlan query c.args.self.now n) (sym c.reads.ensures)
    (subst (λ (s : State). ReadsByPlan query s read) seen
    (reads_by_plan held.catalog held.store (queries_of held.standing.queries)
    (saved_rows c.self.inside.is_open held.store c.self.inside.marks.items) query bound c.contents.invariant.kept
    c.have_one_key.ensures here read within))
