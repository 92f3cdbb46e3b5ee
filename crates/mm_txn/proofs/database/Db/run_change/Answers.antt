-- The new rows of the edits' tables are the state's, and the saved rows stay the same.
use Rattle.std.proofs.Common.{◌≡◌, ℕ, ◌<◌, ◌≤◌, Err, Ok, List, Option, None, [], ◌∷◌, inl, inr, length, map, refl, sym, ap, subst, ◌∙◌, arith}
use Rattle.std.specs.List.{All}
use Rattle.std.proofs.lemmas.Result.{err_from_is_err_and}
use Rattle.mm_schema.specs.Refused.{AnswersDue, first_refusal}
use Rattle.mm_schema.specs.declared.reference.Reference.{Reference}
use Rattle.mm_standing.specs.Queries.{RowsByPlace}
use Rattle.mm_query.specs.Edits.{own_pairs, value_conditions}
use Rattle.mm_query.specs.Machine.{after_change, change_conditions}
use Rattle.mm_query.specs.State.{Saved, State}
use Rattle.mm_query.specs.declared.command.Mutation.{Mutation}
use Rattle.mm_indexed.specs.Index.{EachTurns}
use Rattle.mm_schema.specs.Schema.{Schema}
use Rattle.mm_standing.specs.State.{Lists}
use Rattle.mm_store.specs.Tables.{SameForm}
use Rattle.mm_laws.specs.Typing.{AreTyped}
use Rattle.mm_plan.specs.Kept.{instance_of}
use Rattle.mm_store.specs.Marks.{IsMark, KeepsMarks, mark_of, rows_at_mark}
use Rattle.mm_txn.specs.Bound.{IsBoundChange, bound_of}
use Rattle.mm_txn.specs.Contents.{Holdings, IsAtRest, Makes}
use Rattle.mm_txn.specs.Kept.{KeepsState, state_of, watched_state}
use Rattle.mm_txn.specs.Reads.{ReadsByEdits, ReadsForLists}
use Rattle.mm_txn.specs.Saved.{saved_rows}
use Rattle.mm_txn.specs.PlacedEdits.{AreEditsOf, PlacedEdits, placed, rows_edited}
use Rattle.mm_txn.specs.Listed.{IsTested, queries_of, rows_by_place}
use Rattle.mm_txn.proofs.BackLinks.{references_back}
use Rattle.mm_txn.proofs.ChangeSteps.{change_done, change_due, early_due, edited_after, edits_counted}
use Rattle.mm_txn.proofs.KeptReferences.{all_to_others}
use Rattle.mm_txn.proofs.ListedRows.{served}
use Rattle.mm_txn.proofs.OpenSteps.{changed, refused, saved_through_change, saved_to_the_end}
use Rattle.mm_txn.proofs.SavedRows.{done_beside, due_beside, pairs_beside}
use Rattle.mm_txn.proofs.StagedChanges.{bound_still, kept_back, made_before, none_due_still, queries_typed_still, rest_still, rows_typed_still}
use Rattle.mm_txn.proofs.StagedChanges.{rows_undone, state_still, unchanged_made, undone_made}
use Rattle.mm_txn.proofs.TestedQueries.{queries_tested}
use Rattle.mm_txn.proofs.TypedSteps.{rows_typed_after}
use Rattle.mm_txn.proofs.database.Db.run_change.Goals as goal
use Rattle.mm_txn.proofs.database.Db.run_change.Goals.{In-Err}

pub returns-in_err-edits-clause-due : goal.returns-in_err-edits-clause-due
returns-in_err-edits-clause-due c = λ mutation is.
    let here = subst (λ (s : State). IsBoundChange s.schema mutation (bound_of c.args.change)) (sym c.self.view_is) is in
    let p = err_from_is_err_and c.from_residual.result c.from_residual.ensures.1 in
    let held = c.self.inside.contents in
    let saved = saved_rows c.self.inside.is_open held.store c.self.inside.marks.items in
    let queries = queries_of held.lists.queries in
    rw (p.1, p.2) (due_beside held.schema held.store.tables queries saved mutation c.args.self.now c.self.view_is {T = ℕ} (Err c.in_err-edits.field-0.0)
    (early_due mutation held.schema held.store.tables queries c.in_err-edits.field-0.0 (c.in_err-edits.ensures.due mutation here)))

pub invariant_of-self : goal.invariant_of-self
invariant_of-self c =
    let held = c.self.inside.contents in
    let staged = c.edits_of.new.self in
    let kept = c.edits_of.ensures.store in
    let lists = c.edits_of.ensures.lists in
    refused held c.self.inside.marks.items c.self.inside.is_open c.self.invariant staged c.edits_of.ensures.schema (λ place. [])
    (Err c.in_err-edits.field-0.0)
    (unchanged_made held staged c.edits_of.ensures.schema kept lists c.in_err-edits.field-0.0 c.is_at_rest.ensures.rest c.in_err-edits.ensures.err)
    kept.rows c.in_err-edits.ensures.err (ap (λ (l : Lists). l.log) lists)

pub returns-in_err-edits-clause-err : goal.returns-in_err-edits-clause-err
returns-in_err-edits-clause-err c =
    let p = err_from_is_err_and c.from_residual.result c.from_residual.ensures.1 in
    let held = c.self.inside.contents in
    let staged = c.edits_of.new.self in
    let same = c.edits_of.ensures.schema in
    let kept = c.edits_of.ensures.store in
    let lists = c.edits_of.ensures.lists in
    let saved = saved_through_change held c.self.inside.marks.items c.self.inside.is_open c.self.invariant staged same (λ place. [])
    (Err c.in_err-edits.field-0.0)
    (unchanged_made held staged same kept lists c.in_err-edits.field-0.0 c.is_at_rest.ensures.rest c.in_err-edits.ensures.err) in
    rw (p.1)
    ((λ i. record { schema = same i; rows = kept.rows i; queries = queries_of (lists i).queries; saved = saved i }) ∙ c.self.view_is)

pub make_edits-requires : goal.make_edits-requires
make_edits-requires c =
    let (mutation, is) = c.requires in
    let here = subst (λ (s : State). IsBoundChange s.schema mutation (bound_of c.args.change)) (sym c.self.view_is) is in
    let before = c.self.inside.contents in
    let held = c.edits_of.new.self in
    let schema = c.edits_of.ensures.schema in
    let kept = c.edits_of.ensures.store in
    let same = c.edits_of.ensures.lists in
    let there = bound_still before held schema kept same mutation (bound_of c.args.change) here in
    let rest = rest_still before held schema kept same c.is_at_rest.ensures.rest in
    let edits = c.in_ok-edits.edits in
    let ok = c.in_ok-edits.ensures.ok mutation here in
    let none = none_due_still before held schema kept same mutation (c.in_ok-edits.ensures.due mutation here) in
    let rows_typed = rows_typed_still before held schema kept same c.self.invariant.typed.rows in
    let lists = held.lists.queries in
    let state = watched_state held.schema held.store.tables (queries_of lists) in
    record {
      are = ok.are;
      back = subst (λ (links : List Reference). All (λ (r : Reference). r.to < r.from) links) (sym rest.kept.links)
          (references_back held.schema rest.kept.back);
      served = served held.schema held.store rest.kept.relations lists rest.placed.placed;
      listed = rest.listed;
      typed = subst (λ (r : RowsByPlace). All (IsTested (rows_by_place (instance_of held.store.tables)) r) lists)
          (sym (edited_after held.schema held.store rest.kept.relations there.distinct mutation (placed edits.own) (map placed edits.cascaded.items)
          ok
          (queries_of lists)))
          (queries_tested held.schema (instance_of held.store.tables) (after_change mutation state).rows lists rest.placed.placed
          rows_typed
          (rows_typed_after mutation state (value_conditions mutation (state_of held.schema held.store.tables)) there.distinct none rows_typed)
          (queries_typed_still before held schema kept same c.self.invariant.typed.queries));
    }

-- ---- the change is made

pub invariant_of-self-2 : goal.invariant_of-self-2
invariant_of-self-2 c =
    let (mutation, is) = c.requires in
    let here = subst (λ (s : State). IsBoundChange s.schema mutation (bound_of c.args.change)) (sym c.self.view_is) is in
    let before = c.self.inside.contents in
    let held = c.edits_of.new.self in
    let schema = c.edits_of.ensures.schema in
    let kept = c.edits_of.ensures.store in
    let same = c.edits_of.ensures.lists in
    let there = bound_still before held schema kept same mutation (bound_of c.args.change) here in
    let rest = rest_still before held schema kept same c.is_at_rest.ensures.rest in
    let edits = c.in_ok-edits.edits in
    let ok = c.in_ok-edits.ensures.ok mutation here in
    let none = none_due_still before held schema kept same mutation (c.in_ok-edits.ensures.due mutation here) in
    let all = placed edits.own ∷ map placed edits.cascaded.items in
    let queries = queries_of held.lists.queries in
    let done = change_done held.schema held.store rest.kept.relations there.distinct mutation
    (placed edits.own) (map placed edits.cascaded.items) ok queries c.make_edits.new.self.store c.in_default.ensures.made.ok in
    let typed : AreTyped before.schema.tables (instance_of c.make_edits.new.self.store.tables) =
    subst (λ (s : Schema). AreTyped s.tables (instance_of c.make_edits.new.self.store.tables)) schema
    (subst (λ (s : State). AreTyped held.schema.tables s.rows) (sym done.0)
    (rows_typed_after mutation (watched_state held.schema held.store.tables queries)
    (value_conditions mutation (state_of held.schema held.store.tables)) there.distinct none
    (rows_typed_still before held schema kept same c.self.invariant.typed.rows))) in
    changed before c.self.inside.marks.items c.self.inside.is_open c.self.invariant c.make_edits.new.self
    (c.make_edits.ensures.schema ∙ schema) (rows_edited held.store all) (Ok c.in_default.field-0)
    (made_before before held schema kept same (rows_edited held.store all) c.make_edits.new.self c.in_default.field-0 c.in_default.ensures.made)
    c.settle_outside.new.self c.settle_outside.ensures.open typed c.settle_outside.ensures.schema
    c.settle_outside.ensures.rows c.settle_outside.ensures.queries c.settle_outside.ensures.settled

pub returns-clause-due : goal.returns-clause-due
returns-clause-due c = λ mutation is.
    let here = subst (λ (s : State). IsBoundChange s.schema mutation (bound_of c.args.change)) (sym c.self.view_is) is in
    let before = c.self.inside.contents in
    let held = c.edits_of.new.self in
    let schema = c.edits_of.ensures.schema in
    let kept = c.edits_of.ensures.store in
    let same = c.edits_of.ensures.lists in
    let there = bound_still before held schema kept same mutation (bound_of c.args.change) here in
    let rest = rest_still before held schema kept same c.is_at_rest.ensures.rest in
    let edits = c.in_ok-edits.edits in
    let ok = c.in_ok-edits.ensures.ok mutation here in
    let none = none_due_still before held schema kept same mutation (c.in_ok-edits.ensures.due mutation here) in
    let saved = saved_rows c.self.inside.is_open before.store c.self.inside.marks.items in
    let lists = held.lists.queries in
    let due = change_due held.schema held.store rest.kept.relations there.distinct mutation (placed edits.own) (map placed edits.cascaded.items)
    ok lists
    rest.placed.placed (all_to_others held.schema rest.kept.targets rest.kept.others) rest.kept.back rest.kept.links none {T = Unit {0}} (Ok tt)
    c.in_default.ensures.due in
    due_beside before.schema before.store.tables (queries_of before.lists.queries) saved mutation c.args.self.now c.self.view_is {T = Unit {0}} (Ok tt)
    (subst (λ (s : State). AnswersDue {T = Unit {0}} (first_refusal (change_conditions mutation s)) (Ok tt)) (state_still before held schema kept same) due)

pub returns-clause-ok : goal.returns-clause-ok
returns-clause-ok c = λ mutation is.
    let here = subst (λ (s : State). IsBoundChange s.schema mutation (bound_of c.args.change)) (sym c.self.view_is) is in
    let before = c.self.inside.contents in
    let held = c.edits_of.new.self in
    let schema = c.edits_of.ensures.schema in
    let kept = c.edits_of.ensures.store in
    let lists = c.edits_of.ensures.lists in
    let there = bound_still before held schema kept lists mutation (bound_of c.args.change) here in
    let rest = rest_still before held schema kept lists c.is_at_rest.ensures.rest in
    let last = c.settle_outside.new.self in
    let edits = c.in_ok-edits.edits in
    let ok = c.in_ok-edits.ensures.ok mutation here in
    let all = placed edits.own ∷ map placed edits.cascaded.items in
    let same = c.settle_outside.ensures.schema ∙ (c.make_edits.ensures.schema ∙ schema) in
    let queries = queries_of before.lists.queries in
    let saved = saved_rows c.self.inside.is_open before.store c.self.inside.marks.items in
    let later = saved_rows c.self.inside.is_open last.store c.self.inside.marks.items in
    let done = change_done held.schema held.store rest.kept.relations there.distinct mutation
    (placed edits.own) (map placed edits.cascaded.items) ok (queries_of held.lists.queries) c.make_edits.new.self.store c.in_default.ensures.made.ok in
    let alike : watched_state held.schema last.store.tables (queries_of held.lists.queries) ≡ watched_state before.schema last.store.tables queries =
    λ i. record { schema = schema i; rows = instance_of last.store.tables; queries = queries_of (lists i).queries; saved = None } in
    let rows : watched_state before.schema last.store.tables queries ≡ after_change mutation (watched_state before.schema before.store.tables queries) =
    sym alike
    ∙ ((λ i. record {
      schema = held.schema;
      rows = c.settle_outside.ensures.rows i;
      queries = queries_of held.lists.queries;
      saved = None;
    }) ∙ (done.0 ∙ ap (after_change mutation) (state_still before held schema kept lists))) in
    (λ i. record { schema = same i; rows = instance_of last.store.tables; queries = queries_of last.lists.queries; saved = later })
    ∙ done_beside before.schema before.store.tables queries saved mutation c.args.self.now c.self.view_is last.store.tables
    (queries_of last.lists.queries) later
    (ap queries_of (c.settle_outside.ensures.queries ∙ (c.in_default.ensures.made.queries ∙ ap (λ (l : Lists). l.queries) lists)))
    rows
    (saved_to_the_end before c.self.inside.marks.items c.self.inside.is_open c.self.invariant c.make_edits.new.self
    (c.make_edits.ensures.schema ∙ schema) (rows_edited held.store all) (Ok c.in_default.field-0)
    (made_before before held schema kept lists (rows_edited held.store all) c.make_edits.new.self c.in_default.field-0 c.in_default.ensures.made)
    last c.settle_outside.ensures.open)

pub returns-clause-count : goal.returns-clause-count
returns-clause-count c = λ mutation is.
    let here = subst (λ (s : State). IsBoundChange s.schema mutation (bound_of c.args.change)) (sym c.self.view_is) is in
    let before = c.self.inside.contents in
    let held = c.edits_of.new.self in
    let schema = c.edits_of.ensures.schema in
    let kept = c.edits_of.ensures.store in
    let same = c.edits_of.ensures.lists in
    let there = bound_still before held schema kept same mutation (bound_of c.args.change) here in
    let rest = rest_still before held schema kept same c.is_at_rest.ensures.rest in
    let own = c.in_ok-edits.edits.own in
    let ok = c.in_ok-edits.ensures.ok mutation here in
    let saved = saved_rows c.self.inside.is_open before.store c.self.inside.marks.items in
    let counted : length c.as_slice-count.result.now ≡ length own.edits = ap length c.as_slice-count.ensures in
    counted ∙ (edits_counted held.schema held.store rest.kept.relations there.distinct mutation
    (placed own) (map placed c.in_ok-edits.edits.cascaded.items) ok
    ∙ ((λ i. length (own_pairs mutation (record { schema = schema i; rows = kept.rows i; queries = []; saved = None })))
    ∙ (ap length (pairs_beside before.schema before.store.tables (queries_of before.lists.queries) saved mutation)
    ∙ ap (λ (s : State). length (own_pairs mutation s)) c.self.view_is)))

-- ---- the change is refused

-- the staged rows are undone, and everything is as before
module _ (c : In-Err) where
  abbrev before : Holdings
  before = c.self.inside.contents

  abbrev edits_made : RowsByPlace
  edits_made = rows_edited c.edits_of.new.self.store (placed c.in_ok-edits.edits.own ∷ map placed c.in_ok-edits.edits.cascaded.items)

  mark_is : c.lengths-mark.result.0 ≡ mark_of before.store
  mark_is = ap (λ (l : ℕ × ℕ). l.0) c.lengths-mark.ensures

  rows_there : rows_at_mark c.lengths-mark.result.0 c.make_edits.new.self.store ≡ instance_of c.make_edits.new.self.store.tables
  rows_there =
      subst (λ (n : ℕ). rows_at_mark n c.make_edits.new.self.store ≡ instance_of c.make_edits.new.self.store.tables) (sym mark_is)
      (rows_undone before c.edits_of.new.self c.edits_of.ensures.schema c.edits_of.ensures.store c.edits_of.ensures.lists edits_made c.make_edits.new.self
      c.in-Err.refusal c.in-Err.ensures.made c.is_at_rest.ensures.rows)

  module _ (back : Holdings) (rows : instance_of back.store.tables ≡ rows_at_mark c.lengths-mark.result.0 c.make_edits.new.self.store)
      (mark : mark_of back.store ≡ c.lengths-mark.result.0)
      (marks : (earlier : ℕ) → earlier ≤ c.lengths-mark.result.0 → KeepsMarks c.make_edits.new.self.store back.store earlier)
      (links : back.store.links ≡ c.make_edits.new.self.store.links) (form : EachTurns SameForm c.make_edits.new.self.store.tables back.store.tables)
      (lists : back.lists ≡ c.make_edits.new.self.lists) where
    kept_again : KeepsState before.store back.store
    kept_again =
        kept_back before c.edits_of.new.self c.edits_of.ensures.schema c.edits_of.ensures.store c.edits_of.ensures.lists edits_made c.make_edits.new.self
        c.in-Err.refusal c.in-Err.ensures.made c.is_at_rest.ensures.rows back
        (subst (λ (n : ℕ). instance_of back.store.tables ≡ rows_at_mark n c.make_edits.new.self.store) mark_is rows) (mark ∙ mark_is)
        (subst (λ (n : ℕ). (earlier : ℕ) → earlier ≤ n → KeepsMarks c.make_edits.new.self.store back.store earlier) mark_is marks) links form lists

    made_again : Makes edits_made before.store back.store before.lists back.lists (Err c.in-Err.refusal)
    made_again =
        undone_made before c.edits_of.new.self c.edits_of.ensures.schema c.edits_of.ensures.store c.edits_of.ensures.lists edits_made c.make_edits.new.self
        c.in-Err.refusal c.in-Err.ensures.made c.is_at_rest.ensures.rows back
        (subst (λ (n : ℕ). instance_of back.store.tables ≡ rows_at_mark n c.make_edits.new.self.store) mark_is rows) (mark ∙ mark_is)
        (subst (λ (n : ℕ). (earlier : ℕ) → earlier ≤ n → KeepsMarks c.make_edits.new.self.store back.store earlier) mark_is marks) links form lists

pub unstage-requires-clause-rows : goal.unstage-requires-clause-rows
unstage-requires-clause-rows c = rows_there (goal.at.unstage-requires-clause-rows c).In-Err

pub invariant_of-self-in-Err : goal.invariant_of-self-in-Err
invariant_of-self-in-Err c =
    let d = (goal.at.invariant_of-self-in-Err c).In-Err in
    let done = c.unstage.ensures in
    let kept = kept_again d c.unstage.new.self done.rows done.mark done.marks done.links done.form done.lists in
    let made = made_again d c.unstage.new.self done.rows done.mark done.marks done.links done.form done.lists in
    refused (before d) c.self.inside.marks.items c.self.inside.is_open c.self.invariant c.unstage.new.self
    (done.schema ∙ (c.make_edits.ensures.schema ∙ c.edits_of.ensures.schema)) (edits_made d) (Err c.in-Err.refusal) made kept.rows made.kept made.log

pub returns-in-Err-clause-due : goal.returns-in-Err-clause-due
returns-in-Err-clause-due c = λ mutation is.
    let here = subst (λ (s : State). IsBoundChange s.schema mutation (bound_of c.args.change)) (sym c.self.view_is) is in
    let before = c.self.inside.contents in
    let held = c.edits_of.new.self in
    let schema = c.edits_of.ensures.schema in
    let kept = c.edits_of.ensures.store in
    let same = c.edits_of.ensures.lists in
    let there = bound_still before held schema kept same mutation (bound_of c.args.change) here in
    let rest = rest_still before held schema kept same c.is_at_rest.ensures.rest in
    let edits = c.in_ok-edits.edits in
    let ok = c.in_ok-edits.ensures.ok mutation here in
    let none = none_due_still before held schema kept same mutation (c.in_ok-edits.ensures.due mutation here) in
    let saved = saved_rows c.self.inside.is_open before.store c.self.inside.marks.items in
    let lists = held.lists.queries in
    let due = change_due held.schema held.store rest.kept.relations there.distinct mutation (placed edits.own) (map placed edits.cascaded.items)
    ok lists
    rest.placed.placed (all_to_others held.schema rest.kept.targets rest.kept.others) rest.kept.back rest.kept.links none {T = ℕ}
    (Err c.in-Err.refusal) c.in-Err.ensures.due in
    due_beside before.schema before.store.tables (queries_of before.lists.queries) saved mutation c.args.self.now c.self.view_is {T = ℕ}
    (Err c.in-Err.refusal)
    (subst (λ (s : State). AnswersDue {T = ℕ} (first_refusal (change_conditions mutation s)) (Err c.in-Err.refusal)) (state_still before held schema kept same)
    due)

pub returns-in-Err-clause-err : goal.returns-in-Err-clause-err
returns-in-Err-clause-err c =
    let d = (goal.at.returns-in-Err-clause-err c).In-Err in
    let done = c.unstage.ensures in
    let kept = kept_again d c.unstage.new.self done.rows done.mark done.marks done.links done.form done.lists in
    let made = made_again d c.unstage.new.self done.rows done.mark done.marks done.links done.form done.lists in
    let same = done.schema ∙ (c.make_edits.ensures.schema ∙ c.edits_of.ensures.schema) in
    let saved = saved_through_change (before d) c.self.inside.marks.items c.self.inside.is_open c.self.invariant c.unstage.new.self
    same (edits_made d) (Err c.in-Err.refusal) made in
    let queries = ap queries_of made.queries in
    (λ i. record { schema = same i; rows = kept.rows i; queries = queries i; saved = saved i }) ∙ c.self.view_is

-- ---- the rows read

pub returns-in_err-edits-clause-reads : goal.returns-in_err-edits-clause-reads
returns-in_err-edits-clause-reads c = λ mutation is. inl refl

-- The edits of a change are those of its state, over the store in which their rows are staged.
reads_by : (state : State) (before held : Holdings) (schema : held.schema ≡ before.schema) (kept : KeepsState before.store held.store)
    (same : held.lists ≡ before.lists) → IsAtRest before → (saved : Option Saved) → ◌≡◌ {A = State} (record {
      schema = before.schema;
      rows = instance_of before.store.tables;
      queries = queries_of before.lists.queries;
      saved = saved;
    }) state
    → (mutation : Mutation) (own : PlacedEdits) (cascaded : List PlacedEdits) → AreEditsOf mutation held.schema held.store own cascaded → (reads : ℕ)
    → ReadsForLists held.store (own ∷ cascaded) held.lists.queries reads → ReadsByEdits mutation state reads
reads_by state before held schema kept same rest saved is mutation own cascaded edits reads within =
    let still = rest_still before held schema kept same rest in
    subst (λ (s : State). ReadsByEdits mutation s reads)
    ((λ i. record { schema = schema i; rows = kept.rows i; queries = queries_of (same i).queries; saved = saved }) ∙ is) (record {
      store = held.store;
      own = own;
      cascaded = cascaded;
      queries = held.lists.queries;
      kept = still.kept;
      rows = refl;
      edits = edits;
      placed = still.placed;
      listed = refl;
      within = within;
    })

pub returns-clause-reads : goal.returns-clause-reads
returns-clause-reads c = λ mutation is.
    let here = subst (λ (s : State). IsBoundChange s.schema mutation (bound_of c.args.change)) (sym c.self.view_is) is in
    let before = c.self.inside.contents in
    inr (reads_by c.args.self.now before c.edits_of.new.self c.edits_of.ensures.schema c.edits_of.ensures.store c.edits_of.ensures.lists
    c.is_at_rest.ensures.rest (saved_rows c.self.inside.is_open before.store c.self.inside.marks.items) c.self.view_is mutation
    (placed c.in_ok-edits.edits.own) (map placed c.in_ok-edits.edits.cascaded.items) (c.in_ok-edits.ensures.ok mutation here) c.make_edits.new.reads
    c.make_edits.ensures.reads)

pub returns-in-Err-clause-reads : goal.returns-in-Err-clause-reads
returns-in-Err-clause-reads c = λ mutation is.
    let here = subst (λ (s : State). IsBoundChange s.schema mutation (bound_of c.args.change)) (sym c.self.view_is) is in
    let before = c.self.inside.contents in
    inr (reads_by c.args.self.now before c.edits_of.new.self c.edits_of.ensures.schema c.edits_of.ensures.store c.edits_of.ensures.lists
    c.is_at_rest.ensures.rest (saved_rows c.self.inside.is_open before.store c.self.inside.marks.items) c.self.view_is mutation
    (placed c.in_ok-edits.edits.own) (map placed c.in_ok-edits.edits.cascaded.items) (c.in_ok-edits.ensures.ok mutation here) c.make_edits.new.reads
    c.make_edits.ensures.reads)
