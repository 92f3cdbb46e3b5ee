-- The last list has the rows of its query over the tables of the case.
use Rattle.std.proofs.Common.{ℕ, ◌<◌, ◌≤◌, List, length, map, replicate, sym, ap, subst, ◌∙◌}
use Rattle.std.specs.List.{All}
use Rattle.mm_delta.specs.Edited.{before_at}
use Rattle.mm_partition.specs.Types.{HasTypes}
use Rattle.mm_query.specs.Queries.{bag_of}
use Rattle.mm_query.specs.declared.bound_query.FieldPlace.{FieldPlace}
use Rattle.mm_standing.specs.Queries.{IsBagOf, StandingQuery}
use Rattle.mm_standing.specs.State.{Lists}
use Rattle.mm_store.specs.Tables.{rows_at}
use Rattle.mm_value.specs.declared.col_type.ColType.TheVariants.{Int}
use Rattle.mm_value.specs.declared.values.Value.{Value}
use Rattle.standing_tests.specs.Cases.{IsCase}
use Rattle.standing_tests.proofs.CaseSteps.{case_watched, start_now}
use Rattle.standing_tests.proofs.NumberRows.{gives_numbers}
use Rattle.standing_tests.proofs.steps.watch.Goals as goal

pub watch-requires-clause-typed : goal.watch-requires-clause-typed
watch-requires-clause-typed c =
    let types = c.in_ok-types.types.items in
    let ints = c.in_ok-types.ensures.items_if_clones_equal (λ y h. h) ∙ ap (λ (fs : List FieldPlace). replicate (length fs) Int) c.as_slice.ensures in
    let standing : StandingQuery = record { query = c.args.query; tables = c.args.tables.items; types = types } in
    subst (All (HasTypes types)) (sym c.requires.rows) (gives_numbers (before_at c.args.store.now) c.requires.case.typed standing ints)

pub returns-in_err-types-clause-start : goal.returns-in_err-types-clause-start
returns-in_err-types-clause-start c =
    start_now c.args.store.now _ c.requires.case c.mark-now.result c.mark-now.ensures.mark c.mark-now.ensures.is c.mark-now.ensures.rows
    c.requires.settled c.requires.log

pub returns-in_err-watch-clause-case : goal.returns-in_err-watch-clause-case
returns-in_err-watch-clause-case c = subst (IsCase c.args.store.now) (sym c.in_err-watch.ensures.err) c.requires.case

pub returns-in_err-watch-clause-start : goal.returns-in_err-watch-clause-start
returns-in_err-watch-clause-start c =
    start_now c.args.store.now c.watch.new.self (returns-in_err-watch-clause-case c) c.mark-now.result c.mark-now.ensures.mark c.mark-now.ensures.is
    c.mark-now.ensures.rows c.requires.settled (ap (λ (l : Lists). l.log) c.in_err-watch.ensures.err ∙ c.requires.log)

pub returns-clause-case : goal.returns-clause-case
returns-clause-case c =
    let store = c.args.store.now in
    let lists = c.args.standing.now in
    let query = c.args.query in
    let tables = c.args.tables.items in
    let new = c.in_ok-watch.ensures.ok in
    let ints = c.in_ok-types.ensures.items_if_clones_equal (λ y h. h) ∙ ap (λ (fs : List FieldPlace). replicate (length fs) Int) c.as_slice.ensures in
    subst (IsCase store) (sym new.2)
    (case_watched store lists (record { query = query; tables = tables; types = c.in_ok-types.types.items }) new.0
    (sym c.len-lists.ensures.queries ∙ c.len-lists.ensures.bags)
    (record { there = subst (λ (n : ℕ). All (λ table. table < n) tables) (sym c.requires.case.two) c.requires.there; few = c.requires.few })
    (record { whole = c.requires.whole; unshifted = c.requires.unshifted; types = ints })
    (subst (IsBagOf new.0.entries) c.requires.rows new.1) c.requires.case)

pub returns-clause-start : goal.returns-clause-start
returns-clause-start c =
    start_now c.args.store.now c.watch.new.self (returns-clause-case c) c.mark-now.result c.mark-now.ensures.mark c.mark-now.ensures.is
    c.mark-now.ensures.rows c.requires.settled (ap (λ (l : Lists). l.log) c.in_ok-watch.ensures.ok.2 ∙ c.requires.log)
