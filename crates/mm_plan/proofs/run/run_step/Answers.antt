use Rattle.std.proofs.Common.{◌≡◌, ℕ, ◌+◌, ◌<◌, ◌≤◌, [], Some, get_or, length, map, take, sym, ap, ◌∙◌, subst, arith}
use Rattle.std.specs.List.{count_by}
use Rattle.std.specs.Prelude.{slice_get}
use Rattle.std.proofs.lemmas.Option.{get_or_from_slice_get, slice_get-get_or}
use Rattle.mm_plan.proofs.FirstWays.{first_tables, join_allowed}
use Rattle.mm_plan.proofs.Reading.{alone, as_fitting, first_reads}
use Rattle.mm_plan.proofs.run.run_step.Goals as goal
use Rattle.mm_plan.proofs.run.run_step.Goals.{After-begin}
use Rattle.mm_plan.specs.Steps.{may_look, step_reads}
use Rattle.mm_plan.specs.declared.step.Step.{Step}
use Rattle.mm_plan.specs.declared.step.Step.TheVariants as step
use Rattle.mm_select.specs.Fitting.{fitting}
use Rattle.mm_store.proofs.Joining.{some_at}
use Rattle.mm_store.specs.Tables.{rows_at}
use Rattle.mm_templist.specs.Combos.{combo_rows}

pub join_next-requires-clause-joins : goal.join_next-requires-clause-joins
join_next-requires-clause-joins c = λ table at.
    let steps = c.args.steps.now in
    let own = get_or steps c.args.place step.Scan in
    join_allowed c.args.view.now.store c.args.query.now c.args.tables.now steps c.args.list.now c.requires.steps c.requires.begun
    (λ zero. c.if-place-eq0.false (sym c.requires.at ∙ zero)) table own at
    (subst (λ n. slice_get steps n ≡ Some own) (sym c.requires.at)
    (slice_get-get_or steps c.args.place step.Scan (omega (arith, c.requires.left, c.requires.steps.each))))

-- The first table's step reads at most the rows that it may read.
first_read : (c : After-begin) (table : ℕ) (own : Step) → slice_get c.args.tables.now c.args.place ≡ Some table
    → slice_get c.args.steps.now c.args.place ≡ Some own
    → c.begin.new.view.reads ≤ c.args.view.now.reads + step_reads c.args.query.now.atoms c.args.place own (rows_at c.args.view.now.store.tables table)
    (fitting c.args.query.now.atoms (map (rows_at c.args.view.now.store.tables) (take c.args.place c.args.tables.now)))
first_read c table own at_table at_step =
    let store = c.args.view.now.store in
    let atoms = c.args.query.now.atoms in
    let tables = c.args.tables.now in
    let rows = rows_at store.tables table in
    let first_table = subst (λ n. slice_get tables n ≡ Some table) c.if-place-eq0.true at_table in
    let first_step = subst (λ n. slice_get c.args.steps.now n ≡ Some own) c.if-place-eq0.true at_step in
    let there = subst (λ t. t < length store.tables) (get_or_from_slice_get tables c.args.place table 0 at_table)
    (c.requires.there c.args.place 0 c.requires.left) in
    let some = some_at store.tables table there in
    let few = subst (λ found. count_by (may_look atoms 0 own []) rows ≤ step_reads atoms 0 own rows found) (sym (alone atoms))
    (first_reads atoms some.0 own rows (c.requires.steps.first table own some.0 first_table first_step some.1)) in
    let bound = c.begin.ensures.reads table own first_table first_step in
    subst (λ n. c.begin.new.view.reads ≤ c.args.view.now.reads + step_reads atoms n own rows (fitting atoms (map (rows_at store.tables) (take n tables))))
    (sym c.if-place-eq0.true) (omega (arith, few, bound))

pub returns-in_err-begin-clause-reads : goal.returns-in_err-begin-clause-reads
returns-in_err-begin-clause-reads c = first_read (goal.at.returns-in_err-begin-clause-reads c).After-begin

pub returns-in_ok-begin-clause-reads : goal.returns-in_ok-begin-clause-reads
returns-in_ok-begin-clause-reads c = first_read (goal.at.returns-in_ok-begin-clause-reads c).After-begin

pub returns-else-place-eq0-clause-reads : goal.returns-else-place-eq0-clause-reads
returns-else-place-eq0-clause-reads c = λ table own at_table at_step.
    let store = c.args.view.now.store in
    let query = c.args.query.now in
    let tables = c.args.tables.now in
    let list = c.args.list.now in
    let place = c.args.place in
    let rows = rows_at store.tables table in
    let bound = c.join_next.ensures.reads table (subst (λ n. slice_get tables n ≡ Some table) (sym c.requires.at) at_table) in
    let by_own = subst (λ (s : Step). c.join_next.new.view.reads ≤ c.args.view.now.reads
    + step_reads query.atoms (length list.tables) s rows (combo_rows store list)) (get_or_from_slice_get c.args.steps.now place own step.Scan at_step) bound in
    let at_place = subst (λ n. c.join_next.new.view.reads ≤ c.args.view.now.reads + step_reads query.atoms n own rows (combo_rows store list))
    c.requires.at by_own in
    let first : list.tables ≡ take place tables =
    sym (first_tables store query tables list c.requires.begun) ∙ ap (λ n. take n tables) c.requires.at in
    subst (λ n. c.join_next.new.view.reads ≤ c.args.view.now.reads + n)
    (sym (as_fitting query.atoms store list (take place tables) c.requires.begun.fitting first place own rows)) at_place
