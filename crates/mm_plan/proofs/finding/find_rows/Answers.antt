use Rattle.std.proofs.Common.{◌≡◌, ◌<◌, [], length, sym, ap, ◌∙◌, subst, arith}
use Rattle.std.specs.List.{count_by}
use Rattle.std.proofs.lemmas.Bool.{false≢true}
use Rattle.std.proofs.lemmas.Result.{IfOk-weaker}
use Rattle.mm_plan.proofs.Allowed.{first_reaches}
use Rattle.mm_plan.proofs.FoundRows.{among_meeting, looked_at, matching_is, refs_counted}
use Rattle.mm_plan.specs.Choosing.{first_step}
use Rattle.mm_plan.specs.Finding.{finds_in_key_order}
use Rattle.mm_plan.specs.Steps.{Reaches, may_look}
use Rattle.mm_plan.specs.declared.step.Step.{Step}
use Rattle.mm_select.specs.Accesses.{is_along}
use Rattle.mm_store.proofs.Joining.{some_at}
use Rattle.mm_store.specs.Tables.{IsAt, Tables, rows_at}
use Rattle.mm_plan.proofs.finding.find_rows.Goals as goal
use Rattle.mm_plan.proofs.finding.find_rows.Goals.{After-select_refs}

pub access_by-access-requires : goal.access_by-access-requires
access_by-access-requires c =
    let store = c.args.view.now.store in
    let (stored, here) = some_at store.tables c.args.table c.requires in
    (stored, subst (Reaches stored c.args.atoms.now) (sym c.first_step-step.ensures) (first_reaches store c.args.atoms.now c.args.table stored here))

pub select_refs-requires-clause-served : goal.select_refs-requires-clause-served
select_refs-requires-clause-served c = λ stored here.
    c.access_by-access.ensures.served stored
    (subst (Reaches stored c.args.atoms.now) (sym c.first_step-step.ensures)
    (first_reaches c.args.view.now.store c.args.atoms.now c.args.table stored here))

-- As many rows are along the access path as the step may read.
along : (c : After-select_refs) → count_by (is_along c.access_by-access.result) (rows_at c.args.view.now.store.tables c.args.table)
    ≡ count_by (may_look c.args.atoms.now 0 (first_step c.args.view.now.store c.args.atoms.now c.args.table) [])
    (rows_at c.args.view.now.store.tables c.args.table)
along c =
    let rows = rows_at c.args.view.now.store.tables c.args.table in
    looked_at c.args.atoms.now c.first_step-step.result c.access_by-access.result c.access_by-access.ensures.along rows
    ∙ ap (λ (s : Step). count_by (may_look c.args.atoms.now 0 s []) rows) c.first_step-step.ensures

pub returns-in_err-found-clause-reads : goal.returns-in_err-found-clause-reads
returns-in_err-found-clause-reads c =
    omega (arith, c.select_refs.ensures.reads, along (goal.at.returns-in_err-found-clause-reads c).After-select_refs)

pub returns-then-is_in_key_order-clause-found : goal.returns-then-is_in_key_order-clause-found
returns-then-is_in_key_order-clause-found c = λ stored here.
    c.in_ok-found.ensures.ordered (sym c.is_in_key_order.ensures ∙ c.if-is_in_key_order.true) stored here
    ∙ matching_is c.args.view.now.store c.args.table stored here c.args.atoms.now

pub returns-then-is_in_key_order-clause-reads : goal.returns-then-is_in_key_order-clause-reads
returns-then-is_in_key_order-clause-reads c =
    omega (arith, c.select_refs.ensures.reads, along (goal.at.returns-then-is_in_key_order-clause-reads c).After-select_refs)

pub returns-in_err-found-clause-one_look : goal.returns-in_err-found-clause-one_look
returns-in_err-found-clause-one_look c = λ keyed.
    omega (arith, c.select_refs.ensures.reads, along (goal.at.returns-in_err-found-clause-one_look c).After-select_refs)

pub returns-then-is_in_key_order-clause-one_look : goal.returns-then-is_in_key_order-clause-one_look
returns-then-is_in_key_order-clause-one_look c = λ keyed.
    omega (arith, c.select_refs.ensures.reads, along (goal.at.returns-then-is_in_key_order-clause-one_look c).After-select_refs)

pub returns-clause-one_look : goal.returns-clause-one_look
returns-clause-one_look c = λ keyed.
    absurd (false≢true
    (sym c.if-is_in_key_order.false
    ∙ (c.is_in_key_order.ensures ∙ (c.access_by-access.ensures.ordered ∙ (ap finds_in_key_order c.first_step-step.ensures ∙ keyed)))))

pub in_key_order-requires-clause-there : goal.in_key_order-requires-clause-there
in_key_order-requires-clause-there c = subst (λ (s : Tables). c.args.table < length s.tables) (sym c.select_refs.ensures.same) c.requires

pub in_key_order-requires-clause-live : goal.in_key_order-requires-clause-live
in_key_order-requires-clause-live c = λ stored at.
    c.in_ok-found.ensures.live stored (subst (λ (s : Tables). IsAt s c.args.table stored) c.select_refs.ensures.same at)

pub returns-clause-found : goal.returns-clause-found
returns-clause-found c =
    let store = c.args.view.now.store in
    let table = c.args.table in
    IfOk-weaker c.in_key_order.result _ _
    (λ found is stored here.
    is stored (subst (λ (s : Tables). IsAt s table stored) (sym c.select_refs.ensures.same) here)
    ∙ among_meeting store table stored here c.args.atoms.now c.in_ok-found.found.items (c.in_ok-found.ensures.found stored here))
    c.in_key_order.ensures.found

pub returns-clause-reads : goal.returns-clause-reads
returns-clause-reads c =
    let store = c.args.view.now.store in
    let table = c.args.table in
    let (some, there) = some_at store.tables table c.requires in
    omega (
      arith,
      c.select_refs.ensures.reads,
      c.in_key_order.ensures.reads,
      refs_counted store table some there c.args.atoms.now c.in_ok-found.found.items (c.in_ok-found.ensures.found some there),
      along (goal.at.returns-clause-reads c).After-select_refs,
    )

pub returns-clause-same : goal.returns-clause-same
returns-clause-same c = c.in_key_order.ensures.same ∙ c.select_refs.ensures.same

pub returns-in_err-found-clause-met : goal.returns-in_err-found-clause-met
returns-in_err-found-clause-met c = λ atom is.
    absurd (c.in_err-found.ensures.by_key (c.access_by-access.ensures.by_key atom (c.first_step-step.ensures ∙ is)))

pub returns-clause-met : goal.returns-clause-met
returns-clause-met c = λ atom is.
    c.in_key_order.ensures.met (c.in_ok-found.ensures.by_key (c.access_by-access.ensures.by_key atom (c.first_step-step.ensures ∙ is)))
