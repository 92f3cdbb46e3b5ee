use Rattle.std.proofs.Common.{rules, ◌≡◌, [], sym, ap, ◌∙◌, subst, arith}
use Rattle.std.specs.List.{Contains, count_by}
use Rattle.mm_plan.proofs.Allowed.{first_reaches}
use Rattle.mm_plan.proofs.FoundRows.{looked_at}
use Rattle.mm_plan.specs.Choosing.{first_step}
use Rattle.mm_plan.specs.Steps.{Reaches, may_look}
use Rattle.mm_plan.specs.declared.step.Step.{Step}
use Rattle.mm_query.specs.declared.atom.Comparison.TheVariants.{Equal}
use Rattle.mm_select.specs.Accesses.{Asks, IsServed, has, is_along}
use Rattle.mm_select.specs.Asked.{compares}
use Rattle.mm_select.specs.declared.access.Access.{Access}
use Rattle.mm_select.specs.declared.access.Access.TheVariants as access
use Rattle.mm_store.proofs.Joining.{some_at}
use Rattle.mm_store.specs.Tables.{rows_at}
use Rattle.mm_store.specs.declared.index_ref.IndexRef.TheVariants.{Key}
use Rattle.mm_plan.proofs.finding.find_refs.Goals as goal

pub access_by-access-requires : goal.access_by-access-requires
access_by-access-requires c =
    let store = c.args.view.now.store in
    let (stored, here) = some_at store.tables c.args.table c.requires in
    (stored, subst (Reaches stored c.args.atoms.now) (sym c.first_step-step.ensures) (first_reaches store c.args.atoms.now c.args.table stored here))

pub row_with_key-requires-clause-asked : goal.row_with_key-requires-clause-asked
row_with_key-requires-clause-asked c = λ stored here.
    let arm = c.in-Equal-Key-default-default in
    let is : c.access_by-access.result ≡ access.Equal Key arm.column arm.value =
    search rules in
    let own : arm.column ≡ stored.key = subst (IsServed stored) is (c.access_by-access.ensures.served stored
    (subst (Reaches stored c.args.atoms.now) (sym c.first_step-step.ensures)
    (first_reaches c.args.view.now.store c.args.atoms.now c.args.table stored here))) in
    subst (λ n. Contains c.args.atoms.now (compares n Equal arm.value.now)) own (subst (Asks c.args.atoms.now) is c.access_by-access.ensures.asked)

pub select_refs-requires-clause-served : goal.select_refs-requires-clause-served
select_refs-requires-clause-served c = λ stored here.
    c.access_by-access.ensures.served stored
    (subst (Reaches stored c.args.atoms.now) (sym c.first_step-step.ensures)
    (first_reaches c.args.view.now.store c.args.atoms.now c.args.table stored here))

pub returns-in-Equal-Key-default-default-clause-reads : goal.returns-in-Equal-Key-default-default-clause-reads
returns-in-Equal-Key-default-default-clause-reads c =
    let store = c.args.view.now.store in
    let rows = rows_at store.tables c.args.table in
    let arm = c.in-Equal-Key-default-default in
    let (stored, here) = some_at store.tables c.args.table c.requires in
    let is : c.access_by-access.result ≡ access.Equal Key arm.column arm.value =
    search rules in
    let own : arm.column ≡ stored.key = subst (IsServed stored) is (c.access_by-access.ensures.served stored
    (subst (Reaches stored c.args.atoms.now) (sym c.first_step-step.ensures)
    (first_reaches store c.args.atoms.now c.args.table stored here))) in
    let as_many : count_by (has stored.key arm.value.now) rows
    ≡ count_by (may_look c.args.atoms.now 0 (first_step store c.args.atoms.now c.args.table) []) rows =
    ap (λ n. count_by (has n arm.value.now) rows) (sym own)
    ∙ (ap (λ (a : Access). count_by (is_along a) rows) (sym is)
    ∙ (looked_at c.args.atoms.now c.first_step-step.result c.access_by-access.result c.access_by-access.ensures.along rows
    ∙ ap (λ (s : Step). count_by (may_look c.args.atoms.now 0 s []) rows) c.first_step-step.ensures)) in
    omega (arith, c.row_with_key.ensures.reads stored here, as_many)
