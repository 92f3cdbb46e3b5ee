use Rattle.std.proofs.Common.{rules, ◌≡◌, ℕ, ◌+◌, ◌≤◌, List, [], ◌∷◌, Some, get_or, take, sym, ap, ◌∙◌, subst, arith}
use Rattle.std.proofs.lemmas.Option.{same_Some, slice_get-get_or}
use Rattle.std.specs.Prelude.{slice_get}
use Rattle.mm_plan.proofs.FirstWays.{Takes, as_many_along, merge_key, step_takes, walk_takes}
use Rattle.mm_plan.proofs.Joining.{few_at, first_begun}
use Rattle.mm_plan.proofs.beginning.begin.Goals as goal
use Rattle.mm_plan.proofs.beginning.begin.Goals.{After-select-arg-1, in-Scan, in_default}
use Rattle.mm_plan.specs.Steps.{HasKey, Reaches, may_look}
use Rattle.mm_plan.specs.declared.step.Step.TheVariants as step
use Rattle.mm_indexed.specs.Kept.{StoredRows}
use Rattle.mm_select.specs.Accesses.{Asks, IsServed, is_along}
use Rattle.mm_select.specs.Fitting.{AreFitting}
use Rattle.mm_store.proofs.Joining.{some_at}
use Rattle.mm_store.proofs.Shown.{table_seen}
use Rattle.mm_store.specs.Tables.{rows_at}
use Rattle.mm_value.specs.declared.values.Value.{Value}

first_taken : (tables : List ℕ) (table : ℕ) → take 1 tables ≡ table ∷ [] → slice_get tables 0 ≡ Some table
first_taken [] table is = cc
first_taken (t ∷ tables) table is = ap (λ ts. Some (get_or ts 0 0)) is

taken_first : (tables : List ℕ) (table : ℕ) → slice_get tables 0 ≡ Some table → take 1 tables ≡ table ∷ []
taken_first [] table at = cc
taken_first (t ∷ tables) table at = ap (λ x. x ∷ []) (same_Some t table at)

-- The access path of the call is that of the steps.
taken : (c : After-select-arg-1) → Takes c.args.view.now.store c.args.query.now.atoms c.args.tables.now c.args.steps.now c.if-steps-lt2.access
taken c =
    let store = c.args.view.now.store in
    let atoms = c.args.query.now.atoms in
    let tables = c.args.tables.now in
    let steps = c.args.steps.now in
    let same = c.as_slice-atoms.ensures in
    elim c.if-steps-lt2.branch [
      | in-Scan w ↦
          let key = w.key_at.result in
          let is_scan : get_or steps 0 step.Scan ≡ step.Scan = search rules in
          let first : slice_get steps 0 ≡ Some step.Scan =
          slice_get-get_or steps 0 step.Scan (omega (arith, w.in-Scan.len_at_least)) ∙ ap Some is_scan in
          let second : slice_get steps 1 ≡ Some (step.TreeMerge w.in-Scan.outer w.in-Scan.inner-1 w.in-Scan.atom) =
          slice_get-get_or steps 1 step.Scan (omega (arith, w.in-Scan.len_at_least)) ∙ ap Some w.in-Scan.is-1 in
          subst (Takes store atoms tables steps) (sym w.access-is)
          (walk_takes store atoms steps w.in-Scan.outer w.in-Scan.inner-1 w.in-Scan.atom second tables c.requires.steps first key
          (subst (λ read. HasKey read 1 w.in-Scan.atom (λ k. k ≡ key)) same w.key_at.ensures.is))
      | in_default w ↦
          let own = get_or steps 0 step.Scan in
          let way = w.access_by-access.result in
          subst (Takes store atoms tables steps) (sym w.access-is)
          (step_takes store atoms tables steps c.requires.steps own
          (slice_get-get_or steps 0 step.Scan (omega (arith, c.requires.some, c.requires.steps.each))) way
          (subst (λ read. (stored : StoredRows) → Reaches stored read own → IsServed stored way) same w.access_by-access.ensures.served)
          (subst (λ read. Asks read way) same w.access_by-access.ensures.asked)
          (subst (λ read. (row : List Value) → is_along way row ≡ may_look read 0 own [] row) same w.access_by-access.ensures.along))
    ]

pub key_at-requires : goal.key_at-requires
key_at-requires c =
    let store = c.args.view.now.store in
    let atoms = c.args.query.now.atoms in
    let steps = c.args.steps.now in
    let second : slice_get steps 1 ≡ Some (step.TreeMerge c.in-Scan.outer c.in-Scan.inner-1 c.in-Scan.atom) =
    slice_get-get_or steps 1 step.Scan (omega (arith, c.in-Scan.len_at_least)) ∙ ap Some c.in-Scan.is-1 in
    subst (λ read. HasKey read 1 c.in-Scan.atom (λ key. Unit {0})) (sym c.as_slice-atoms.ensures)
    (merge_key store atoms steps c.in-Scan.outer c.in-Scan.inner-1 c.in-Scan.atom second c.args.tables.now c.requires.steps c.requires.some)

pub access_by-access-requires : goal.access_by-access-requires
access_by-access-requires c =
    let store = c.args.view.now.store in
    let tables = c.args.tables.now in
    let steps = c.args.steps.now in
    let table = get_or tables 0 0 in
    let own = get_or steps 0 step.Scan in
    let some = some_at store.tables table (c.requires.there 0 0 c.requires.some) in
    let reached = c.requires.steps.first table own some.0 (slice_get-get_or tables 0 0 c.requires.some)
    (slice_get-get_or steps 0 step.Scan (omega (arith, c.requires.some, c.requires.steps.each))) some.1 in
    (some.0, subst (λ read. Reaches some.0 read own) (sym c.as_slice-atoms.ensures) reached)

pub select-requires-clause-served : goal.select-requires-clause-served
select-requires-clause-served c = λ table stored front here.
    (taken (goal.at.select-requires-clause-served c).After-select-arg-1).served table stored (first_taken c.args.tables.now table front) here

pub returns-in_err-select-clause-reads : goal.returns-in_err-select-clause-reads
returns-in_err-select-clause-reads c = λ table own at_table at_step.
    let store = c.args.view.now.store in
    let tables = c.args.tables.now in
    subst (λ n. c.select.new.view.reads ≤ c.args.view.now.reads + n)
    (as_many_along store c.args.query.now.atoms tables c.args.steps.now c.if-steps-lt2.access
    (taken (goal.at.returns-in_err-select-clause-reads c).After-select-arg-1) own at_step (rows_at store.tables table))
    (c.select.ensures.reads table (taken_first tables table at_table))

pub returns-clause-begun : goal.returns-clause-begun
returns-clause-begun c =
    let store = c.args.view.now.store in
    let tables = c.args.tables.now in
    let list = c.in_ok-select.field-0 in
    let some = some_at store.tables (get_or tables 0 0) (c.requires.there 0 0 c.requires.some) in
    first_begun store c.args.query.now tables c.requires.there c.requires.few c.requires.some
    (few_at store (get_or tables 0 0) some.0 some.1 (table_seen c.args.view.now (get_or tables 0 0) some.0 some.1).few) list
    (subst (λ atoms. AreFitting store atoms list) c.as_slice-atoms.ensures c.in_ok-select.ensures.fitting) c.in_ok-select.ensures.live
    c.in_ok-select.ensures.tables (c.in_ok-select.ensures.fields ∙ c.as_slice.ensures)

pub returns-clause-reads : goal.returns-clause-reads
returns-clause-reads c = λ table own at_table at_step.
    let store = c.args.view.now.store in
    let tables = c.args.tables.now in
    subst (λ n. c.select.new.view.reads ≤ c.args.view.now.reads + n)
    (as_many_along store c.args.query.now.atoms tables c.args.steps.now c.if-steps-lt2.access
    (taken (goal.at.returns-clause-reads c).After-select-arg-1) own at_step (rows_at store.tables table))
    (c.select.ensures.reads table (taken_first tables table at_table))
