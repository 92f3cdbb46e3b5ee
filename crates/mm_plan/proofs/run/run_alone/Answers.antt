use Rattle.std.proofs.Common.{◌≡◌, ℕ, ◌+◌, ◌<◌, ◌≤◌, List, [], ◌∷◌, All, get_or, length, map, take, refl, sym, ap, ◌∙◌, subst, arith}
use Rattle.std.specs.List.{count_by}
use Rattle.std.proofs.lemmas.List.Elements.{All-head}
use Rattle.mm_plan.proofs.Allowed.{first_reaches}
use Rattle.mm_plan.proofs.Joining.{few_at, first_begun, none_left}
use Rattle.mm_plan.proofs.Reading.{alone, first_reads}
use Rattle.mm_plan.specs.Choosing.{first_step, steps_of}
use Rattle.mm_plan.specs.Steps.{may_look, plan_reads, step_reads}
use Rattle.mm_query.specs.declared.atom.Atom.{Atom}
use Rattle.mm_query.specs.declared.bound_query.FieldPlace.{FieldPlace}
use Rattle.mm_select.proofs.Fits.{refs_fit, refs_live, rows_along}
use Rattle.mm_select.specs.Fitting.{AreFitting}
use Rattle.mm_store.proofs.Joining.{some_at}
use Rattle.mm_store.proofs.Shown.{table_seen}
use Rattle.mm_store.specs.Tables.{Tables, rows_at}
use Rattle.mm_templist.specs.Combos.{AreLive, Combos}
use Rattle.mm_plan.proofs.run.run_alone.Goals as goal
use Rattle.mm_plan.proofs.run.run_alone.Goals.{After-of_refs}

-- A single table is the first one.
one_first : (tables : List ℕ) → length tables ≡ 1 → tables ≡ get_or tables 0 0 ∷ []
one_first [] one = absurd (omega (arith, one))
one_first (table ∷ []) one = refl
one_first (table ∷ t ∷ tables) one = absurd (omega (arith, one))

-- The rows that the first step may read are within the bound of the plan.
alone_reads : (store : Tables) (atoms : List (Atom FieldPlace)) (tables : List ℕ) → length tables ≡ 1 → All (λ t. t < length store.tables) tables
    → count_by (may_look atoms 0 (first_step store atoms (get_or tables 0 0)) []) (rows_at store.tables (get_or tables 0 0))
    ≤ plan_reads atoms (steps_of store atoms tables) (map (rows_at store.tables) tables)
alone_reads store atoms [] one there = absurd (omega (arith, one))
alone_reads store atoms (table ∷ []) one there =
    let rows = rows_at store.tables table in
    let own = first_step store atoms table in
    let some = some_at store.tables table (All-head (λ t. t < length store.tables) table [] there) in
    let few = first_reads atoms some.0 own rows (first_reaches store atoms table some.0 some.1) in
    subst (λ found. count_by (may_look atoms 0 own []) rows ≤ step_reads atoms 0 own rows found + 0) (sym (alone atoms)) (omega (arith, few))
alone_reads store atoms (table ∷ t ∷ tables) one there = absurd (omega (arith, one))

within : (c : After-of_refs) → AreFitting c.args.view.now.store c.args.query.now.atoms c.of_refs.result
within c =
    let store = c.args.view.now.store in
    let tables = c.args.tables.now in
    let table = get_or tables 0 0 in
    let (stored, here) = some_at store.tables table (c.requires.there 0 0 (omega (arith, c.requires.alone))) in
    subst (λ atoms. AreFitting store atoms c.of_refs.result) c.as_slice-2.ensures
    (refs_fit store table c.of_refs.result c.in-Ok.refs.items
    (ap (λ (list : Combos). list.tables) c.of_refs.ensures ∙ one_first tables c.requires.alone)
    (ap (λ (list : Combos). list.combos) c.of_refs.ensures) c.as_slice-2.result.now stored.refs (rows_along store table stored here stored.refs refl)
    (c.in-Ok.ensures.found stored here))

lively : (c : After-of_refs) → All (AreLive c.args.view.now.store c.of_refs.result.tables) c.of_refs.result.combos
lively c =
    let store = c.args.view.now.store in
    let tables = c.args.tables.now in
    let table = get_or tables 0 0 in
    let (stored, here) = some_at store.tables table (c.requires.there 0 0 (omega (arith, c.requires.alone))) in
    refs_live store table c.of_refs.result c.in-Ok.refs.items
    (ap (λ (list : Combos). list.tables) c.of_refs.ensures ∙ one_first tables c.requires.alone)
    (ap (λ (list : Combos). list.combos) c.of_refs.ensures) stored here (c.in-Ok.ensures.live stored here)

pub returns-in-Ok-clause-fitting : goal.returns-in-Ok-clause-fitting
returns-in-Ok-clause-fitting c = within (goal.at.returns-in-Ok-clause-fitting c).After-of_refs

pub returns-in-Ok-clause-live : goal.returns-in-Ok-clause-live
returns-in-Ok-clause-live c = lively (goal.at.returns-in-Ok-clause-live c).After-of_refs

pub returns-in-Ok-clause-due : goal.returns-in-Ok-clause-due
returns-in-Ok-clause-due c =
    let store = c.args.view.now.store in
    let query = c.args.query.now in
    let tables = c.args.tables.now in
    let table = get_or tables 0 0 in
    let at = (goal.at.returns-in-Ok-clause-due c).After-of_refs in
    let some = some_at store.tables table (c.requires.there 0 0 (omega (arith, c.requires.alone))) in
    let one = ap (λ (list : Combos). length list.tables) c.of_refs.ensures in
    let begun = first_begun store query tables c.requires.there (omega (arith, c.requires.alone)) (omega (arith, c.requires.alone))
    (few_at store table some.0 some.1 (table_seen c.args.view.now table some.0 some.1).few) c.of_refs.result (within at) (lively at)
    (ap (λ (list : Combos). list.tables) c.of_refs.ensures ∙ taken tables c.requires.alone)
    (ap (λ (list : Combos). list.fields) c.of_refs.ensures ∙ c.as_slice.ensures) in
    none_left store query tables c.of_refs.result begun (omega (arith, one))
  where
    taken : (tables : List ℕ) → length tables ≡ 1 → tables ≡ take 1 tables
    taken [] one = absurd (omega (arith, one))
    taken (table ∷ []) one = refl
    taken (table ∷ t ∷ tables) one = absurd (omega (arith, one))

pub returns-in-Ok-clause-reads : goal.returns-in-Ok-clause-reads
returns-in-Ok-clause-reads c =
    let store = c.args.view.now.store in
    let tables = c.args.tables.now in
    let table = get_or tables 0 0 in
    let found = subst (λ atoms. c.find_refs.new.view.reads ≤ c.args.view.now.reads
    + count_by (may_look atoms 0 (first_step store atoms table) []) (rows_at store.tables table)) c.as_slice-2.ensures c.find_refs.ensures.reads in
    omega (arith, found, alone_reads store c.args.query.now.atoms tables c.requires.alone c.requires.there)

pub returns-in-Err-clause-reads : goal.returns-in-Err-clause-reads
returns-in-Err-clause-reads c =
    let store = c.args.view.now.store in
    let tables = c.args.tables.now in
    let table = get_or tables 0 0 in
    let found = subst (λ atoms. c.find_refs.new.view.reads ≤ c.args.view.now.reads
    + count_by (may_look atoms 0 (first_step store atoms table) []) (rows_at store.tables table)) c.as_slice-2.ensures c.find_refs.ensures.reads in
    omega (arith, found, alone_reads store c.args.query.now.atoms tables c.requires.alone c.requires.there)
