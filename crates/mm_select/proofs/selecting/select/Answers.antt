use Rattle.std.proofs.Common.{◌+◌, ◌<◌, ◌≤◌, get_or, length, refl, sym, ap, ◌∙◌, subst}
use Rattle.std.specs.List.{count_by}
use Rattle.std.proofs.lemmas.Bool.{false≢true}
use Rattle.mm_select.proofs.Fits.{refs_fit, refs_live, rows_along}
use Rattle.mm_select.proofs.Walks.{one_first}
use Rattle.mm_select.specs.Accesses.{is_along}
use Rattle.mm_store.proofs.Joining.{some_at}
use Rattle.mm_store.specs.Tables.{IsAt, rows_at}
use Rattle.mm_templist.specs.Combos.{Combos}
use Rattle.mm_select.proofs.selecting.select.Goals as goal

pub select_refs-requires-clause-there : goal.select_refs-requires-clause-there
select_refs-requires-clause-there c = subst (λ l. get_or l 0 0 < length c.args.view.now.store.tables) (sym c.requires.one.1) c.requires.one.2

pub select_refs-requires-clause-served : goal.select_refs-requires-clause-served
select_refs-requires-clause-served c = λ stored here.
    c.requires.served (get_or c.args.descriptor.tables.now 0 0) stored (one_first c.args.descriptor.tables.now c.requires.one.0 c.requires.one.1) here

pub of_refs-requires : goal.of_refs-requires
of_refs-requires c = ap length c.requires.one.1

pub returns-clause-fitting : goal.returns-clause-fitting
returns-clause-fitting c =
    let store = c.args.view.now.store in
    let table = get_or c.args.descriptor.tables.now 0 0 in
    let within : table < length store.tables = subst (λ l. get_or l 0 0 < length store.tables) (sym c.requires.one.1) c.requires.one.2 in
    let (stored, here) = some_at store.tables table within in
    refs_fit store table c.of_refs.result c.in_ok-refs.refs.items
    (ap (λ (list : Combos). list.tables) c.of_refs.ensures ∙ one_first c.args.descriptor.tables.now c.requires.one.0 c.requires.one.1)
    (ap (λ (list : Combos). list.combos) c.of_refs.ensures) c.args.atoms.now stored.refs (rows_along store table stored here stored.refs refl)
    (c.in_ok-refs.ensures.found stored here)

pub returns-clause-live : goal.returns-clause-live
returns-clause-live c =
    let store = c.args.view.now.store in
    let table = get_or c.args.descriptor.tables.now 0 0 in
    let within : table < length store.tables = subst (λ l. get_or l 0 0 < length store.tables) (sym c.requires.one.1) c.requires.one.2 in
    let (stored, here) = some_at store.tables table within in
    refs_live store table c.of_refs.result c.in_ok-refs.refs.items
    (ap (λ (list : Combos). list.tables) c.of_refs.ensures ∙ one_first c.args.descriptor.tables.now c.requires.one.0 c.requires.one.1)
    (ap (λ (list : Combos). list.combos) c.of_refs.ensures) stored here (c.in_ok-refs.ensures.live stored here)

pub returns-clause-reads : goal.returns-clause-reads
returns-clause-reads c = λ table is.
    subst (λ n. c.select_refs.new.view.reads ≤ c.args.view.now.reads + count_by (is_along c.args.access) (rows_at c.args.view.now.store.tables n))
    (ap (λ l. get_or l 0 0) is) c.select_refs.ensures.reads

pub returns-in_err-refs-clause-reads : goal.returns-in_err-refs-clause-reads
returns-in_err-refs-clause-reads c = λ table is.
    subst (λ n. c.select_refs.new.view.reads ≤ c.args.view.now.reads + count_by (is_along c.args.access) (rows_at c.args.view.now.store.tables n))
    (ap (λ l. get_or l 0 0) is) c.select_refs.ensures.reads

pub returns-in_err-refs-clause-few : goal.returns-in_err-refs-clause-few
returns-in_err-refs-clause-few c = λ of_hash table stored is here few.
    absurd (false≢true (c.in_err-refs.ensures.few of_hash stored
    (subst (λ l. IsAt c.args.view.now.store (get_or l 0 0) stored) (sym is) here) few))
