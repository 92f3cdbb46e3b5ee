use Rattle.std.proofs.Common.{◌≡◌, ◌+◌, ◌≤◌, Bool, [], ◌∷◌, Some, true, ap, length, sym, subst, arith}
use Rattle.std.specs.List.{count_by}
use Rattle.std.specs.List.Sorted.{IsPermutation}
use Rattle.std.proofs.lemmas.Bool.{false≢true}
use Rattle.std.proofs.lemmas.List.Sorted.{IsPermutation-refl}
use Rattle.std.proofs.lemmas.List.Sums.{count_by-le-length, length-filter}
use Rattle.std.proofs.lemmas.Result.{IfOk-weaker}
use Rattle.mm_query.specs.Queries.{none_fails}
use Rattle.mm_store.proofs.Joining.{some_at}
use Rattle.mm_store.specs.Tables.{rows_at}
use Rattle.mm_select.specs.Accesses.{AreAlong, IsOfHash, IsOfKey, is_along, is_in_key_order, refs_along}
use Rattle.mm_select.specs.Matches.{matching}
use Rattle.mm_select.specs.declared.access.Access.{Access}
use Rattle.mm_templist.specs.Combos.{row_of}
use Rattle.mm_value.specs.declared.row_ref.RowRef.{RowRef}
use Rattle.mm_select.proofs.Found.{hash_looked_up, key_looked_up}
use Rattle.mm_select.proofs.Covered.{counted, scan_counted, selected, selected_in_order, selected_live}
use Rattle.mm_select.proofs.selecting.select_refs.Goals as goal

pub returns-in-Scan-clause-found : goal.returns-in-Scan-clause-found
returns-in-Scan-clause-found c =
    IfOk-weaker c.scan.result _ _
    (λ found is stored here.
    let all = matching c.args.view.now.store c.args.table c.args.atoms.now [] stored.refs in
    subst (λ l. IsPermutation l all) (sym (is stored here)) (IsPermutation-refl all)) c.scan.ensures.found

pub returns-in-Scan-clause-reads : goal.returns-in-Scan-clause-reads
returns-in-Scan-clause-reads c =
    let rows = rows_at c.args.view.now.store.tables c.args.table in
    subst (λ (a : Access). c.scan.new.view.reads ≤ c.args.view.now.reads + count_by (is_along a) rows) (sym c.in-Scan.is)
    (omega (arith, c.scan.ensures.reads, scan_counted rows))

pub returns-in_ok-found-in-Equal-clause-found : goal.returns-in_ok-found-in-Equal-clause-found
returns-in_ok-found-in-Equal-clause-found c = λ stored here.
    let found = c.in_ok-found-in-Equal.found.items in
    let along = subst (λ (a : Access). AreAlong stored a found) (sym c.in-Equal.is) (c.in_ok-found-in-Equal.ensures.along stored here) in
    selected c.args.view.now.store c.args.table stored here c.args.access found along c.args.atoms.now c.requires.asked
    c.keep_fitting.new.found.items c.keep_fitting.ensures.found

pub returns-in_ok-found-in-Equal-clause-ordered : goal.returns-in_ok-found-in-Equal-clause-ordered
returns-in_ok-found-in-Equal-clause-ordered c = λ ordered. absurd (false≢true (subst (λ (a : Access). is_in_key_order a ≡ true) c.in-Equal.is ordered))

pub returns-in_ok-found-in-Equal-clause-live : goal.returns-in_ok-found-in-Equal-clause-live
returns-in_ok-found-in-Equal-clause-live c = λ stored here.
    let found = c.in_ok-found-in-Equal.found.items in
    let along = subst (λ (a : Access). AreAlong stored a found) (sym c.in-Equal.is) (c.in_ok-found-in-Equal.ensures.along stored here) in
    selected_live c.args.view.now.store c.args.table stored here c.args.access found along c.args.atoms.now c.requires.asked
    c.keep_fitting.new.found.items c.keep_fitting.ensures.found (c.in_ok-found-in-Equal.ensures.live stored here)

pub returns-in_ok-found-in-Equal-clause-reads : goal.returns-in_ok-found-in-Equal-clause-reads
returns-in_ok-found-in-Equal-clause-reads c =
    let store = c.args.view.now.store in
    let (stored, here) = some_at store.tables c.args.table c.requires.there in
    let found = c.in_ok-found-in-Equal.found.items in
    let along = subst (λ (a : Access). AreAlong stored a found) (sym c.in-Equal.is) (c.in_ok-found-in-Equal.ensures.along stored here) in
    omega (arith, c.keep_fitting.ensures.reads, counted store c.args.table stored here c.args.access found along)

pub returns-in_ok-found-in-Range-clause-found : goal.returns-in_ok-found-in-Range-clause-found
returns-in_ok-found-in-Range-clause-found c = λ stored here.
    let found = c.in_ok-found-in-Range.found.items in
    let along = subst (λ (a : Access). AreAlong stored a found) (sym c.in-Range.is) (c.in_ok-found-in-Range.ensures.along stored here) in
    selected c.args.view.now.store c.args.table stored here c.args.access found along c.args.atoms.now c.requires.asked
    c.keep_fitting-in-Range.new.found.items c.keep_fitting-in-Range.ensures.found

pub returns-in_ok-found-in-Range-clause-ordered : goal.returns-in_ok-found-in-Range-clause-ordered
returns-in_ok-found-in-Range-clause-ordered c = λ ordered stored here.
    let found = c.in_ok-found-in-Range.found.items in
    let along = subst (λ (a : Access). AreAlong stored a found) (sym c.in-Range.is) (c.in_ok-found-in-Range.ensures.along stored here) in
    let same = subst (λ (a : Access). is_in_key_order a ≡ true → found ≡ refs_along stored a) (sym c.in-Range.is)
    (c.in_ok-found-in-Range.ensures.ordered stored here) ordered in
    selected_in_order c.args.view.now.store c.args.table stored here c.args.access found along c.args.atoms.now c.requires.asked
    c.keep_fitting-in-Range.new.found.items c.keep_fitting-in-Range.ensures.found same

pub returns-in_ok-found-in-Range-clause-live : goal.returns-in_ok-found-in-Range-clause-live
returns-in_ok-found-in-Range-clause-live c = λ stored here.
    let found = c.in_ok-found-in-Range.found.items in
    let along = subst (λ (a : Access). AreAlong stored a found) (sym c.in-Range.is) (c.in_ok-found-in-Range.ensures.along stored here) in
    selected_live c.args.view.now.store c.args.table stored here c.args.access found along c.args.atoms.now c.requires.asked
    c.keep_fitting-in-Range.new.found.items c.keep_fitting-in-Range.ensures.found (c.in_ok-found-in-Range.ensures.live stored here)

pub returns-in_ok-found-in-Range-clause-reads : goal.returns-in_ok-found-in-Range-clause-reads
returns-in_ok-found-in-Range-clause-reads c =
    let store = c.args.view.now.store in
    let (stored, here) = some_at store.tables c.args.table c.requires.there in
    let found = c.in_ok-found-in-Range.found.items in
    let along = subst (λ (a : Access). AreAlong stored a found) (sym c.in-Range.is) (c.in_ok-found-in-Range.ensures.along stored here) in
    omega (arith, c.keep_fitting-in-Range.ensures.reads, counted store c.args.table stored here c.args.access found along)

pub returns-in_err-found-in-Equal-clause-by_key : goal.returns-in_err-found-in-Equal-clause-by_key
returns-in_err-found-in-Equal-clause-by_key c = λ of_key.
    absurd (c.in_err-found-in-Equal.ensures.by_key
    (key_looked_up c.in-Equal.index c.in-Equal.column c.in-Equal.value (subst IsOfKey c.in-Equal.is of_key)))

pub returns-in_err-found-in-Equal-clause-few : goal.returns-in_err-found-in-Equal-clause-few
returns-in_err-found-in-Equal-clause-few c = λ of_hash stored here few.
    absurd (false≢true (c.in_err-found-in-Equal.ensures.few
    (hash_looked_up c.in-Equal.index c.in-Equal.column c.in-Equal.value (subst IsOfHash c.in-Equal.is of_hash))
    stored here (subst (λ (a : Access). length (refs_along stored a) ≤ 4) c.in-Equal.is few)))

pub returns-in_ok-found-in-Equal-clause-by_key : goal.returns-in_ok-found-in-Equal-clause-by_key
returns-in_ok-found-in-Equal-clause-by_key c = λ of_key.
    let found = c.in_ok-found-in-Equal.found.items in
    let p : RowRef → Bool = λ at. none_fails c.args.atoms.now (Some (row_of c.args.view.now.store c.args.table at) ∷ []) in
    omega (
      arith,
      c.in_ok-found-in-Equal.ensures.by_key (key_looked_up c.in-Equal.index c.in-Equal.column c.in-Equal.value (subst IsOfKey c.in-Equal.is of_key)),
      ap length c.keep_fitting.ensures.found,
      length-filter p found,
      count_by-le-length p found,
    )
