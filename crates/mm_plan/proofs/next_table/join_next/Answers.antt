use Rattle.std.proofs.Common.{◌≡◌, ℕ, ◌+◌, ◌<◌, ◌≤◌, ◌++◌, List, [], ◌∷◌, IfOk, IsPermutation, Result, Ok, Err, Some, get_or, length, take, sym, ap, ◌∙◌, subst}
use Rattle.std.specs.List.{All}
use Rattle.std.proofs.lemmas.List.{length-append}
use Rattle.std.proofs.lemmas.Option.{get_or_from_slice_get, slice_get-get_or}
use Rattle.mm_join.specs.Caps.{cap_conditions}
use Rattle.mm_join.specs.Joined.{IsNext, joined}
use Rattle.mm_plan.proofs.Joining.{behind_is, few_at, goes_on, next_is, refused, split, within}
use Rattle.mm_plan.proofs.next_table.join_next.Goals as goal
use Rattle.mm_plan.specs.Growing.{IsCap}
use Rattle.mm_plan.specs.Steps.{Joins, step_reads}
use Rattle.mm_schema.specs.Refused.{AnswersDue, first_refusal}
use Rattle.mm_store.proofs.Joining.{some_at}
use Rattle.mm_store.proofs.Shown.{table_seen}
use Rattle.mm_store.specs.Seen.{Seen}
use Rattle.mm_store.specs.Tables.{rows_at}
use Rattle.mm_templist.specs.Combos.{Combos, combo_rows}
use Rattle.mm_value.specs.declared.refusal.Refusal.{Refusal}
use Rattle.mm_schema.specs.Rows.{most_rows}

few_there : (seen : Seen) (tables : List ℕ) (place : ℕ) → All (λ t. t < length seen.store.tables) tables → place < length tables
    → length (rows_at seen.store.tables (get_or tables place 0)) ≤ most_rows
few_there seen tables place there within =
    let (stored, here) = some_at seen.store.tables (get_or tables place 0) (there place 0 within) in
    few_at seen.store (get_or tables place 0) stored here (table_seen seen (get_or tables place 0) stored here).few

as_long : (result : Result Combos Refusal) (tables : List ℕ) (n : ℕ) → IfOk result (λ l. l.tables ≡ tables) → length tables ≡ n
    → IfOk result (λ l. length l.tables ≡ n)
as_long (Ok l) tables n is long = ap length is ∙ long
as_long (Err refusal) tables n is long = tt

pub join_by-requires-clause-next : goal.join_by-requires-clause-next
join_by-requires-clause-next c =
    let store = c.args.view.now.store in
    let tables = c.args.tables.now in
    let list = c.args.list.now in
    let few = few_there c.args.view.now tables (length list.tables) c.requires.there c.requires.left in
    let s = split store c.args.query.now tables list c.requires.begun c.requires.there c.requires.few c.requires.left few in
    (s.next, ((ap (λ ts. take (length ts + 1) tables) c.descriptor.ensures.tables ∙ s.front, s.there), c.requires.begun.live))

pub join_by-requires-clause-joins : goal.join_by-requires-clause-joins
join_by-requires-clause-joins c = λ table next.
    let store = c.args.view.now.store in
    let query = c.args.query.now in
    let tables = c.args.tables.now in
    let list = c.args.list.now in
    let few = few_there c.args.view.now tables (length list.tables) c.requires.there c.requires.left in
    let s = split store query tables list c.requires.begun c.requires.there c.requires.few c.requires.left few in
    let front : take (length c.descriptor.result.tables.now + 1) tables ≡ list.tables ++ s.next ∷ [] =
    ap (λ ts. take (length ts + 1) tables) c.descriptor.ensures.tables ∙ s.front in
    let same : s.next ≡ table =
    sym (behind_is list.tables s.next []) ∙ ap (λ ts. get_or ts (length list.tables) 0) (sym front ∙ next.0) ∙ behind_is list.tables table [] in
    subst (λ atoms. Joins store atoms list.tables table c.args.step) (sym c.as_slice-atoms.ensures)
    (c.requires.joins table
    (slice_get-get_or tables (length list.tables) 0 c.requires.left
    ∙ ap Some (next_is store query tables list c.requires.begun c.requires.there c.requires.few c.requires.left few ∙ same)))

pub returns-clause-due : goal.returns-clause-due
returns-clause-due c =
    let store = c.args.view.now.store in
    let query = c.args.query.now in
    let tables = c.args.tables.now in
    let list = c.args.list.now in
    let joins = c.descriptor.ensures.tables in
    let few = few_there c.args.view.now tables (length list.tables) c.requires.there c.requires.left in
    let s = split store query tables list c.requires.begun c.requires.there c.requires.few c.requires.left few in
    let front : take (length c.descriptor.result.tables.now + 1) tables ≡ list.tables ++ s.next ∷ [] =
    ap (λ ts. take (length ts + 1) tables) joins ∙ s.front in
    let cap : IsCap store query.atoms tables (length list.tables + 1) c.cap_of.result =
    subst (λ ts. IsCap store query.atoms tables (length ts + 1) c.cap_of.result) joins
    (subst (λ atoms. IsCap store atoms tables (length c.descriptor.result.tables.now + 1) c.cap_of.result) c.as_slice-atoms.ensures c.cap_of.ensures) in
    let found = c.join_by.ensures.joined s.next (front, s.there) in
    let due = subst (λ atoms. AnswersDue (first_refusal (cap_conditions c.cap_of.result
    (joined atoms (combo_rows store list) (rows_at store.tables s.next)))) c.join_by.result) c.as_slice-atoms.ensures found.due in
    refused store query tables list c.requires.begun c.requires.there c.requires.few c.requires.left few c.cap_of.result cap c.join_by.result due

pub returns-clause-begun : goal.returns-clause-begun
returns-clause-begun c =
    let store = c.args.view.now.store in
    let query = c.args.query.now in
    let tables = c.args.tables.now in
    let list = c.args.list.now in
    let joins = c.descriptor.ensures.tables in
    let few = few_there c.args.view.now tables (length list.tables) c.requires.there c.requires.left in
    let s = split store query tables list c.requires.begun c.requires.there c.requires.few c.requires.left few in
    let front : take (length c.descriptor.result.tables.now + 1) tables ≡ list.tables ++ s.next ∷ [] =
    ap (λ ts. take (length ts + 1) tables) joins ∙ s.front in
    let cap : IsCap store query.atoms tables (length list.tables + 1) c.cap_of.result =
    subst (λ ts. IsCap store query.atoms tables (length ts + 1) c.cap_of.result) joins
    (subst (λ atoms. IsCap store atoms tables (length c.descriptor.result.tables.now + 1) c.cap_of.result) c.as_slice-atoms.ensures c.cap_of.ensures) in
    let found = c.join_by.ensures.joined s.next (front, s.there) in
    let due = subst (λ atoms. AnswersDue (first_refusal (cap_conditions c.cap_of.result
    (joined atoms (combo_rows store list) (rows_at store.tables s.next)))) c.join_by.result) c.as_slice-atoms.ensures found.due in
    goes_on store query tables list c.requires.begun c.requires.there c.requires.few c.requires.left few c.join_by.result
    (within store query tables list c.requires.begun c.requires.there c.requires.few c.requires.left few c.cap_of.result cap c.join_by.result due)
    (subst (λ atoms. IfOk c.join_by.result (λ (l : Combos). IsPermutation (combo_rows store l)
    (joined atoms (combo_rows store list) (rows_at store.tables s.next)))) c.as_slice-atoms.ensures found.joined)
    found.live
    (subst (λ ts. IfOk c.join_by.result (λ (l : Combos). l.tables ≡ ts)) front found.tables)
    (subst (λ fs. IfOk c.join_by.result (λ (l : Combos). l.fields ≡ fs)) c.as_slice.ensures found.fields)

pub returns-clause-longer : goal.returns-clause-longer
returns-clause-longer c =
    let store = c.args.view.now.store in
    let query = c.args.query.now in
    let tables = c.args.tables.now in
    let list = c.args.list.now in
    let joins = c.descriptor.ensures.tables in
    let few = few_there c.args.view.now tables (length list.tables) c.requires.there c.requires.left in
    let s = split store query tables list c.requires.begun c.requires.there c.requires.few c.requires.left few in
    let front : take (length c.descriptor.result.tables.now + 1) tables ≡ list.tables ++ s.next ∷ [] =
    ap (λ ts. take (length ts + 1) tables) joins ∙ s.front in
    let found = c.join_by.ensures.joined s.next (front, s.there) in
    as_long c.join_by.result (list.tables ++ s.next ∷ []) (length list.tables + 1)
    (subst (λ ts. IfOk c.join_by.result (λ (l : Combos). l.tables ≡ ts)) front found.tables) (length-append list.tables (s.next ∷ []))

pub returns-clause-reads : goal.returns-clause-reads
returns-clause-reads c = λ table at.
    let store = c.args.view.now.store in
    let query = c.args.query.now in
    let tables = c.args.tables.now in
    let list = c.args.list.now in
    let joins = c.descriptor.ensures.tables in
    let few = few_there c.args.view.now tables (length list.tables) c.requires.there c.requires.left in
    let s = split store query tables list c.requires.begun c.requires.there c.requires.few c.requires.left few in
    let front : take (length c.descriptor.result.tables.now + 1) tables ≡ list.tables ++ s.next ∷ [] =
    ap (λ ts. take (length ts + 1) tables) joins ∙ s.front in
    let same : s.next ≡ table =
    sym (next_is store query tables list c.requires.begun c.requires.there c.requires.few c.requires.left few)
    ∙ get_or_from_slice_get tables (length list.tables) table 0 at in
    subst (λ atoms. c.join_by.new.view.reads ≤ c.args.view.now.reads
    + step_reads atoms (length list.tables) c.args.step (rows_at store.tables table) (combo_rows store list)) c.as_slice-atoms.ensures
    (c.join_by.ensures.reads table
    (subst (λ (t : ℕ). IsNext store list.tables (take (length c.descriptor.result.tables.now + 1) tables) t) same (front, s.there)))
