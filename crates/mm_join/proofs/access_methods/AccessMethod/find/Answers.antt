use Rattle.std.proofs.Common.{◌≡◌, ◌<◌, [], ◌∷◌, ◌++◌, Some, get_or, map, refl, sym, ap, ◌∙◌, subst, arith}
use Rattle.std.proofs.lemmas.Option.{slice_get_within}
use Rattle.mm_partition.specs.Views.{viewed}
use Rattle.mm_query.specs.Queries.{rows_read}
use Rattle.mm_partition.specs.Places.{IsLive}
use Rattle.mm_indexed.specs.Kept.{StoredRows}
use Rattle.mm_store.proofs.Joining.{one_relation, some_at}
use Rattle.mm_store.proofs.Shown.{table_seen}
use Rattle.mm_store.specs.Tables.{rows_at}
use Rattle.mm_templist.specs.Combos.{rows_of_combo}
use Rattle.mm_value.specs.declared.row_ref.RowRef.{RowRef}
use Rattle.mm_join.proofs.Behind.{all_candidates, found_candidates, have_candidates}
use Rattle.mm_join.proofs.Progress.{live_length}
use Rattle.mm_join.proofs.RowOfKey.{live_at, partner_have}
use Rattle.mm_join.proofs.Success.{on_success}
use Rattle.mm_join.specs.Equated.{plain_key}
use Rattle.mm_join.specs.AccessMethods.{AreCandidates, IsAccessMethod, found_behind, listed}
use Rattle.mm_join.specs.declared.access_methods.AccessMethod.{AccessMethod}
use Rattle.mm_join.proofs.access_methods.AccessMethod.find.Goals as goal

pub partner-requires-clause-table : goal.partner-requires-clause-table
partner-requires-clause-table c =
    let store = c.args.view.now.store in
    let (stored, here) = some_at store.tables c.args.inner.now.table c.requires.there in
    (subst (IsAccessMethod store c.args.outer.tables.now c.args.inner.now) c.in-Followed.is c.requires.method stored here).0

pub partner-requires-clause-reference : goal.partner-requires-clause-reference
partner-requires-clause-reference c =
    let store = c.args.view.now.store in
    let (stored, here) = some_at store.tables c.args.inner.now.table c.requires.there in
    let asked = subst (IsAccessMethod store c.args.outer.tables.now c.args.inner.now) c.in-Followed.is c.requires.method stored here in
    subst (λ n. c.in-Followed.field.place < n) (sym (live_length store c.args.outer.tables.now c.args.outer.refs.now c.requires.live)) asked.0

pub partner-requires-clause-there : goal.partner-requires-clause-there
partner-requires-clause-there c =
    let store = c.args.view.now.store in
    let (target, here) = some_at store.tables c.args.inner.now.table c.requires.there in
    let asked = subst (IsAccessMethod store c.args.outer.tables.now c.args.inner.now) c.in-Followed.is c.requires.method target here in
    let outer = c.args.outer in
    let place = c.in-Followed.field.place in
    let source = live_at store outer.tables.now outer.refs.now c.requires.live place (record { slot = 0 }) asked.0 in
    slice_get_within store.tables (get_or outer.tables.now place 0) source.0 source.1

pub partner-requires-clause-refers : goal.partner-requires-clause-refers
partner-requires-clause-refers c =
    let store = c.args.view.now.store in
    let (stored, here) = some_at store.tables c.args.inner.now.table c.requires.there in
    let asked = subst (IsAccessMethod store c.args.outer.tables.now c.args.inner.now) c.in-Followed.is c.requires.method stored here in
    (c.args.inner.now.table, asked.1.0)

pub partner-requires-clause-live : goal.partner-requires-clause-live
partner-requires-clause-live c = λ stored at.
    let store = c.args.view.now.store in
    let (target, here) = some_at store.tables c.args.inner.now.table c.requires.there in
    let asked = subst (IsAccessMethod store c.args.outer.tables.now c.args.inner.now) c.in-Followed.is c.requires.method target here in
    let outer = c.args.outer in
    let d : RowRef = record { slot = 0 } in
    let source = live_at store outer.tables.now outer.refs.now c.requires.live c.in-Followed.field.place d asked.0 in
    subst (λ (s : StoredRows). IsLive s.places (get_or outer.refs.now c.in-Followed.field.place d))
    (one_relation source.0 stored (sym source.1 ∙ at)) source.2

pub returns-in-All-clause-found : goal.returns-in-All-clause-found
returns-in-All-clause-found c =
    let store = c.args.view.now.store in
    let inner = c.args.inner.now in
    let outer = c.args.outer in
    let rows = rows_of_combo store outer.tables.now outer.refs.now in
    let (stored, here) = some_at store.tables inner.table c.requires.there in
    let method = subst (IsAccessMethod store outer.tables.now inner) c.in-All.is c.requires.method in
    subst (λ (w : AccessMethod). AreCandidates store inner.table inner.atoms.now rows (found_behind w (rows_at store.tables inner.table) rows)
    (listed w c.args.found.now.items)) (sym c.in-All.is)
    (all_candidates c.args.view.now inner.table stored here inner.atoms.now outer.tables.now outer.refs.now c.requires.live
    _ (method stored here))

pub returns-in_ok-push-in-Followed-clause-found : goal.returns-in_ok-push-in-Followed-clause-found
returns-in_ok-push-in-Followed-clause-found c =
    let store = c.args.view.now.store in
    let inner = c.args.inner.now in
    let outer = c.args.outer in
    let field = c.in-Followed.field in
    let rows = rows_of_combo store outer.tables.now outer.refs.now in
    let (stored, here) = some_at store.tables inner.table c.requires.there in
    let asked = subst (IsAccessMethod store outer.tables.now inner) c.in-Followed.is c.requires.method stored here in
    let d : RowRef = record { slot = 0 } in
    let one : c.push.new.self.items ≡ c.partner.result ∷ [] = c.in_ok-push-in-Followed.ensures.items
    ∙ ap (λ l. l ++ c.partner.result ∷ []) c.clear.ensures.items in
    let have = partner_have store outer.tables.now outer.refs.now c.requires.live field asked.0 (map Some rows) refl inner.table stored here
    (table_seen c.args.view.now inner.table stored here) d asked.1.1 c.partner.result c.partner.ensures in
    subst (λ (w : AccessMethod). AreCandidates store inner.table inner.atoms.now rows (found_behind w (rows_at store.tables inner.table) rows)
    (listed w c.push.new.self.items)) (sym c.in-Followed.is)
    (subst (AreCandidates store inner.table inner.atoms.now rows 1) (sym one)
    (have_candidates c.args.view.now inner.table stored here inner.atoms.now outer.tables.now outer.refs.now c.requires.live (plain_key stored.key field)
    asked.2 1 (c.partner.result ∷ []) have (omega arith)))

pub returns-in-Sought-clause-found : goal.returns-in-Sought-clause-found
returns-in-Sought-clause-found c =
    on_success _ _ c.find_partners.result c.find_partners.ensures.found (λ finds.
    let store = c.args.view.now.store in
    let inner = c.args.inner.now in
    let outer = c.args.outer in
    let look_up = c.in-Sought.look_up in
    let rows = rows_of_combo store outer.tables.now outer.refs.now in
    let (stored, here) = some_at store.tables inner.table c.requires.there in
    let method = subst (IsAccessMethod store outer.tables.now inner) c.in-Sought.is c.requires.method in
    subst (λ (w : AccessMethod). AreCandidates store inner.table inner.atoms.now rows (found_behind w (rows_at store.tables inner.table) rows)
    (listed w c.find_partners.new.found.items)) (sym c.in-Sought.is)
    (found_candidates c.args.view.now inner.table stored here inner.atoms.now outer.tables.now outer.refs.now c.requires.live
    look_up.key method.0 look_up.among (rows_read viewed c.args.rows.now) c.requires.rows c.find_partners.new.found.items (finds stored here)))
