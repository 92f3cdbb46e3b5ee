use Rattle.std.proofs.Common.{◌≡◌, ◌≢◌, ◌++◌, List, length, take, drop, refl, sym, ap, ◌∙◌, subst, arith}
use Rattle.std.specs.List.{All, AllPairs}
use Rattle.std.specs.declared.cmp.Ordering.TheVariants.{Equal}
use Rattle.mm_value.specs.declared.row_ref.RowRef.{RowRef}
use Rattle.mm_partition.specs.Places.{slot_at}
use Rattle.mm_row_order.specs.Refs.{HasRow}
use Rattle.mm_indexed.specs.Exchanges.{ArePairs, Follows}
use Rattle.mm_indexed.specs.Index.{EachTurns}
use Rattle.mm_indexed.specs.Kept.{IsKept, StoredRows}
use Rattle.mm_indexed.specs.Twins.{keys_by}
use Rattle.mm_indexed.specs.declared.exchange.Exchange.{Exchange}
use Rattle.mm_indexed.specs.declared.indexes.index.Index.{Index}
use Rattle.mm_indexed.proofs.Building.{distinct}
use Rattle.mm_indexed.proofs.Exchanging.{IsKept-exchanged_all, exchanged_back, now_hidden, now_live, pairs_still, refs_live_now}
use Rattle.mm_indexed.proofs.Steps.{IsKept-same}
use Rattle.mm_indexed.proofs.Turning.{written_back}
use Rattle.mm_indexed.proofs.indexed_rows.IndexedRows.exchange_and_rebuild.Goals as goal

pub rebuild_changed-requires-clause-refs : goal.rebuild_changed-requires-clause-refs
rebuild_changed-requires-clause-refs c =
    let exchanges : List Exchange = c.args.exchanges.now in
    let pairs : ArePairs (slot_at c.self.inside.rows) exchanges =
    subst (λ (t : StoredRows). ArePairs (slot_at t.places) exchanges) (sym c.self.view_is) c.requires.pairs in
    let keys : All (λ e. keys_by c.self.inside.key (slot_at c.self.inside.rows) e.at e.other ≡ Equal) exchanges =
    subst (λ (t : StoredRows). All (λ e. keys_by t.key (slot_at t.places) e.at e.other ≡ Equal) exchanges) (sym c.self.view_is) c.requires.keys in
    subst (All (HasRow (slot_at c.exchange_rows.new.rows))) (sym (c.as_slice-refs.ensures.value ∙ c.in_ok-refs.ensures))
    (refs_live_now (slot_at c.self.inside.rows) (slot_at c.exchange_rows.new.rows) exchanges pairs c.exchange_rows.ensures.exchanged
    c.self.inside.rows.types c.exchange_rows.new.rows.types c.exchange_rows.ensures.types c.self.inside.key c.self.inside.by_key.refs
    c.self.inside.indexes.items c.self.invariant c.have_types.ensures keys)

pub rebuild_changed-requires-clause-apart : goal.rebuild_changed-requires-clause-apart
rebuild_changed-requires-clause-apart c =
    subst (AllPairs (λ (a b : RowRef). a ≢ b)) (sym (c.as_slice-refs.ensures.value ∙ c.in_ok-refs.ensures))
    (distinct c.self.inside.key (slot_at c.self.inside.rows) c.self.inside.by_key.refs c.self.invariant.by_key)

pub rebuild_changed-requires-clause-live : goal.rebuild_changed-requires-clause-live
rebuild_changed-requires-clause-live c =
    let exchanges : List Exchange = c.args.exchanges.now in
    let pairs : ArePairs (slot_at c.self.inside.rows) exchanges =
    subst (λ (t : StoredRows). ArePairs (slot_at t.places) exchanges) (sym c.self.view_is) c.requires.pairs in
    now_live (slot_at c.self.inside.rows) (slot_at c.exchange_rows.new.rows) exchanges pairs c.exchange_rows.ensures.exchanged

pub rebuild_changed-requires-clause-hidden : goal.rebuild_changed-requires-clause-hidden
rebuild_changed-requires-clause-hidden c =
    let exchanges : List Exchange = c.args.exchanges.now in
    let pairs : ArePairs (slot_at c.self.inside.rows) exchanges =
    subst (λ (t : StoredRows). ArePairs (slot_at t.places) exchanges) (sym c.self.view_is) c.requires.pairs in
    now_hidden (slot_at c.self.inside.rows) (slot_at c.exchange_rows.new.rows) exchanges pairs c.exchange_rows.ensures.exchanged

pub exchange_rows-requires-in-Err : goal.exchange_rows-requires-in-Err
exchange_rows-requires-in-Err c =
    let exchanges : List Exchange = c.args.exchanges.now in
    let pairs : ArePairs (slot_at c.self.inside.rows) exchanges =
    subst (λ (t : StoredRows). ArePairs (slot_at t.places) exchanges) (sym c.self.view_is) c.requires.pairs in
    pairs_still (slot_at c.self.inside.rows) (slot_at c.exchange_rows.new.rows) exchanges pairs c.exchange_rows.ensures.exchanged

pub invariant_of-self : goal.invariant_of-self
invariant_of-self c =
    let exchanges : List Exchange = c.args.exchanges.now in
    let pairs : ArePairs (slot_at c.self.inside.rows) exchanges =
    subst (λ (t : StoredRows). ArePairs (slot_at t.places) exchanges) (sym c.self.view_is) c.requires.pairs in
    let indexes : List Index = c.self.inside.indexes.items in
    let new : List Index = c.rebuild_changed.new.indexes in
    let same : new ≡ indexes = c.in-Err.ensures.err ∙ c.as_mut_slice-indexes.ensures.value in
    let back : take c.self.inside.indexes.len (new ++ drop (length new) indexes) ≡ indexes =
    written_back new (drop (length new) indexes) c.self.inside.indexes.len (omega (arith, ap length same)) ∙ same in
    subst (IsKept c.exchange_rows-in-Err.new.rows.types c.self.inside.key (slot_at c.exchange_rows-in-Err.new.rows) c.self.inside.by_key.refs) (sym back)
    (IsKept-same c.self.inside.rows.types c.exchange_rows-in-Err.new.rows.types
    (c.exchange_rows-in-Err.ensures.types ∙ c.exchange_rows.ensures.types) c.self.inside.key c.self.inside.rows c.exchange_rows-in-Err.new.rows
    c.self.inside.by_key.refs c.self.inside.by_key.refs indexes refl
    (exchanged_back (slot_at c.self.inside.rows) (slot_at c.exchange_rows.new.rows) exchanges pairs c.exchange_rows.ensures.exchanged
    (slot_at c.exchange_rows-in-Err.new.rows) c.exchange_rows-in-Err.ensures.exchanged)
    c.self.invariant)

pub returns-in-Err-clause-err : goal.returns-in-Err-clause-err
returns-in-Err-clause-err c =
    let exchanges : List Exchange = c.args.exchanges.now in
    let pairs : ArePairs (slot_at c.self.inside.rows) exchanges =
    subst (λ (t : StoredRows). ArePairs (slot_at t.places) exchanges) (sym c.self.view_is) c.requires.pairs in
    subst (λ (t : StoredRows). (at : RowRef) → slot_at c.exchange_rows-in-Err.new.rows at ≡ slot_at t.places at) c.self.view_is
    (exchanged_back (slot_at c.self.inside.rows) (slot_at c.exchange_rows.new.rows) exchanges pairs c.exchange_rows.ensures.exchanged
    (slot_at c.exchange_rows-in-Err.new.rows) c.exchange_rows-in-Err.ensures.exchanged)

pub invariant_of-self-in_default : goal.invariant_of-self-in_default
invariant_of-self-in_default c =
    let exchanges : List Exchange = c.args.exchanges.now in
    let old = slot_at c.self.inside.rows in
    let now = slot_at c.exchange_rows.new.rows in
    let key = c.self.inside.key in
    let refs : List RowRef = c.self.inside.by_key.refs in
    let indexes : List Index = c.self.inside.indexes.items in
    let new : List Index = c.rebuild_changed.new.indexes in
    let pairs : ArePairs old exchanges =
    subst (λ (t : StoredRows). ArePairs (slot_at t.places) exchanges) (sym c.self.view_is) c.requires.pairs in
    let keys : All (λ e. keys_by key old e.at e.other ≡ Equal) exchanges =
    subst (λ (t : StoredRows). All (λ e. keys_by t.key (slot_at t.places) e.at e.other ≡ Equal) exchanges) (sym c.self.view_is) c.requires.keys in
    let turned : EachTurns (Follows key now refs exchanges) indexes new =
    subst (λ xs. EachTurns (Follows key now xs exchanges) indexes new) (c.as_slice-refs.ensures.value ∙ c.in_ok-refs.ensures)
    (subst (λ xs. EachTurns (Follows key now c.as_slice-refs.result.now exchanges) xs new) c.as_mut_slice-indexes.ensures.value c.in_default.ensures.ok)
    in
    let back : take c.self.inside.indexes.len (new ++ drop (length new) indexes) ≡ new =
    written_back new (drop (length new) indexes) c.self.inside.indexes.len (omega (arith, turned.size)) in
    subst (IsKept c.exchange_rows.new.rows.types key now refs) (sym back)
    (IsKept-exchanged_all old now exchanges pairs c.exchange_rows.ensures.exchanged c.self.inside.rows.types c.exchange_rows.new.rows.types
    c.exchange_rows.ensures.types key refs indexes c.self.invariant c.have_types.ensures keys new turned)
