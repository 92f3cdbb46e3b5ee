use Rattle.std.proofs.Common.{◌≡◌, ◌≤◌, sym, subst, arith}
use Rattle.std.specs.List.{All, Contains}
use Rattle.std.specs.declared.cmp.Ordering.TheVariants.{Equal}
use Rattle.mm_indexed.specs.Twins.{keys_by}
use Rattle.mm_partition.specs.Places.{Live, Hidden, slot_at, IsLive, IsHidden, ChangesTwo}
use Rattle.mm_indexed.specs.Index.{spare_of}
use Rattle.mm_indexed.specs.Kept.{StoredRows}
use Rattle.mm_indexed.proofs.Steps.{keep_beside, ordered_kept, columns_rest, keep_rest, IsKept-exchanged, table_same, exchanged_room, spares_rest}
use Rattle.mm_indexed.proofs.Steps.{without, without_moved, without_absent}
use Rattle.mm_indexed.proofs.indexed_rows.IndexedRows.exchange_kept.Goals as goal

pub remove_from_all-requires-clause-keep : goal.remove_from_all-requires-clause-keep
remove_from_all-requires-clause-keep c =
    let live : IsLive c.self.inside.rows c.args.at = subst (λ (t : StoredRows). IsLive t.places c.args.at) (sym c.self.view_is) c.requires.live in
    let here : Contains c.self.inside.by_key.refs c.args.at = (c.self.invariant.held c.args.at).1 live in
    (without _ c.args.at here, keep_beside _ _ _ _ _ c.self.invariant c.args.at _ (without_moved _ c.args.at here))

pub insert_into_all-requires-clause-columns : goal.insert_into_all-requires-clause-columns
insert_into_all-requires-clause-columns c =
    let live : IsLive c.self.inside.rows c.args.at = subst (λ (t : StoredRows). IsLive t.places c.args.at) (sym c.self.view_is) c.requires.live in
    let hidden : IsHidden c.self.inside.rows c.args.other =
    subst (λ (t : StoredRows). IsHidden t.places c.args.other) (sym c.self.view_is) c.requires.hidden in
    let here : Contains c.self.inside.by_key.refs c.args.at = (c.self.invariant.held c.args.at).1 live in
    columns_rest _ _ c.exchange.ensures.types c.self.inside.key c.self.inside.rows c.exchange.new.self c.self.inside.by_key.refs
    c.self.inside.indexes.items c.self.invariant c.have_types.ensures c.args.at _ (without_moved _ c.args.at here)
    (without_absent _ _ _ c.args.at here c.self.invariant.by_key)
    c.args.other live.0 hidden.0 live.1 hidden.1 (c.exchange.ensures.exchanged live.0 hidden.0 live.1 hidden.1)
    c.remove_from_all.new.indexes.items c.remove_from_all.ensures

pub insert_into_all-requires-clause-keep : goal.insert_into_all-requires-clause-keep
insert_into_all-requires-clause-keep c =
    let live : IsLive c.self.inside.rows c.args.at = subst (λ (t : StoredRows). IsLive t.places c.args.at) (sym c.self.view_is) c.requires.live in
    let hidden : IsHidden c.self.inside.rows c.args.other =
    subst (λ (t : StoredRows). IsHidden t.places c.args.other) (sym c.self.view_is) c.requires.hidden in
    let here : Contains c.self.inside.by_key.refs c.args.at = (c.self.invariant.held c.args.at).1 live in (
      without _ c.args.at here,
      without_absent _ _ _ c.args.at here c.self.invariant.by_key,
      keep_rest _ _ c.exchange.ensures.types c.self.inside.key c.self.inside.rows c.exchange.new.self c.self.inside.by_key.refs
          c.self.inside.indexes.items c.self.invariant c.have_types.ensures c.args.at _ (without_moved _ c.args.at here)
          (without_absent _ _ _ c.args.at here c.self.invariant.by_key)
          c.args.other live.0 hidden.0 live.1 hidden.1 (c.exchange.ensures.exchanged live.0 hidden.0 live.1 hidden.1)
          c.remove_from_all.new.indexes.items c.remove_from_all.ensures,
    )

pub insert_into_all-requires-clause-spare : goal.insert_into_all-requires-clause-spare
insert_into_all-requires-clause-spare c =
    spares_rest _ _ _ _ _ _ c.remove_from_all.ensures
    (subst (λ (t : StoredRows). All (λ x. 1 ≤ spare_of x) t.indexes) (sym c.self.view_is) c.requires.spares)

pub invariant_of-self : goal.invariant_of-self
invariant_of-self c =
    let live : IsLive c.self.inside.rows c.args.at = subst (λ (t : StoredRows). IsLive t.places c.args.at) (sym c.self.view_is) c.requires.live in
    let hidden : IsHidden c.self.inside.rows c.args.other =
    subst (λ (t : StoredRows). IsHidden t.places c.args.other) (sym c.self.view_is) c.requires.hidden in
    let here : Contains c.self.inside.by_key.refs c.args.at = (c.self.invariant.held c.args.at).1 live in
    IsKept-exchanged _ _ c.exchange.ensures.types c.self.inside.key c.self.inside.rows c.exchange.new.self c.self.inside.by_key.refs
    c.self.inside.indexes.items c.self.invariant c.have_types.ensures c.args.at _ (without_moved _ c.args.at here)
    (without_absent _ _ _ c.args.at here c.self.invariant.by_key)
    c.args.other live.0 hidden.0 live.1 hidden.1 (c.exchange.ensures.exchanged live.0 hidden.0 live.1 hidden.1)
    c.remove_from_all.new.indexes.items c.remove_from_all.ensures
    c.self.inside.by_key.refs c.insert_into_all.new.indexes.items (without_moved _ c.args.at here)
    (ordered_kept _ _ c.exchange.ensures.types c.self.inside.key c.self.inside.rows c.exchange.new.self c.self.inside.by_key.refs
    c.self.inside.indexes.items c.self.invariant c.have_types.ensures c.args.at _ (without_moved _ c.args.at here)
    (without_absent _ _ _ c.args.at here c.self.invariant.by_key) c.args.other live.0 hidden.0 live.1 hidden.1
    (c.exchange.ensures.exchanged live.0 hidden.0 live.1 hidden.1)
    (subst (λ (t : StoredRows). keys_by t.key (slot_at t.places) c.args.at c.args.other ≡ Equal) (sym c.self.view_is) c.requires.key))
    c.insert_into_all.ensures

pub returns-clause-exchanged : goal.returns-clause-exchanged
returns-clause-exchanged c row other live hidden =
    subst (λ (t : StoredRows). ChangesTwo t.places c.exchange.new.self c.args.at c.args.other (Live other) (Hidden row)) c.self.view_is
    (c.exchange.ensures.exchanged row other
    (subst (λ (t : StoredRows). slot_at t.places c.args.at ≡ Live row) (sym c.self.view_is) live)
    (subst (λ (t : StoredRows). slot_at t.places c.args.other ≡ Hidden other) (sym c.self.view_is) hidden))

pub returns-clause-table : goal.returns-clause-table
returns-clause-table c =
    table_same 0 1 _ _ _ _ _ _ _ _ _ _ c.self.view_is c.exchange.ensures.types (omega arith)
    (exchanged_room _ _ _ _ _ _ _ _ c.remove_from_all.ensures c.insert_into_all.ensures)
