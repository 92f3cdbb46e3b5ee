use Rattle.std.proofs.Common.{◌≡◌, ◌≤◌, sym, subst, arith}
use Rattle.std.specs.List.{All}
use Rattle.mm_partition.specs.Places.{Live, Hidden, slot_at, IsLive, IsHidden, ChangesTwo}
use Rattle.mm_indexed.specs.Index.{spare_of}
use Rattle.mm_indexed.specs.Kept.{StoredRows}
use Rattle.mm_indexed.proofs.Steps.{keep_beside, ordered_less, columns_rest, keep_rest, IsKept-exchanged, table_same, exchanged_room, spares_rest}
use Rattle.mm_indexed.proofs.indexed_rows.IndexedRows.exchange_moved.Goals as goal

pub remove-requires-clause-held : goal.remove-requires-clause-held
remove-requires-clause-held c =
    let live : IsLive c.self.inside.rows c.args.at = subst (λ (t : StoredRows). IsLive t.places c.args.at) (sym c.self.view_is) c.requires.live in
    (c.self.invariant.held c.args.at).1 live

pub remove_from_all-requires-clause-keep : goal.remove_from_all-requires-clause-keep
remove_from_all-requires-clause-keep c =
    (c.remove.new.tree.refs, keep_beside _ _ _ _ _ c.self.invariant c.args.at c.remove.new.tree.refs c.remove.ensures.refs)

pub insert-requires-clause-live : goal.insert-requires-clause-live
insert-requires-clause-live c =
    let live : IsLive c.self.inside.rows c.args.at = subst (λ (t : StoredRows). IsLive t.places c.args.at) (sym c.self.view_is) c.requires.live in
    let hidden : IsHidden c.self.inside.rows c.args.other =
    subst (λ (t : StoredRows). IsHidden t.places c.args.other) (sym c.self.view_is) c.requires.hidden in
    (hidden.0, (c.exchange.ensures.exchanged live.0 hidden.0 live.1 hidden.1).first)

pub insert_into_all-requires-clause-live : goal.insert_into_all-requires-clause-live
insert_into_all-requires-clause-live c =
    let live : IsLive c.self.inside.rows c.args.at = subst (λ (t : StoredRows). IsLive t.places c.args.at) (sym c.self.view_is) c.requires.live in
    let hidden : IsHidden c.self.inside.rows c.args.other =
    subst (λ (t : StoredRows). IsHidden t.places c.args.other) (sym c.self.view_is) c.requires.hidden in
    (hidden.0, (c.exchange.ensures.exchanged live.0 hidden.0 live.1 hidden.1).first)

pub insert_into_all-requires-clause-hidden : goal.insert_into_all-requires-clause-hidden
insert_into_all-requires-clause-hidden c =
    let live : IsLive c.self.inside.rows c.args.at = subst (λ (t : StoredRows). IsLive t.places c.args.at) (sym c.self.view_is) c.requires.live in
    let hidden : IsHidden c.self.inside.rows c.args.other =
    subst (λ (t : StoredRows). IsHidden t.places c.args.other) (sym c.self.view_is) c.requires.hidden in
    (live.0, (c.exchange.ensures.exchanged live.0 hidden.0 live.1 hidden.1).second)

pub insert-requires-clause-ordered : goal.insert-requires-clause-ordered
insert-requires-clause-ordered c =
    let live : IsLive c.self.inside.rows c.args.at = subst (λ (t : StoredRows). IsLive t.places c.args.at) (sym c.self.view_is) c.requires.live in
    let hidden : IsHidden c.self.inside.rows c.args.other =
    subst (λ (t : StoredRows). IsHidden t.places c.args.other) (sym c.self.view_is) c.requires.hidden in
    ordered_less _ _ c.exchange.ensures.types c.self.inside.key c.self.inside.rows c.exchange.new.self c.self.inside.by_key.refs
    c.self.inside.indexes.items c.self.invariant c.have_types.ensures c.args.at c.remove.new.tree.refs c.remove.ensures.refs c.remove.ensures.absent
    c.args.other live.0 hidden.0 live.1 hidden.1 (c.exchange.ensures.exchanged live.0 hidden.0 live.1 hidden.1) c.remove.ensures.ordered

pub insert_into_all-requires-clause-columns : goal.insert_into_all-requires-clause-columns
insert_into_all-requires-clause-columns c =
    let live : IsLive c.self.inside.rows c.args.at = subst (λ (t : StoredRows). IsLive t.places c.args.at) (sym c.self.view_is) c.requires.live in
    let hidden : IsHidden c.self.inside.rows c.args.other =
    subst (λ (t : StoredRows). IsHidden t.places c.args.other) (sym c.self.view_is) c.requires.hidden in
    columns_rest _ _ c.exchange.ensures.types c.self.inside.key c.self.inside.rows c.exchange.new.self c.self.inside.by_key.refs
    c.self.inside.indexes.items c.self.invariant c.have_types.ensures c.args.at c.remove.new.tree.refs c.remove.ensures.refs c.remove.ensures.absent
    c.args.other live.0 hidden.0 live.1 hidden.1 (c.exchange.ensures.exchanged live.0 hidden.0 live.1 hidden.1)
    c.remove_from_all.new.indexes.items c.remove_from_all.ensures

pub insert_into_all-requires-clause-keep : goal.insert_into_all-requires-clause-keep
insert_into_all-requires-clause-keep c =
    let live : IsLive c.self.inside.rows c.args.at = subst (λ (t : StoredRows). IsLive t.places c.args.at) (sym c.self.view_is) c.requires.live in
    let hidden : IsHidden c.self.inside.rows c.args.other =
    subst (λ (t : StoredRows). IsHidden t.places c.args.other) (sym c.self.view_is) c.requires.hidden in (
      c.remove.new.tree.refs,
      c.remove.ensures.absent,
      keep_rest _ _ c.exchange.ensures.types c.self.inside.key c.self.inside.rows c.exchange.new.self c.self.inside.by_key.refs
          c.self.inside.indexes.items c.self.invariant c.have_types.ensures c.args.at c.remove.new.tree.refs c.remove.ensures.refs c.remove.ensures.absent
          c.args.other live.0 hidden.0 live.1 hidden.1 (c.exchange.ensures.exchanged live.0 hidden.0 live.1 hidden.1)
          c.remove_from_all.new.indexes.items c.remove_from_all.ensures,
    )

pub insert_into_all-requires-clause-spare : goal.insert_into_all-requires-clause-spare
insert_into_all-requires-clause-spare c =
    spares_rest _ _ _ _ _ _ c.remove_from_all.ensures
    (subst (λ (t : StoredRows). All (λ x. 1 ≤ spare_of x) t.indexes) (sym c.self.view_is) c.requires.spares)

pub invariant_of-self : goal.invariant_of-self
invariant_of-self c =
    let live : IsLive c.self.inside.rows c.args.at = subst (λ (t : StoredRows). IsLive t.places c.args.at) (sym c.self.view_is) c.requires.live in
    let hidden : IsHidden c.self.inside.rows c.args.other =
    subst (λ (t : StoredRows). IsHidden t.places c.args.other) (sym c.self.view_is) c.requires.hidden in
    IsKept-exchanged _ _ c.exchange.ensures.types c.self.inside.key c.self.inside.rows c.exchange.new.self c.self.inside.by_key.refs
    c.self.inside.indexes.items c.self.invariant c.have_types.ensures c.args.at c.remove.new.tree.refs c.remove.ensures.refs c.remove.ensures.absent
    c.args.other live.0 hidden.0 live.1 hidden.1 (c.exchange.ensures.exchanged live.0 hidden.0 live.1 hidden.1)
    c.remove_from_all.new.indexes.items c.remove_from_all.ensures
    c.insert.new.tree.refs c.insert_into_all.new.indexes.items c.insert.ensures.refs c.insert.ensures.ordered c.insert_into_all.ensures

pub returns-clause-exchanged : goal.returns-clause-exchanged
returns-clause-exchanged c row other live hidden =
    subst (λ (t : StoredRows). ChangesTwo t.places c.exchange.new.self c.args.at c.args.other (Live other) (Hidden row)) c.self.view_is
    (c.exchange.ensures.exchanged row other
    (subst (λ (t : StoredRows). slot_at t.places c.args.at ≡ Live row) (sym c.self.view_is) live)
    (subst (λ (t : StoredRows). slot_at t.places c.args.other ≡ Hidden other) (sym c.self.view_is) hidden))

pub returns-clause-table : goal.returns-clause-table
returns-clause-table c =
    table_same 1 1 _ _ _ _ _ _ _ _ _ _ c.self.view_is c.exchange.ensures.types (omega (arith, c.remove.ensures.spare, c.insert.ensures.spare))
    (exchanged_room _ _ _ _ _ _ _ _ c.remove_from_all.ensures c.insert_into_all.ensures)
