use Rattle.std.proofs.Common.{◌≡◌, ◌≢◌, ◌<◌, List, [], ◌∷◌, ◌++◌, length, sym, ap, ◌∙◌, subst}
use Rattle.std.specs.List.{All, AllPairs}
use Rattle.mm_value.specs.declared.row_ref.RowRef.{RowRef}
use Rattle.mm_partition.specs.Places.{IsLive, Places, slot_at}
use Rattle.mm_indexed.specs.Index.{Keeps, column_of}
use Rattle.mm_indexed.specs.Kept.{StoredRows, IsKept}
use Rattle.mm_indexed.specs.declared.indexes.index.Index.{Index}
use Rattle.mm_indexed.proofs.Building.{distinct, live_refs, IsKept-added}
use Rattle.mm_indexed.proofs.indexed_rows.IndexedRows.add_index.Goals as goal

pub with_room-requires-clause-live : goal.with_room-requires-clause-live
with_room-requires-clause-live c =
    let refs : List RowRef = c.self.inside.by_key.refs in
    let live : All (IsLive c.self.inside.rows) refs =
    live_refs c.self.inside.rows.types c.self.inside.key (slot_at c.self.inside.rows) refs c.self.inside.indexes.items c.self.invariant in
    subst (All (IsLive c.track_for.new.rows)) (sym (c.as_slice-refs.ensures.value ∙ c.in_ok-refs.ensures))
    (subst (λ (places : Places). All (IsLive places) refs) (sym c.track_for.ensures) live)

pub with_room-requires-clause-apart : goal.with_room-requires-clause-apart
with_room-requires-clause-apart c =
    subst (AllPairs (λ (a b : RowRef). a ≢ b)) (sym (c.as_slice-refs.ensures.value ∙ c.in_ok-refs.ensures))
    (distinct c.self.inside.key (slot_at c.self.inside.rows) c.self.inside.by_key.refs c.self.invariant.by_key)

pub invariant_of-self-in-Ok : goal.invariant_of-self-in-Ok
invariant_of-self-in-Ok c =
    let now = slot_at c.track_for.new.rows in
    let refs = c.self.inside.by_key.refs in
    let indexes = c.self.inside.indexes.items in
    let within : c.args.column < length c.track_for.new.rows.types =
    subst (λ (places : Places). c.args.column < length places.types) (sym c.track_for.ensures)
    (subst (λ (v : StoredRows). c.args.column < length v.places.types) (sym c.self.view_is) c.requires.column) in
    let kept : IsKept c.track_for.new.rows.types c.self.inside.key now refs indexes =
    subst (λ (places : Places). IsKept places.types c.self.inside.key (slot_at places) refs indexes) (sym c.track_for.ensures) c.self.invariant in
    let columns : column_of c.in-Ok.index < length c.track_for.new.rows.types = rw c.in-Ok.ensures.on.0 within in
    let keeps : Keeps c.self.inside.key now refs c.in-Ok.index =
    subst (λ (xs : List RowRef). Keeps c.self.inside.key now xs c.in-Ok.index) (c.as_slice-refs.ensures.value ∙ c.in_ok-refs.ensures) c.in-Ok.ensures.keeps
    in
    let items : c.push_reserved.new.self.items ≡ indexes ++ c.in-Ok.index ∷ [] =
    c.push_reserved.ensures.items ∙ ap (λ (xs : List Index). xs ++ c.in-Ok.index ∷ []) c.reserve.ensures.items
    in
    subst (IsKept c.track_for.new.rows.types c.self.inside.key now refs) (sym items)
    (IsKept-added c.track_for.new.rows.types c.self.inside.key now refs indexes c.in-Ok.index kept columns keeps)
