-- References of a relation that pass a test.
use Rattle.std.proofs.Common.{◌≢◌, Bool, get_or, ap, ◌∙◌}
use Rattle.std.specs.List.{All, AllPairs, filter}
use Rattle.std.proofs.lemmas.List.Elements.{All-filter, Contains-get_or}
use Rattle.std.proofs.lemmas.List.Kept.{AllPairs-filter}
use Rattle.mm_value.specs.declared.row_ref.RowRef.{RowRef}
use Rattle.mm_partition.specs.Places.{slot_at}
use Rattle.mm_indexed.specs.Kept.{IsKept, StoredRows}
use Rattle.mm_indexed.proofs.Ordered.{less_than_itself}
use Rattle.mm_row_order.specs.Orders.{refs_by_total}
use Rattle.mm_row_order.specs.Refs.{HasRow, Slots, refs_by}

-- references of a relation that pass a test
module _ (stored : StoredRows) (kept : IsKept stored.places.types stored.key (slot_at stored.places) stored.refs stored.indexes) (p : RowRef → Bool) where
  -- are live,
  pub passing_live : All (HasRow (slot_at stored.places)) (filter p stored.refs)
  passing_live =
      All-filter p (HasRow (slot_at stored.places)) stored.refs
      (λ k d within. (kept.held (get_or stored.refs k d)).0 (Contains-get_or stored.refs k d within))

  -- and no two of them are one
  pub passing_apart : AllPairs (λ a b. a ≢ b) (filter p stored.refs)
  passing_apart =
      let now : Slots = slot_at stored.places in
      AllPairs-filter (λ a b. a ≢ b) p stored.refs
      (λ i j d before within same.
      let a : RowRef = get_or stored.refs i d in
      less_than_itself (refs_by stored.key stored.key now a a) ((refs_by_total stored.key stored.key now).antisymm a a)
      (ap (refs_by stored.key stored.key now a) same ∙ kept.by_key.ascending i j d before within))
