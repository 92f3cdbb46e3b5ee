-- The invariant of a table that a view reads.
use Rattle.std.proofs.Common.{◌≡◌, ℕ, ◌<◌, Bool, true, List, length, get_or, refl, sym, ◌∙◌, subst, ⊎_elim}
use Rattle.std.proofs.Math.Logic.{∥∥₁_elim, ∥∥₁_map}
use Rattle.std.proofs.Props.{props}
use Rattle.std.specs.Coded.{le_prop}
use Rattle.std.specs.List.{All, Contains}
use Rattle.std.specs.Prelude.{IsPermutation, Some, map, slice_get}
use Rattle.std.proofs.lemmas.List.Sorted.{sum_by-IsPermutation}
use Rattle.std.proofs.lemmas.Option.{get_or_from_slice_get, slice_get_within}
use Rattle.mm_partition.specs.Places.{Content, Free, Live, Hidden, IsStorableIn, slot_at}
use Rattle.mm_indexed.proofs.RefTests.{same_ref}
use Rattle.mm_indexed.specs.HashedPairs.{hashed_pair}
use Rattle.mm_indexed.specs.Index.{Keeps}
use Rattle.mm_row_order.specs.InOrder.{InOrder}
use Rattle.mm_indexed.specs.Kept.{IsKept, StoredRows}
use Rattle.mm_row_order.specs.Refs.{IsWide, Slots}
use Rattle.mm_indexed.specs.declared.indexes.index.Index.{Index}
use Rattle.mm_indexed.specs.declared.indexes.index.Index.TheVariants.{Tree, Hash}
use Rattle.mm_indexed.proofs.Bags.{IsPermutation-from_counts}
use Rattle.mm_indexed.proofs.RefTests.{pair_from_test, pair_itself, same_from_test, same_pair, test_from_same}
use Rattle.mm_base.proofs.References.{in_or_out}
use Rattle.mm_value.specs.Storable.{IsStorable}
use Rattle.mm_value.specs.declared.col_type.ColType.{ColType}
use Rattle.mm_value.specs.declared.row_ref.RowRef.{RowRef}
use Rattle.mm_value.specs.declared.values.Value.{Value}
use Rattle.mm_value.specs.declared.values.Value.TheVariants.{Int, Text}
use Rattle.mm_store.specs.Joined.{IsTable}
use Rattle.mm_store.specs.Seen.{Seen}
use Rattle.mm_store.specs.Tables.{IsAt}

-- Each property below is decidable or has at most one proof. So if it holds truncated, it holds.

module _ {X : Type 0} (same : X → X → Bool) (told : (a b : X) → same a b ≡ true → a ≡ b) (itself : (a : X) → same a a ≡ true) where
  IsPermutation-had : (xs ys : List X) → ∥ IsPermutation xs ys ∥₁ → IsPermutation xs ys
  IsPermutation-had xs ys h =
      IsPermutation-from_counts same told itself xs ys (λ x. ∥∥₁_elim h (hlevel props) (λ moved. sym (sum_by-IsPermutation _ xs ys moved)))

row_had : (content : Content) → ∥ ((row : List Value) × (content ≡ Live row)) ∥₁ → (row : List Value) × (content ≡ Live row)
row_had Free h = absurd (∥∥₁_elim h (λ x y. absurd x) (λ has. let no : Free ≡ Live has.0 = has.1 in cc))
row_had (Live row) h = (row, refl)
row_had (Hidden row) h = absurd (∥∥₁_elim h (λ x y. absurd x) (λ has. let no : Hidden row ≡ Live has.0 = has.1 in cc))

Contains-had : (refs : List RowRef) (at : RowRef) → ∥ Contains refs at ∥₁ → Contains refs at
Contains-had refs at h =
    ⊎_elim (λ (here : Contains refs at). here) (λ (absent : Contains refs at → ⊥). absurd (∥∥₁_elim h (λ x y. absurd x) absent)) (in_or_out refs at)

one_row : (row other : List Value) → Live row ≡ Live other → row ≡ other
one_row row other same = cc

IsWide-had : (column key : ℕ) (now : Slots) (at : RowRef) → ∥ IsWide column key now at ∥₁ → IsWide column key now at
IsWide-had column key now at h =
    let has = row_had (now at) (∥∥₁_map h (λ wide. (wide.row, wide.live))) in
    let within : (n : ℕ) (wide : IsWide column key now at) → n < length wide.row → n < length has.0 =
    λ n wide. subst (λ row. n < length row) (one_row wide.row has.0 (sym wide.live ∙ has.1)) in
    record {
      row = has.0;
      live = has.1;
      column_in = ∥∥₁_elim h le_prop (λ wide. within column wide wide.column_in);
      key_in = ∥∥₁_elim h le_prop (λ wide. within key wide wide.key_in);
    }

InOrder-had : (column key : ℕ) (now : Slots) (refs : List RowRef) → ∥ InOrder column key now refs ∥₁ → InOrder column key now refs
InOrder-had column key now refs h = record {
  covered = λ k d within. IsWide-had column key now (get_or refs k d) (∥∥₁_map h (λ ordered. ordered.covered k d within));
  ascending = λ i j d before within. ∥∥₁_elim h (hlevel props) (λ ordered. ordered.ascending i j d before within);
}

Keeps-had : (key : ℕ) (now : Slots) (held : List RowRef) (x : Index) → ∥ Keeps key now held x ∥₁ → Keeps key now held x
Keeps-had key now held (Tree column refs) h = (
  InOrder-had column key now refs.refs (∥∥₁_map h (λ keeps. keeps.0)),
  IsPermutation-had same_ref same_from_test (λ a. test_from_same a a refl) refs.refs held (∥∥₁_map h (λ keeps. keeps.1)),
)
Keeps-had key now held (Hash column pairs) h =
    IsPermutation-had same_pair pair_from_test pair_itself pairs.entries (map (hashed_pair column now) held) h

IsKept-had : (types : List ColType) (key : ℕ) (now : Slots) (refs : List RowRef) (indexes : List Index) → ∥ IsKept types key now refs indexes ∥₁
    → IsKept types key now refs indexes
IsKept-had types key now refs indexes h = record {
  key_in = ∥∥₁_elim h le_prop (λ kept. kept.key_in);
  columns = λ k d within. ∥∥₁_elim h le_prop (λ kept. kept.columns k d within);
  typed = λ at row live. ∥∥₁_elim h (hlevel props) (λ kept. kept.typed at row live);
  held = λ at. (
    λ here. row_had (now at) (∥∥₁_map h (λ kept. (kept.held at).0 here)),
    λ live. Contains-had refs at (∥∥₁_map h (λ kept. (kept.held at).1 live)),
  );
  by_key = InOrder-had key key now refs (∥∥₁_map h (λ kept. kept.by_key));
  keep = λ k d within. Keeps-had key now refs (get_or indexes k d) (∥∥₁_map h (λ kept. kept.keep k d within));
}

IsStorable-prop : (value : Value) → IsProp (IsStorable value)
IsStorable-prop (Int z) = hlevel props
IsStorable-prop (Text text) = hlevel props

IsStorableIn-prop : (content : Content) → IsProp (IsStorableIn content)
IsStorableIn-prop Free = hlevel props
IsStorableIn-prop (Live row) = hlevel (IsStorable-prop, props)
IsStorableIn-prop (Hidden row) = hlevel (IsStorable-prop, props)

IsTable-had : (stored : StoredRows) → ∥ IsTable stored ∥₁ → IsTable stored
IsTable-had stored h = record {
  few = ∥∥₁_elim h le_prop (λ table. table.few);
  apart = λ at live twin. ∥∥₁_elim h (λ x y. absurd x) (λ table. table.apart at live twin);
  kept = IsKept-had stored.places.types stored.key (slot_at stored.places) stored.refs stored.indexes (∥∥₁_map h (λ table. table.kept));
  storable = λ at. ∥∥₁_elim h (IsStorableIn-prop (slot_at stored.places at)) (λ table. table.storable at);
}

pub table_at : (tables : List StoredRows) (place : ℕ) (stored : StoredRows) → All IsTable tables → slice_get tables place ≡ Some stored → IsTable stored
table_at tables place stored all there =
    subst IsTable (get_or_from_slice_get tables place stored stored there) (all place stored (slice_get_within tables place stored there))

-- The invariant of a table holds of each table that a view reads.
pub table_seen : (seen : Seen) (table : ℕ) (stored : StoredRows) → IsAt seen.store table stored → IsTable stored
table_seen seen table stored here = IsTable-had stored (∥∥₁_map seen.kept (λ all. table_at seen.store.tables table stored all here))
