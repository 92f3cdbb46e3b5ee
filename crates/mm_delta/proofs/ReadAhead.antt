-- The rows read from indexed edits are the new rows of the edits.
use Rattle.std.proofs.Common.{◌≡◌, ℕ, ◌<◌, List, get_or, length, map, sym, ap, subst, ◌∙◌, arith}
use Rattle.std.specs.List.{All}
use Rattle.std.proofs.lemmas.List.{get_or-map, length-map}
use Rattle.std.proofs.lemmas.List.Elements.{All-map}
use Rattle.mm_indexed.specs.Kept.{StoredRows}
use Rattle.mm_partition.specs.Places.{slot_at}
use Rattle.mm_store.specs.Edits.{rows_come}
use Rattle.mm_store.specs.Tables.{IsAt, Tables}
use Rattle.mm_value.specs.declared.values.Value.{Value}
use Rattle.mm_delta.specs.Changes.{AreOf, IsCome, ReadChanges}
use Rattle.mm_delta.specs.Edited.{edits_at}
use Rattle.mm_delta.specs.Steps.{EachFit}
use Rattle.mm_delta.specs.declared.edited.TableChange.{TableChange}
use Rattle.mm_delta.specs.declared.indexed_changes.TableIndex.{TableIndex}

abbrev Read : Type 0
Read = ℕ × List (List Value)

-- a table, and the rows read from its edits
abbrev pub read_of : TableIndex → Read
read_of found = (found.table, found.index.come)

module _ (changes : List TableChange) (indexes : List TableIndex) where
  abbrev pub read : ReadChanges
  read = record { edits = changes; come = map read_of indexes }

  -- Changes with indexes that were read from a store are changes of it.
  pub are_of : (store : Tables) → EachFit store changes → All (λ (found : TableIndex). IsCome store changes found.table found.index.come) indexes
      → AreOf store read
  are_of store fit come = record { fit = fit; come = All-map (λ (r : Read). IsCome store changes r.0 r.1) read_of indexes come }

  -- An index of the changes has the new rows of its edits.
  pub index_read : (self : ReadChanges) → read ≡ self → All (λ (found : TableIndex). found.index.edits ≡ edits_at changes found.table) indexes
      → (i : ℕ) (found : TableIndex) → i < length indexes → found ≡ get_or indexes i found → (table : ℕ) → found.table ≡ table
      → (store : Tables) (stored : StoredRows) → AreOf store self → IsAt store table stored
      → found.index.come ≡ rows_come (slot_at stored.places) found.index.edits
  index_read self view_is edits i found within is table same store stored of at =
      let here : AreOf store read = subst (AreOf store) (sym view_is) of in
      let there : get_or (map read_of indexes) i (read_of found) ≡ read_of found =
      get_or-map read_of indexes i found (read_of found) within ∙ ap read_of (sym is) in
      let come : IsCome store changes found.table found.index.come =
      subst (λ (r : Read). IsCome store changes r.0 r.1) there
      (here.come i (read_of found) (omega (arith, within, length-map indexes read_of))) in
      let own : found.index.edits ≡ edits_at changes found.table =
      subst (λ (f : TableIndex). f.index.edits ≡ edits_at changes f.table) (sym is) (edits i found within) in
      come stored (subst (λ t. IsAt store t stored) (sym same) at) ∙ ap (rows_come (slot_at stored.places)) (sym own)
