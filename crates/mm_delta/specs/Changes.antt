-- The edits of tables, with the rows read from them.
use Rattle.std.specs.Prelude.{◌≡◌, ℕ, List, All}
use Rattle.mm_indexed.specs.Kept.{StoredRows}
use Rattle.mm_partition.specs.Places.{slot_at}
use Rattle.mm_store.specs.Edits.{rows_come}
use Rattle.mm_store.specs.Tables.{IsAt, Tables}
use Rattle.mm_value.specs.declared.values.Value.{Value}
use Rattle.mm_delta.specs.Edited.{edits_at}
use Rattle.mm_delta.specs.Steps.{EachFit}
use Rattle.mm_delta.specs.declared.edited.TableChange.{TableChange}

-- The edits of tables, and for some of the tables the new rows read from their edits.
pub record ReadChanges : Type 0 where
  pub edits : List TableChange
  pub come : List (ℕ × List (List Value))

-- The rows are the new rows of the edits of a table.
abbrev pub IsCome : Tables → List TableChange → ℕ → List (List Value) → Type 0
IsCome store changes table rows = (stored : StoredRows) → IsAt store table stored → rows ≡ rows_come (slot_at stored.places) (edits_at changes table)

-- The edits fit a store, and the rows read from them are their new rows there.
pub record AreOf (store : Tables) (changes : ReadChanges) : Type 0 where
  pub fit : EachFit store changes.edits
  pub come : All (λ (read : ℕ × List (List Value)). IsCome store changes.edits read.0 read.1) changes.come
