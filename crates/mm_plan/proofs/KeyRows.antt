-- The row that is found by a key, and the rows that fit.
use Rattle.std.proofs.Common.{◌≡◌, ℕ, Bool, true, cond, List, [], ◌∷◌, length, refl, ap}
use Rattle.std.specs.Borrow.{Bor}
use Rattle.std.specs.List.{All, Contains, count_by}
use Rattle.std.specs.List.Sorted.{IsPermutation}
use Rattle.mm_indexed.specs.Kept.{IsKept, StoredRows}
use Rattle.mm_indexed.specs.Reads.{AreMatches}
use Rattle.mm_partition.specs.Places.{IsLive, slot_at}
use Rattle.mm_plan.specs.Finding.{meets}
use Rattle.mm_query.specs.declared.atom.Atom.{Atom}
use Rattle.mm_query.specs.declared.atom.Comparison.TheVariants.{Equal}
use Rattle.mm_query.specs.declared.bound_query.FieldPlace.{FieldPlace}
use Rattle.mm_select.proofs.Covered.{candidates, counted, selected}
use Rattle.mm_select.proofs.Found.{key_along}
use Rattle.mm_select.specs.Accesses.{AreAlong, has}
use Rattle.mm_select.specs.Asked.{compares}
use Rattle.mm_select.specs.Matches.{matching}
use Rattle.mm_select.specs.declared.access.Access.{Access}
use Rattle.mm_select.specs.declared.access.Access.TheVariants as access
use Rattle.mm_store.specs.Tables.{IsAt, Tables, rows_at}
use Rattle.mm_store.specs.declared.index_ref.IndexRef.TheVariants.{Key}
use Rattle.mm_templist.specs.Combos.{row_of}
use Rattle.mm_value.specs.declared.row_ref.RowRef.{RowRef}
use Rattle.mm_value.specs.declared.values.Value.{Value}

module _ (store : Tables) (table : ℕ) (stored : StoredRows) (here : IsAt store table stored)
    (kept : IsKept stored.places.types stored.key (slot_at stored.places) stored.refs stored.indexes) (key : Bor Value) where
  -- The look-up of the key.
  abbrev path : Access
  path = access.Equal Key stored.key key

  module _ (found : List RowRef) (are : AreMatches stored.key (slot_at stored.places) key.now stored.refs found) where
    along : AreAlong stored path found
    along = key_along stored kept Key stored.key key found refl refl are

    -- The row that is found has the key.
    pub found_has : All (IsLive stored.places) found
        → All (λ at. has stored.key key.now (row_of store table at) ≡ true) found
    found_has live k d within = (candidates store table stored here path found along live k d within).1

    -- As many rows are found as have the key.
    pub found_counted : length found ≡ count_by (has stored.key key.now) (rows_at store.tables table)
    found_counted = counted store table stored here path found along

    module _ (atoms : List (Atom FieldPlace)) (asks : Contains atoms (compares stored.key Equal key.now)) where
      -- Those that fit are all rows that fit.
      pub found_selected : (new : List RowRef) → new ≡ matching store table atoms [] found
          → IsPermutation new (matching store table atoms [] stored.refs)
      found_selected new is = selected store table stored here path found along atoms asks new is

-- A single reference matches if its row fits.
pub matching_one : (store : Tables) (table : ℕ) (atoms : List (Atom FieldPlace)) (at : RowRef) (told : Bool)
    → told ≡ meets atoms (row_of store table at) → cond told (at ∷ []) [] ≡ matching store table atoms [] (at ∷ [])
matching_one store table atoms at told is = ap (λ b. cond b (at ∷ []) []) is
