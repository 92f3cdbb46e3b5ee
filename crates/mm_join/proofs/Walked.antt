-- The state of a loop along a walk.
use Rattle.std.proofs.Common.{◌≡◌, ℕ, ◌+◌, ◌≤◌, List, [], ◌∷◌, ◌++◌, length, sym, ap, ◌∙◌, arith, length-append}
use Rattle.std.specs.List.Sorted.{IsPermutation}
use Rattle.std.specs.Option.{option_map_or}
use Rattle.std.proofs.lemmas.List.{length-map}
use Rattle.std.proofs.lemmas.List.Sorted.{length_permutation}
use Rattle.mm_partition.specs.Places.{slot_at}
use Rattle.mm_indexed.specs.Kept.{StoredRows}
use Rattle.mm_row_order.specs.Refs.{row_at}
use Rattle.mm_indexed.specs.RowLists.{rows_of}
use Rattle.mm_store.specs.Tables.{IsAt, Tables, rows_at}
use Rattle.mm_value.specs.declared.row_ref.RowRef.{RowRef}

-- A walk is as long as the list of rows.
pub walk_length : (store : Tables) (table : ℕ) (stored : StoredRows) → IsAt store table stored → (walk : List RowRef) → IsPermutation walk stored.refs
    → length walk ≡ length (rows_at store.tables table)
walk_length store table stored here walk same =
    sym (length_permutation walk stored.refs same)
    ∙ (sym (length-map stored.refs (row_at (slot_at stored.places))) ∙ ap (λ o. length (option_map_or rows_of o [])) (sym here))

-- The part of a walk that is done, and one more, is within the walk.
pub done_within : (walk items done left rest : List RowRef) (at : RowRef) → items ≡ walk → items ≡ done ++ left → left ≡ at ∷ rest
    → length done + 1 ≤ length walk
done_within walk items done left rest at is split next =
    omega (arith, ap length is, ap length split, length-append done left, ap length next)
