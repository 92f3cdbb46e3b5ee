-- Edits of the target table.
use Rattle.std.specs.Prelude.{◌≡◌, ℕ, Some, None}
use Rattle.std.specs.declared.cmp.Ordering.TheVariants.{Equal}
use Rattle.mm_schema.specs.Rows.{Pair}
use Rattle.mm_row_order.specs.Refs.{Slots, row_at}
use Rattle.mm_indexed.specs.Twins.{keys_by}
use Rattle.mm_tables.specs.declared.edit.Edit.{Edit}
use Rattle.mm_tables.specs.declared.edit.Edit.TheVariants.{Stage, Insert, Update, Move, Delete}
use Rattle.mm_link.specs.Links.{IsReferredTo}

-- the row that an edit removes or replaces, and the row that it brings, before it is made
abbrev pub pair_of : Slots → Edit → Pair
pair_of now (Stage r) = (None, None)
pair_of now (Insert r) = (None, Some (row_at now r))
pair_of now (Update a b) = (Some (row_at now a), Some (row_at now b))
pair_of now (Move a b) = (Some (row_at now a), Some (row_at now b))
pair_of now (Delete r) = (Some (row_at now r), None)

-- The edit, before it is made, neither removes a row to which a row in use refers, nor changes its key.
abbrev pub SparesReferred : ℕ → ℕ → Slots → Slots → Edit → Type 0
SparesReferred column key now then (Stage r) = Unit {0}
SparesReferred column key now then (Insert r) = Unit {0}
SparesReferred column key now then (Update a b) = Unit {0}
SparesReferred column key now then (Move a b) = IsReferredTo column key now then a → keys_by key then a b ≡ Equal
SparesReferred column key now then (Delete r) = IsReferredTo column key now then r → ⊥

-- The row that an edit brought into use, or gave another key, is referred to only if its slot had that key before.
abbrev pub BringsUnreferred : ℕ → ℕ → Slots → Slots → Edit → Type 0
BringsUnreferred column key now then (Stage r) = Unit {0}
BringsUnreferred column key now then (Insert r) = IsReferredTo column key now then r → ⊥
BringsUnreferred column key now then (Update a b) = Unit {0}
BringsUnreferred column key now then (Move a b) = IsReferredTo column key now then a → keys_by key then a b ≡ Equal
BringsUnreferred column key now then (Delete r) = Unit {0}
