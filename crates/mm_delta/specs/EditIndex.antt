-- Hash indexes over the edits of a table and over their new rows.
use Rattle.std.specs.Prelude.{◌≡◌, ℕ, ℤ, FitsSigned, eqb, List, [], Some, map, Vec}
use Rattle.std.specs.Int.{w64}
use Rattle.std.specs.List.{list_any}
use Rattle.std.specs.Map.{lookup}
use Rattle.std.specs.Option.{option_map_or}
use Rattle.mm_partition.specs.Views.{viewed}
use Rattle.mm_partition.specs.declared.view.RowView.{RowView}
use Rattle.mm_tables.specs.declared.edit.Edit.{Edit}
use Rattle.mm_value.specs.Equality.{same_value}
use Rattle.mm_value.specs.declared.row_ref.RowRef.{RowRef}
use Rattle.mm_value.specs.declared.values.Value.{Value}
use Rattle.mm_value.specs.declared.values.Value.TheVariants.{Int}
use Rattle.mm_delta.specs.Candidates.{having}
use Rattle.mm_delta.specs.Steps.{takes}

-- The edits of a table, and the rows read from them: their new rows.
pub record ReadEdits : Type 0 where
  pub edits : List Edit
  pub come : List (List Value)

-- The slots are those of the rows that the edits delete or replace.
abbrev pub AreGone : List Edit → List ℕ → Type 0
AreGone edits slots = (at : RowRef) → list_any (eqb at.slot) slots ≡ list_any (takes at) edits

-- The rows in the entry of a value: none if it has no entry.
abbrev pub rows_under : {Z : Type 0} → Value → List (Value × Vec RowView Z) → List (List Value)
rows_under value entries = map viewed (option_map_or (λ rows. rows.items) (lookup (same_value value) entries) [])

-- The entry of each value has the rows with this value in a column, in their order.
abbrev pub AreUnder : {Z : Type 0} → ℕ → List (List Value) → List (Value × Vec RowView Z) → Type 0
AreUnder column rows entries = (value : Value) → rows_under value entries ≡ having (Some (column, value)) rows

-- No entry of a number past 64 bits has a row.
abbrev pub HasNonePast : {Z : Type 0} → List (Value × Vec RowView Z) → Type 0
HasNonePast entries = (number : ℤ) → ¬ FitsSigned w64 number → rows_under (Int number) entries ≡ []
