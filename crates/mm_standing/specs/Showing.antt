-- The rows that a list shows of its entries.
use Rattle.std.specs.Prelude.{ℕ, Bool, if◌then◌else◌, List, min, replicate}
use Rattle.std.specs.List.{flat_map}
use Rattle.mm_value.specs.declared.values.Value.{Value}
use Rattle.mm_multiset.specs.Counts.{Entries}

-- How often a row with this count is shown: with DISTINCT at most once.
abbrev pub times_shown : Bool → ℕ → ℕ
times_shown distinct count = if distinct then min count 1 else count

-- The row of each entry, as often as it is shown.
abbrev pub rows_shown : Bool → Entries → List (List Value)
rows_shown distinct entries = flat_map (λ e. replicate (times_shown distinct e.1) e.0) entries

-- The values of rows, row after row.
abbrev pub values_in_turn : List (List Value) → List Value
values_in_turn rows = flat_map (λ row. row) rows
