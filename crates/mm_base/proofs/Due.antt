-- The refusal that is due.
use Rattle.std.proofs.Common.{◌≡◌, ℕ, Bool, true, cond, List, Option, Some, None, length, ap₂}
use Rattle.std.specs.Prelude.{nat_lt}
use Rattle.mm_value.specs.declared.refusal.Refusal.{Refusal}
use Rattle.mm_value.specs.declared.refusal.Refusal.TheVariants.{DuplicateKey, NoTargetRow, RowIsReferenced, TableFull}
use Rattle.mm_value.specs.declared.values.Value.{Value}
use Rattle.mm_schema.specs.Refused.{first_refusal}
use Rattle.mm_schema.specs.Rows.{has_duplicate_keys, most_rows, table_rows_conditions}

-- the refusal that is due if no two rows have one key
abbrev pub due_after : Bool → Bool → Bool → Option Refusal
due_after lacks leaves full = cond lacks (Some NoTargetRow) (cond leaves (Some RowIsReferenced) (cond full (Some TableFull) None))

-- the refusal that is due because of two rows with one key, rows without a target, referenced rows, and too many rows
pub due_is : (key : ℕ) (rows : List (List Value)) (lacks leaves duplicates full : Bool) → has_duplicate_keys key rows ≡ duplicates
    → nat_lt most_rows (length rows) ≡ full
    → first_refusal (table_rows_conditions key rows lacks leaves) ≡ cond duplicates (Some DuplicateKey) (due_after lacks leaves full)
due_is key rows lacks leaves duplicates full first second =
    ap₂ {C = Option Refusal} (λ (x y : Bool). cond x (Some DuplicateKey) (due_after lacks leaves y)) first second

-- two rows with one key take precedence over everything else
pub due_first : (key : ℕ) (rows : List (List Value)) (lacks leaves : Bool) → has_duplicate_keys key rows ≡ true
    → first_refusal (table_rows_conditions key rows lacks leaves) ≡ Some DuplicateKey
due_first key rows lacks leaves first =
    due_is key rows lacks leaves true (nat_lt most_rows (length rows)) first (λ i. nat_lt most_rows (length rows))
