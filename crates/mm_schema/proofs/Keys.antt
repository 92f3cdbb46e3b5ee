-- The position of the key column.
use Rattle.std.proofs.Common.{◌≡◌, ℕ, ◌+◌, ◌<◌, ◌≤◌, Bool, true, false, cond, not, List, [], ◌∷◌, Some, None, length, find, position, get_or, refl, sym, ap}
use Rattle.std.proofs.Common.{◌∙◌, ⊎_elim, arith}
use Rattle.std.specs.List.{position_or_len}
use Rattle.std.proofs.lemmas.Bool.{cases_lt}
use Rattle.std.proofs.lemmas.List.Folds.{find_at}
use Rattle.std.proofs.lemmas.List.Sums.{sum_by-cons}
use Rattle.std.proofs.lemmas.Option.{slice_get_read}
use Rattle.mm_schema.proofs.Places.{past_from_none, place_from_some}
use denote.Enum.Bare.{sameb}
use Rattle.std.specs.Option.{option_map_or}
use Rattle.mm_schema.specs.Columns.{differs_from_key, is_key, key_count, key_place, same_type}
use Rattle.mm_schema.specs.declared.column.Column.{Column}
use Rattle.mm_value.specs.contracts.col_type.ColType.{the_type}
use Rattle.mm_value.specs.declared.col_type.ColType.{ColType}
use Rattle.mm_value.specs.declared.col_type.ColType.TheVariants as type

-- a first column that is not the key does not change the count
one_less : (b : Bool) (len at count : ℕ) → len + 1 ≤ cond (not b) (1 + at) 0 → (len ≤ at → count ≡ 0) → cond b 1 0 + count ≡ 0
one_less true len at count h rest = absurd (omega arith)
one_less false len at count h rest = omega (arith, rest (omega arith))

-- if no column before the end is the key, none is
no_key : (columns : List Column) → length columns ≤ position_or_len is_key columns → key_count columns ≡ 0
no_key [] h = refl
no_key (c ∷ cs) h = sum_by-cons (λ column. cond (is_key column) 1 0) c cs
    ∙ one_less (is_key c) (length cs) (position_or_len is_key cs) (key_count cs) (omega arith) (no_key cs)

-- If one column is the key, one is found.
pub key_is_there : (columns : List Column) → position is_key columns ≡ None → key_count columns ≡ 0
key_is_there columns h = no_key columns (past_from_none is_key columns h)

-- The position that is found is that of the key.
pub place_of_key : (columns : List Column) (i : ℕ) → position is_key columns ≡ Some i → i ≡ key_place columns
place_of_key columns i h = place_from_some is_key columns i h

-- The key's position is within the columns.
pub key_within : (columns : List Column) → key_count columns ≡ 1 → key_place columns < length columns
key_within columns one = ⊎_elim (λ within. within) (λ past. absurd (omega (arith, no_key columns past, one))) (cases_lt (key_place columns) (length columns))

-- The key column is the one at the key's position.
pub key_found : (columns : List Column) (len : ℕ) (key : Column) → len ≡ length columns → key_count columns ≡ 1
    → key ≡ get_or columns (key_place columns) key
    → find is_key columns ≡ Some key
key_found columns len key same one is =
    find_at is_key columns ∙ slice_get_read columns len (key_place columns) key same (omega (arith, same, key_within columns one)) is

same_types : (a b : ColType) → sameb the_type a b ≡ same_type a b
same_types type.Int type.Int = refl
same_types type.Int type.Text = refl
same_types type.Text type.Int = refl
same_types type.Text type.Text = refl

-- The key column has another type if and only if the column at the key's position does.
pub key_differs : (col_type : ColType) (columns : List Column) (len place : ℕ) (key : Column) (differs : Bool) → len ≡ length columns
    → key_count columns ≡ 1 → place ≡ key_place columns → key ≡ get_or columns place key → differs ≡ not (sameb the_type key.col_type col_type)
    → differs ≡ differs_from_key col_type columns
key_differs col_type columns len place key differs same one at is answer =
    answer ∙ ap not (same_types key.col_type col_type)
    ∙ sym (ap (λ found. option_map_or (λ (k : Column). not (same_type k.col_type col_type)) found false)
    (key_found columns len key same one (is ∙ ap (λ n. get_or columns n key) at)))
