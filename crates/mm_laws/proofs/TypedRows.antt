-- Rows that have the types of their columns, one by one and in the rows of a table.
use Rattle.std.proofs.Common.{◌≡◌, ℕ, zero, suc, ◌==◌, false, not, List, [], ◌∷◌, Some, None, filter_map, length, map, slice_get, refl, sym, ap, ◌∙◌, subst}
use Rattle.std.proofs.Common.{arith}
use Rattle.std.specs.List.{All, list_any}
use Rattle.std.proofs.lemmas.Bool.{or_parts}
use Rattle.std.proofs.lemmas.Bool.Decides.{nat_tests}
use Rattle.std.proofs.lemmas.List.Elements.{All-append, All-cons, All-filter, All-map, All-nil}
use Rattle.std.proofs.lemmas.List.Sorted.{All-permutation}
use Rattle.mm_schema.specs.Columns.{same_type}
use Rattle.mm_schema.specs.Rows.{Pair, additions, changed, column_cmp, unsorted}
use Rattle.mm_schema.specs.declared.column.Column.{Column}
use Rattle.mm_schema.proofs.InOrder.{IsPermutation-in_order}
use Rattle.mm_schema.proofs.Duplicates.{Row}
use Rattle.mm_value.specs.Types.{type_of}
use Rattle.mm_query.specs.Atoms.{value_in}
use Rattle.mm_query.specs.Binding.{has_other_length, has_type_mismatch}
use Rattle.mm_laws.specs.Typing.{HasTypes}
use Rattle.mm_laws.proofs.TypedPlaces.{one_type}

-- ---- one row

-- A row that has its types has a value of the column's type in each column.
pub value_typed : (columns : List Column) (row : Row) (place : ℕ) (column : Column) → HasTypes columns row → slice_get columns place ≡ Some column
    → type_of (value_in place row) ≡ column.col_type
value_typed [] row place column typed there = cc
value_typed (c ∷ cs) [] place column typed there = absurd typed
value_typed (c ∷ cs) (v ∷ vs) zero column typed there = let same : c ≡ column = cc in typed.0 ∙ ap (λ (d : Column). d.col_type) same
value_typed (c ∷ cs) (v ∷ vs) (suc place) column typed there = value_typed cs vs place column typed.1 there

-- A tuple of as many values as columns, none of which differs in type from its column, has its types.
typed_by_length : (columns : List Column) (values : Row) → has_type_mismatch columns values ≡ false → length values ≡ length columns
    → HasTypes columns values
typed_by_length [] [] same long = tt
typed_by_length [] (v ∷ vs) same long = absurd (omega (arith, long))
typed_by_length (c ∷ cs) [] same long = absurd (omega (arith, long))
typed_by_length (c ∷ cs) (v ∷ vs) same long =
    let parts = or_parts (not (same_type c.col_type (type_of v))) (has_type_mismatch cs vs) same in
    (sym (one_type c.col_type (type_of v) parts.0), typed_by_length cs vs parts.1 (omega (arith, long)))

equal_lengths : (a b : ℕ) → not (a == b) ≡ false → a ≡ b
equal_lengths a b e = grind (arith, nat_tests)

-- So has each tuple that no test by the columns refuses.
pub tuples_typed : (columns : List Column) (tuples : List Row) → list_any (has_type_mismatch columns) tuples ≡ false
    → list_any (has_other_length columns) tuples ≡ false → All (HasTypes columns) tuples
tuples_typed columns [] same long = All-nil _
tuples_typed columns (t ∷ ts) same long =
    let s = or_parts (has_type_mismatch columns t) (list_any (has_type_mismatch columns) ts) same in
    let l = or_parts (has_other_length columns t) (list_any (has_other_length columns) ts) long in
    All-cons (HasTypes columns) t ts (typed_by_length columns t s.0 (equal_lengths (length t) (length columns) l.0)) (tuples_typed columns ts s.1 l.1)

-- ---- the rows of a table

-- the new rows
abbrev pub coming : List Pair → List Row
coming pairs = filter_map (λ (p : Pair). p.1) pairs

-- A property of all rows and of the new ones holds of the rows after a change.
pub held_by_changed : (P : Row → Type 0) (key : ℕ) (pairs : List Pair) (rows : List Row) → All P rows → All P (coming pairs)
    → All P (changed key pairs rows)
held_by_changed P key [] rows old new = old
held_by_changed P key (p ∷ ps) rows old new =
    All-permutation P (unsorted key (p ∷ ps) rows) _ (IsPermutation-in_order (column_cmp key) (unsorted key (p ∷ ps) rows))
    (All-append P _ (coming (p ∷ ps)) (All-filter _ P rows old) new)

-- The new rows of INSERT are its tuples, ..
pub coming_added : (rows : List Row) → coming (additions rows) ≡ rows
coming_added [] = refl
coming_added (r ∷ rs) = ap (λ others. r ∷ others) (coming_added rs)

-- .. and those of UPDATE are one for each row.
pub coming_changed : (P : Row → Type 0) (f : Row → Row) (rows : List Row) → All (λ (row : Row). P (f row)) rows
    → All P (coming (map (λ (row : Row). (Some row, Some (f row))) rows))
coming_changed P f rows each = subst (All P) (sym (is rows)) (All-map P f rows each)
  where
    is : (rows : List Row) → coming (map (λ (row : Row). (Some row, Some (f row))) rows) ≡ map f rows
    is [] = refl
    is (r ∷ rs) = ap (λ others. f r ∷ others) (is rs)
