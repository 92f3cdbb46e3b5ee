-- The element at the place of a name, and types that a comparison does not distinguish.
use Rattle.std.proofs.Common.{◌≡◌, ℕ, zero, suc, ◌<◌, Bool, false, List, [], ◌∷◌, Option, Some, None, find, is_none, not, length, position, slice_get}
use Rattle.std.proofs.Common.{refl, ap, ◌∙◌, arith}
use Rattle.std.specs.Option.{option_map_or, unwrap_or}
use Rattle.mm_schema.specs.Columns.{column_named, same_type}
use Rattle.mm_schema.specs.Name.{same_name}
use Rattle.mm_schema.specs.declared.column.Column.{Column}
use Rattle.mm_schema.specs.declared.table.Table.{Table}
use Rattle.mm_schema.proofs.Places.{find_at_place, within_from_some}
use Rattle.mm_value.specs.declared.col_type.ColType.{ColType}
use Rattle.mm_value.specs.declared.col_type.ColType.TheVariants as type
use Rattle.mm_query.specs.Placing.{lacks_column, placed}

-- ---- lists

-- the first element that passes, and its place
pub record IsFound (X : Type 0) (p : X → Bool) (xs : List X) : Type 0 where
  pub element : X
  pub place : ℕ
  pub at : position p xs ≡ Some place
  pub there : slice_get xs place ≡ Some element
  pub found : find p xs ≡ Some element

-- Each place within a list has an element.
pub at_place : {X : Type 0} (xs : List X) (i : ℕ) → i < length xs → (x : X) × (slice_get xs i ≡ Some x)
at_place [] i inside = absurd (omega (arith, inside))
at_place (x ∷ xs) zero inside = (x, refl)
at_place (x ∷ xs) (suc i) inside = at_place xs i (omega (arith, inside))

-- If there is a place, an element is found.
pub found_placed : {X : Type 0} (p : X → Bool) (xs : List X) → is_none (position p xs) ≡ false → IsFound X p xs
found_placed {X = X} p xs there = by (position p xs) refl there
  where
    by : (place : Option ℕ) → position p xs ≡ place → is_none place ≡ false → IsFound X p xs
    by None at is = cc
    by (Some i) at is =
        let here = at_place xs i (within_from_some p xs i at) in
        record { element = here.0; place = i; at = at; there = here.1; found = find_at_place p xs i at ∙ here.1 }

-- ---- types

-- Types that the comparison does not distinguish are equal, ..
pub one_type : (a b : ColType) → not (same_type a b) ≡ false → a ≡ b
one_type type.Int type.Int same = refl
one_type type.Text type.Text same = refl
one_type type.Int type.Text same = cc
one_type type.Text type.Int same = cc

-- .. and the type that is not text is integer.
pub no_text : (a : ColType) → same_type type.Text a ≡ false → a ≡ type.Int
no_text type.Int other = refl
no_text type.Text other = cc

-- ---- columns

-- A column that has the name, and is at the place of the name.
pub record IsPlaced (columns : List Column) (name : List ℕ) : Type 0 where
  pub column : Column
  pub named : column_named name columns ≡ Some column
  pub there : slice_get columns (placed columns name) ≡ Some column

-- An existing name has such a column.
pub column_placed : (columns : List Column) (name : List ℕ) → lacks_column columns name ≡ false → IsPlaced columns name
column_placed columns name there =
    let is = found_placed (λ (column : Column). same_name name column.name) columns there in
    record {
      column = is.element;
      named = is.found;
      there = ap (λ (o : Option ℕ). slice_get columns (unwrap_or o 0)) is.at ∙ is.there;
    }

-- ---- tables

-- the columns of a table, if it exists
abbrev pub columns_in : Option Table → List Column
columns_in table = option_map_or (λ (t : Table). t.definition.columns) table []
