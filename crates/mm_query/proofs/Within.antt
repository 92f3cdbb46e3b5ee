-- The positions of names that exist are within the columns.
use Rattle.std.proofs.Common.{◌≡◌, ℕ, ◌<◌, Bool, true, false, ◌||◌, List, [], ◌∷◌, Option, Some, None, get_or, is_none, length, map, refl, sym, ap, ◌∙◌}
use Rattle.std.specs.List.{All, list_any}
use Rattle.std.specs.Option.{option_map, unwrap_or}
use Rattle.std.proofs.lemmas.Option.{slice_get-get_or}
use Rattle.std.proofs.lemmas.List.Elements.{All-cons, All-nil}
use Rattle.mm_schema.proofs.Places.{find_at_place, find_nowhere, within_from_some}
use Rattle.mm_schema.specs.Columns.{column_place}
use Rattle.mm_schema.specs.Name.{same_name}
use Rattle.mm_schema.specs.declared.column.Column.{Column}
use Rattle.mm_query.specs.Atoms.{IsWithin, ReadsWithin}
use Rattle.mm_query.specs.Placing.{assignment_lacks_column, atom_lacks_column, lacks_column, operand_lacks_column, placed, placed_assignment, placed_atom}
use Rattle.mm_query.specs.Placing.{placed_operand, type_named}
use Rattle.mm_query.specs.declared.atom.Assignment.{Assignment}
use Rattle.mm_query.specs.declared.atom.Atom.{Atom}
use Rattle.mm_query.specs.declared.atom.Operand.{Operand}
use Rattle.mm_query.specs.declared.atom.Operand.TheVariants as operand

pub neither : (a b : Bool) → (a || b) ≡ false → (a ≡ false) × (b ≡ false)
neither true b e = cc
neither false b e = (refl, e)

-- The type of the column with a name is that of the column at its position.
module _ (columns : List Column) (name : List ℕ) where
  abbrev is_named : Column → Bool
  is_named column = same_name name column.name

  pub no_type : column_place name columns ≡ None → None ≡ type_named columns name
  no_type nowhere = sym (ap (option_map (λ (c : Column). c.col_type)) (find_nowhere is_named columns nowhere))

  pub type_at : (read : List Column) (k : ℕ) (column : Column) → read ≡ columns → column_place name columns ≡ Some k
      → Some (get_or read k column).col_type ≡ type_named columns name
  type_at read k column same place =
      sym (ap (option_map (λ (c : Column). c.col_type))
      (find_at_place is_named columns k place ∙ slice_get-get_or columns k column (within_from_some is_named columns k place))
      ∙ λ j. Some (get_or (sym same j) k column).col_type)

module _ (columns : List Column) where
  -- A name that exists has a position within the columns, ..
  pub placed_within : (name : List ℕ) → lacks_column columns name ≡ false → placed columns name < length columns
  placed_within name there =
      elim (column_place name columns)
      as (λ (found : Option ℕ). (column_place name columns ≡ found) → is_none found ≡ false → unwrap_or found 0 < length columns) [
        | None ↦ λ e h. cc
        | Some i ↦ λ e h. within_from_some (λ column. same_name name column.name) columns i e
      ] refl there

  -- .. so an operand without missing names reads within them, ..
  pub operand_within : (o : Operand (List ℕ)) → operand_lacks_column columns o ≡ false → IsWithin (length columns) (placed_operand columns o)
  operand_within (operand.Literal value) there = tt
  operand_within (operand.Column name) there = placed_within name there
  operand_within (operand.Shifted name by) there = placed_within name there

  reads_within : (name : List ℕ) (o : Operand (List ℕ)) → lacks_column columns name ≡ false → operand_lacks_column columns o ≡ false
      → ReadsWithin (length columns) (placed columns name) (placed_operand columns o)
  reads_within name (operand.Literal value) here there = placed_within name here
  reads_within name (operand.Column other) here there = (placed_within name here, placed_within other there)
  reads_within name (operand.Shifted other by) here there = (placed_within name here, placed_within other there)

  -- .. and so do tests ..
  pub tests_within : (tests : List (Atom (List ℕ))) → list_any (atom_lacks_column columns) tests ≡ false
      → All (λ (t : Atom ℕ). ReadsWithin (length columns) t.left t.right) (map (placed_atom columns) tests)
  tests_within [] there = All-nil _
  tests_within (t ∷ ts) there =
      let parts = neither (atom_lacks_column columns t) (list_any (atom_lacks_column columns) ts) there in
      let sides = neither (lacks_column columns t.left) (operand_lacks_column columns t.right) parts.0 in
      All-cons (λ (t : Atom ℕ). ReadsWithin (length columns) t.left t.right) _ _ (reads_within t.left t.right sides.0 sides.1) (tests_within ts parts.1)

  -- .. and assignments.
  pub assignments_within : (assignments : List (Assignment (List ℕ))) → list_any (assignment_lacks_column columns) assignments ≡ false
      → All (λ (a : Assignment ℕ). IsWithin (length columns) a.source) (map (placed_assignment columns) assignments)
  assignments_within [] there = All-nil _
  assignments_within (a ∷ others) there =
      let parts = neither (assignment_lacks_column columns a) (list_any (assignment_lacks_column columns) others) there in
      let sides = neither (lacks_column columns a.column) (operand_lacks_column columns a.source) parts.0 in
      All-cons (λ (a : Assignment ℕ). IsWithin (length columns) a.source) _ _ (operand_within a.source sides.1) (assignments_within others parts.1)
