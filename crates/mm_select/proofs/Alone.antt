-- Atoms on a further table are false for no row of the first table alone.
use Rattle.std.proofs.Common.{◌≡◌, ℕ, zero, suc, true, false, List, [], ◌∷◌, Option, None, Some, inl, inr, get_or, refl, ap}
use Rattle.std.specs.Prelude.{◌==◌}
use Rattle.std.specs.Option.{option_map}
use Rattle.std.proofs.lemmas.Bool.{cases_Bool}
use Rattle.mm_query.specs.Atoms.{holds, holds_of, operand_of, shifted, value_in}
use Rattle.mm_query.specs.Queries.{value_at}
use Rattle.mm_query.specs.declared.atom.Atom.{Atom}
use Rattle.mm_query.specs.declared.atom.Comparison.{Comparison}
use Rattle.mm_query.specs.declared.atom.Operand.{Operand}
use Rattle.mm_query.specs.declared.atom.Operand.TheVariants.{Literal, Column, Shifted}
use Rattle.mm_query.specs.declared.bound_query.FieldPlace.{FieldPlace}
use Rattle.mm_value.specs.declared.values.Value.{Value}
use Rattle.mm_select.specs.Alone.{asks_of_first, reads_first}

row_behind : (row : List Value) (place : ℕ) → (place == 0) ≡ false → get_or (Some row ∷ []) place None ≡ None
row_behind row zero behind = cc
row_behind row (suc place) behind = refl

-- A field of a further table has no value yet.
field_behind : (row : List Value) (field : FieldPlace) → (field.place == 0) ≡ false → value_at (Some row ∷ []) field ≡ None
field_behind row field behind = ap (option_map (value_in field.column)) (row_behind row field.place behind)

operand_behind : (row : List Value) (right : Operand FieldPlace) → reads_first right ≡ false → operand_of (value_at (Some row ∷ [])) right ≡ None
operand_behind row (Literal value) behind = cc
operand_behind row (Column field) behind = field_behind row field behind
operand_behind row (Shifted field by) behind = ap (option_map (shifted by)) (field_behind row field behind)

holds_without : (comparison : Comparison) (left right : Option Value) → right ≡ None → holds_of comparison left right ≡ true
holds_without comparison None right none = refl
holds_without comparison (Some a) right none = ap (holds_of comparison (Some a)) none

-- So an atom with such a field is false for no row of the first table.
pub holds_alone : (row : List Value) (atom : Atom FieldPlace) → asks_of_first atom ≡ false → holds (value_at (Some row ∷ [])) atom ≡ true
holds_alone row atom silent =
    let right = operand_of (value_at (Some row ∷ [])) atom.right in
    elim (cases_Bool (atom.left.place == 0)) [
      | inl first ↦
          let behind : reads_first atom.right ≡ false = cc in
          holds_without atom.comparison (value_at (Some row ∷ []) atom.left) right (operand_behind row atom.right behind)
      | inr behind ↦ ap (λ left. holds_of atom.comparison left right) (field_behind row atom.left behind)
    ]
