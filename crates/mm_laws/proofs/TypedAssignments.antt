-- The new rows of an UPDATE have the types of their columns.
use Rattle.std.proofs.Common.{◌≡◌, ℕ, suc, ◌+◌, ◌==◌, true, false, List, [], ◌∷◌, Option, Some, None, find, map, slice_get, refl, sym, ap, ◌∙◌, arith}
use Rattle.std.specs.List.{All, list_any}
use Rattle.std.specs.Option.{option_map, option_map_or}
use Rattle.std.proofs.lemmas.Bool.{or_parts}
use Rattle.std.proofs.lemmas.Bool.Decides.{nat_tests}
use Rattle.std.proofs.lemmas.List.Elements.{All-cons, All-nil}
use Rattle.mm_schema.specs.declared.column.Column.{Column}
use Rattle.mm_schema.proofs.Duplicates.{Row}
use Rattle.mm_value.specs.Types.{type_of}
use Rattle.mm_value.specs.declared.col_type.ColType.{ColType}
use Rattle.mm_value.specs.declared.values.Value.{Value}
use Rattle.mm_value.specs.declared.values.Value.TheVariants.{Int, Text}
use Rattle.mm_query.specs.Atoms.{shifted, updated_from, updated_row, updated_value, value_for, value_in}
use Rattle.mm_query.specs.Placing.{assignment_lacks_column, differ, lacks_column, mismatches, operand_lacks_column, operand_type, placed, placed_assignment}
use Rattle.mm_query.specs.Placing.{placed_operand, shifts_text, type_named}
use Rattle.mm_query.specs.declared.atom.Assignment.{Assignment}
use Rattle.mm_query.specs.declared.atom.Operand.{Operand}
use Rattle.mm_query.specs.declared.atom.Operand.TheVariants as operand
use Rattle.mm_query.proofs.FoundTargets.{found_among}
use Rattle.mm_query.proofs.Updates.{found_holds}
use Rattle.mm_laws.specs.Typing.{HasTypes}
use Rattle.mm_laws.proofs.TypedPlaces.{IsPlaced, column_placed, one_type}
use Rattle.mm_laws.proofs.TypedRows.{value_typed}

-- A value plus a number keeps its type.
type_stays : (by : _) (v : Value) → type_of (shifted by v) ≡ type_of v
type_stays by (Int number) = refl
type_stays by (Text text) = refl

equal_places : (a b : ℕ) → (a == b) ≡ true → a ≡ b
equal_places a b e = grind (arith, nat_tests)

module _ (columns : List Column) (row : Row) (typed : HasTypes columns row) where
  -- the type of the column with a name
  named_type : (name : List ℕ) (is : IsPlaced columns name) → type_named columns name ≡ Some is.column.col_type
  named_type name is = ap (option_map (λ (c : Column). c.col_type)) is.named

  -- The value at the place of a name has the type of the column with the name, ..
  placed_typed : (name : List ℕ) → lacks_column columns name ≡ false → Some (type_of (value_in (placed columns name) row)) ≡ type_named columns name
  placed_typed name there =
      let is = column_placed columns name there in
      ap Some (value_typed columns row (placed columns name) is.column typed is.there) ∙ sym (named_type name is)

  -- .. so the value of an operand has the type of the operand.
  operand_typed : (o : Operand (List ℕ)) → operand_lacks_column columns o ≡ false
      → Some (type_of (value_for row (placed_operand columns o))) ≡ operand_type (type_named columns) o
  operand_typed (operand.Literal value) there = refl
  operand_typed (operand.Column name) there = placed_typed name there
  operand_typed (operand.Shifted name by) there = ap Some (type_stays by (value_in (placed columns name) row)) ∙ placed_typed name there

  -- An assignment assigns its column a value of the column's type.
  abbrev pub Fits : Assignment ℕ → Type 0
  Fits a = (c : Column) → slice_get columns a.column ≡ Some c → type_of (value_for row a.source) ≡ c.col_type

  same_types : (a b : ColType) (found wanted : Option ColType) → Some a ≡ found → wanted ≡ Some b → differ wanted found ≡ false → a ≡ b
  same_types a b (Some c) (Some d) found wanted same =
      let here : a ≡ c = cc in let there : d ≡ b = cc in here ∙ sym (one_type d c same) ∙ there
  same_types a b None wanted found is same = cc
  same_types a b (Some c) None found wanted same = cc

  fits : (a : Assignment (List ℕ)) → assignment_lacks_column columns a ≡ false → mismatches (type_named columns) a.column a.source ≡ false
      → Fits (placed_assignment columns a)
  fits a there same c at =
      let sides = or_parts (lacks_column columns a.column) (operand_lacks_column columns a.source) there in
      let is = column_placed columns a.column sides.0 in
      let one : is.column ≡ c = (let e : Some is.column ≡ Some c = sym is.there ∙ at in cc) in
      let alike = or_parts (differ (type_named columns a.column) (operand_type (type_named columns) a.source)) (shifts_text (type_named columns) a.source)
      same in
      same_types (type_of (value_for row (placed_operand columns a.source))) is.column.col_type (operand_type (type_named columns) a.source)
      (type_named columns a.column) (operand_typed a.source sides.1) (named_type a.column is) alike.0
      ∙ ap (λ (d : Column). d.col_type) one

  pub all_fit : (assignments : List (Assignment (List ℕ))) → list_any (assignment_lacks_column columns) assignments ≡ false
      → list_any (λ (a : Assignment (List ℕ)). mismatches (type_named columns) a.column a.source) assignments ≡ false
      → All Fits (map (placed_assignment columns) assignments)
  all_fit [] there same = All-nil _
  all_fit (a ∷ others) there same =
      let t = or_parts (assignment_lacks_column columns a) (list_any (assignment_lacks_column columns) others) there in
      let s = or_parts (mismatches (type_named columns) a.column a.source)
      (list_any (λ (a : Assignment (List ℕ)). mismatches (type_named columns) a.column a.source) others) same in
      All-cons Fits _ _ (fits a t.0 s.0) (all_fit others t.1 s.1)

  module _ (assignments : List (Assignment ℕ)) (each : All Fits assignments) where
    -- A column keeps its value or gets one of its type, ..
    one_updated : (place : ℕ) (c : Column) (old : Value) → slice_get columns place ≡ Some c → type_of old ≡ c.col_type
        → type_of (updated_value assignments row place old) ≡ c.col_type
    one_updated place c old there is = by (find (λ (a : Assignment ℕ). a.column == place) assignments) refl
      where
        by : (found : Option (Assignment ℕ)) → find (λ (a : Assignment ℕ). a.column == place) assignments ≡ found
            → type_of (option_map_or (λ (a : Assignment ℕ). value_for row a.source) found old) ≡ c.col_type
        by None e = is
        by (Some a) e =
            let own = equal_places a.column place (found_among (λ (a : Assignment ℕ). a.column == place) assignments a e).1 in
            found_holds Fits (λ (a : Assignment ℕ). a.column == place) assignments a each e c (ap (slice_get columns) own ∙ there)

    -- .. and so does each of the columns from a place on.
    updated_behind : (place : ℕ) (cs : List Column) (olds : Row) → ((i : ℕ) → slice_get columns (place + i) ≡ slice_get cs i) → HasTypes cs olds
        → HasTypes cs (updated_from assignments row place olds)
    updated_behind place [] [] at has = tt
    updated_behind place (c ∷ cs) (old ∷ olds) at has = (
      one_updated place c old (ap (slice_get columns) (omega arith) ∙ at 0) has.0,
      updated_behind (place + 1) cs olds (λ i. ap (slice_get columns) (omega arith) ∙ at (suc i)) has.1,
    )
    updated_behind place [] (old ∷ olds) at has = absurd has
    updated_behind place (c ∷ cs) [] at has = absurd has

    pub updated_typed : HasTypes columns (updated_row assignments row)
    updated_typed = updated_behind 0 columns row (λ i. ap (slice_get columns) (omega arith)) typed
