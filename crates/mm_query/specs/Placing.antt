-- The resolution of the column names in tests and assignments, and the refusals that depend on the columns of their table.
use Rattle.std.specs.Prelude.{ℕ, Bool, false, not, ◌||◌, List, [], ◌∷◌, Option, Some, None, is_none, length, nat_lt}
use Rattle.std.specs.List.{list_any}
use Rattle.std.specs.Option.{option_map, option_map_or, unwrap_or}
use Rattle.mm_schema.specs.Columns.{column_named, column_place, same_type}
use Rattle.mm_schema.specs.Name.{same_name}
use Rattle.mm_schema.specs.Refused.{Condition}
use Rattle.mm_schema.specs.declared.column.Column.{Column}
use Rattle.mm_value.specs.Types.{type_of}
use Rattle.mm_value.specs.declared.col_type.ColType.{ColType}
use Rattle.mm_value.specs.declared.col_type.ColType.TheVariants as type
use Rattle.mm_value.specs.declared.refusal.Refusal.TheVariants.{NameTaken, NoSuchColumn, TooMany, TypeMismatch}
use Rattle.mm_query.specs.declared.atom.Assignment.{Assignment}
use Rattle.mm_query.specs.declared.atom.Atom.{Atom}
use Rattle.mm_query.specs.declared.atom.Operand.{Operand}
use Rattle.mm_query.specs.declared.atom.Operand.TheVariants as operand

-- ---- positions of names

-- The position of the column with a name, or 0 if there is none.
abbrev pub placed : List Column → List ℕ → ℕ
placed columns name = unwrap_or (column_place name columns) 0

-- An operand and an atom with their columns mapped.
abbrev pub mapped_operand : {F G : Type 0} → (F → G) → Operand F → Operand G
mapped_operand place (operand.Literal value) = operand.Literal value
mapped_operand place (operand.Column name) = operand.Column (place name)
mapped_operand place (operand.Shifted name by) = operand.Shifted (place name) by

abbrev pub mapped_atom : {F G : Type 0} → (F → G) → Atom F → Atom G
mapped_atom place atom =
    record { left = place atom.left; comparison = atom.comparison; right = mapped_operand place atom.right }

-- An operand, an atom and an assignment with positions of columns.
abbrev pub placed_operand : List Column → Operand (List ℕ) → Operand ℕ
placed_operand columns operand = mapped_operand (placed columns) operand

abbrev pub placed_atom : List Column → Atom (List ℕ) → Atom ℕ
placed_atom columns atom = mapped_atom (placed columns) atom

abbrev pub placed_assignment : List Column → Assignment (List ℕ) → Assignment ℕ
placed_assignment columns assignment =
    record { column = placed columns assignment.column; source = placed_operand columns assignment.source }

-- ---- missing names

-- No column has the name.
abbrev pub lacks_column : List Column → List ℕ → Bool
lacks_column columns name = is_none (column_place name columns)

-- An operand, an atom or an assignment names a column that does not exist.
abbrev pub operand_lacks_column : List Column → Operand (List ℕ) → Bool
operand_lacks_column columns (operand.Literal value) = false
operand_lacks_column columns (operand.Column name) = lacks_column columns name
operand_lacks_column columns (operand.Shifted name by) = lacks_column columns name

abbrev pub atom_lacks_column : List Column → Atom (List ℕ) → Bool
atom_lacks_column columns atom = lacks_column columns atom.left || operand_lacks_column columns atom.right

abbrev pub assignment_lacks_column : List Column → Assignment (List ℕ) → Bool
assignment_lacks_column columns assignment = lacks_column columns assignment.column || operand_lacks_column columns assignment.source

-- ---- types

-- The type of the column with a name, if it exists.
abbrev pub type_named : List Column → List ℕ → Option ColType
type_named columns name = option_map (λ column. column.col_type) (column_named name columns)

-- The type of an operand, if it is known.
abbrev pub operand_type : {F : Type 0} → (F → Option ColType) → Operand F → Option ColType
operand_type type_at (operand.Literal value) = Some (type_of value)
operand_type type_at (operand.Column name) = type_at name
operand_type type_at (operand.Shifted name by) = type_at name

-- Both types are known, and they differ.
abbrev pub differ : Option ColType → Option ColType → Bool
differ (Some a) (Some b) = not (same_type a b)
differ (Some a) None = false
differ None b = false

-- The operand adds a number to a text.
abbrev pub shifts_text : {F : Type 0} → (F → Option ColType) → Operand F → Bool
shifts_text type_at (operand.Literal value) = false
shifts_text type_at (operand.Column name) = false
shifts_text type_at (operand.Shifted name by) = option_map_or (same_type type.Text) (type_at name) false

-- A column and its operand differ in type, or a number is added to a text.
abbrev pub mismatches : {F : Type 0} → (F → Option ColType) → F → Operand F → Bool
mismatches type_at name operand = differ (type_at name) (operand_type type_at operand) || shifts_text type_at operand

-- ---- conditions

-- A column occurs twice in SET.
abbrev pub has_duplicate_targets : List (Assignment (List ℕ)) → Bool
has_duplicate_targets [] = false
has_duplicate_targets (a ∷ others) = list_any (λ (b : Assignment (List ℕ)). same_name a.column b.column) others || has_duplicate_targets others

-- The conditions that refuse an UPDATE by the columns of its table, in the order of refusals. It has at most 16 tests. A DELETE counts as
-- an UPDATE without assignments.
abbrev pub column_conditions : List Column → List (Assignment (List ℕ)) → List (Atom (List ℕ)) → List Condition
column_conditions columns assignments tests =
    record { holds = list_any (assignment_lacks_column columns) assignments || list_any (atom_lacks_column columns) tests; refusal = NoSuchColumn }
    ∷ record { holds = has_duplicate_targets assignments; refusal = NameTaken }
    ∷ record {
      holds = list_any (λ (a : Assignment (List ℕ)). mismatches (type_named columns) a.column a.source) assignments
          || list_any (λ (t : Atom (List ℕ)). mismatches (type_named columns) t.left t.right) tests;
      refusal = TypeMismatch;
    }
    ∷ record { holds = nat_lt 16 (length tests); refusal = TooMany }
    ∷ []
