-- The number of rows that may be read for an edited row.
use Rattle.std.specs.Prelude.{ℕ, ◌+◌, ◌==◌, ◌&&◌, pos, ◌-ℤ◌, Bool, true, if◌then◌else◌, List, [], ◌∷◌, Option, Some, None, filter, length, set}
use Rattle.std.specs.List.{sum_by}
use Rattle.std.specs.Option.{option_map}
use Rattle.std.specs.Ordering.{is_eq}
use Rattle.mm_value.specs.Order.{value_cmp}
use Rattle.mm_value.specs.declared.values.Value.{Value}
use Rattle.mm_query.specs.Atoms.{operand_of, shifted, value_in}
use Rattle.mm_query.specs.Choosing.{first_given, first_there}
use Rattle.mm_query.specs.Queries.{Partial, none_fails, value_at}
use Rattle.mm_query.specs.declared.atom.Atom.{Atom}
use Rattle.mm_query.specs.declared.atom.Comparison.{Comparison}
use Rattle.mm_query.specs.declared.atom.Comparison.TheVariants.{Equal}
use Rattle.mm_query.specs.declared.atom.Operand.{Operand}
use Rattle.mm_query.specs.declared.atom.Operand.TheVariants.{Literal, Column, Shifted}
use Rattle.mm_query.specs.declared.bound_query.FieldPlace.{FieldPlace}

-- A column, counted from 0, and the value that a row must have there.
abbrev pub Required : Type 0
Required = ℕ × Value

-- The row has the required value; a row without that column reads as 0.
abbrev pub has_required : Required → List Value → Bool
has_required required row = is_eq (value_cmp (value_in required.0 row) required.1)

-- The row has the required value, if one is required.
abbrev pub passes : Option Required → List Value → Bool
passes None row = true
passes (Some required) row = has_required required row

-- The rows that have the required value, or all if none is required.
abbrev pub having : Option Required → List (List Value) → List (List Value)
having required rows = filter (passes required) rows

-- The value is required of the column of a field, if the field is of a place and that column has an index.
abbrev pub asked_of : (ℕ → Bool) → ℕ → FieldPlace → Option Value → Option Required
asked_of indexed place field value =
    if (field.place == place) && indexed field.column then option_map (λ v. (field.column, v)) value else None

-- The value that an equality requires of the column on its right side, if the value on its left side is known.
abbrev pub asked_of_right : (ℕ → Bool) → ℕ → Option Value → Operand FieldPlace → Option Required
asked_of_right indexed place left (Literal value) = None
asked_of_right indexed place left (Column field) = asked_of indexed place field left
asked_of_right indexed place left (Shifted field by) =
    asked_of indexed place field (option_map (shifted (pos 0 -ℤ by)) left)

-- The value that an atom with a comparison requires of a row at a place, on its left side or else on its right side: only an equality
-- requires one.
abbrev pub asked_by : (ℕ → Bool) → ℕ → Partial → Atom FieldPlace → Comparison → Option Required
asked_by indexed place rows atom Equal =
    first_there (asked_of indexed place atom.left (operand_of (value_at rows) atom.right)
    ∷ asked_of_right indexed place (value_at rows atom.left) atom.right ∷ [])
asked_by indexed place rows atom _ = None

-- The value that the first such atom requires of a row at a place: an equality between an indexed column and a literal or a column of a
-- chosen row, shifted or not. A number that a shift takes past 64 bits is required like any other; no row has it.
abbrev pub required : (ℕ → Bool) → List (Atom FieldPlace) → Partial → ℕ → Option Required
required indexed atoms rows place = first_given (λ (atom : Atom FieldPlace). asked_by indexed place rows atom atom.comparison) atoms

-- The number of rows that may be read for some rows, while places are still empty: at the first of these the rows before the change that
-- have the required value, and then, for each row that may be chosen there, the number for the rows with this one. None if an atom is
-- already false.
abbrev pub candidates : (ℕ → ℕ → Bool) → List (Atom FieldPlace) → (ℕ → List (List Value)) → (ℕ → List (List Value)) → List ℕ → Partial → ℕ
candidates indexed atoms before rows [] m = 0
candidates indexed atoms before rows (j ∷ js) m =
    if none_fails atoms m
    then length (having (required (indexed j) atoms m j) (before j)) + sum_by (λ x. candidates indexed atoms before rows js (set m j (Some x))) (rows j)
    else 0
