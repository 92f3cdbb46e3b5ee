-- Additions of a number to a column's value in a query.
use Rattle.std.specs.Prelude.{◌≡◌, ℕ, Bool, true, false, List, Option, Some, None}
use Rattle.std.specs.List.{All}
use Rattle.mm_value.specs.declared.values.Value.{Value}
use Rattle.mm_value.specs.declared.values.Value.TheVariants.{Int, Text}
use Rattle.mm_query.specs.Atoms.{value_in}
use Rattle.mm_query.specs.declared.atom.Atom.{Atom}
use Rattle.mm_query.specs.declared.atom.Operand.{Operand}
use Rattle.mm_query.specs.declared.atom.Operand.TheVariants.{Literal, Column, Shifted}
use Rattle.mm_query.specs.declared.bound_query.BoundQuery.{BoundQuery}
use Rattle.mm_query.specs.declared.bound_query.FieldPlace.{FieldPlace}

-- The value exists and is a text.
abbrev pub is_text : Option Value → Bool
is_text (Some (Text text)) = true
is_text (Some (Int number)) = false
is_text None = false

-- The operand adds a number to no text in the rows of each table of FROM.
abbrev pub AddsToNumber : (ℕ → List (List Value)) → Operand FieldPlace → Type 0
AddsToNumber rows (Literal value) = Unit {0}
AddsToNumber rows (Column field) = Unit {0}
AddsToNumber rows (Shifted field by) = All (λ (row : List Value). is_text (Some (value_in field.column row)) ≡ false) (rows field.place)

-- No atom of the query adds a number to a text in the rows of each table of FROM.
abbrev pub AddsToNumbers : BoundQuery → (ℕ → List (List Value)) → Type 0
AddsToNumbers query rows = All (λ (atom : Atom FieldPlace). AddsToNumber rows atom.right) query.atoms
