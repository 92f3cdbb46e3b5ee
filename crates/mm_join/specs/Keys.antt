-- The keys of join equalities.
use Rattle.std.specs.Prelude.{ℕ, pos, ℤ, ◌==◌, ◌&&◌, if◌then◌else◌, Option, Some, None, nat_lt}
use Rattle.mm_query.specs.Plans.{is_equality}
use Rattle.mm_query.specs.declared.atom.Atom.{Atom}
use Rattle.mm_query.specs.declared.atom.Operand.{Operand}
use Rattle.mm_query.specs.declared.atom.Operand.TheVariants.{Literal, Column, Shifted}
use Rattle.mm_query.specs.declared.bound_query.FieldPlace.{FieldPlace}
use Rattle.mm_join.specs.declared.key.JoinKey.{JoinKey}
use Rattle.mm_join.specs.declared.key.Shift.TheVariants as shift

-- The key of the equality `left = right + by` for the table at a position in FROM. There is one if one field belongs to that table and the
-- other to an earlier one.
abbrev pub key_between : ℕ → FieldPlace → FieldPlace → ℤ → Option JoinKey
key_between place left right by =
    if (left.place == place) && nat_lt right.place place then Some (record { column = left.column; field = right; shift = shift.Plus by })
    else if (right.place == place) && nat_lt left.place place then Some (record { column = right.column; field = left; shift = shift.Minus by })
    else None

-- The key of the equality of a field and an operand.
abbrev pub key_beside : ℕ → FieldPlace → Operand FieldPlace → Option JoinKey
key_beside place left (Literal value) = None
key_beside place left (Column right) = key_between place left right (pos 0)
key_beside place left (Shifted right by) = key_between place left right by

-- The key of an atom for the table at a position in FROM, if the atom is a join equality of that table. A join equality is `=` between a
-- column of the table and a column of an earlier table, in either order, with or without a shift.
abbrev pub key_of : ℕ → Atom FieldPlace → Option JoinKey
key_of place atom = if is_equality atom.comparison then key_beside place atom.left atom.right else None
