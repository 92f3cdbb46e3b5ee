-- Atoms on the first table alone.
use Rattle.std.specs.Prelude.{◌==◌, ◌&&◌, Bool, true}
use Rattle.mm_query.specs.declared.atom.Atom.{Atom}
use Rattle.mm_query.specs.declared.atom.Operand.{Operand}
use Rattle.mm_query.specs.declared.atom.Operand.TheVariants.{Literal, Column, Shifted}
use Rattle.mm_query.specs.declared.bound_query.FieldPlace.{FieldPlace}

-- The operand reads only columns of the first table.
abbrev pub reads_first : Operand FieldPlace → Bool
reads_first (Literal value) = true
reads_first (Column field) = field.place == 0
reads_first (Shifted field by) = field.place == 0

-- The atom compares a column of the first table with a literal or with another column of that table.
abbrev pub asks_of_first : Atom FieldPlace → Bool
asks_of_first atom = (atom.left.place == 0) && reads_first atom.right
