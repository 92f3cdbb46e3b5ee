-- Fields as written.
use Rattle.std.specs.Prelude.{ℕ, List}
use Rattle.mm_query.specs.declared.query.FieldName.{FieldName as Field}

-- A column of a table of FROM: an alias and the name of the column.
abbrev pub FieldName : Type 0
FieldName = Field (List ℕ)
