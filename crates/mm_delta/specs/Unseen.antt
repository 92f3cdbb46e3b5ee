-- The edits that a query reads: not those of rows that change only in other columns (the readily ignorable updates of Buneman and Clemons,
-- ACM TODS 1979).
use Rattle.std.specs.Prelude.{ℕ, ◌==◌, ◌&&◌, ◌||◌, Bool, true, not, if◌then◌else◌, List, Option, Some, None}
use Rattle.std.specs.List.{list_all}
use Rattle.std.specs.Option.{option_map_or}
use Rattle.mm_value.specs.Equality.{same_value}
use Rattle.mm_value.specs.declared.values.Value.{Value}
use Rattle.mm_query.specs.Atoms.{value_in}
use Rattle.mm_query.specs.Resolving.{column_of}
use Rattle.mm_query.specs.declared.atom.Atom.{Atom}
use Rattle.mm_query.specs.declared.bound_query.BoundQuery.{BoundQuery}
use Rattle.mm_query.specs.declared.bound_query.FieldPlace.{FieldPlace}
use Rattle.mm_row_order.specs.Refs.{Slots, row_at}
use Rattle.mm_tables.specs.declared.edit.Edit.{Edit}
use Rattle.mm_tables.specs.declared.edit.Edit.TheVariants.{Delete, Insert, Move, Stage, Update}

-- Two rows have the same value in the column of a field, if it is a field of this place of FROM.
abbrev pub agree_in : ℕ → List Value → List Value → FieldPlace → Bool
agree_in place a b field = not (field.place == place) || same_value (value_in field.column a) (value_in field.column b)

-- Two rows have the same values in the columns of this place that an atom compares.
abbrev pub agree_for : ℕ → List Value → List Value → Atom FieldPlace → Bool
agree_for place a b atom = agree_in place a b atom.left && option_map_or (agree_in place a b) (column_of atom.right) true

-- Two rows at a place of FROM are equal for a query: they have the same values in all columns that it reads there.
abbrev pub looks_alike : BoundQuery → ℕ → List Value → List Value → Bool
looks_alike query place a b = list_all (agree_for place a b) query.atoms && list_all (agree_in place a b) query.fields

-- The first row at a place of FROM, unless the two rows are equal for the query.
abbrev pub unless_alike : BoundQuery → ℕ → List Value → List Value → List Value → Option (List Value)
unless_alike query place a b row = if looks_alike query place a b then None else Some row

-- The old row of an edit, unless its new row is equal for the query.
abbrev pub gone_seen : BoundQuery → ℕ → Slots → Edit → Option (List Value)
gone_seen query place now (Stage at) = None
gone_seen query place now (Insert at) = None
gone_seen query place now (Update at other) = unless_alike query place (row_at now at) (row_at now other) (row_at now at)
gone_seen query place now (Move at other) = unless_alike query place (row_at now at) (row_at now other) (row_at now at)
gone_seen query place now (Delete at) = Some (row_at now at)

-- The new row of an edit, unless its old row is equal for the query.
abbrev pub come_seen : BoundQuery → ℕ → Slots → Edit → Option (List Value)
come_seen query place now (Stage at) = None
come_seen query place now (Insert at) = Some (row_at now at)
come_seen query place now (Update at other) = unless_alike query place (row_at now at) (row_at now other) (row_at now other)
come_seen query place now (Move at other) = unless_alike query place (row_at now at) (row_at now other) (row_at now other)
come_seen query place now (Delete at) = None
