-- The meaning of a query (select, project and join of the relational algebra, on multisets). The combinations of rows of its tables are
-- those of which all atoms hold. Its result is the values of its fields in them.
use Rattle.std.specs.Prelude.{ℕ, pos, Bool, not, if◌then◌else◌, List, [], ◌∷◌, ◌++◌, Option, Some, None, filter, get_or, length, map, nat_lt}
use Rattle.std.specs.List.{flat_map, list_all}
use Rattle.std.specs.Option.{option_map, unwrap_or}
use Rattle.std.specs.Ordering.{is_eq}
use Rattle.std.specs.declared.cmp.Ordering.{Ordering}
use Rattle.mm_schema.specs.Refused.{Condition}
use Rattle.mm_schema.specs.Rows.{most_rows}
use Rattle.mm_schema.specs.Sorting.{in_order}
use Rattle.mm_value.specs.Order.{row_cmp}
use Rattle.mm_value.specs.declared.refusal.Refusal.TheVariants.{ResultTooLarge}
use Rattle.mm_value.specs.declared.values.Value.{Value}
use Rattle.mm_value.specs.declared.values.Value.TheVariants.{Int}
use Rattle.mm_query.specs.Atoms.{holds, value_in}
use Rattle.mm_query.specs.declared.atom.Atom.{Atom}
use Rattle.mm_query.specs.declared.bound_query.BoundQuery.{BoundQuery}
use Rattle.mm_query.specs.declared.bound_query.FieldPlace.{FieldPlace}
use Rattle.mm_query.specs.declared.query.FromItem.{FromItem}

-- A row for each position of FROM, or `None` if it is missing.
abbrev pub Partial : Type 0
Partial = List (Option (List Value))

-- The values of the rows that are not missing.
abbrev pub rows_read : {R : Type 0} → (R → List Value) → List (Option R) → Partial
rows_read row rows = map (option_map row) rows

-- The value of a field, or `None` if its row is missing.
abbrev pub value_at : Partial → FieldPlace → Option Value
value_at rows field = option_map (value_in field.column) (get_or rows field.place None)

-- None of the atoms is false of the rows.
abbrev pub none_fails : List (Atom FieldPlace) → Partial → Bool
none_fails atoms rows = list_all (holds (value_at rows)) atoms

-- The cross product: every choice of one element of each list.
abbrev pub combinations : {X : Type 0} → List (List X) → List (List X)
combinations [] = [] ∷ []
combinations (xs ∷ lists) = flat_map (λ x. map (λ others. x ∷ others) (combinations lists)) xs

-- All atoms of a query hold of a combination.
abbrev pub fits : BoundQuery → List (List Value) → Bool
fits query combination = none_fails query.atoms (map Some combination)

-- The values of fields, with 0 for each field whose row is missing.
abbrev pub values_of : List FieldPlace → Partial → List Value
values_of fields rows = map (λ field. unwrap_or (value_at rows field) (Int (pos 0))) fields

-- The row of the result for a combination.
abbrev pub projected : BoundQuery → List (List Value) → List Value
projected query combination = values_of query.fields (map Some combination)

-- The projected rows of the matching combinations, given the rows of each table of FROM.
abbrev pub bag_of : BoundQuery → List (List (List Value)) → List (List Value)
bag_of query lists = map (projected query) (filter (fits query) (combinations lists))

-- The projected rows of the matching combinations, given the rows of the table with each name.
abbrev pub bag : BoundQuery → (List ℕ → List (List Value)) → List (List Value)
bag query rows = bag_of query (map (λ (item : FromItem). rows item.table) query.from)

-- Two rows are equal.
abbrev pub same_row : List Value → List Value → Bool
same_row a b = is_eq (row_cmp a b)

-- The first occurrence of each row.
abbrev pub one_of_each : List (List Value) → List (List Value)
one_of_each [] = []
one_of_each (row ∷ rows) = row ∷ filter (λ other. not (same_row row other)) (one_of_each rows)

-- The rows of a query's result, without duplicates if it has DISTINCT.
abbrev pub eval : BoundQuery → (List ℕ → List (List Value)) → List (List Value)
eval query rows = if query.distinct then one_of_each (bag query rows) else bag query rows

-- The values of a row in some columns, followed by the whole row.
abbrev pub sort_key : List ℕ → List Value → List Value
sort_key columns row = map (λ column. value_in column row) columns ++ row

-- The order of rows by their values in some columns, then as whole rows.
abbrev pub rows_by_columns : List ℕ → List Value → List Value → Ordering
rows_by_columns columns a b = row_cmp (sort_key columns a) (sort_key columns b)

-- Rows as a query returns them: sorted by the columns of ORDER.
abbrev pub shown : BoundQuery → List (List Value) → List (List Value)
shown query rows = in_order (rows_by_columns query.order) rows

-- The conditions on the number of matching combinations, each of which is a row.
abbrev pub size_conditions : List (List Value) → List Condition
size_conditions rows = record { holds = nat_lt most_rows (length rows); refusal = ResultTooLarge } ∷ []
