-- The result of a join.
use Rattle.std.specs.Prelude.{◌≡◌, ℕ, ◌<◌, List, [], ◌∷◌, ◌++◌, Some, filter, length, map}
use Rattle.std.specs.List.{flat_map}
use Rattle.mm_query.specs.Queries.{none_fails}
use Rattle.mm_query.specs.declared.atom.Atom.{Atom}
use Rattle.mm_query.specs.declared.bound_query.FieldPlace.{FieldPlace}
use Rattle.mm_store.specs.Tables.{Tables}
use Rattle.mm_value.specs.declared.values.Value.{Value}

-- Each combination followed by each row of a table.
abbrev pub extended : List (List (List Value)) → List (List Value) → List (List (List Value))
extended outers next = flat_map (λ outer. map (λ row. outer ++ row ∷ []) next) outers

-- The combinations that a join returns: those for which no atom is false.
abbrev pub joined : List (Atom FieldPlace) → List (List (List Value)) → List (List Value) → List (List (List Value))
joined atoms outers next = filter (λ c. none_fails atoms (map Some c)) (extended outers next)

-- The tables are those of an outer list, followed by one more table of the store.
abbrev pub IsNext : Tables → List ℕ → List ℕ → ℕ → Type 0
IsNext store outers tables table = (tables ≡ outers ++ table ∷ []) × (table < length store.tables)
