-- The combinations of rows that a selection or a join must find.
use Rattle.std.specs.Prelude.{List, Some, filter, map}
use Rattle.std.specs.List.Sorted.{IsPermutation}
use Rattle.mm_query.specs.Queries.{combinations, none_fails}
use Rattle.mm_query.specs.declared.atom.Atom.{Atom}
use Rattle.mm_query.specs.declared.bound_query.FieldPlace.{FieldPlace}
use Rattle.mm_store.specs.Tables.{Tables, rows_at}
use Rattle.mm_templist.specs.Combos.{Combos, combo_rows}
use Rattle.mm_value.specs.declared.values.Value.{Value}

-- The combinations of rows of these lists for which no atom is false.
abbrev pub fitting : List (Atom FieldPlace) → List (List (List Value)) → List (List (List Value))
fitting atoms lists = filter (λ c. none_fails atoms (map Some c)) (combinations lists)

-- The list has exactly the fitting combinations of its tables, each once, as references.
abbrev pub AreFitting : Tables → List (Atom FieldPlace) → Combos → Type 0
AreFitting store atoms list = IsPermutation (combo_rows store list) (fitting atoms (map (rows_at store.tables) list.tables))
