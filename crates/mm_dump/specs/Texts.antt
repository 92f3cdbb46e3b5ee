-- The text of the rows and the standing queries of a dump.
use Rattle.std.specs.Prelude.{ℕ, List, ◌∷◌, ◌++◌, codes}
use Rattle.mm_value.specs.Written.{row_text}
use Rattle.mm_value.specs.declared.values.Value.{Value}
use Rattle.mm_query.specs.declared.query.Query.{Query}
use Rattle.mm_lang.specs.QueryText.{query_text, separated}

-- The texts of items, in order, with a comma and a space between two.
abbrev pub comma_separated : {X : Type 0} → (X → List ℕ) → List X → List ℕ
comma_separated text xs = separated (codes ", ") text xs

-- The INSERT of some rows: INSERT name (value, ..), ..
abbrev pub insert_text : List ℕ → List (List Value) → List ℕ
insert_text table rows = codes "INSERT " ++ (table ++ 32 ∷ comma_separated row_text rows)

-- The WATCH of a standing query: WATCH name SELECT query
abbrev pub watch_text : List ℕ → Query → List ℕ
watch_text name query = codes "WATCH " ++ (name ++ (codes " SELECT " ++ query_text query))
