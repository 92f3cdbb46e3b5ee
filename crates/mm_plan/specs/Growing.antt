-- The maximum number of combinations of a query's first tables.
use Rattle.std.specs.Prelude.{◌≡◌, ◌⊎◌, ℕ, ◌<◌, ◌&&◌, Bool, true, List, [], All, drop, length, nat_lt}
use Rattle.std.specs.List.{list_all}
use Rattle.std.specs.Option.{option_map_or}
use Rattle.mm_query.specs.Resolving.{column_of}
use Rattle.mm_query.specs.declared.atom.Atom.{Atom}
use Rattle.mm_query.specs.declared.bound_query.FieldPlace.{FieldPlace}
use Rattle.mm_store.specs.Tables.{Tables, rows_at}
use Rattle.mm_schema.specs.Rows.{most_rows}

-- The atom names only fields of the first tables, this many.
abbrev pub names_first : ℕ → Atom FieldPlace → Bool
names_first tables atom =
    nat_lt atom.left.place tables && option_map_or (λ (field : FieldPlace). nat_lt field.place tables) (column_of atom.right) true

-- Each of these tables has a row.
abbrev pub HaveRows : Tables → List ℕ → Type 0
HaveRows store tables = All (λ table. 0 < length (rows_at store.tables table)) tables

-- Each fitting combination of the first tables is part of one that fits the query. This holds if no table is left, or if each table that is
-- left has a row and no atom names it.
abbrev pub NoneLost : Tables → List (Atom FieldPlace) → ℕ → List ℕ → Type 0
NoneLost store atoms tables later = (later ≡ []) ⊎ ((list_all (names_first tables) atoms ≡ true) × HaveRows store later)

-- The maximum number of combinations of the first tables: the limit of a result if each is part of a combination in it, and otherwise
-- unlimited.
abbrev pub IsCap : Tables → List (Atom FieldPlace) → List ℕ → ℕ → ℕ → Type 0
IsCap store atoms tables first cap =
    ((cap ≡ most_rows) × NoneLost store atoms first (drop first tables))
    ⊎ ((cap ≡ 18446744073709551615) × (NoneLost store atoms first (drop first tables) → ⊥))
