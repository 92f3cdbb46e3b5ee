-- References whose rows fit after given rows.
use Rattle.std.specs.Prelude.{◌≡◌, ℕ, List, [], ◌∷◌, ◌++◌, Some, filter, map}
use Rattle.std.specs.List.Sorted.{IsPermutation}
use Rattle.mm_query.specs.Queries.{Partial, none_fails}
use Rattle.mm_query.specs.declared.atom.Atom.{Atom}
use Rattle.mm_query.specs.declared.bound_query.FieldPlace.{FieldPlace}
use Rattle.mm_store.specs.Tables.{Tables, rows_at}
use Rattle.mm_templist.specs.Combos.{row_of}
use Rattle.mm_value.specs.declared.row_ref.RowRef.{RowRef}

-- The candidates for which no atom is false after the given rows.
abbrev pub matching : Tables → ℕ → List (Atom FieldPlace) → Partial → List RowRef → List RowRef
matching store table atoms rows candidates = filter (λ at. none_fails atoms (rows ++ Some (row_of store table at) ∷ [])) candidates

-- Each of these candidates, after the given references.
abbrev pub matches : Tables → ℕ → List (Atom FieldPlace) → Partial → List RowRef → List RowRef → List (List RowRef)
matches store table atoms rows front candidates = map (λ at. front ++ at ∷ []) (matching store table atoms rows candidates)

-- The candidates that match are, in some order, the references of all rows of the table that match.
abbrev pub Covers : Tables → ℕ → List (Atom FieldPlace) → Partial → List RowRef → Type 0
Covers store table atoms rows candidates = (refs : List RowRef) × (map (row_of store table) refs ≡ rows_at store.tables table)
    × IsPermutation (matching store table atoms rows candidates) (matching store table atoms rows refs)
