-- The enumeration of the combinations that have an edited row at one place, place by place.
use Rattle.std.specs.Prelude.{◌≡◌, ◌≢◌, ℕ, ◌==◌, ◌<◌, not, if◌then◌else◌, List, [], ◌∷◌, Some, None, filter, get_or, length, map, nat_lt, set, ⊤}
use Rattle.std.specs.List.{AllByRecursion, flat_map, range_with_len}
use Rattle.mm_value.specs.declared.values.Value.{Value}
use Rattle.mm_query.specs.Queries.{Partial, none_fails, values_of}
use Rattle.mm_query.specs.declared.bound_query.BoundQuery.{BoundQuery}

-- Each combination that completes some rows by one row at each of the places.
abbrev pub completions : (ℕ → List (List Value)) → List ℕ → Partial → List Partial
completions rows [] m = m ∷ []
completions rows (j ∷ js) m = flat_map (λ x. completions rows js (set m j (Some x))) (rows j)

-- The places are distinct, and have no row yet.
abbrev pub AreOpen : List ℕ → Partial → Type 0
AreOpen [] m = ⊤
AreOpen (j ∷ js) m = (j < length m) × (get_or m j None ≡ None) × AllByRecursion (λ i. i ≢ j) js × AreOpen js m

-- The projected rows of the matching combinations that complete some rows by one row at each of the places.
abbrev pub found : BoundQuery → (ℕ → List (List Value)) → List ℕ → Partial → List (List Value)
found query rows [] m = if none_fails query.atoms m then values_of query.fields m ∷ [] else []
found query rows (j ∷ js) m =
    if none_fails query.atoms m then flat_map (λ x. found query rows js (set m j (Some x))) (rows j) else []

-- The rows at a place of FROM while place k has an edited row: those after the change at the places before k, and those before it at the
-- places after k.
abbrev pub rows_around : List ℕ → ℕ → (ℕ → List (List Value)) → (ℕ → List (List Value)) → ℕ → List (List Value)
rows_around from k after before j = if nat_lt j k then after (get_or from j 0) else before (get_or from j 0)

-- All places of n but k.
abbrev pub other_places : ℕ → ℕ → List ℕ
other_places n k = filter (λ j. not (j == k)) (range_with_len 0 n)

-- A row at place k of n, and none at the others.
abbrev pub one_row : ℕ → ℕ → List Value → Partial
one_row n k row = map (λ j. if j == k then Some row else None) (range_with_len 0 n)
