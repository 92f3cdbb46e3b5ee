-- The rows that the evaluation by the cross product finds, one table after another.
use Rattle.std.specs.Prelude.{if◌then◌else◌, List, [], ◌∷◌, ◌++◌, Some}
use Rattle.std.specs.List.{flat_map}
use Rattle.mm_value.specs.declared.values.Value.{Value}
use Rattle.mm_query.specs.Queries.{Partial, none_fails, values_of}
use Rattle.mm_query.specs.declared.bound_query.BoundQuery.{BoundQuery}

-- The projected rows of the matching combinations of the given rows and one row of each further list.
abbrev pub found_behind : BoundQuery → Partial → List (List (List Value)) → List (List Value)
found_behind query rows [] = if none_fails query.atoms rows then values_of query.fields rows ∷ [] else []
found_behind query rows (next ∷ lists) = flat_map (λ row. found_behind query (rows ++ Some row ∷ []) lists) next
