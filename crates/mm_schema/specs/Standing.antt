-- The standing queries of the catalog, and the conditions on creating and dropping one.
use Rattle.std.specs.Prelude.{◌≡◌, ℕ, Bool, false, not, All, List, [], ◌∷◌, ◌++◌, Option, filter, find, is_none, is_some, length, map, nat_le, position}
use Rattle.std.specs.List.{IsDistinct, list_any}
use Rattle.mm_schema.specs.Name.{same_name}
use Rattle.mm_schema.specs.Refused.{Condition}
use Rattle.mm_schema.specs.Schema.{Schema, lacks_table}
use Rattle.mm_schema.specs.declared.standing.StandingDef.{StandingDef}
use Rattle.mm_value.specs.declared.refusal.Refusal.TheVariants.{NameTaken, NoSuchStandingQuery, TooMany}

-- The standing query with a name.
abbrev pub standing_named : List ℕ → Schema → Option StandingDef
standing_named name schema = find (λ query. same_name name query.name) schema.standing

-- The position of the standing query with a name in the order of creation.
abbrev pub standing_place : List ℕ → Schema → Option ℕ
standing_place name schema = position (λ query. same_name name query.name) schema.standing

-- No standing query has the name.
abbrev pub lacks_standing : List ℕ → Schema → Bool
lacks_standing name schema = is_none (standing_named name schema)

-- No two standing queries have the same name.
abbrev pub HasDistinctStanding : Schema → Type 0
HasDistinctStanding schema = IsDistinct same_name (map (λ query. query.name) schema.standing)

-- One of the tables does not exist.
abbrev pub lacks_some_table : List (List ℕ) → Schema → Bool
lacks_some_table tables schema = list_any (λ table. lacks_table table schema) tables

-- Each standing query reads only existing tables.
abbrev pub ReadsTables : Schema → Type 0
ReadsTables schema = All (λ query. lacks_some_table query.tables schema ≡ false) schema.standing

-- The conditions that refuse a new standing query by its name, in the order of refusals. There are at most 32.
abbrev pub standing_conditions : List ℕ → Schema → List Condition
standing_conditions name schema =
    record { holds = is_some (standing_named name schema); refusal = NameTaken }
    ∷ record { holds = nat_le 32 (length schema.standing); refusal = TooMany }
    ∷ []

-- The catalog with a new standing query appended.
abbrev pub with_standing : StandingDef → Schema → Schema
with_standing query schema = record schema { standing = schema.standing ++ query ∷ [] }

-- The conditions that refuse dropping a standing query.
abbrev pub drop_standing_conditions : List ℕ → Schema → List Condition
drop_standing_conditions name schema = record { holds = lacks_standing name schema; refusal = NoSuchStandingQuery } ∷ []

-- The catalog without the standing query with a name; the others keep their order.
abbrev pub without_standing : List ℕ → Schema → Schema
without_standing name schema = record schema { standing = filter (λ query. not (same_name name query.name)) schema.standing }
