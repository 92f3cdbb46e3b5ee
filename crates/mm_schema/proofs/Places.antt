-- Tables by their positions in the order of creation.
use Rattle.std.proofs.Common.{◌≡◌, ℕ, ◌<◌, ◌≤◌, ◌||◌, Bool, true, false, cond, ltb, List, [], ◌∷◌, Option, Some, None, is_some, length, find, position}
use Rattle.std.proofs.Common.{slice_get, refl, sym, ap, ◌∙◌, arith}
use Rattle.std.specs.List.{position_or_len}
use Rattle.std.proofs.lemmas.Bool.Decides.{nat_tests}
use Rattle.std.proofs.lemmas.List.Folds.{find_at}
use Rattle.std.proofs.lemmas.Option.{slice_get_past}
use Rattle.mm_schema.specs.Refused.{first_refusal}
use Rattle.mm_schema.specs.Schema.{Schema, table_conditions, table_named, table_place}
use Rattle.mm_schema.specs.declared.table.Table.{Table}
use Rattle.mm_schema.specs.declared.table.TableDef.{TableDef}
use Rattle.mm_value.specs.declared.refusal.Refusal.TheVariants.{NameTaken, NoSuchTable, TooMany, TypeMismatch}

below : (at len i : ℕ) → cond (ltb at len) (Some at) None ≡ Some i → (i < len) × (i ≡ at)
below at len i h = (grind (arith, nat_tests), grind (arith, nat_tests))

past : (at len : ℕ) → cond (ltb at len) (Some at) None ≡ None → len ≤ at
past at len h = grind (arith, nat_tests)

module _ {X : Type 0} (p : X → Bool) (xs : List X) where
  -- A position that is found is that of the first element that passes, ..
  pub place_from_some : (i : ℕ) → position p xs ≡ Some i → i ≡ position_or_len p xs
  place_from_some i h = (below _ _ i h).1

  -- .. and is within the list.
  pub within_from_some : (i : ℕ) → position p xs ≡ Some i → i < length xs
  within_from_some i h = (below _ _ i h).0

  -- If no position is found, the first that passes is past the end.
  pub past_from_none : position p xs ≡ None → length xs ≤ position_or_len p xs
  past_from_none h = past _ _ h

  -- The element that is found is at the position that is found.
  pub find_at_place : (i : ℕ) → position p xs ≡ Some i → find p xs ≡ slice_get xs i
  find_at_place i h = find_at p xs ∙ ap (slice_get xs) (sym (place_from_some i h))

  -- Without a position nothing is found.
  pub find_nowhere : position p xs ≡ None → find p xs ≡ None
  find_nowhere h = find_at p xs ∙ slice_get_past xs _ (past_from_none h)

-- The table with a name is the one at the name's position.
pub table_at_place : (name : List ℕ) (schema : Schema) (place : ℕ) → table_place name schema ≡ Some place
    → table_named name schema ≡ slice_get schema.tables place
table_at_place name schema place h = find_at_place _ schema.tables place h

-- The position of a name is within the catalog.
pub place_within : (name : List ℕ) (schema : Schema) (place : ℕ) → table_place name schema ≡ Some place → place < length schema.tables
place_within name schema place h = within_from_some _ schema.tables place h

-- A name without a position has no table.
pub no_table : (name : List ℕ) (schema : Schema) → table_place name schema ≡ None → table_named name schema ≡ None
no_table name schema h = find_nowhere _ schema.tables h

free : (lacks : Bool) (named : Option Table) (duplicates mismatch limits : Bool)
    → first_refusal (record { holds = lacks; refusal = NoSuchTable } ∷ record { holds = is_some named || duplicates; refusal = NameTaken }
    ∷ record { holds = mismatch; refusal = TypeMismatch } ∷ record { holds = limits; refusal = TooMany } ∷ []) ≡ None
    → named ≡ None
free true named duplicates mismatch limits h = cc
free false None duplicates mismatch limits h = refl
free false (Some table) duplicates mismatch limits h = cc

-- A table that nothing refuses has a new name.
pub new_name_is_free : (definition : TableDef) (schema : Schema) → first_refusal (table_conditions definition schema) ≡ None
    → table_named definition.name schema ≡ None
new_name_is_free definition schema due = free _ (table_named definition.name schema) _ _ _ due
