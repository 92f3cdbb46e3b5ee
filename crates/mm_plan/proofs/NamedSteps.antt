-- The names of the steps of a query that nothing refuses are its plan.
use Rattle.std.proofs.Common.{◌≡◌, ℕ, Bool, false, length, map, Option, Some, None, sym, ap, ◌∙◌}
use Rattle.std.specs.Prelude.{slice_get}
use Rattle.std.specs.List.{AllByRecursion, list_any}
use Rattle.std.specs.Option.{option_map_or}
use Rattle.std.proofs.lemmas.Bool.{or_parts}
use Rattle.mm_plan.proofs.Fields.{IsField, fails_at, field_told}
use Rattle.mm_plan.proofs.NamedJoins.{steps_named}
use Rattle.mm_plan.specs.Choosing.{steps_of}
use Rattle.mm_plan.specs.Kept.{AreKept, HaveOneKey, instance_of}
use Rattle.mm_plan.specs.Naming.{named_steps, names_of}
use Rattle.mm_query.proofs.PlacedQueries.{none_hold}
use Rattle.mm_query.specs.Plans.{plan_of}
use Rattle.mm_query.specs.Resolving.{column_of, field_lacks_column, has_duplicate_aliases, lacks_alias, lacks_position, placed_query, places_in}
use Rattle.mm_query.specs.Resolving.{query_conditions, some_field, some_side}
use Rattle.mm_query.specs.declared.atom.Atom.{Atom}
use Rattle.mm_query.specs.Fields.{FieldName}
use Rattle.mm_query.specs.declared.query.FromItem.{FromItem}
use Rattle.mm_query.specs.declared.query.Query.{Query}
use Rattle.mm_schema.specs.Refused.{Condition, first_refusal}
use Rattle.mm_schema.specs.Schema.{Schema, lacks_table}
use Rattle.mm_store.specs.Tables.{Tables}

module _ (schema : Schema) (store : Tables) (query : Query) (kept : AreKept schema store) (keys : HaveOneKey schema.tables)
    (due : first_refusal (query_conditions query schema) ≡ None) where
  none : AllByRecursion (λ (c : Condition). c.holds ≡ false) (query_conditions query schema)
  none = none_hold (query_conditions query schema) due

  tables : list_any (λ (item : FromItem). lacks_table item.table schema) query.from ≡ false
  tables = none.0

  duplicates : has_duplicate_aliases query.from ≡ false
  duplicates = none.1.1.0

  module _ (test : FieldName → Bool) (passed : some_field test query ≡ false) (i : ℕ) (atom : Atom FieldName) (found : slice_get query.atoms i ≡ Some atom)
    where
      sides : (test atom.left ≡ false) × (option_map_or test (column_of atom.right) false ≡ false)
      sides = or_parts (test atom.left) (option_map_or test (column_of atom.right) false)
          (fails_at (some_side test) query.atoms i atom (or_parts (list_any test query.fields) (list_any (some_side test) query.atoms) passed).1 found)

      other : (field : FieldName) → column_of atom.right ≡ Some field → test field ≡ false
      other field is = sym (ap (λ (o : Option FieldName). option_map_or test o false) is) ∙ sides.1

  columns : some_field (field_lacks_column schema query.from) query ≡ false
  columns = (or_parts (some_field (field_lacks_column schema query.from) query) (list_any (lacks_position query.fields) query.order) none.1.0).0

  aliases : some_field (lacks_alias query.from) query ≡ false
  aliases = none.1.1.1.0

  lefts : (i : ℕ) (atom : Atom FieldName) → slice_get query.atoms i ≡ Some atom → IsField schema store.tables query.from atom.left
  lefts i atom found =
      field_told schema store.tables query.from kept.relations tables atom.left (sides (lacks_alias query.from) aliases i atom found).0
      (sides (field_lacks_column schema query.from) columns i atom found).0

  rights : (i : ℕ) (atom : Atom FieldName) (field : FieldName) → slice_get query.atoms i ≡ Some atom → column_of atom.right ≡ Some field
      → IsField schema store.tables query.from field
  rights i atom field found is =
      field_told schema store.tables query.from kept.relations tables field (other (lacks_alias query.from) aliases i atom found field is)
      (other (field_lacks_column schema query.from) columns i atom found field is)

  pub plan_named : named_steps (names_of schema query.from) (placed_query schema query).atoms
      (steps_of store (placed_query schema query).atoms (places_in schema query.from))
      ≡ plan_of schema (map length (instance_of store.tables)) query
  plan_named = steps_named schema store kept keys query tables duplicates lefts rights
