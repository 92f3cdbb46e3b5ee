-- A bound query: its refusals, and its positions.
use Rattle.std.proofs.Common.{◌≡◌, ℕ, ◌<◌, Bool, true, false, ◌||◌, List, [], ◌∷◌, Option, Some, None, is_none, length, refl, sym, ap, ◌∙◌}
use Rattle.std.specs.List.{All, list_any}
use Rattle.std.specs.Option.{unwrap_or}
use Rattle.std.proofs.lemmas.Bool.{false≢true, or_parts}
use Rattle.std.proofs.lemmas.List.Elements.{All-cons, All-nil}
use Rattle.mm_schema.proofs.Places.{no_table, place_within}
use Rattle.mm_schema.specs.Refused.{first_refusal}
use Rattle.mm_schema.specs.Schema.{Schema, lacks_table, table_place}
use Rattle.mm_value.specs.declared.refusal.Refusal.TheVariants.{AliasTaken, NoSuchTable}
use Rattle.mm_query.specs.Faults.{fault_conditions, noted}
use Rattle.mm_query.specs.Placing.{mismatches}
use Rattle.mm_query.specs.Resolving.{field_lacks_column, field_type, has_duplicate_aliases, lacks_alias, lacks_position, exceeds_query_limits, places_in}
use Rattle.mm_query.specs.Resolving.{query_conditions, some_side}
use Rattle.mm_query.specs.declared.atom.Atom.{Atom}
use Rattle.mm_query.specs.declared.faults.Faults.{Faults}
use Rattle.mm_query.specs.Fields.{FieldName}
use Rattle.mm_query.specs.declared.query.FromItem.{FromItem}
use Rattle.mm_query.specs.declared.query.Query.{Query}

abbrev are_missing : Schema → List FromItem → Bool
are_missing schema from = list_any (λ (item : FromItem). lacks_table item.table schema) from

turned : (p f a : Bool) → ((p || f) || a) ≡ ((f || a) || p)
turned true true a = refl
turned true false true = refl
turned true false false = refl
turned false true a = refl
turned false false true = refl
turned false false false = refl

-- If all tables exist, the errors of a query's form, fields and atoms refuse it.
module _ (schema : Schema) (query : Query) (catalog : Schema) (catalog_is : catalog ≡ schema) (from : List FromItem) (from_is : from ≡ query.from)
    (fields : List FieldName) (fields_are : fields ≡ query.fields) where
  abbrev with_fields : Faults → Faults
  with_fields form = noted (list_any (field_lacks_column catalog from) fields) (list_any (lacks_alias from) fields) false form

  abbrev with_atoms : Faults → Faults
  with_atoms faults = noted (list_any (some_side (field_lacks_column catalog from)) query.atoms) (list_any (some_side (lacks_alias from)) query.atoms)
      (list_any (λ (a : Atom FieldName). mismatches (field_type catalog from) a.left a.right) query.atoms) faults

  pub due_by_faults : are_missing catalog from ≡ false → (form first all : Faults)
      → form ≡ record {
        column = list_any (lacks_position query.fields) query.order;
        duplicate = has_duplicate_aliases query.from;
        alias = false;
        mismatch = false;
        too_many = exceeds_query_limits query;
      }
      → first ≡ with_fields form → all ≡ with_atoms first → first_refusal (query_conditions query schema) ≡ first_refusal (fault_conditions AliasTaken all)
  due_by_faults there form first all form_is first_is all_is =
      let whole = all_is ∙ ap with_atoms (first_is ∙ ap with_fields form_is) in
      sym ((λ i. first_refusal (record { holds = sym there i; refusal = NoSuchTable } ∷ fault_conditions AliasTaken (whole i)))
      ∙ λ i. first_refusal (record { holds = are_missing (catalog_is i) (from_is i); refusal = NoSuchTable }
      ∷ fault_conditions AliasTaken (record {
        column = (turned (list_any (lacks_position query.fields) query.order) (list_any (field_lacks_column catalog from) fields)
            (list_any (some_side (field_lacks_column catalog from)) query.atoms)
            ∙ λ j. (list_any (field_lacks_column (catalog_is j) (from_is j)) (fields_are j)
            || list_any (some_side (field_lacks_column (catalog_is j) (from_is j))) query.atoms)
            || list_any (lacks_position query.fields) query.order) i;
        duplicate = has_duplicate_aliases query.from;
        alias = list_any (lacks_alias (from_is i)) (fields_are i) || list_any (some_side (lacks_alias (from_is i))) query.atoms;
        mismatch = list_any (λ (a : Atom FieldName). mismatches (field_type (catalog_is i) (from_is i)) a.left a.right) query.atoms;
        too_many = exceeds_query_limits query;
      })))

-- The positions of tables that exist are within the catalog.
pub places_within : (schema : Schema) (from : List FromItem) → are_missing schema from ≡ false
    → All (λ place. place < length schema.tables) (places_in schema from)
places_within schema [] there = All-nil _
places_within schema (item ∷ items) there =
    let parts = or_parts (lacks_table item.table schema) (are_missing schema items) there in
    All-cons (λ place. place < length schema.tables) _ _ (one (table_place item.table schema) refl parts.0) (places_within schema items parts.1)
  where
    one : (o : Option ℕ) → table_place item.table schema ≡ o → lacks_table item.table schema ≡ false → unwrap_or o 0 < length schema.tables
    one None nowhere here = absurd (false≢true (sym here ∙ ap is_none (no_table item.table schema nowhere)))
    one (Some place) at here = place_within item.table schema place at
