-- The database's calls as steps of the machine, by the catalog and the rows of its tables.
use Rattle.std.proofs.Common.{◌≡◌, ℕ, ◌<◌, ◌^◌, Bool, true, false, List, [], ◌∷◌, ◌++◌, Some, None, zero, suc, length, slice_get, refl, sym, ap, subst, ◌∙◌}
use Rattle.std.proofs.Common.{arith}
use Rattle.std.specs.Prelude.{nat_le, nat_lt}
use Rattle.std.specs.List.{position_or_len, remove}
use Rattle.std.proofs.lemmas.Bool.{or_parts}
use Rattle.std.proofs.lemmas.Bool.Decides.{nat_tests}
use Rattle.mm_indexed.specs.Kept.{StoredRows}
use Rattle.mm_indexed.specs.RowLists.{rows_of}
use Rattle.mm_schema.specs.Columns.{key_place}
use Rattle.mm_schema.specs.Name.{same_name}
use Rattle.mm_schema.specs.Refused.{first_refusal}
use Rattle.mm_schema.specs.Schema.{HasDistinctNames, Schema, exceeds_table_limits, key_named, table_conditions, table_place, with_table, without_table}
use Rattle.mm_schema.specs.declared.table.TableDef.{TableDef}
use Rattle.mm_schema.proofs.Places.{place_from_some, place_within}
use Rattle.mm_value.specs.declared.refusal.Refusal.TheVariants.{NameTaken, NoSuchTable, TooMany, TypeMismatch}
use Rattle.mm_query.specs.Machine.{after_definition}
use Rattle.mm_query.specs.State.{rows_in}
use Rattle.mm_query.specs.declared.command.Definition.TheVariants as define
use Rattle.mm_query.proofs.Due.{key_at_place}
use Rattle.mm_plan.specs.Kept.{AreIndexes, AreOf, instance_of}
use Rattle.mm_txn.specs.Kept.{state_of}
use Rattle.mm_txn.proofs.RowsBeside.{AreOf-push, as_many_rows, beside, dropped_at_place, rows_at_place, types_of}

module _ (schema : Schema) (rs : List StoredRows) (are : AreOf schema.tables rs) where
  -- The rows of a new table are those of its relation.
  pub rows_added : (definition : TableDef) (stored : StoredRows) → stored.key ≡ key_place definition.columns
      → stored.places.types ≡ types_of definition.columns → stored.indexes ≡ [] → AreOf (with_table definition schema).tables (rs ++ stored ∷ [])
  rows_added definition stored key types none =
      AreOf-push schema.tables rs (record { definition = definition; indexes = [] }) stored
      (record { key = key; types = types; indexes = subst (AreIndexes definition.columns []) (sym none) tt }) are

  module _ (name : List ℕ) (place : ℕ) (placed : table_place name schema ≡ Some place) where
    -- There are rows at the place of a name.
    pub rows_there : place < length rs
    rows_there = omega (arith, as_many_rows schema.tables rs are, place_within name schema place placed)

    pub place_found : place ≡ position_or_len (λ t. same_name name t.definition.name) schema.tables
    place_found = place_from_some _ schema.tables place placed

    -- These rows are those that the state has for the name.
    pub rows_of_name : (stored : StoredRows) → slice_get rs place ≡ Some stored → rows_in (state_of schema rs) name ≡ rows_of stored
    rows_of_name stored there = rows_at_place name schema.tables rs stored are (subst (λ p. slice_get rs p ≡ Some stored) place_found there)

    module _ (stored : StoredRows) (there : slice_get rs place ≡ Some stored) where
      -- The key and the columns of the relation at the place are those of the name.
      pub key_is : key_named name schema ≡ stored.key
      key_is =
          let at = beside schema.tables rs place stored are there in
          key_at_place name schema place at.table placed at.there ∙ sym at.is_of.key

  -- Dropping a table drops its relation, and no other.
  pub table_dropped : (name : List ℕ) (place : ℕ) → table_place name schema ≡ Some place → HasDistinctNames schema
      → (state_of (without_table name schema) (remove rs place) ≡ after_definition (define.DropTable name) (state_of schema rs))
      × AreOf (without_table name schema).tables (remove rs place)
  table_dropped name place placed distinct =
      let found : place ≡ position_or_len (λ t. same_name name t.definition.name) schema.tables = place_found name place placed in
      let both = dropped_at_place name schema.tables rs are distinct (subst (λ p. p < length rs) found (rows_there name place placed)) in (
        ap (λ rows. record { schema = without_table name schema; rows = rows; queries = []; saved = None })
            (ap (λ p. instance_of (remove rs p)) found ∙ sym both.0),
        subst (λ p. AreOf (without_table name schema).tables (remove rs p)) (sym found) both.1,
      )

-- A list has an element at each place below its length.
pub some_there : {X : Type 0} (xs : List X) (place : ℕ) → place < length xs → (x : X) × (slice_get xs place ≡ Some x)
some_there [] place within = absurd (omega arith)
some_there (x ∷ xs) zero within = (x, refl)
some_there (x ∷ xs) (suc place) within = some_there xs place (omega arith)

-- A table that nothing refuses is preceded by fewer than 64.
limits_kept : (lacks taken mismatches exceeds : Bool)
    → first_refusal (record { holds = lacks; refusal = NoSuchTable } ∷ record { holds = taken; refusal = NameTaken }
    ∷ record { holds = mismatches; refusal = TypeMismatch } ∷ record { holds = exceeds; refusal = TooMany } ∷ []) ≡ None
    → exceeds ≡ false
limits_kept true taken mismatches exceeds due = cc
limits_kept false true mismatches exceeds due = cc
limits_kept false false true exceeds due = cc
limits_kept false false false true due = cc
limits_kept false false false false due = refl

pub few_tables : (definition : TableDef) (schema : Schema) → first_refusal (table_conditions definition schema) ≡ None → length schema.tables < 2 ^ 16
few_tables definition schema due =
    let few : nat_le 64 (length schema.tables) ≡ false =
    (or_parts (nat_le 64 (length schema.tables)) (nat_lt 16 (length definition.columns)) (limits_kept _ _ _ (exceeds_table_limits definition schema) due)).0 in
    grind (arith, nat_tests)
