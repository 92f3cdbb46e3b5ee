-- Tuples and the columns of their table.
use Rattle.std.proofs.Common.{◌≡◌, ℕ, ◌||◌, Bool, true, false, cond, not, List, [], ◌∷◌, Option, Some, None, zip, slice_get, refl, sym, ap, ◌∙◌}
use Rattle.std.specs.List.{list_any}
use Rattle.mm_schema.specs.Columns.{same_type}
use Rattle.mm_schema.specs.Refused.{first_refusal}
use Rattle.mm_schema.specs.Schema.{Schema, table_passes, table_place}
use Rattle.mm_schema.specs.declared.column.Column.{Column}
use Rattle.mm_schema.specs.declared.table.Table.{Table}
use Rattle.mm_value.specs.Types.{type_of}
use Rattle.mm_value.specs.declared.refusal.Refusal.{Refusal}
use Rattle.mm_value.specs.declared.refusal.Refusal.TheVariants.{NoSuchTable, TypeMismatch, WrongNumberOfValues}
use Rattle.mm_value.specs.declared.values.Value.{Value}
use Rattle.mm_query.specs.Binding.{binding_conditions, has_other_length, has_type_mismatch}
use Rattle.mm_query.specs.declared.command.Mutation.TheVariants.{Insert}
use Rattle.mm_query.proofs.Due.{lacks_nowhere, not_lacking, passes_at_place}

-- A value differs in type from its column if and only if some pair of a column and its value does.
pub mismatch_in_pairs : (columns : List Column) (values : List Value)
    → has_type_mismatch columns values ≡ list_any (λ p. not (same_type p.0.col_type (type_of p.1))) (zip columns values)
mismatch_in_pairs [] values = refl
mismatch_in_pairs (c ∷ cs) [] = refl
mismatch_in_pairs (c ∷ cs) (v ∷ vs) = ap (λ b. not (same_type c.col_type (type_of v)) || b) (mismatch_in_pairs cs vs)

-- the refusal of three conditions
abbrev first_of_three : Bool → Bool → Bool → Option Refusal
first_of_three lacks mismatch length = cond lacks (Some NoSuchTable) (cond mismatch (Some TypeMismatch) (cond length (Some WrongNumberOfValues) None))

-- Without a position there is no table, ..
pub due_nowhere : (name : List ℕ) (schema : Schema) (tuples : List (List Value)) → table_place name schema ≡ None
    → first_refusal (binding_conditions (Insert name tuples) schema) ≡ Some NoSuchTable
due_nowhere name schema tuples nowhere =
    ap (λ b. first_of_three b (table_passes (λ t. list_any (has_type_mismatch t.definition.columns) tuples) name schema)
    (table_passes (λ t. list_any (has_other_length t.definition.columns) tuples) name schema)) (lacks_nowhere name schema nowhere)

-- .. and with a position the tuples are checked against the columns of the table there.
module _ (name : List ℕ) (schema : Schema) (tuples : List (List Value)) (place : ℕ) (table : Table) (placed : table_place name schema ≡ Some place)
    (there : slice_get schema.tables place ≡ Some table) (columns : List Column) (read : List (List Value))
    (columns_are : columns ≡ table.definition.columns) (tuples_are : read ≡ tuples) where
  due_at_place : first_refusal (binding_conditions (Insert name tuples) schema)
      ≡ first_of_three false (list_any (has_type_mismatch columns) read) (list_any (has_other_length columns) read)
  due_at_place =
      (λ i. first_of_three (not_lacking name schema place table placed there i)
      (passes_at_place name schema place table placed there (λ t. list_any (has_type_mismatch t.definition.columns) tuples) i)
      (passes_at_place name schema place table placed there (λ t. list_any (has_other_length t.definition.columns) tuples) i))
      ∙ sym (λ i. first_of_three false (list_any (has_type_mismatch (columns_are i)) (tuples_are i))
      (list_any (has_other_length (columns_are i)) (tuples_are i)))

  pub due_mismatch : true ≡ list_any (has_type_mismatch columns) read → first_refusal (binding_conditions (Insert name tuples) schema) ≡ Some TypeMismatch
  due_mismatch mismatch = due_at_place ∙ ap (λ b. first_of_three false b (list_any (has_other_length columns) read)) (sym mismatch)

  module _ (types : false ≡ list_any (has_type_mismatch columns) read) where
    pub due_length : true ≡ list_any (has_other_length columns) read → first_refusal (binding_conditions (Insert name tuples) schema) ≡ Some WrongNumberOfValues
    due_length length = due_at_place ∙ (λ i. first_of_three false (sym types i) (sym length i))

    pub none_due : false ≡ list_any (has_other_length columns) read → first_refusal (binding_conditions (Insert name tuples) schema) ≡ None
    none_due length = due_at_place ∙ (λ i. first_of_three false (sym types i) (sym length i))
