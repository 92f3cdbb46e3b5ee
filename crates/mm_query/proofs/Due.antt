-- The refusals of a command: by names that exist or not, and by concatenated lists of conditions.
use Rattle.std.proofs.Common.{◌≡◌, ℕ, Bool, true, false, List, [], ◌∷◌, ◌++◌, Some, None, is_none, slice_get, sym, ap, ◌∙◌, append_assoc}
use Rattle.std.specs.Option.{option_map_or}
use Rattle.mm_schema.specs.Refused.{first_refusal}
use Rattle.mm_schema.specs.Schema.{Schema, key_named, lacks_table, table_named, table_passes, table_place}
use Rattle.mm_schema.specs.Columns.{key_place}
use Rattle.mm_schema.specs.declared.table.Table.{Table}
use Rattle.mm_schema.proofs.Dues.{due_behind, due_in_front}
use Rattle.mm_schema.proofs.Places.{no_table, table_at_place}
use Rattle.mm_value.specs.declared.refusal.Refusal.{Refusal}
use Rattle.mm_query.specs.Binding.{binding_conditions}
use Rattle.mm_query.specs.Edits.{changed_table, edits, value_conditions}
use Rattle.mm_query.specs.Machine.{after_change, change_conditions, conditions, reply_to, row_conditions, state_after, step, unless_refused}
use Rattle.mm_query.specs.Standing.{growth_conditions}
use Rattle.mm_query.specs.State.{State}
use Rattle.mm_query.specs.declared.command.Command.{Command}
use Rattle.mm_query.specs.declared.command.Mutation.{Mutation}
use Rattle.mm_query.specs.declared.reply.Reply.TheVariants.{Refused}

-- A name without a position is missing.
pub lacks_nowhere : (name : List ℕ) (schema : Schema) → table_place name schema ≡ None → lacks_table name schema ≡ true
lacks_nowhere name schema nowhere = ap is_none (no_table name schema nowhere)

module _ (name : List ℕ) (schema : Schema) (place : ℕ) (table : Table) (placed : table_place name schema ≡ Some place)
    (there : slice_get schema.tables place ≡ Some table) where
  named : table_named name schema ≡ Some table
  named = table_at_place name schema place placed ∙ there

  -- A name with a position is not missing, ..
  pub not_lacking : lacks_table name schema ≡ false
  not_lacking = ap is_none named

  -- .. its table passes a test if and only if the table at the position does, ..
  pub passes_at_place : (test : Table → Bool) → table_passes test name schema ≡ test table
  passes_at_place test = ap (λ t. option_map_or test t false) named

  -- .. and its key is that table's.
  pub key_at_place : key_named name schema ≡ key_place table.definition.columns
  key_at_place = ap (λ t. option_map_or (λ u. key_place u.definition.columns) t 0) named

-- A single condition that holds refuses.
pub due_one : (holds : Bool) (refusal : Refusal) → holds ≡ true → first_refusal (record { holds = holds; refusal = refusal } ∷ []) ≡ Some refusal
due_one holds refusal is = ap (λ b. first_refusal (record { holds = b; refusal = refusal } ∷ [])) is

-- A change refused by the catalog or by its new values is refused, ..
pub due_in_front_of_rows : (mutation : Mutation) (state : State) (refusal : Refusal)
    → first_refusal (binding_conditions mutation state.schema ++ value_conditions mutation state) ≡ Some refusal
    → first_refusal (change_conditions mutation state) ≡ Some refusal
due_in_front_of_rows mutation state refusal h =
    ap first_refusal (sym (append_assoc (binding_conditions mutation state.schema) (value_conditions mutation state) _))
    ∙ due_in_front (binding_conditions mutation state.schema ++ value_conditions mutation state) _ refusal h

-- .. and otherwise only the rows or the standing queries may refuse it.
pub due_behind_values : (mutation : Mutation) (state : State)
    → first_refusal (binding_conditions mutation state.schema ++ value_conditions mutation state) ≡ None
    → first_refusal (change_conditions mutation state)
    ≡ first_refusal (row_conditions (changed_table mutation) (edits mutation state) (after_change mutation state)
    ++ growth_conditions (after_change mutation state))
due_behind_values mutation state none =
    ap first_refusal (sym (append_assoc (binding_conditions mutation state.schema) (value_conditions mutation state) _))
    ∙ due_behind (binding_conditions mutation state.schema ++ value_conditions mutation state) _ none

-- A refused command leaves the state unchanged, ..
pub step-refused : (command : Command) (state : State) (refusal : Refusal) → first_refusal (conditions command state) ≡ Some refusal
    → step command state ≡ record { reply = Some (Refused refusal); state = state }
step-refused command state refusal due = ap (λ d. unless_refused d state (record { reply = reply_to command state; state = state_after command state })) due

-- .. and any other command is executed.
pub step-done : (command : Command) (state : State) → first_refusal (conditions command state) ≡ None
    → step command state ≡ record { reply = reply_to command state; state = state_after command state }
step-done command state due = ap (λ d. unless_refused d state (record { reply = reply_to command state; state = state_after command state })) due
