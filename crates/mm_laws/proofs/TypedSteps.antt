-- Each command keeps all rows and standing queries typed.
use Rattle.std.proofs.Common.{◌≡◌, ◌&&◌, not, List, [], ◌∷◌, ◌++◌, Option, Some, None, IfSome, refl, sym, ◌∙◌}
use Rattle.std.proofs.lemmas.List.Elements.{All-nil}
use Rattle.mm_schema.specs.Refused.{Condition, first_refusal}
use Rattle.mm_schema.specs.Schema.{HasDistinctNames}
use Rattle.mm_schema.proofs.Dues.{due_in_front, none_due_behind}
use Rattle.mm_value.specs.declared.refusal.Refusal.{Refusal}
use Rattle.mm_value.specs.declared.refusal.Refusal.TheVariants.{NotInTransaction}
use Rattle.mm_query.specs.Binding.{binding_conditions}
use Rattle.mm_query.specs.Edits.{changed_table, edits, value_conditions}
use Rattle.mm_query.specs.Machine.{after_change, conditions, definition_conditions, is_of_index, row_conditions, state_after, step}
use Rattle.mm_query.specs.Standing.{AreBound, HasQueries, growth_conditions}
use Rattle.mm_query.specs.State.{Savepoint, State, first_state, has_transaction}
use Rattle.mm_laws.proofs.Throughout.{closed_or_of_index, gone_back, held_before, held_further, kept_by_step, restored}
use Rattle.mm_query.specs.declared.command.Command.{Command}
use Rattle.mm_query.specs.declared.command.Command.TheVariants.{Nothing, Define, Change, Scan, ScanIndex, Select, Explain, Show, Tables, Begin, Commit}
use Rattle.mm_query.specs.declared.command.Command.TheVariants.{Rollback, Savepoint as SetSavepoint, RollbackTo}
use Rattle.mm_laws.specs.Typing.{AreTyped, IsTyped}
use Rattle.mm_laws.proofs.TypedChanges.{typed_by_change}
use Rattle.mm_laws.proofs.TypedDefinitions.{typed_by_definition}

-- If none of some conditions holds, none of the first ones does.
pub none_in_front : (cs ds : List Condition) → first_refusal (cs ++ ds) ≡ None → first_refusal cs ≡ None
none_in_front cs ds none = by (first_refusal cs) refl
  where
    by : (due : Option Refusal) → first_refusal cs ≡ due → due ≡ None
    by None is = refl
    by (Some refusal) is = let both : None ≡ Some refusal = sym none ∙ due_in_front cs ds refusal is in cc

typed_by_command : (command : Command) (state : State) → first_refusal (conditions command state) ≡ None → HasDistinctNames state.schema
    → HasQueries state → AreBound state → IsTyped state → IsTyped (state_after command state)
typed_by_command Nothing state due distinct beside bound typed = typed
typed_by_command (Define definition) state due distinct beside bound typed =
    typed_by_definition definition state
    (closed_or_of_index (has_transaction state) (is_of_index definition) NotInTransaction (first_refusal (definition_conditions definition state)) due)
    (none_due_behind (record { holds = has_transaction state && not (is_of_index definition); refusal = NotInTransaction } ∷ [])
    (definition_conditions definition state) due) beside bound typed
typed_by_command (Change mutation) state due distinct beside bound typed =
    let later = value_conditions mutation state
    ++ (row_conditions (changed_table mutation) (edits mutation state) (after_change mutation state)
    ++ growth_conditions (after_change mutation state)) in
    record {
      rows = typed_by_change state typed.rows mutation distinct (none_in_front (binding_conditions mutation state.schema) later due);
      saved = typed.saved;
      queries = typed.queries;
    }
typed_by_command (Scan table) state due distinct beside bound typed = typed
typed_by_command (ScanIndex index) state due distinct beside bound typed = typed
typed_by_command (Select query) state due distinct beside bound typed = typed
typed_by_command (Explain query) state due distinct beside bound typed = typed
typed_by_command (Show name) state due distinct beside bound typed = typed
typed_by_command Tables state due distinct beside bound typed = typed
typed_by_command Begin state due distinct beside bound typed = record {
  rows = typed.rows;
  saved = record { at_begin = typed.rows; savepoints = All-nil (λ (s : Savepoint). AreTyped state.schema.tables s.rows) };
  queries = typed.queries;
}
typed_by_command Commit state due distinct beside bound typed = record { rows = typed.rows; saved = tt; queries = typed.queries }
typed_by_command Rollback state due distinct beside bound typed =
    record { rows = restored (AreTyped state.schema.tables) state.rows state.saved typed.rows typed.saved; saved = tt; queries = typed.queries }
typed_by_command (SetSavepoint name) state due distinct beside bound typed = record {
  rows = typed.rows;
  saved = held_further (AreTyped state.schema.tables) name state.rows state.saved typed.rows typed.saved;
  queries = typed.queries;
}
typed_by_command (RollbackTo name) state due distinct beside bound typed = record {
  rows = gone_back (AreTyped state.schema.tables) name state.rows state.saved typed.rows typed.saved;
  saved = held_before (AreTyped state.schema.tables) name state.saved typed.saved;
  queries = typed.queries;
}

-- There are no rows and no standing queries at first.
pub typed_at_first : IsTyped first_state
typed_at_first = record { rows = tt; saved = tt; queries = All-nil _ }

-- A refused command leaves the state unchanged, and a successful one keeps it typed.
pub typed_by_step : (command : Command) (state : State) → HasDistinctNames state.schema → HasQueries state → AreBound state → IsTyped state
    → IsTyped (step command state).state
typed_by_step command state distinct beside bound typed =
    kept_by_step IsTyped command state (λ due. typed_by_command command state due distinct beside bound typed) typed
