-- Steps of commands, and refusals, are outcomes of the commands.
use Rattle.std.proofs.Common.{◌≡◌, ◌⊎◌, ◌++◌, ◌∙◌, false, true, List, Ok, Some, None, IsTrue, inl, inr, ⊎_elim, refl, sym, ap}
use Rattle.std.proofs.lemmas.Bool.{false≢true}
use Rattle.std.proofs.lemmas.Option.{none-some}
use Rattle.mm_value.specs.declared.refusal.Refusal.{Refusal}
use Rattle.mm_value.specs.declared.refusal.Refusal.TheVariants.{Memory}
use Rattle.mm_value.specs.declared.values.Value.{Value}
use Rattle.mm_schema.proofs.Dues.{due_in_front}
use Rattle.mm_schema.specs.Refused.{first_refusal}
use Rattle.mm_query.proofs.Due.{step-done, step-refused}
use Rattle.mm_query.specs.Binding.{binding_conditions}
use Rattle.mm_query.specs.Edits.{changed_table, edits, value_conditions}
use Rattle.mm_query.specs.Machine.{Outcome, after_change, conditions, refused_outcome, row_conditions}
use Rattle.mm_query.specs.Resolving.{bag_in, query_conditions, selected}
use Rattle.mm_query.specs.Queries.{size_conditions}
use Rattle.mm_query.specs.Standing.{growth_conditions}
use Rattle.mm_query.specs.State.{State}
use Rattle.mm_query.specs.Transactions.{is_done_without_memory}
use Rattle.mm_query.specs.declared.command.Command.{Command}
use Rattle.mm_query.specs.declared.command.Command.TheVariants as command
use Rattle.mm_query.specs.declared.command.Mutation.{Mutation}
use Rattle.mm_query.specs.declared.query.Query.{Query}
use Rattle.mm_query.specs.declared.reply.Reply.TheVariants.{Refused, Rows}
use Rattle.mm_lang.specs.Answering.{MayLeadTo}
use Rattle.mm_lang.specs.Reading.{command_takes_memory}
use Rattle.mm_txn.specs.Questions.{is_question}
use Rattle.mm_txn.specs.Steps.{IsStep}

-- The first refusal of a command is an outcome of it, and so is a failed allocation if the command allocates.
pub due_leads : (command : Command) (state : State) (refusal : Refusal) → IsTrue (command_takes_memory command)
    → (first_refusal (conditions command state) ≡ Some refusal) ⊎ (refusal ≡ Memory)
    → MayLeadTo (Ok command) state (refused_outcome refusal state)
due_leads command state refusal takes due =
    ⊎_elim
    (λ (h : first_refusal (conditions command state) ≡ Some refusal). inl (sym (step-refused command state refusal h)))
    (λ (m : refusal ≡ Memory). inr (ap (λ (r : Refusal). refused_outcome r state) m, takes))
    due

-- A refusal of the names of a query refuses the query.
pub query_refused : (query : Query) (state : State) (refusal : Refusal)
    → (first_refusal (query_conditions query state.schema) ≡ Some refusal) ⊎ (refusal ≡ Memory)
    → MayLeadTo (Ok (command.Select query)) state (refused_outcome refusal state)
query_refused query state refusal due =
    due_leads (command.Select query) state refusal refl
    (⊎_elim (λ h. inl (due_in_front (query_conditions query state.schema) (size_conditions (bag_in state query)) refusal h)) (λ m. inr m) due)

-- A refusal of the names and values of a change of rows refuses the change.
pub change_refused : (mutation : Mutation) (state : State) (refusal : Refusal)
    → (first_refusal (binding_conditions mutation state.schema) ≡ Some refusal) ⊎ (refusal ≡ Memory)
    → MayLeadTo (Ok (command.Change mutation)) state (refused_outcome refusal state)
change_refused mutation state refusal due =
    due_leads (command.Change mutation) state refusal refl
    (⊎_elim (λ h. inl (due_in_front (binding_conditions mutation state.schema)
    (value_conditions mutation state ++ (row_conditions (changed_table mutation) (edits mutation state) (after_change mutation state)
    ++ growth_conditions (after_change mutation state))) refusal h)) (λ m. inr m) due)

-- The rows of a query are its outcome.
pub query_shown : (query : Query) (state : State) (rows : List (List Value)) → first_refusal (conditions (command.Select query) state) ≡ None
    → rows ≡ selected query state → MayLeadTo (Ok (command.Select query)) state (record { reply = Some (Rows rows); state = state })
query_shown query state rows due are =
    inl (ap (λ (r : List (List Value)). record { reply = Some (Rows r); state = state }) are ∙ sym (step-done (command.Select query) state due))

-- ---- steps

-- A question allocates.
pub question_takes : (command : Command) → is_question command ≡ true → IsTrue (command_takes_memory command)
question_takes (command.Scan table) asks = refl
question_takes (command.ScanIndex index) asks = refl
question_takes (command.Select query) asks = refl
question_takes (command.Explain query) asks = refl
question_takes (command.Show name) asks = refl
question_takes command.Tables asks = refl
question_takes command.Nothing asks = absurd (false≢true asks)
question_takes (command.Define definition) asks = absurd (false≢true asks)
question_takes (command.Change mutation) asks = absurd (false≢true asks)
question_takes command.Begin asks = absurd (false≢true asks)
question_takes command.Commit asks = absurd (false≢true asks)
question_takes command.Rollback asks = absurd (false≢true asks)
question_takes (command.Savepoint name) asks = absurd (false≢true asks)
question_takes (command.RollbackTo name) asks = absurd (false≢true asks)

-- A step of a question is an outcome.
pub question_leads : (command : Command) (state : State) (outcome : Outcome) → is_question command ≡ true → IsStep command state outcome
    → MayLeadTo (Ok command) state outcome
question_leads command state outcome asks stepped = ⊎_elim (λ is. inl is) (λ h. inr (h.0, question_takes command asks)) stepped

-- A step of a command that allocates, or that never fails for lack of memory, is an outcome.
pub step_leads : (command : Command) (state : State) (outcome : Outcome)
    → (is_done_without_memory command ≡ false → IsTrue (command_takes_memory command)) → IsStep command state outcome
    → MayLeadTo (Ok command) state outcome
step_leads command state outcome takes stepped = ⊎_elim (λ is. inl is) (λ h. inr (h.0, takes h.1)) stepped

-- So is a step of any other command. Nothing has no reply.
pub command_leads : (given : Command) (state : State) (outcome : Outcome) → is_question given ≡ false
    → (given ≡ command.Nothing → outcome.reply ≡ None) → IsStep given state outcome → MayLeadTo (Ok given) state outcome
command_leads command.Nothing state outcome asks nothing stepped =
    ⊎_elim (λ is. inl is) (λ h. absurd (none-some (Refused Memory) (sym (nothing refl) ∙ ap (λ (o : Outcome). o.reply) h.0))) stepped
command_leads (command.Define definition) state outcome asks nothing stepped =
    step_leads (command.Define definition) state outcome (λ may. refl) stepped
command_leads (command.Change mutation) state outcome asks nothing stepped = step_leads (command.Change mutation) state outcome (λ may. refl) stepped
command_leads command.Begin state outcome asks nothing stepped =
    step_leads command.Begin state outcome (λ may. absurd (false≢true (sym may))) stepped
command_leads command.Commit state outcome asks nothing stepped =
    step_leads command.Commit state outcome (λ may. absurd (false≢true (sym may))) stepped
command_leads command.Rollback state outcome asks nothing stepped =
    step_leads command.Rollback state outcome (λ may. absurd (false≢true (sym may))) stepped
command_leads (command.Savepoint name) state outcome asks nothing stepped = step_leads (command.Savepoint name) state outcome (λ may. refl) stepped
command_leads (command.RollbackTo name) state outcome asks nothing stepped =
    step_leads (command.RollbackTo name) state outcome (λ may. absurd (false≢true (sym may))) stepped
command_leads (command.Scan table) state outcome asks nothing stepped = absurd (false≢true (sym asks))
command_leads (command.ScanIndex index) state outcome asks nothing stepped = absurd (false≢true (sym asks))
command_leads (command.Select query) state outcome asks nothing stepped = absurd (false≢true (sym asks))
command_leads (command.Explain query) state outcome asks nothing stepped = absurd (false≢true (sym asks))
command_leads (command.Show name) state outcome asks nothing stepped = absurd (false≢true (sym asks))
command_leads command.Tables state outcome asks nothing stepped = absurd (false≢true (sym asks))
