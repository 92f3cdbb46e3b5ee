-- Properties that each command keeps of the rows are kept by all commands, also of the saved rows.
use Rattle.std.proofs.Common.{◌≡◌, ◌⊎◌, ◌&&◌, ℕ, Bool, true, false, not, cond, if◌then◌else◌, inl, inr, List, [], ◌∷◌, Option, Some, None, get_or, is_some}
use Rattle.std.proofs.Common.{refl, sym, subst, ◌∙◌}
use Rattle.std.specs.Option.{option_map, option_map_or}
use Rattle.std.specs.Prelude.{All, IfSome}
use Rattle.std.proofs.lemmas.List.Elements.{All-cons, All-head, All-nil, All-tail}
use Rattle.mm_schema.specs.Instance.{Instance}
use Rattle.mm_schema.specs.Name.{same_name}
use Rattle.mm_schema.specs.Refused.{first_refusal}
use Rattle.mm_schema.specs.Schema.{Schema}
use Rattle.std.proofs.lemmas.Bool.{false≢true}
use Rattle.mm_value.specs.declared.refusal.Refusal.{Refusal}
use Rattle.mm_value.specs.declared.refusal.Refusal.TheVariants.{NotInTransaction}
use Rattle.mm_query.specs.Machine.{Outcome, after_all, after_change, after_definition, back_to, change_conditions, conditions, definition_conditions}
use Rattle.mm_query.specs.Machine.{is_of_index, reply_to, rows_at_latest, state_after, step, unless_refused}
use Rattle.mm_query.specs.State.{AreSavedRows, Saved, Savepoint, State, has_transaction}
use Rattle.mm_query.specs.declared.command.Command.{Command}
use Rattle.mm_query.specs.declared.command.Command.TheVariants.{Nothing, Define, Change, Scan, ScanIndex, Select, Explain, Show, Tables, Begin, Commit}
use Rattle.mm_query.specs.declared.command.Command.TheVariants.{Rollback, Savepoint as SetSavepoint, RollbackTo}
use Rattle.mm_query.specs.declared.command.Definition.{Definition}
use Rattle.mm_query.specs.declared.command.Definition.TheVariants as define
use Rattle.mm_query.specs.declared.command.Mutation.{Mutation}
use Rattle.mm_schema.proofs.Dues.{none_here}

-- ---- steps

module _ (P : State → Type 0) where
  by_outcome : (due : Option Refusal) (old : State) (done : Outcome) → (due ≡ None → P done.state) → P old → P (unless_refused due old done).state
  by_outcome (Some refusal) old done new kept = kept
  by_outcome None old done new kept = new refl

  -- A step keeps what its command keeps if nothing refuses it.
  pub kept_by_step : (command : Command) (state : State) → (first_refusal (conditions command state) ≡ None → P (state_after command state)) → P state
      → P (step command state).state
  kept_by_step command state new kept =
      by_outcome (first_refusal (conditions command state)) state (record { reply = reply_to command state; state = state_after command state }) new kept

  pub kept_by_all : ((command : Command) (state : State) → first_refusal (conditions command state) ≡ None → P state → P (state_after command state))
      → (commands : List Command) (state : State) → P state → P (after_all commands state)
  kept_by_all by_command [] state kept = kept
  kept_by_all by_command (command ∷ commands) state kept =
      kept_by_all by_command commands (step command state).state (kept_by_step command state (λ due. by_command command state due kept) kept)

-- ---- the rows, and the saved rows

-- A property of a catalog and rows holds of a state's rows, and of all saved rows.
pub record HoldsThroughout (P : Schema → Instance → Type 0) (state : State) : Type 0 where
  pub rows : P state.schema state.rows
  pub saved : IfSome state.saved (AreSavedRows (P state.schema))

-- Nothing is saved if no transaction is open.
pub none_saved : (saved : Option Saved) → is_some saved ≡ false → saved ≡ None
none_saved None closed = refl
none_saved (Some saved) closed = absurd (cc)

-- A change of the catalog keeps the saved rows.
pub saved_by_definition : (definition : Definition) (state : State) → (after_definition definition state).saved ≡ state.saved
saved_by_definition (define.Table definition) state = refl
saved_by_definition (define.DropTable name) state = refl
saved_by_definition (define.Index index) state = refl
saved_by_definition (define.DropIndex name) state = refl
saved_by_definition (define.Watch watched) state = refl
saved_by_definition (define.Unwatch name) state = refl

-- A change of the catalog that nothing refuses is made outside a transaction, or concerns only an index.
pub closed_or_of_index : (is_open of_index : Bool) (refusal : Refusal) (rest : Option Refusal) → cond (is_open && not of_index) (Some refusal) rest ≡ None
    → (is_open ≡ false) ⊎ (of_index ≡ true)
closed_or_of_index false of_index refusal rest due = inl refl
closed_or_of_index true true refusal rest due = inr refl
closed_or_of_index true false refusal rest due = absurd (cc)

module _ (P : Instance → Type 0) where
  -- ROLLBACK restores saved rows.
  pub restored : (rows : Instance) (saved : Option Saved) → P rows → IfSome saved (AreSavedRows P)
      → P (option_map_or (λ (saved : Saved). saved.at_begin) saved rows)
  restored rows None now before = now
  restored rows (Some saved) now before = before.at_begin

  -- SAVEPOINT saves the rows too.
  pub held_further : (name : List ℕ) (rows : Instance) (saved : Option Saved) → P rows → IfSome saved (AreSavedRows P)
      → IfSome (option_map (λ (saved : Saved). record saved { savepoints = record { name = name; rows = rows } ∷ saved.savepoints }) saved) (AreSavedRows P)
  held_further name rows None now before = tt
  held_further name rows (Some saved) now before = record {
    at_begin = before.at_begin;
    savepoints = All-cons (λ (s : Savepoint). P s.rows) (record { name = name; rows = rows }) saved.savepoints now before.savepoints;
  }

  held_back : (name : List ℕ) (savepoints : List Savepoint) → All (λ (s : Savepoint). P s.rows) savepoints
      → All (λ (s : Savepoint). P s.rows) (back_to name savepoints)
  held_back name [] held = held
  held_back name (savepoint ∷ earlier) held =
      by (same_name name savepoint.name) (held_back name earlier (All-tail (λ (s : Savepoint). P s.rows) savepoint earlier held))
    where
      by : (b : Bool) → All (λ (s : Savepoint). P s.rows) (back_to name earlier)
          → All (λ (s : Savepoint). P s.rows) (if b then savepoint ∷ earlier else back_to name earlier)
      by true behind = held
      by false behind = behind

  at_latest : (rows : Instance) (savepoints : List Savepoint) → P rows → All (λ (s : Savepoint). P s.rows) savepoints → P (rows_at_latest savepoints rows)
  at_latest rows [] now held = now
  at_latest rows (savepoint ∷ earlier) now held = All-head (λ (s : Savepoint). P s.rows) savepoint earlier held

  -- ROLLBACK TO restores saved rows, ..
  pub gone_back : (name : List ℕ) (rows : Instance) (saved : Option Saved) → P rows → IfSome saved (AreSavedRows P)
      → P (rows_at_latest (back_to name (option_map_or (λ (saved : Saved). saved.savepoints) saved [])) rows)
  gone_back name rows None now before = now
  gone_back name rows (Some saved) now before =
      at_latest rows (back_to name saved.savepoints) now (held_back name saved.savepoints before.savepoints)

  -- .. and keeps no others saved.
  pub held_before : (name : List ℕ) (saved : Option Saved) → IfSome saved (AreSavedRows P)
      → IfSome (option_map (λ (saved : Saved). record saved { savepoints = back_to name saved.savepoints }) saved) (AreSavedRows P)
  held_before name None before = tt
  held_before name (Some saved) before = record {
    at_begin = before.at_begin;
    savepoints = held_back name saved.savepoints before.savepoints;
  }

  -- Saved rows keep a property that each of them keeps.
  pub each_held : (Q : Instance → Type 0) → ((rows : Instance) → P rows → Q rows) → (saved : Option Saved) → IfSome saved (AreSavedRows P)
      → IfSome saved (AreSavedRows Q)
  each_held Q keeps None held = tt
  each_held Q keeps (Some saved) held = record {
    at_begin = keeps saved.at_begin held.at_begin;
    savepoints = λ i d below. keeps (get_or saved.savepoints i d).rows (held.savepoints i d below);
  }

module _ (P : Schema → Instance → Type 0)
    (by_definition : (definition : Definition) (state : State) → first_refusal (definition_conditions definition state) ≡ None → P state.schema state.rows
    → P (after_definition definition state).schema (after_definition definition state).rows)
    (by_change : (mutation : Mutation) (state : State) → first_refusal (change_conditions mutation state) ≡ None → P state.schema state.rows
    → P state.schema (after_change mutation state).rows) where
  -- an index keeps of any rows what a change of the catalog keeps
  by_index : (definition : Definition) (state : State) (rows : Instance) → is_of_index definition ≡ true
      → first_refusal (definition_conditions definition state) ≡ None → P state.schema rows → P (after_definition definition state).schema rows
  by_index (define.Table definition) state rows of_index due held = absurd (false≢true of_index)
  by_index (define.DropTable name) state rows of_index due held = absurd (false≢true of_index)
  by_index (define.Index index) state rows of_index due held = by_definition (define.Index index) (record state { rows = rows }) due held
  by_index (define.DropIndex name) state rows of_index due held = by_definition (define.DropIndex name) (record state { rows = rows }) due held
  by_index (define.Watch watched) state rows of_index due held = absurd (false≢true of_index)
  by_index (define.Unwatch name) state rows of_index due held = absurd (false≢true of_index)

  held_by_definition : (definition : Definition) (state : State) → first_refusal (conditions (Define definition) state) ≡ None → HoldsThroughout P state
      → HoldsThroughout P (after_definition definition state)
  held_by_definition definition state due held = record { rows = by_definition definition state later held.rows; saved = by where_done }
    where
      later : first_refusal (definition_conditions definition state) ≡ None
      later = none_here (has_transaction state && not (is_of_index definition)) NotInTransaction (first_refusal (definition_conditions definition state)) due

      where_done : (has_transaction state ≡ false) ⊎ (is_of_index definition ≡ true)
      where_done = closed_or_of_index (has_transaction state) (is_of_index definition) NotInTransaction
          (first_refusal (definition_conditions definition state)) due

      by : (has_transaction state ≡ false) ⊎ (is_of_index definition ≡ true)
          → IfSome (after_definition definition state).saved (AreSavedRows (P (after_definition definition state).schema))
      by (inl closed) =
          subst (λ saved. IfSome saved (AreSavedRows (P (after_definition definition state).schema)))
          (sym (saved_by_definition definition state ∙ none_saved state.saved closed)) tt
      by (inr of_index) =
          subst (λ saved. IfSome saved (AreSavedRows (P (after_definition definition state).schema)))
          (sym (saved_by_definition definition state))
          (each_held (P state.schema) (P (after_definition definition state).schema)
          (λ rows. by_index definition state rows of_index later) state.saved held.saved)

  held_by_command : (command : Command) (state : State) → first_refusal (conditions command state) ≡ None → HoldsThroughout P state
      → HoldsThroughout P (state_after command state)
  held_by_command Nothing state due held = held
  held_by_command (Define definition) state due held = held_by_definition definition state due held
  held_by_command (Change mutation) state due held = record { rows = by_change mutation state due held.rows; saved = held.saved }
  held_by_command (Scan table) state due held = held
  held_by_command (ScanIndex index) state due held = held
  held_by_command (Select query) state due held = held
  held_by_command (Explain query) state due held = held
  held_by_command (Show name) state due held = held
  held_by_command Tables state due held = held
  held_by_command Begin state due held = record {
    rows = held.rows;
    saved = record { at_begin = held.rows; savepoints = All-nil (λ (s : Savepoint). P state.schema s.rows) };
  }
  held_by_command Commit state due held = record { rows = held.rows; saved = tt }
  held_by_command Rollback state due held = record { rows = restored (P state.schema) state.rows state.saved held.rows held.saved; saved = tt }
  held_by_command (SetSavepoint name) state due held = record {
    rows = held.rows;
    saved = held_further (P state.schema) name state.rows state.saved held.rows held.saved;
  }
  held_by_command (RollbackTo name) state due held = record {
    rows = gone_back (P state.schema) name state.rows state.saved held.rows held.saved;
    saved = held_before (P state.schema) name state.saved held.saved;
  }

  -- A property of the rows that changes of the catalog and of rows keep is kept by all commands throughout.
  pub held_by_all : (commands : List Command) (state : State) → HoldsThroughout P state → HoldsThroughout P (after_all commands state)
  held_by_all commands state held = kept_by_all (HoldsThroughout P) held_by_command commands state held
