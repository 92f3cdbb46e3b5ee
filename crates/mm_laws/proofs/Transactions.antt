-- Commands between BEGIN and COMMIT or ROLLBACK, and between SAVEPOINT and ROLLBACK TO.
use Rattle.std.proofs.Common.{◌≡◌, ◌⊎◌, ◌&&◌, ◌||◌, ℕ, Bool, true, false, cond, if◌then◌else◌, not, List, [], ◌∷◌, ◌++◌, Option, Some, None, inl, inr}
use Rattle.std.proofs.Common.{is_some, length, map, nat_lt, refl, sym, ap, subst, ◌∙◌}
use Rattle.std.specs.List.{list_all, list_any}
use Rattle.std.specs.Option.{option_map, option_map_or}
use Rattle.std.proofs.lemmas.Bool.{and_parts, false≢true, or_parts}
use Rattle.mm_schema.specs.Indexes.{drop_index_conditions, index_conditions, table_with_index, table_without_index}
use Rattle.mm_schema.specs.Instance.{Instance}
use Rattle.mm_schema.specs.Name.{same_name}
use Rattle.mm_schema.specs.Refused.{first_refusal}
use Rattle.mm_schema.specs.Schema.{Schema}
use Rattle.mm_schema.specs.declared.table.Table.{Table}
use Rattle.mm_schema.specs.declared.table.TableDef.{TableDef}
use Rattle.mm_schema.proofs.NameLemmas.{same_name_refl}
use Rattle.mm_schema.proofs.References.{first_none, same_with, same_without}
use Rattle.mm_value.specs.declared.refusal.Refusal.{Refusal}
use Rattle.mm_value.specs.declared.refusal.Refusal.TheVariants.{NoSuchSavepoint, NoTransaction, NotInTransaction, TooMany, TransactionOpen}
use Rattle.mm_query.specs.Machine.{Outcome, after_all, after_definition, back_to, after_rollback_to, after_savepoint, conditions, definition_conditions}
use Rattle.mm_query.specs.Machine.{is_of_index, lacks_savepoint, max_savepoints, reply_to, rows_at_latest, state_after, step, unless_refused}
use Rattle.mm_query.specs.State.{Saved, Savepoint, State, has_transaction, savepoints_of}
use Rattle.mm_query.specs.Transactions.{AreAlike, is_done_alike, is_transaction_control, leaves_savepoint}
use Rattle.mm_query.specs.declared.command.Command.{Command}
use Rattle.mm_query.specs.declared.command.Command.TheVariants.{Nothing, Define, Change, Scan, ScanIndex, Select, Explain, Show, Tables, Begin, Commit}
use Rattle.mm_query.specs.declared.command.Command.TheVariants.{Rollback, Savepoint as SetSavepoint, RollbackTo}
use Rattle.mm_query.specs.declared.command.Definition.{Definition}
use Rattle.mm_query.specs.declared.command.Definition.TheVariants as define
use Rattle.mm_query.specs.declared.command.Mutation.TheVariants.{Insert, Update, Delete}
use Rattle.mm_query.specs.declared.reply.Reply.TheVariants.{Refused}
use Rattle.mm_query.proofs.Due.{step-done, step-refused}
use Rattle.mm_laws.proofs.Throughout.{closed_or_of_index, kept_by_step, none_saved, saved_by_definition}
use Rattle.mm_schema.proofs.ChangedRows.{not_true}

-- ---- inside a transaction

begin_rows : Option Saved → Option Instance
begin_rows saved = option_map (λ (saved : Saved). saved.at_begin) saved

abbrev definitions : Schema → List TableDef
definitions schema = map (λ (table : Table). table.definition) schema.tables

-- the invariant of a transaction that was begun in a state
record IsInside (begun : State) (state : State) : Type 0 where
  tables : definitions state.schema ≡ definitions begun.schema
  named : state.schema.standing ≡ begun.schema.standing
  standing : state.queries ≡ begun.queries
  saved : begin_rows state.saved ≡ Some begun.rows

open_inside : (saved : Option Saved) (rows : Instance) → begin_rows saved ≡ Some rows → is_some saved ≡ true
unfolding begin_rows
open_inside None rows is = absurd (cc)
open_inside (Some saved) rows is = refl

pub definition_refused : (definition : Definition) (state : State) → has_transaction state ≡ true → is_of_index definition ≡ false
    → step (Define definition) state ≡ record { reply = Some (Refused NotInTransaction); state = state }
definition_refused definition state open_now of_none =
    step-refused (Define definition) state NotInTransaction
    (ap (λ b. cond (b && not (is_of_index definition)) (Some NotInTransaction) (first_refusal (definition_conditions definition state))) open_now
    ∙ ap (λ b. cond (not b) (Some NotInTransaction) (first_refusal (definition_conditions definition state))) of_none)

definitions_kept : (change : Table → Table) → ((t : Table) → (change t).definition ≡ t.definition) → (tables : List Table)
    → map (λ (t : Table). t.definition) (map change tables) ≡ map (λ (t : Table). t.definition) tables
definitions_kept change same [] = refl
definitions_kept change same (t ∷ ts) = λ i. same t i ∷ definitions_kept change same ts i

module _ (begun : State) where
  inside_by_definition : (definition : Definition) (state : State) → first_refusal (conditions (Define definition) state) ≡ None
      → IsInside begun state → IsInside begun (after_definition definition state)
  inside_by_definition definition state due inside =
      by definition
      (closed_or_of_index (has_transaction state) (is_of_index definition) NotInTransaction (first_refusal (definition_conditions definition state)) due)
    where
      is_open : has_transaction state ≡ true
      is_open = open_inside state.saved begun.rows inside.saved

      by : (d : Definition) → (has_transaction state ≡ false) ⊎ (is_of_index d ≡ true) → IsInside begun (after_definition d state)
      by d (inl closed) = absurd (false≢true (sym closed ∙ is_open))
      by (define.Table definition) (inr of_index) = absurd (false≢true of_index)
      by (define.DropTable name) (inr of_index) = absurd (false≢true of_index)
      by (define.Index index) (inr of_index) = record {
        tables = definitions_kept (table_with_index index) (same_with index) state.schema.tables ∙ inside.tables;
        named = inside.named;
        standing = inside.standing;
        saved = inside.saved;
      }
      by (define.DropIndex name) (inr of_index) = record {
        tables = definitions_kept (table_without_index name) (same_without name) state.schema.tables ∙ inside.tables;
        named = inside.named;
        standing = inside.standing;
        saved = inside.saved;
      }
      by (define.Watch watched) (inr of_index) = absurd (false≢true of_index)
      by (define.Unwatch name) (inr of_index) = absurd (false≢true of_index)

  -- one more or one less savepoint keeps the rows that BEGIN saved
  begun_further : (savepoints : Saved → List Savepoint) (saved : Option Saved) → begin_rows saved ≡ Some begun.rows
      → begin_rows (option_map (λ (saved : Saved). record saved { savepoints = savepoints saved }) saved) ≡ Some begun.rows
  unfolding begin_rows
  begun_further savepoints None is = is
  begun_further savepoints (Some saved) is = is

  inside_by_step : (command : Command) (state : State) → is_transaction_control command ≡ false → IsInside begun state
      → IsInside begun (step command state).state
  inside_by_step Nothing state free inside = inside
  inside_by_step (Define definition) state free inside =
      kept_by_step (IsInside begun) (Define definition) state (λ due. inside_by_definition definition state due inside) inside
  inside_by_step (Change mutation) state free inside =
      kept_by_step (IsInside begun) (Change mutation) state
      (λ due. record { tables = inside.tables; named = inside.named; standing = inside.standing; saved = inside.saved }) inside
  inside_by_step (Scan table) state free inside = kept_by_step (IsInside begun) (Scan table) state (λ due. inside) inside
  inside_by_step (ScanIndex index) state free inside = kept_by_step (IsInside begun) (ScanIndex index) state (λ due. inside) inside
  inside_by_step (Select query) state free inside = kept_by_step (IsInside begun) (Select query) state (λ due. inside) inside
  inside_by_step (Explain query) state free inside = kept_by_step (IsInside begun) (Explain query) state (λ due. inside) inside
  inside_by_step (Show name) state free inside = kept_by_step (IsInside begun) (Show name) state (λ due. inside) inside
  inside_by_step Tables state free inside = inside
  inside_by_step Begin state free inside = cc
  inside_by_step Commit state free inside = cc
  inside_by_step Rollback state free inside = cc
  inside_by_step (SetSavepoint name) state free inside =
      kept_by_step (IsInside begun) (SetSavepoint name) state
      (λ due. record {
        tables = inside.tables;
        named = inside.named;
        standing = inside.standing;
        saved = begun_further (λ saved. record { name = name; rows = state.rows } ∷ saved.savepoints) state.saved inside.saved;
      }) inside
  inside_by_step (RollbackTo name) state free inside =
      kept_by_step (IsInside begun) (RollbackTo name) state
      (λ due. record {
        tables = inside.tables;
        named = inside.named;
        standing = inside.standing;
        saved = begun_further (λ saved. back_to name saved.savepoints) state.saved inside.saved;
      }) inside

  inside_by_all : (commands : List Command) (state : State) → list_any is_transaction_control commands ≡ false → IsInside begun state
      → IsInside begun (after_all commands state)
  inside_by_all [] state free inside = inside
  inside_by_all (command ∷ commands) state free inside =
      let each = or_parts (is_transaction_control command) (list_any is_transaction_control commands) free in
      inside_by_all commands (step command state).state each.1 (inside_by_step command state each.0 inside)

pub after_both : (front behind : List Command) (state : State) → after_all (front ++ behind) state ≡ after_all behind (after_all front state)
after_both [] behind state = refl
after_both (command ∷ front) behind state = after_both front behind (step command state).state

-- the state in which a transaction is begun
abbrev opened : State → State
opened state = record state { saved = Some (record { at_begin = state.rows; savepoints = [] }) }

rows_at_begin : (saved : Option Saved) (now rows : Instance) → begin_rows saved ≡ Some rows → option_map_or (λ (saved : Saved). saved.at_begin) saved now ≡ rows
unfolding begin_rows
rows_at_begin None now rows is = absurd (cc)
rows_at_begin (Some saved) now rows is = cc

module _ (state : State) (closed : has_transaction state ≡ false) where
  begun : (step Begin state).state ≡ opened state
  begun = ap (λ (o : Outcome). o.state) (step-done Begin state (ap (λ b. cond b (Some TransactionOpen) None) closed))

  -- the state that commands lead to after a transaction is begun
  reached : List Command → State
  reached commands = after_all commands (opened state)

  module _ (commands : List Command) (free : list_any is_transaction_control commands ≡ false) where
    inside : IsInside state (reached commands)
    unfolding reached begin_rows
    inside = inside_by_all state commands (opened state) free (record { tables = refl; named = refl; standing = refl; saved = refl })

    ended : (ending : Command) → first_refusal (conditions ending (reached commands)) ≡ None
        → after_all (Begin ∷ commands ++ ending ∷ []) state ≡ state_after ending (reached commands)
    unfolding reached
    ended ending due =
        ap (after_all (commands ++ ending ∷ [])) begun
        ∙ after_both commands (ending ∷ []) (opened state)
        ∙ ap (λ (o : Outcome). o.state) (step-done ending (reached commands) due)

    is_open : first_refusal (conditions Commit (reached commands)) ≡ None
    is_open = ap (λ b. cond (not b) (Some NoTransaction) None) (open_inside (reached commands).saved state.rows inside.saved)

    gone_back : after_all (Begin ∷ commands ++ Rollback ∷ []) state ≡ record state { schema = (reached commands).schema }
    gone_back =
        ended Rollback is_open
        ∙ (λ i. record {
          schema = (reached commands).schema;
          rows = rows_at_begin (reached commands).saved (reached commands).rows state.rows inside.saved i;
          queries = inside.standing i;
          saved = sym (none_saved state.saved closed) i;
        })

    -- ROLLBACK restores the saved rows, and nothing else has changed but the catalog, ..
    pub rolled_back : after_all (Begin ∷ commands ++ Rollback ∷ []) state
        ≡ record state { schema = (after_all (Begin ∷ commands ++ Rollback ∷ []) state).schema }
    rolled_back = gone_back ∙ (λ i. record state { schema = (sym gone_back i).schema })

    -- .. and of the catalog at most the indexes.
    pub catalog_is_alike : AreAlike (after_all (Begin ∷ commands ++ Rollback ∷ []) state).schema state.schema
    catalog_is_alike =
        subst (λ (s : State). AreAlike s.schema state.schema) (sym gone_back) (record { tables = inside.tables; standing = inside.named })

    -- COMMIT changes nothing except that no rows are saved.
    pub committed : after_all (Begin ∷ commands ++ Commit ∷ []) state ≡ record (after_all (Begin ∷ commands) state) { saved = None }
    unfolding reached
    committed = ended Commit is_open ∙ (λ i. record (after_all commands (sym begun i)) { saved = None })

-- ---- after a savepoint

pub open_saved : (saved : Option Saved) → is_some saved ≡ true → (kept : Saved) × (saved ≡ Some kept)
open_saved None is = absurd (false≢true is)
open_saved (Some saved) is = (saved, refl)

not_false : (b : Bool) → not b ≡ false → b ≡ true
not_false true is = refl
not_false false is = absurd (false≢true (sym is))

module _ (name : List ℕ) where
  -- the saved rows after a rollback to the name
  abbrev kept_back : Option Saved → Option Saved
  kept_back saved = option_map (λ (saved : Saved). record saved { savepoints = back_to name saved.savepoints }) saved

  -- one savepoint is the first with the name
  back_to_first : (savepoint : Savepoint) (earlier : List Savepoint) → same_name name savepoint.name ≡ true
      → back_to name (savepoint ∷ earlier) ≡ savepoint ∷ earlier
  back_to_first savepoint earlier is = ap (λ b. if b then savepoint ∷ earlier else back_to name earlier) is

  back_past : (savepoint : Savepoint) (earlier : List Savepoint) → same_name name savepoint.name ≡ false
      → back_to name (savepoint ∷ earlier) ≡ back_to name earlier
  back_past savepoint earlier is = ap (λ b. if b then savepoint ∷ earlier else back_to name earlier) is

  has_name : (savepoints : List Savepoint) (savepoint : Savepoint) (earlier : List Savepoint) → back_to name savepoints ≡ savepoint ∷ earlier
      → list_any (λ (s : Savepoint). same_name name s.name) savepoints ≡ true
  has_name [] savepoint earlier is = absurd (cc)
  has_name (s ∷ ss) savepoint earlier is = by (same_name name s.name) is (has_name ss savepoint earlier)
    where
      by : (b : Bool) → (if b then s ∷ ss else back_to name ss) ≡ savepoint ∷ earlier
          → (back_to name ss ≡ savepoint ∷ earlier → list_any (λ (s : Savepoint). same_name name s.name) ss ≡ true)
          → (b || list_any (λ (s : Savepoint). same_name name s.name) ss) ≡ true
      by true is behind = refl
      by false is behind = behind is

  further_kept : (other : List ℕ) (rows : Instance) (saved : Option Saved) → same_name name other ≡ false
      → kept_back (option_map (λ (saved : Saved). record saved { savepoints = record { name = other; rows = rows } ∷ saved.savepoints }) saved)
      ≡ kept_back saved
  further_kept other rows None apart = refl
  further_kept other rows (Some saved) apart =
      λ i. Some (record saved { savepoints = back_past (record { name = other; rows = rows }) saved.savepoints apart i })

  module _ (at : Saved) where
    stays_by_step : (command : Command) (state : State) → leaves_savepoint name command ≡ true → kept_back state.saved ≡ Some at
        → kept_back (step command state).state.saved ≡ Some at
    stays_by_step command state leaves is = kept_by_step (λ (s : State). kept_back s.saved ≡ Some at) command state (λ due. by command leaves) is
      where
        by : (c : Command) → leaves_savepoint name c ≡ true → kept_back (state_after c state).saved ≡ Some at
        by Nothing leaves = is
        by (Define definition) leaves = ap kept_back (saved_by_definition definition state) ∙ is
        by (Change mutation) leaves = is
        by (Scan table) leaves = is
        by (ScanIndex index) leaves = is
        by (Select query) leaves = is
        by (Explain query) leaves = is
        by (Show name) leaves = is
        by Tables leaves = is
        by Begin leaves = absurd (false≢true leaves)
        by Commit leaves = absurd (false≢true leaves)
        by Rollback leaves = absurd (false≢true leaves)
        by (SetSavepoint other) leaves = further_kept other state.rows state.saved (not_true (same_name name other) leaves) ∙ is
        by (RollbackTo other) leaves = absurd (false≢true leaves)

    stays_by_all : (commands : List Command) (state : State) → list_all (leaves_savepoint name) commands ≡ true → kept_back state.saved ≡ Some at
        → kept_back (after_all commands state).saved ≡ Some at
    stays_by_all [] state leave is = is
    stays_by_all (command ∷ commands) state leave is =
        let each = and_parts (leaves_savepoint name command) (list_all (leaves_savepoint name) commands) leave in
        stays_by_all commands (step command state).state each.1 (stays_by_step command state each.0 is)

    module _ (savepoint : Savepoint) (earlier : List Savepoint) (latest : at.savepoints ≡ savepoint ∷ earlier) where
      savepoints_kept : (saved : Option Saved) → kept_back saved ≡ Some at
          → back_to name (option_map_or (λ (saved : Saved). saved.savepoints) saved []) ≡ savepoint ∷ earlier
      savepoints_kept None is = absurd (cc)
      savepoints_kept (Some saved) is = ap (λ (kept : Option Saved). option_map_or (λ (s : Saved). s.savepoints) kept []) is ∙ latest

      open_kept : (saved : Option Saved) → kept_back saved ≡ Some at → is_some saved ≡ true
      open_kept None is = absurd (cc)
      open_kept (Some saved) is = refl

      -- nothing refuses the rollback to it ..
      none_due : (state : State) → kept_back state.saved ≡ Some at → first_refusal (conditions (RollbackTo name) state) ≡ None
      none_due state is =
          ap (λ b. cond (not b) (Some NoTransaction) (cond (lacks_savepoint name state) (Some NoSuchSavepoint) None)) (open_kept state.saved is)
          ∙ ap (λ b. cond (not b) (Some NoSuchSavepoint) None) (has_name (savepoints_of state) savepoint earlier (savepoints_kept state.saved is))

      -- .. and its rows are restored
      back_at : (state : State) → kept_back state.saved ≡ Some at
          → after_rollback_to name state ≡ record state { rows = savepoint.rows; saved = Some at }
      back_at state is = λ i. record state { rows = rows_at_latest (savepoints_kept state.saved is i) state.rows; saved = is i }

module _ (name : List ℕ) (state : State) (due : first_refusal (conditions (SetSavepoint name) state) ≡ None) where
  old : (kept : Saved) × (state.saved ≡ Some kept)
  old =
      open_saved state.saved
      (not_false (has_transaction state)
      (first_none (not (has_transaction state)) NoTransaction (cond (not (nat_lt (length (savepoints_of state)) max_savepoints)) (Some TooMany) None) due))

  -- the saved rows with the savepoint
  at_savepoint : Saved
  at_savepoint = record old.0 { savepoints = record { name = name; rows = state.rows } ∷ old.0.savepoints }

  made : (step (SetSavepoint name) state).state ≡ after_savepoint name state
  made = ap (λ (o : Outcome). o.state) (step-done (SetSavepoint name) state due)

  saved_there : (step (SetSavepoint name) state).state.saved ≡ Some at_savepoint
  unfolding at_savepoint
  saved_there =
      ap (λ (s : State). s.saved) made
      ∙ ap (λ saved. option_map (λ (saved : Saved). record saved { savepoints = record { name = name; rows = state.rows } ∷ saved.savepoints }) saved) old.1

  first_kept : kept_back name (step (SetSavepoint name) state).state.saved ≡ Some at_savepoint
  unfolding at_savepoint
  first_kept =
      ap (kept_back name) saved_there
      ∙ (λ i. Some (record at_savepoint {
        savepoints = back_to_first name (record { name = name; rows = state.rows }) old.0.savepoints (same_name_refl name) i;
      }))

  module _ (commands : List Command) (leave : list_all (leaves_savepoint name) commands ≡ true) where
    behind : State
    behind = after_all commands (step (SetSavepoint name) state).state

    still : kept_back name behind.saved ≡ Some at_savepoint
    unfolding behind
    still = stays_by_all name at_savepoint commands (step (SetSavepoint name) state).state leave first_kept

    -- ROLLBACK TO restores the rows at the savepoint, keeps it, and drops the later ones.
    pub back_at_savepoint : after_all (SetSavepoint name ∷ commands ++ RollbackTo name ∷ []) state
        ≡ record (after_all (SetSavepoint name ∷ commands) state) { rows = state.rows; saved = (step (SetSavepoint name) state).state.saved }
    unfolding behind at_savepoint
    back_at_savepoint =
        after_both commands (RollbackTo name ∷ []) (step (SetSavepoint name) state).state
        ∙ ap (λ (o : Outcome). o.state)
        (step-done (RollbackTo name) behind (none_due name at_savepoint (record { name = name; rows = state.rows }) old.0.savepoints refl behind still))
        ∙ back_at name at_savepoint (record { name = name; rows = state.rows }) old.0.savepoints refl behind still
        ∙ (λ i. record behind { rows = state.rows; saved = sym saved_there i })

-- ---- commands with saved rows

-- the outcome with these rows saved
abbrev saving : Option Saved → Outcome → Outcome
saving saved outcome = record { reply = outcome.reply; state = record outcome.state { saved = saved } }

saving_outcome : (saved : Option Saved) (due : Option Refusal) (state : State) (done : Outcome)
    → unless_refused due (record state { saved = saved }) (saving saved done) ≡ saving saved (unless_refused due state done)
saving_outcome saved (Some refusal) state done = refl
saving_outcome saved None state done = refl

-- A command that is done alike in a transaction and outside one does not depend on the saved rows.
pub step_beside : (saved : Option Saved) (command : Command) (state : State) → is_done_alike command ≡ true
    → step command (record state { saved = saved }) ≡ saving saved (step command state)
step_beside saved command state free = by command free
  where
    beside : (c : Command) → conditions c (record state { saved = saved }) ≡ conditions c state
        → reply_to c (record state { saved = saved }) ≡ reply_to c state
        → state_after c (record state { saved = saved }) ≡ record (state_after c state) { saved = saved }
        → step c (record state { saved = saved }) ≡ saving saved (step c state)
    beside c same_conditions same_reply same_state =
        (λ i. unless_refused (first_refusal (same_conditions i)) (record state { saved = saved }) (record { reply = same_reply i; state = same_state i }))
        ∙ saving_outcome saved (first_refusal (conditions c state)) state (record { reply = reply_to c state; state = state_after c state })

    -- a transaction refuses no change of an index
    neither : (is_open other : Bool) → (is_open && false) ≡ (other && false)
    neither true true = refl
    neither true false = refl
    neither false true = refl
    neither false false = refl

    by : (c : Command) → is_done_alike c ≡ true → step c (record state { saved = saved }) ≡ saving saved (step c state)
    by Nothing free = refl
    by (Define (define.Table definition)) free = absurd (false≢true free)
    by (Define (define.DropTable name)) free = absurd (false≢true free)
    by (Define (define.Index index)) free =
        beside (Define (define.Index index))
        (λ i. record { holds = neither (is_some saved) (has_transaction state) i; refusal = NotInTransaction } ∷ index_conditions index state.schema) refl refl
    by (Define (define.DropIndex name)) free =
        beside (Define (define.DropIndex name))
        (λ i. record { holds = neither (is_some saved) (has_transaction state) i; refusal = NotInTransaction } ∷ drop_index_conditions name state.schema) refl
        refl
    by (Define (define.Watch watched)) free = absurd (false≢true free)
    by (Define (define.Unwatch name)) free = absurd (false≢true free)
    by (Change (Insert table tuples)) free = beside (Change (Insert table tuples)) refl refl refl
    by (Change (Update table assignments tests)) free = beside (Change (Update table assignments tests)) refl refl refl
    by (Change (Delete table tests)) free = beside (Change (Delete table tests)) refl refl refl
    by (Scan table) free = beside (Scan table) refl refl refl
    by (ScanIndex index) free = beside (ScanIndex index) refl refl refl
    by (Select query) free = beside (Select query) refl refl refl
    by (Explain query) free = beside (Explain query) refl refl refl
    by (Show name) free = beside (Show name) refl refl refl
    by Tables free = refl
    by Begin free = absurd (false≢true free)
    by Commit free = absurd (false≢true free)
    by Rollback free = absurd (false≢true free)
    by (SetSavepoint name) free = absurd (false≢true free)
    by (RollbackTo name) free = absurd (false≢true free)

pub reply_beside : (command : Command) (state : State) (saved : Option Saved) → is_done_alike command ≡ true
    → (step command (record state { saved = saved })).reply ≡ (step command state).reply
reply_beside command state saved free = ap (λ (o : Outcome). o.reply) (step_beside saved command state free)

pub all_beside : (commands : List Command) (state : State) (saved : Option Saved) → list_all is_done_alike commands ≡ true
    → after_all commands (record state { saved = saved }) ≡ record (after_all commands state) { saved = saved }
all_beside [] state saved free = refl
all_beside (command ∷ commands) state saved free =
    let each = and_parts (is_done_alike command) (list_all is_done_alike commands) free in
    ap (λ (o : Outcome). after_all commands o.state) (step_beside saved command state each.0)
    ∙ all_beside commands (step command state).state saved each.1
