-- Commands and releases lead to no other states than commands alone: the commands after a released SAVEPOINT can be executed without it.
use Rattle.std.proofs.Common.{◌≡◌, ◌||◌, ℕ, Bool, true, false, cond, if◌then◌else◌, not, List, [], ◌∷◌, ◌++◌, Option, Some, None, drop}
use Rattle.std.proofs.Common.{is_none, refl, sym, ap, subst, ◌∙◌}
use Rattle.std.specs.List.{list_any}
use Rattle.std.proofs.lemmas.Bool.{false≢true}
use Rattle.mm_schema.specs.Instance.{Instance}
use Rattle.mm_schema.specs.Name.{same_name}
use Rattle.mm_schema.specs.Refused.{first_refusal}
use Rattle.mm_schema.specs.Schema.{Schema}
use Rattle.mm_schema.proofs.References.{first_none}
use Rattle.mm_value.specs.declared.refusal.Refusal.{Refusal}
use Rattle.mm_value.specs.declared.refusal.Refusal.TheVariants.{NoSuchSavepoint, NotInTransaction}
use Rattle.mm_query.specs.Machine.{Outcome, after_all, after_change, after_definition, back_to, change_conditions, conditions, definition_conditions}
use Rattle.mm_query.specs.Machine.{is_of_index, rows_at_latest, state_after, step}
use Rattle.mm_query.specs.State.{Saved, Savepoint, State, first_state}
use Rattle.mm_query.specs.declared.bound_query.BoundQuery.{BoundQuery}
use Rattle.mm_query.specs.declared.command.Command.{Command}
use Rattle.mm_query.specs.declared.command.Command.TheVariants.{Nothing, Define, Change, Scan, ScanIndex, Select, Explain, Show, Tables, Begin, Commit}
use Rattle.mm_query.specs.declared.command.Command.TheVariants.{Rollback, Savepoint as SetSavepoint, RollbackTo}
use Rattle.mm_query.specs.declared.command.Definition.{Definition}
use Rattle.mm_query.specs.declared.command.Definition.TheVariants as define
use Rattle.mm_query.specs.declared.command.Mutation.{Mutation}
use Rattle.mm_query.specs.declared.command.Mutation.TheVariants.{Insert, Update, Delete}
use Rattle.mm_query.proofs.Due.{step-done}
use Rattle.mm_laws.proofs.Throughout.{kept_by_step, saved_by_definition}
use Rattle.mm_txn.specs.Releasing.{Call, after_call, after_calls, after_release}
use Rattle.mm_txn.specs.Releasing.Call.{Run, Release}
use Rattle.mm_txn.proofs.ReleaseLaws.{released}
use Rattle.mm_laws.proofs.StillFound.{not_false}
use Rattle.mm_schema.proofs.Dues.{none_here}
use Rattle.mm_laws.proofs.Transactions.{after_both}

-- Commands lead to the state.
abbrev pub IsReached : State → Type 0
IsReached state = (commands : List Command) × (after_all commands first_state ≡ state)

reached_by : (command : Command) (state : State) → first_refusal (conditions command state) ≡ None → IsReached state → IsReached (state_after command state)
reached_by command state due reached = (
  reached.0 ++ command ∷ [],
  after_both reached.0 (command ∷ []) first_state
      ∙ (ap (λ (s : State). (step command s).state) reached.1 ∙ ap (λ (o : Outcome). o.state) (step-done command state due)),
)

-- a state in a transaction
abbrev inside : Schema → List BoundQuery → Instance → Instance → List Savepoint → State
inside schema queries begin rows savepoints = record {
  schema = schema;
  rows = rows;
  queries = queries;
  saved = Some (record { at_begin = begin; savepoints = savepoints });
}

-- Commands also lead to the state with fewer savepoints, and to each state that ROLLBACK TO can restore there.
abbrev AreReached : Schema → List BoundQuery → Instance → Instance → List Savepoint → Type 0
AreReached schema queries begin rows [] = IsReached (inside schema queries begin rows [])
AreReached schema queries begin rows (savepoint ∷ earlier) =
    IsReached (inside schema queries begin rows (savepoint ∷ earlier))
    × AreReached schema queries begin rows earlier × AreReached schema queries begin savepoint.rows earlier

abbrev AllReached : State → Option Saved → Type 0
AllReached state None = IsReached (record state { saved = None })
AllReached state (Some saved) = AreReached state.schema state.queries saved.at_begin state.rows saved.savepoints

module _ (schema : Schema) (queries : List BoundQuery) (begin : Instance) where
  -- the state itself is one of them
  itself : (rows : Instance) (savepoints : List Savepoint) → AreReached schema queries begin rows savepoints
      → IsReached (inside schema queries begin rows savepoints)
  itself rows [] reached = reached
  itself rows (savepoint ∷ earlier) reached = reached.0

  module _ (name : List ℕ) (rows : Instance) where
    -- A release leaves fewer savepoints.
    reached_by_release : (savepoints : List Savepoint) → AreReached schema queries begin rows savepoints
        → AreReached schema queries begin rows (drop 1 (back_to name savepoints))
    reached_by_release [] reached = reached
    reached_by_release (s ∷ ss) reached = by (same_name name s.name) (reached_by_release ss reached.1)
      where
        by : (b : Bool) → AreReached schema queries begin rows (drop 1 (back_to name ss))
            → AreReached schema queries begin rows (drop 1 (if b then s ∷ ss else back_to name ss))
        by true behind = reached.1
        by false behind = behind

    -- ROLLBACK TO restores the rows of an existing savepoint.
    abbrev is_there : List Savepoint → Bool
    is_there savepoints = list_any (λ (s : Savepoint). same_name name s.name) savepoints

    reached_back : (savepoints : List Savepoint) → is_there savepoints ≡ true → IsReached (inside schema queries begin rows savepoints)
        → IsReached (inside schema queries begin (rows_at_latest (back_to name savepoints) rows) (back_to name savepoints))
    reached_back savepoints there reached =
        reached_by (RollbackTo name) (inside schema queries begin rows savepoints)
        (ap (λ (b : Bool). cond (not b) (Some NoSuchSavepoint) None) there) reached

    all_back : (savepoints : List Savepoint) → is_there savepoints ≡ true → AreReached schema queries begin rows savepoints
        → AreReached schema queries begin (rows_at_latest (back_to name savepoints) rows) (back_to name savepoints)
    all_back [] there reached = absurd (false≢true there)
    all_back (s ∷ ss) there reached =
        by (same_name name s.name) there (reached_back (s ∷ ss) there reached.0) (λ later. all_back ss later reached.1)
      where
        by : (b : Bool) → (b || is_there ss) ≡ true
            → IsReached (inside schema queries begin (rows_at_latest (if b then s ∷ ss else back_to name ss) rows) (if b then s ∷ ss else back_to name ss))
            → (is_there ss ≡ true → AreReached schema queries begin (rows_at_latest (back_to name ss) rows) (back_to name ss))
            → AreReached schema queries begin (rows_at_latest (if b then s ∷ ss else back_to name ss) rows) (if b then s ∷ ss else back_to name ss)
        by true named back behind = (back, reached.2, reached.2)
        by false named back behind = behind named

-- ---- changes of rows

-- A change does not depend on the saved rows.
due_beside : (mutation : Mutation) (state : State) (saved : Option Saved)
    → first_refusal (change_conditions mutation (record state { saved = saved })) ≡ first_refusal (change_conditions mutation state)
due_beside (Insert table tuples) state saved = refl
due_beside (Update table assignments tests) state saved = refl
due_beside (Delete table tests) state saved = refl

change_beside : (mutation : Mutation) (state : State) (saved : Option Saved)
    → after_change mutation (record state { saved = saved }) ≡ record (after_change mutation state) { saved = saved }
change_beside (Insert table tuples) state saved = refl
change_beside (Update table assignments tests) state saved = refl
change_beside (Delete table tests) state saved = refl

module _ (mutation : Mutation) (state : State) (due : first_refusal (change_conditions mutation state) ≡ None) (begin : Instance) where
  reached_changed : (ss : List Savepoint) → IsReached (inside state.schema state.queries begin state.rows ss)
      → IsReached (inside state.schema state.queries begin (after_change mutation state).rows ss)
  reached_changed ss is =
      subst IsReached (change_beside mutation state (Some (record { at_begin = begin; savepoints = ss })))
      (reached_by (Change mutation) (inside state.schema state.queries begin state.rows ss)
      (due_beside mutation state (Some (record { at_begin = begin; savepoints = ss })) ∙ due) is)

  reached_by_change : (ss : List Savepoint) → AreReached state.schema state.queries begin state.rows ss
      → AreReached state.schema state.queries begin (after_change mutation state).rows ss
  reached_by_change [] is = reached_changed [] is
  reached_by_change (s ∷ ss) is = (reached_changed (s ∷ ss) is.0, reached_by_change ss is.1, is.2)

-- ---- changes of the catalog

-- A change of an index does not depend on rows.
module _ (definition : Definition) (state : State) (begin : Instance) (of_index : is_of_index definition ≡ true)
    (due : first_refusal (definition_conditions definition state) ≡ None) where
  abbrev old : Instance → List Savepoint → State
  old rows ss = inside state.schema state.queries begin rows ss

  abbrev new : Instance → List Savepoint → State
  new rows ss = inside (after_definition definition state).schema (after_definition definition state).queries begin rows ss

  index_due : (rows : Instance) (ss : List Savepoint) → first_refusal (conditions (Define definition) (old rows ss)) ≡ None
  index_due rows ss = by definition of_index due
    where
      by : (d : Definition) → is_of_index d ≡ true → first_refusal (definition_conditions d state) ≡ None
          → first_refusal (conditions (Define d) (old rows ss)) ≡ None
      by (define.Table definition) is none = absurd (false≢true is)
      by (define.DropTable name) is none = absurd (false≢true is)
      by (define.Index index) is none = none
      by (define.DropIndex name) is none = none
      by (define.Watch watched) is none = absurd (false≢true is)
      by (define.Unwatch name) is none = absurd (false≢true is)

  index_beside : (rows : Instance) (ss : List Savepoint) → after_definition definition (old rows ss) ≡ new rows ss
  index_beside rows ss = by definition of_index
    where
      by : (d : Definition) → is_of_index d ≡ true
          → after_definition d (old rows ss) ≡ inside (after_definition d state).schema (after_definition d state).queries begin rows ss
      by (define.Table definition) is = absurd (false≢true is)
      by (define.DropTable name) is = absurd (false≢true is)
      by (define.Index index) is = refl
      by (define.DropIndex name) is = refl
      by (define.Watch watched) is = absurd (false≢true is)
      by (define.Unwatch name) is = absurd (false≢true is)

  reached_defined : (rows : Instance) (ss : List Savepoint) → IsReached (old rows ss) → IsReached (new rows ss)
  reached_defined rows ss is = subst IsReached (index_beside rows ss) (reached_by (Define definition) (old rows ss) (index_due rows ss) is)

  reached_by_index : (rows : Instance) (ss : List Savepoint) → AreReached state.schema state.queries begin rows ss
      → AreReached (after_definition definition state).schema (after_definition definition state).queries begin rows ss
  reached_by_index rows [] is = reached_defined rows [] is
  reached_by_index rows (s ∷ ss) is = (reached_defined rows (s ∷ ss) is.0, reached_by_index rows ss is.1, reached_by_index s.rows ss is.2)

-- Outside a transaction any change of the catalog is allowed, and nothing is saved after it.
rows_by_definition : (definition : Definition) (state : State) → is_of_index definition ≡ true → (after_definition definition state).rows ≡ state.rows
rows_by_definition (define.Table definition) state is = absurd (false≢true is)
rows_by_definition (define.DropTable name) state is = absurd (false≢true is)
rows_by_definition (define.Index index) state is = refl
rows_by_definition (define.DropIndex name) state is = refl
rows_by_definition (define.Watch watched) state is = absurd (false≢true is)
rows_by_definition (define.Unwatch name) state is = absurd (false≢true is)

all_by_definition : (definition : Definition) (state : State) (saved : Option Saved)
    → first_refusal (conditions (Define definition) (record state { saved = saved })) ≡ None → AllReached state saved
    → AllReached (after_definition definition (record state { saved = saved })) (after_definition definition (record state { saved = saved })).saved
all_by_definition definition state None due is =
    let new : State = after_definition definition (record state { saved = None }) in
    subst (AllReached new) (sym (saved_by_definition definition (record state { saved = None })))
    (subst IsReached (λ i. record new { saved = saved_by_definition definition (record state { saved = None }) i })
    (reached_by (Define definition) (record state { saved = None }) due is))
all_by_definition definition state (Some saved) due is =
    let old : State = record state { saved = Some saved } in
    let new : State = after_definition definition old in
    let later = none_here (not (is_of_index definition)) NotInTransaction (first_refusal (definition_conditions definition old)) due in
    let of_index : is_of_index definition ≡ true = not_false (is_of_index definition)
    (first_none (not (is_of_index definition)) NotInTransaction (first_refusal (definition_conditions definition old)) due) in
    subst (AllReached new) (sym (saved_by_definition definition old))
    (subst (λ (rows : Instance). AreReached new.schema new.queries saved.at_begin rows saved.savepoints) (sym (rows_by_definition definition old of_index))
    (reached_by_index definition old saved.at_begin of_index later state.rows saved.savepoints is))

-- ---- all commands and releases

all_by_command : (command : Command) (state : State) (saved : Option Saved)
    → first_refusal (conditions command (record state { saved = saved })) ≡ None → AllReached state saved
    → AllReached (state_after command (record state { saved = saved })) (state_after command (record state { saved = saved })).saved
all_by_command Nothing state saved due is = is
all_by_command (Define definition) state saved due is = all_by_definition definition state saved due is
all_by_command (Change mutation) state None due is = reached_by (Change mutation) (record state { saved = None }) due is
all_by_command (Change mutation) state (Some saved) due is =
    reached_by_change mutation (record state { saved = Some saved }) due saved.at_begin saved.savepoints is
all_by_command (Scan table) state saved due is = is
all_by_command (ScanIndex index) state saved due is = is
all_by_command (Select query) state saved due is = is
all_by_command (Explain query) state saved due is = is
all_by_command (Show name) state saved due is = is
all_by_command Tables state saved due is = is
all_by_command Begin state None due is = reached_by Begin (record state { saved = None }) due is
all_by_command Begin state (Some saved) due is = absurd (cc)
all_by_command Commit state None due is = absurd (cc)
all_by_command Commit state (Some saved) due is =
    reached_by Commit (record state { saved = Some saved }) due (itself state.schema state.queries saved.at_begin state.rows saved.savepoints is)
all_by_command Rollback state None due is = absurd (cc)
all_by_command Rollback state (Some saved) due is =
    reached_by Rollback (record state { saved = Some saved }) due (itself state.schema state.queries saved.at_begin state.rows saved.savepoints is)
all_by_command (SetSavepoint name) state None due is = absurd (cc)
all_by_command (SetSavepoint name) state (Some saved) due is = (
  reached_by (SetSavepoint name) (record state { saved = Some saved }) due
      (itself state.schema state.queries saved.at_begin state.rows saved.savepoints is),
  is,
  is,
)
all_by_command (RollbackTo name) state None due is = absurd (cc)
all_by_command (RollbackTo name) state (Some saved) due is =
    all_back state.schema state.queries saved.at_begin name state.rows saved.savepoints
    (not_false (list_any (λ (s : Savepoint). same_name name s.name) saved.savepoints)
    (first_none (not (list_any (λ (s : Savepoint). same_name name s.name) saved.savepoints)) NoSuchSavepoint None due)) is

abbrev Holds : State → Type 0
Holds state = AllReached state state.saved

all_by_release : (name : List ℕ) (state : State) (saved : Option Saved) → AllReached state saved → AllReached state (released name saved)
all_by_release name state None reached = reached
all_by_release name state (Some saved) reached =
    reached_by_release state.schema state.queries saved.at_begin name state.rows saved.savepoints reached

call_holds : (call : Call) (state : State) → Holds state → Holds (after_call call state)
call_holds (Run command) state is = kept_by_step Holds command state (λ due. all_by_command command state state.saved due is) is
call_holds (Release name) state is = by (is_none (first_refusal (conditions (RollbackTo name) state)))
  where
    by : (b : Bool) → Holds (if b then after_release name state else state)
    by true = all_by_release name state state.saved is
    by false = is

all_by_calls : (calls : List Call) (state : State) → Holds state → Holds (after_calls calls state)
all_by_calls [] state is = is
all_by_calls (call ∷ calls) state is = all_by_calls calls (after_call call state) (call_holds call state is)

-- Commands alone lead to each state that commands and releases lead to.
pub reached_by_calls : (calls : List Call) → (commands : List Command) × (after_calls calls first_state ≡ after_all commands first_state)
reached_by_calls calls =
    let last : State = after_calls calls first_state in
    let reached : IsReached last = all_itself last last.saved (all_by_calls calls first_state ([], refl)) in
    (reached.0, sym reached.1)
  where
    all_itself : (state : State) (saved : Option Saved) → AllReached state saved → IsReached (record state { saved = saved })
    all_itself state None reached = reached
    all_itself state (Some saved) reached = itself state.schema state.queries saved.at_begin state.rows saved.savepoints reached

-- A release is refused as ROLLBACK TO is.
pub released_where_granted : (name : List ℕ) (state : State) → first_refusal (conditions (RollbackTo name) state) ≡ None
    → after_call (Release name) state ≡ after_release name state
released_where_granted name state due = ap (λ (r : Option Refusal). if is_none r then after_release name state else state) due

pub kept_where_refused : (name : List ℕ) (refusal : Refusal) (state : State) → first_refusal (conditions (RollbackTo name) state) ≡ Some refusal
    → after_call (Release name) state ≡ state
kept_where_refused name refusal state due = ap (λ (r : Option Refusal). if is_none r then after_release name state else state) due
