-- The states that calls on a session lead to.
use Rattle.std.proofs.Common.{◌≡◌, ℕ, Bool, true, false, ◌&&◌, cond, List, [], ◌∷◌, ◌++◌, Option, Some, None, Result, Ok, Err, IsTrue, is_none}
use Rattle.std.proofs.Common.{inl, inr, ⊎_elim}
use Rattle.std.proofs.Common.{refl, sym, ap, subst, ◌∙◌}
use Rattle.std.proofs.lemmas.Bool.{cond-true}
use Rattle.mm_value.specs.declared.refusal.Refusal.{Refusal}
use Rattle.mm_value.specs.declared.refusal.Refusal.TheVariants.{Memory, Syntax}
use Rattle.mm_value.specs.declared.values.Value.{Value}
use Rattle.mm_schema.specs.Name.{is_name}
use Rattle.mm_schema.specs.Refused.{first_refusal}
use Rattle.mm_query.specs.Machine.{Outcome, conditions, refused_outcome, reply_to, state_after, step, unless_refused}
use Rattle.mm_query.specs.State.{State}
use Rattle.mm_query.specs.declared.command.Command.{Command}
use Rattle.mm_query.specs.declared.command.Command.TheVariants as command
use Rattle.mm_query.specs.declared.reply.Reply.TheVariants.{Refused}
use Rattle.mm_lang.specs.Answering.{outcome_of}
use Rattle.mm_lang.specs.Reading.{command_takes_memory, reading, takes_memory}
use Rattle.mm_lang.specs.Templates.{holes_of}
use Rattle.mm_statement.specs.Filling.{IsFilling}
use Rattle.mm_txn.specs.Releasing.{Call, after_call, after_calls, after_release}
use Rattle.mm_txn.specs.Releasing.Call.{Run as RunCommand, Release as ReleaseSavepoint}
use Rattle.mm_session.specs.Appending.{Appends, AppendsAt, insert_of}
use Rattle.mm_session.specs.Calls.{AreDoneBy, Asks, Does, IsDoneBy, LeadTo, SessionCall}
use Rattle.mm_session.specs.Calls.SessionCall.{Append, Execute, Prepare, Run, Explain, Finalize, Release}
use Rattle.mm_session.specs.Session.{SessionState, AnswersLine, ExplainsAt, ExplainsStatement, Finalizes, IsPrepared, Releases, ReleasesAt, RunsAt}
use Rattle.mm_session.specs.Session.{RunsStatement, outcome_in}
use Rattle.mm_session.specs.Statements.{LeadsFilled}
use Rattle.mm_session.specs.declared.column_array.ColumnArray.{ColumnArray}
use Rattle.mm_session.specs.declared.column_array.NotColumns.{NotColumns}
use Rattle.mm_session.specs.declared.misuse.Misuse.{Misuse}

-- ---- one call

-- The state after a call: its call on the database was made, or none.
abbrev pub Left : SessionCall → SessionState → State → Type 0
Left call old state = (own : List Call) × IsDoneBy call old own × (state ≡ after_calls own old.state)

module _ (call : SessionCall) (old : SessionState) (state : State) where
  nothing_done : state ≡ old.state → Left call old state
  nothing_done is = ([], inl refl, is)

  one_done : (asked : Call) → Asks call old.lines asked → state ≡ after_call asked old.state → Left call old state
  one_done asked asks is = (asked ∷ [], inr (asked, asks, refl), is)

  -- The command that was read was run, or its refusal changed nothing.
  read_done : (read : Result Command Refusal) → ((own : Command) → read ≡ Ok own → Asks call old.lines (RunCommand own))
      → state ≡ (outcome_of read old.state).state → Left call old state
  read_done (Ok own) asks is = one_done (RunCommand own) (asks own refl) is
  read_done (Err refusal) asks is = nothing_done is

state_of : (outcome other : Outcome) → outcome ≡ other → outcome.state ≡ other.state
state_of outcome other same = ap (λ (o : Outcome). o.state) same

line_left : (line : List ℕ) (old new : SessionState) → AnswersLine line old new → Left (Execute line) old new.state
line_left line old new h = by (h.choice && takes_memory line) (state_of (outcome_in new) _ h.outcome)
  where
    by : (is_refused : Bool) → new.state ≡ (cond is_refused (refused_outcome Memory old.state) (outcome_of (reading line) old.state)).state
        → Left (Execute line) old new.state
    by true is = nothing_done (Execute line) old new.state is
    by false is = read_done (Execute line) old new.state (reading line) (λ own reads. (own, reads, refl)) is

append_left : (table : List ℕ) (columns : List ColumnArray) (old new : SessionState) → AppendsAt table columns old new
    → Left (Append table columns) old new.state
append_left table columns old new h =
    ⊎_elim
    (λ (step : outcome_in new ≡ outcome_of (insert_of table columns) old.state).
    read_done (Append table columns) old new.state (insert_of table columns) (λ own is. (own, is, refl))
    (state_of (outcome_in new) (outcome_of (insert_of table columns) old.state) step))
    (λ (memory : outcome_in new ≡ refused_outcome Memory old.state).
    nothing_done (Append table columns) old new.state (state_of (outcome_in new) (refused_outcome Memory old.state) memory))
    h.appends

run_left : (number : ℕ) (values : List Value) (old new : SessionState) → RunsAt number values old new → Left (Run number values) old new.state
run_left number values old new h =
    let found = h.runs in
    let runs = found.runs in
    ⊎_elim
    (λ (l : LeadsFilled found.line values runs.command old.state (outcome_in new)).
    read_done (Run number values) old new.state l.0
    (λ own is. record {
      line = found.line;
      is = found.is;
      template = runs.command;
      read = runs.read;
      filled = own;
      fills = subst (IsFilling (holes_of found.line) values runs.command) is l.1;
      same = refl;
    })
    (state_of (outcome_in new) (outcome_of l.0 old.state) l.2))
    (λ (m : (outcome_in new ≡ refused_outcome Memory old.state) × IsTrue (command_takes_memory runs.command)).
    nothing_done (Run number values) old new.state (state_of (outcome_in new) (refused_outcome Memory old.state) m.0))
    runs.leads

explain_left : (number : ℕ) (values : List Value) (old new : SessionState) → ExplainsAt number values old new
    → Left (Explain number values) old new.state
explain_left number values old new h =
    let found = h.explains in
    let explains = found.explains in
    ⊎_elim
    (λ (l : LeadsFilled found.line values (command.Explain explains.query) old.state (outcome_in new)).
    read_done (Explain number values) old new.state l.0
    (λ own is. record {
      line = found.line;
      is = found.is;
      template = explains.command;
      read = explains.read;
      query = explains.query;
      has = explains.asks;
      filled = own;
      fills = subst (IsFilling (holes_of found.line) values (command.Explain explains.query)) is l.1;
      same = refl;
    })
    (state_of (outcome_in new) (outcome_of l.0 old.state) l.2))
    (λ (m : outcome_in new ≡ refused_outcome Memory old.state).
    nothing_done (Explain number values) old new.state (state_of (outcome_in new) (refused_outcome Memory old.state) m))
    explains.leads

same_state : (old new : SessionState) → new ≡ old → new.state ≡ old.state
same_state old new is = ap (λ (s : SessionState). s.state) is

prepared_state : (line : List ℕ) (old new : SessionState) (result : Result ℕ Refusal) → IsPrepared line old new result → new.state ≡ old.state
prepared_state line old new (Ok number) h = h.state
prepared_state line old new (Err refusal) h = same_state old new h.0

finalized_state : (number : ℕ) (old new : SessionState) (result : Result (Unit {0}) Misuse) → Finalizes number old new result → new.state ≡ old.state
finalized_state number old new (Ok done) h = h.state
finalized_state number old new (Err misuse) h = same_state old new h.0

unrefused_name : (named : Bool) (due : Option Refusal) → cond named due (Some Syntax) ≡ None → (named ≡ true) × (due ≡ None)
unrefused_name true due none = (refl, none)
unrefused_name false due none = absurd (cc)

released_left : (name : List ℕ) (old new : SessionState) → ReleasesAt name old new → Left (Release name) old new.state
released_left name old new h =
    let parts = unrefused_name (is_name name) (first_refusal (conditions (command.RollbackTo name) old.state)) h.unrefused in
    one_done (Release name) old new.state (ReleaseSavepoint name) (parts.0, refl)
    (h.state ∙ sym (cond-true (is_none (first_refusal (conditions (command.RollbackTo name) old.state))) (after_release name old.state) old.state
    (ap is_none parts.1)))

release_left : (name : List ℕ) (old new : SessionState) (result : Result (Unit {0}) Refusal) → Releases name old new result
    → Left (Release name) old new.state
release_left name old new (Ok done) h = released_left name old new h
release_left name old new (Err refusal) h = nothing_done (Release name) old new.state (same_state old new h.0)

ran_left : (number : ℕ) (values : List Value) (old new : SessionState) (result : Result (Unit {0}) Misuse)
    → RunsStatement number values old new result → Left (Run number values) old new.state
ran_left number values old new (Ok done) h = run_left number values old new h
ran_left number values old new (Err misuse) h = nothing_done (Run number values) old new.state (same_state old new h.0)

explained_left : (number : ℕ) (values : List Value) (old new : SessionState) (result : Result (Unit {0}) Misuse)
    → ExplainsStatement number values old new result → Left (Explain number values) old new.state
explained_left number values old new (Ok done) h = explain_left number values old new h
explained_left number values old new (Err misuse) h = nothing_done (Explain number values) old new.state (same_state old new h.0)

appended_left : (table : List ℕ) (columns : List ColumnArray) (old new : SessionState) (result : Result (Unit {0}) NotColumns)
    → Appends table columns old new result → Left (Append table columns) old new.state
appended_left table columns old new (Ok done) h = append_left table columns old new h.1
appended_left table columns old new (Err fault) h = nothing_done (Append table columns) old new.state (same_state old new h.0)

call_left : (call : SessionCall) (old new : SessionState) → Does call old new → Left call old new.state
call_left (Execute line) old new h = line_left line old new h
call_left (Append table columns) old new h = appended_left table columns old new h.0 h.1
call_left (Prepare line) old new h = nothing_done (Prepare line) old new.state (prepared_state line old new h.0 h.1)
call_left (Run number values) old new h = ran_left number values old new h.0 h.1
call_left (Explain number values) old new h = explained_left number values old new h.0 h.1
call_left (Finalize number) old new h = nothing_done (Finalize number) old new.state (finalized_state number old new h.0 h.1)
call_left (Release name) old new h = release_left name old new h.0 h.1

-- ---- calls one after another

later_calls : (own later : List Call) (state : State) → after_calls (own ++ later) state ≡ after_calls later (after_calls own state)
later_calls [] later state = refl
later_calls (call ∷ own) later state = later_calls own later (after_call call state)

-- The state is the one after the calls on the database.
pub calls_left : (calls : List SessionCall) (old new : SessionState) → LeadTo calls old new
    → (done : List Call) × AreDoneBy calls old done new × (new.state ≡ after_calls done old.state)
calls_left [] old new is = ([], (refl, is), same_state old new is)
calls_left (call ∷ calls) old new h =
    let own = call_left call old h.0 h.1 in
    let later = calls_left calls h.0 new h.2 in (
      own.0 ++ later.0,
      (h.0, own.0, later.0, h.1, own.1, later.1, refl),
      later.2 ∙ ap (after_calls later.0) own.2 ∙ sym (later_calls own.0 later.0 old.state),
    )

-- ---- refusals

never_refused : (own : Command) (state : State) (refusal : Refusal) → reply_to own state ≡ Some (Refused refusal) → ⊥
never_refused command.Nothing state refusal is = cc
never_refused (command.Define definition) state refusal is = cc
never_refused (command.Change mutation) state refusal is = cc
never_refused (command.Scan table) state refusal is = cc
never_refused (command.ScanIndex index) state refusal is = cc
never_refused (command.Select query) state refusal is = cc
never_refused (command.Explain query) state refusal is = cc
never_refused (command.Show name) state refusal is = cc
never_refused command.Tables state refusal is = cc
never_refused command.Begin state refusal is = cc
never_refused command.Commit state refusal is = cc
never_refused command.Rollback state refusal is = cc
never_refused (command.Savepoint name) state refusal is = cc
never_refused (command.RollbackTo name) state refusal is = cc

-- A refused command leaves the state as it was, ..
refused_step : (own : Command) (state : State) (refusal : Refusal) → (step own state).reply ≡ Some (Refused refusal) → (step own state).state ≡ state
refused_step own state refusal = by (first_refusal (conditions own state))
  where
    by : (due : Option Refusal)
        → (unless_refused due state (record { reply = reply_to own state; state = state_after own state })).reply ≡ Some (Refused refusal)
        → (unless_refused due state (record { reply = reply_to own state; state = state_after own state })).state ≡ state
    by (Some first) is = refl
    by None is = absurd (never_refused own state refusal is)

refused_read : (read : Result Command Refusal) (state : State) (refusal : Refusal) → (outcome_of read state).reply ≡ Some (Refused refusal)
    → (outcome_of read state).state ≡ state
refused_read (Ok own) state refusal is = refused_step own state refusal is
refused_read (Err first) state refusal is = refl

-- .. and so does a refused line, ..
pub refused_line_stays : (line : List ℕ) (old new : SessionState) (refusal : Refusal) → AnswersLine line old new
    → new.reply ≡ Some (Refused refusal) → new.state ≡ old.state
refused_line_stays line old new refusal h is =
    by (h.choice && takes_memory line) (ap (λ (o : Outcome). o.reply) h.outcome) (state_of (outcome_in new) _ h.outcome)
  where
    by : (is_refused : Bool) → new.reply ≡ (cond is_refused (refused_outcome Memory old.state) (outcome_of (reading line) old.state)).reply
        → new.state ≡ (cond is_refused (refused_outcome Memory old.state) (outcome_of (reading line) old.state)).state → new.state ≡ old.state
    by true replied left = left
    by false replied left = left ∙ refused_read (reading line) old.state refusal (sym replied ∙ is)

-- .. a refused run, ..
pub refused_run_stays : (number : ℕ) (values : List Value) (old new : SessionState) (refusal : Refusal) → RunsAt number values old new
    → new.reply ≡ Some (Refused refusal) → new.state ≡ old.state
refused_run_stays number values old new refusal h is =
    let found = h.runs in
    let runs = found.runs in
    ⊎_elim
    (λ (l : LeadsFilled found.line values runs.command old.state (outcome_in new)).
    state_of (outcome_in new) (outcome_of l.0 old.state) l.2
    ∙ refused_read l.0 old.state refusal (sym (ap (λ (o : Outcome). o.reply) l.2) ∙ is))
    (λ (m : (outcome_in new ≡ refused_outcome Memory old.state) × IsTrue (command_takes_memory runs.command)).
    state_of (outcome_in new) (refused_outcome Memory old.state) m.0)
    runs.leads

-- .. and a refused append.
pub refused_append_stays : (table : List ℕ) (columns : List ColumnArray) (old new : SessionState) (refusal : Refusal)
    → AppendsAt table columns old new → new.reply ≡ Some (Refused refusal) → new.state ≡ old.state
refused_append_stays table columns old new refusal h is =
    ⊎_elim
    (λ (step : outcome_in new ≡ outcome_of (insert_of table columns) old.state).
    state_of (outcome_in new) (outcome_of (insert_of table columns) old.state) step
    ∙ refused_read (insert_of table columns) old.state refusal (sym (ap (λ (o : Outcome). o.reply) step) ∙ is))
    (λ (memory : outcome_in new ≡ refused_outcome Memory old.state).
    state_of (outcome_in new) (refused_outcome Memory old.state) memory)
    h.appends
