-- What remains consistent when a transaction begins, is divided and ends, and when rows are changed.
use Rattle.std.proofs.Common.{◌≡◌, ℕ, zero, suc, ◌≤◌, Bool, true, false, cond, Result, List, [], ◌∷◌, ◌++◌, Option, Some, None, length, take, slice_get, refl}
use Rattle.std.proofs.Common.{sym, ap, subst, ◌∙◌, ⊎_elim, arith}
use Rattle.std.specs.List.{All}
use Rattle.std.specs.Prelude.{IfSome}
use Rattle.std.proofs.lemmas.Bool.{cases_Bool, false≢true}
use Rattle.std.proofs.lemmas.List.Elements.{All-head, All-nil, All-tail}
use Rattle.mm_schema.specs.Instance.{Instance}
use Rattle.mm_schema.specs.Schema.{Schema}
use Rattle.mm_standing.specs.Queries.{RowsByPlace, StandingQuery}
use Rattle.mm_standing.specs.State.{Lists, count_at}
use Rattle.mm_store.specs.Marks.{KeepsMarks, mark_of, rows_at_mark}
use Rattle.mm_store.specs.Tables.{Tables}
use Rattle.mm_query.specs.Machine.{after_begin, after_rollback_to, after_savepoint, back_to, rows_at_latest}
use Rattle.mm_query.specs.State.{AreSavedRows, Saved, Savepoint, State}
use Rattle.mm_laws.proofs.Throughout.{gone_back, held_before, held_further}
use Rattle.mm_laws.specs.Typing.{AreTyped, IsTyped, ShiftsNumbers}
use Rattle.mm_value.specs.declared.refusal.Refusal.{Refusal}
use Rattle.mm_value.specs.declared.values.Value.{Value}
use Rattle.mm_txn.specs.Contents.{Holdings, Makes}
use Rattle.mm_plan.specs.Kept.{instance_of}
use Rattle.mm_txn.specs.Saved.{CanGoBack, GoesBack, IsConsistent, IsSaved, IsSettled, kept_state, saved_of, saved_rows}
use Rattle.mm_txn.specs.Marks.{Ascend}
use Rattle.mm_txn.specs.Listed.{queries_of}
use Rattle.mm_txn.specs.declared.savepoints.Mark.{Mark}
use Rattle.mm_txn.proofs.GoingBack.{back_marked, back_through, back_to_mark, empty_from_none, saved_same}
use Rattle.mm_txn.proofs.LatestMarks.{Ascend-take, IsLatest, back_is, latest_rows, mark_within, saved_push}

-- A property of the saved rows in a transaction, and of none outside it.
saved_open : (P : Instance → Type 0) (is_open : Bool) (saved : Saved) → is_open ≡ true → IfSome (cond is_open (Some saved) None) (AreSavedRows P)
    → AreSavedRows P saved
saved_open P is_open saved is held = subst (λ (b : Bool). IfSome (cond b (Some saved) None) (AreSavedRows P)) is held

-- Store and lists can be rolled back to each of some marks.
pub saved_at : (store : Tables) (lists : Lists) (marks : List Mark) (place : ℕ) (mark : Mark) → All (IsSaved store lists) marks
    → slice_get marks place ≡ Some mark → IsSaved store lists mark
saved_at store lists [] place mark all at = cc
saved_at store lists (m ∷ ms) zero mark all at =
    let same : m ≡ mark = cc in subst (IsSaved store lists) same (All-head (IsSaved store lists) m ms all)
saved_at store lists (m ∷ ms) (suc place) mark all at = saved_at store lists ms place mark (All-tail (IsSaved store lists) m ms all) at

-- Types of rows and of standing queries if the catalog is unchanged.
module _ (schema : Schema) (new : Holdings) (same : new.schema ≡ schema) where
  rows_typed : (rows : Instance) → AreTyped schema.tables rows → instance_of new.store.tables ≡ rows → AreTyped new.schema.tables (instance_of new.store.tables)
  rows_typed rows typed is =
      subst (λ (s : Schema). AreTyped s.tables (instance_of new.store.tables)) (sym same) (subst (AreTyped schema.tables) (sym is) typed)

  queries_typed : (queries : List StandingQuery) → All (ShiftsNumbers schema) (queries_of queries) → new.lists.queries ≡ queries
      → All (ShiftsNumbers new.schema) (queries_of new.lists.queries)
  queries_typed queries typed is =
      subst (λ (s : Schema). All (ShiftsNumbers s) (queries_of new.lists.queries)) (sym same)
      (subst (λ (qs : List StandingQuery). All (ShiftsNumbers schema) (queries_of qs)) (sym is) typed)

module _ (held : Holdings) (marks : List Mark) where
  abbrev schema : Schema
  schema = held.schema

  abbrev store : Tables
  store = held.store

  abbrev lists : Lists
  lists = held.lists

  -- The current rows can be restored later.
  module _ (now : GoesBack store lists (mark_of store) (length lists.log)) (rows : rows_at_mark (mark_of store) store ≡ instance_of store.tables) where
    -- BEGIN saves the current rows, and no savepoint.
    begins : IsConsistent held false marks → saved_of store marks ≡ record { at_begin = instance_of store.tables; savepoints = [] }
    begins was =
        let settled = was.settled refl in
        ap (saved_of store) settled.1
        ∙ ap (λ (r : Instance). record { at_begin = r; savepoints = [] }) (ap (λ n. rows_at_mark n store) (sym (ap length settled.0.edits)) ∙ rows)

    pub begun_state : IsConsistent held false marks → kept_state held true marks ≡ after_begin (kept_state held false marks)
    begun_state was = ap (λ (s : Saved). record (kept_state held false marks) { saved = Some s }) (begins was)

    pub begun : IsConsistent held false marks → IsConsistent held true marks
    begun was =
        let settled = was.settled refl in
        record {
          typed = record {
            rows = was.typed.rows;
            saved = subst (AreSavedRows (AreTyped schema.tables)) (sym (begins was))
                (record { at_begin = was.typed.rows; savepoints = All-nil (λ (s : Savepoint). AreTyped schema.tables s.rows) });
            queries = was.typed.queries;
          };
          back = λ e. record {
            saved = subst (GoesBack store lists 0) (ap length settled.0.log)
                (subst (λ (n : ℕ). GoesBack store lists n (length lists.log)) (ap length settled.0.edits) now);
            each = subst (All (IsSaved store lists)) (sym settled.1) (All-nil (IsSaved store lists));
            ascend = subst (λ (ms : List Mark). Ascend 0 0 ms (mark_of store) (length lists.log)) (sym settled.1) (omega arith, omega arith);
          };
          settled = λ e. absurd (false≢true (sym e));
        }

    -- A savepoint is one more to which the transaction can be rolled back, and its rows have their types.
    module _ (was : IsConsistent held true marks) (mark : Mark) (commands : mark.commands ≡ mark_of store) (changes : mark.changes ≡ length lists.log) where
      pub marked_state : kept_state held true (marks ++ mark ∷ []) ≡ after_savepoint mark.name (kept_state held true marks)
      marked_state =
          let then : rows_at_mark mark.commands store ≡ instance_of store.tables = ap (λ (n : ℕ). rows_at_mark n store) commands ∙ rows in
          ap (λ (ss : List Savepoint). record {
            schema = schema;
            rows = instance_of store.tables;
            queries = queries_of lists.queries;
            saved = Some (record { at_begin = rows_at_mark 0 store; savepoints = ss });
          }) (saved_push store marks mark
          ∙ ap (λ (r : Instance). record { name = mark.name; rows = r } ∷ (saved_of store marks).savepoints) then)

      pub marked : IsConsistent held true (marks ++ mark ∷ [])
      marked = record {
        typed = subst IsTyped (sym marked_state) (record {
          rows = was.typed.rows;
          saved = held_further (AreTyped schema.tables) mark.name (instance_of store.tables) (Some (saved_of store marks)) was.typed.rows was.typed.saved;
          queries = was.typed.queries;
        });
        back = λ e. back_marked store lists marks mark
            (subst (GoesBack store lists mark.commands) (sym changes)
            (subst (λ (n : ℕ). GoesBack store lists n (length lists.log)) (sym commands) now)) commands changes (was.back refl);
        settled = λ e. absurd (false≢true (sym e));
      }

  module _ (is_open : Bool) (was : IsConsistent held is_open marks) (new : Holdings) (same : new.schema ≡ schema)
      (queries : new.lists.queries ≡ lists.queries) (settled : IsSettled new.store new.lists) (none : List Mark) (no_marks : none ≡ []) where
    ended : AreTyped new.schema.tables (instance_of new.store.tables) → IsConsistent new false none
    ended typed = record {
      typed = record { rows = typed; saved = tt; queries = queries_typed schema new same lists.queries was.typed.queries queries };
      back = λ e. absurd (false≢true e);
      settled = λ e. (settled, no_marks);
    }

    -- Committed rows stay.
    pub settled_outside : instance_of new.store.tables ≡ instance_of store.tables → IsConsistent new false none
    settled_outside rows = ended (rows_typed schema new same (instance_of store.tables) was.typed.rows rows)

    -- Rows after a rollback are those that were saved.
    pub taken_back : is_open ≡ true → instance_of new.store.tables ≡ rows_at_mark 0 store → IsConsistent new false none
    taken_back is rows =
        ended (rows_typed schema new same (rows_at_mark 0 store)
        (saved_open (AreTyped schema.tables) is_open (saved_of store marks) is was.typed.saved).at_begin rows)

  -- A rollback to the latest savepoint with a name.
  module _ (was : IsConsistent held true marks) (new : Holdings) (same : new.schema ≡ schema) (queries : new.lists.queries ≡ lists.queries)
      (name : List ℕ) (place : ℕ) (latest : IsLatest name marks place) (mark : Mark) (there : slice_get marks place ≡ Some mark)
      (rows : instance_of new.store.tables ≡ rows_at_mark mark.commands store) (reached : mark_of new.store ≡ mark.commands)
      (keeps : (n : ℕ) → n ≤ mark.commands → KeepsMarks store new.store n)
      (counts : (n : ℕ) → n ≤ mark.changes → (list : ℕ) (row : List Value) → count_at n list row new.lists ≡ count_at n list row lists)
      (log : new.lists.log ≡ take mark.changes lists.log) where
    abbrev kept_marks : List Mark
    kept_marks = take (suc place) marks

    abbrev state : State
    state = kept_state held true marks

    saved_kept : saved_of new.store kept_marks ≡ saved_of store kept_marks
    saved_kept =
        saved_same store new.store mark.commands keeps mark.changes kept_marks
        (Ascend-take 0 0 marks (mark_of store) (length lists.log) place mark there (was.back refl).ascend)

    -- The rows are those at the savepoint, which remains, and so do earlier ones.
    pub back_at_mark : kept_state new true kept_marks ≡ after_rollback_to name state
    back_at_mark =
        let older : back_ss ≡ (saved_of store kept_marks).savepoints = back_is name store marks place latest in
        let rows_are : instance_of new.store.tables ≡ rows_then back_ss =
        rows ∙ (sym (latest_rows store marks place mark (instance_of store.tables) there) ∙ ap rows_then (sym older)) in
        λ i. record {
          schema = same i;
          rows = rows_are i;
          queries = queries_of (queries i);
          saved = Some ((saved_kept ∙ ap (λ (ss : List Savepoint). record { at_begin = rows_at_mark 0 store; savepoints = ss }) (sym older)) i);
        }
      where
        back_ss : List Savepoint
        back_ss = back_to name (saved_of store marks).savepoints

        rows_then : List Savepoint → Instance
        rows_then ss = rows_at_latest ss (instance_of store.tables)

    pub back_to_savepoint : IsConsistent new true kept_marks
    back_to_savepoint = record {
      typed = subst IsTyped (sym back_at_mark) (record {
        rows = gone_back (AreTyped schema.tables) name (instance_of store.tables) (Some (saved_of store marks)) was.typed.rows was.typed.saved;
        saved = held_before (AreTyped schema.tables) name (Some (saved_of store marks)) was.typed.saved;
        queries = was.typed.queries;
      });
      back = λ e.
          let within = mark_within 0 0 marks (mark_of store) (length lists.log) place mark there (was.back refl).ascend in
          back_to_mark store new.store lists new.lists marks place mark there (was.back refl) within.1 reached log queries keeps counts;
      settled = λ e. absurd (false≢true (sym e));
    }

  module _ (is_open : Bool) (was : IsConsistent held is_open marks) (new : Holdings) (same : new.schema ≡ schema)
      (rows : RowsByPlace) (result : Result Unit Refusal) (made : Makes rows store new.store lists new.lists result) where
    -- The saved rows stay the same, ..
    pub saved_through_change : saved_rows is_open new.store marks ≡ saved_rows is_open store marks
    saved_through_change =
        ⊎_elim
        (λ (is : is_open ≡ true).
        ap (λ (s : Saved). cond is_open (Some s) None)
        (saved_same store new.store (mark_of store) made.marks (length lists.log) marks (was.back is).ascend))
        (λ (closed : is_open ≡ false).
        ap (λ (b : Bool). cond b (Some (saved_of new.store marks)) None) closed
        ∙ sym (ap (λ (b : Bool). cond b (Some (saved_of store marks)) None) closed))
        (cases_Bool is_open)

    -- .. and can be restored.
    back_changed : is_open ≡ true → CanGoBack new.store new.lists marks
    back_changed is =
        let back = was.back is in
        back_through store new.store (mark_of store) made.marks lists new.lists made.queries (length lists.log) made.undone marks back.saved back.each
        back.ascend made.longer made.log_longer

    -- The queries and the saved rows keep their types.
    typed_beside : (last : Holdings) → last.schema ≡ schema → (now : Instance) → AreTyped schema.tables now
        → instance_of last.store.tables ≡ now → last.lists.queries ≡ lists.queries
        → saved_rows is_open last.store marks ≡ saved_rows is_open store marks → IsTyped (kept_state last is_open marks)
    typed_beside last schema_is now typed is queries saved = record {
      rows = rows_typed schema last schema_is now typed is;
      saved = subst (λ (s : Schema). IfSome (saved_rows is_open last.store marks) (AreSavedRows (AreTyped s.tables))) (sym schema_is)
          (subst (λ (rs : Option Saved). IfSome rs (AreSavedRows (AreTyped schema.tables))) (sym saved) was.typed.saved);
      queries = queries_typed schema last schema_is lists.queries was.typed.queries queries;
    }

    -- After a refused change everything is as before.
    pub refused : instance_of new.store.tables ≡ instance_of store.tables → mark_of new.store ≡ mark_of store → new.lists.log ≡ lists.log
        → IsConsistent new is_open marks
    refused stay kept log = record {
      typed = typed_beside new same (instance_of store.tables) was.typed.rows stay made.queries saved_through_change;
      back = back_changed;
      settled = λ closed.
          let settled = was.settled closed in
          (record { edits = empty_from_none new.store.stored.log (kept ∙ ap length settled.0.edits); log = log ∙ settled.0.log }, settled.1);
    }

    module _ (last : Holdings) (stays : is_open ≡ true → last ≡ new) where
      -- The saved rows are the same once a change outside a transaction is committed.
      pub saved_to_the_end : saved_rows is_open last.store marks ≡ saved_rows is_open store marks
      saved_to_the_end =
          ⊎_elim
          (λ (is : is_open ≡ true). ap (λ (h : Holdings). saved_rows is_open h.store marks) (stays is) ∙ saved_through_change)
          (λ (closed : is_open ≡ false).
          ap (λ (b : Bool). cond b (Some (saved_of last.store marks)) None) closed
          ∙ sym (ap (λ (b : Bool). cond b (Some (saved_of store marks)) None) closed))
          (cases_Bool is_open)

      -- A change can be undone in a transaction, and is final outside one.
      pub changed : AreTyped schema.tables (instance_of new.store.tables) → last.schema ≡ new.schema
          → instance_of last.store.tables ≡ instance_of new.store.tables → last.lists.queries ≡ new.lists.queries
          → (is_open ≡ false → IsSettled last.store last.lists) → IsConsistent last is_open marks
      changed typed last_same stay queries settled = record {
        typed = typed_beside last (last_same ∙ same) (instance_of new.store.tables) typed stay (queries ∙ made.queries) saved_to_the_end;
        back = λ is. subst (λ (h : Holdings). CanGoBack h.store h.lists marks) (sym (stays is)) (back_changed is);
        settled = λ closed. (settled closed, (was.settled closed).1);
      }
