-- The release of a savepoint as a step of the machine: the marks before the latest one with a name remain.
use Rattle.std.proofs.Common.{◌≡◌, ℕ, suc, zero, true, List, [], ◌∷◌, Option, Some, None, drop, length, map, reverse, take}
use Rattle.std.proofs.Common.{refl, sym, ap, subst, ◌∙◌}
use mathlib.Core.List.{reverse-cons}
use Rattle.std.specs.List.{All}
use Rattle.std.specs.Prelude.{IfSome}
use Rattle.std.proofs.lemmas.Bool.{false≢true}
use Rattle.std.proofs.lemmas.List.Elements.{All-nil, All-pop, All-push, All-tail, All-take}
use Rattle.mm_schema.specs.Instance.{Instance}
use Rattle.mm_schema.specs.Schema.{Schema}
use Rattle.mm_laws.proofs.Throughout.{held_before}
use Rattle.mm_laws.specs.Typing.{AreTyped, IsTyped}
use Rattle.mm_query.specs.Machine.{back_to}
use Rattle.mm_query.specs.State.{AreSavedRows, Saved, Savepoint, State}
use Rattle.mm_store.specs.Marks.{mark_of}
use Rattle.mm_store.specs.Tables.{Tables}
use Rattle.mm_plan.specs.Kept.{instance_of}
use Rattle.mm_txn.specs.Contents.{Holdings}
use Rattle.mm_txn.specs.Listed.{queries_of}
use Rattle.mm_txn.specs.Marks.{Ascend}
use Rattle.mm_txn.specs.Releasing.{after_release}
use Rattle.mm_txn.specs.Saved.{IsConsistent, IsSaved, kept_state, saved_of, savepoint_at}
use Rattle.mm_txn.specs.declared.savepoints.Mark.{Mark}
use Rattle.mm_txn.proofs.DatabaseSteps.{some_there}
use Rattle.mm_txn.proofs.LatestMarks.{IsLatest, back_is, bounds, latest_within, saved_push, take_last}
use Rattle.mm_txn.proofs.ReleaseLaws.{released}

-- ---- saved rows

-- A property of all saved rows still holds after a release.
pub held_by_release : (P : Instance → Type 0) (name : List ℕ) (saved : Option Saved) → IfSome saved (AreSavedRows P)
    → IfSome (released name saved) (AreSavedRows P)
held_by_release P name None held = tt
held_by_release P name (Some saved) held =
    let before = held_before P name (Some saved) held in
    record { at_begin = before.at_begin; savepoints = fewer (back_to name saved.savepoints) before.savepoints }
  where
    fewer : (savepoints : List Savepoint) → All (λ (s : Savepoint). P s.rows) savepoints → All (λ (s : Savepoint). P s.rows) (drop 1 savepoints)
    fewer [] all = all
    fewer (s ∷ ss) all = All-tail (λ (t : Savepoint). P t.rows) s ss all

pub typed_after_release : (name : List ℕ) (state : State) → IsTyped state → IsTyped (after_release name state)
typed_after_release name state typed = record {
  rows = typed.rows;
  saved = held_by_release (AreTyped state.schema.tables) name state.saved typed.saved;
  queries = typed.queries;
}

-- ---- marks

abbrev HaveTypes : Schema → Savepoint → Type 0
HaveTypes schema savepoint = AreTyped schema.tables savepoint.rows

fewer_typed : (schema : Schema) (store : Tables) (n : ℕ) (marks : List Mark)
    → All (HaveTypes schema) (saved_of store marks).savepoints → All (HaveTypes schema) (saved_of store (take n marks)).savepoints
fewer_typed schema store zero marks typed = All-nil (HaveTypes schema)
fewer_typed schema store (suc n) [] typed = All-nil (HaveTypes schema)
fewer_typed schema store (suc n) (m ∷ ms) typed =
    let first : Savepoint = savepoint_at store m in
    let parts = All-pop (HaveTypes schema) (saved_of store (m ∷ ms)).savepoints (saved_of store ms).savepoints (Some first)
    (reverse-cons first (map (savepoint_at store) ms)) typed in
    subst (All (HaveTypes schema)) (sym (reverse-cons first (map (savepoint_at store) (take n ms))))
    (All-push (HaveTypes schema) (saved_of store (take n ms)).savepoints first (fewer_typed schema store n ms parts.0) parts.1)

fewer_ascend : (c d : ℕ) (marks : List Mark) (C D : ℕ) (n : ℕ) → Ascend c d marks C D → Ascend c d (take n marks) C D
fewer_ascend c d marks C D zero ascend = bounds c d marks C D ascend
fewer_ascend c d [] C D (suc n) ascend = ascend
fewer_ascend c d (m ∷ ms) C D (suc n) ascend = (ascend.0, ascend.1, fewer_ascend m.commands m.changes ms C D n ascend.2)

module _ (held : Holdings) (marks : List Mark) where
  abbrev store : Tables
  store = held.store

  -- With fewer marks the database is still consistent.
  pub fewer_consistent : (n : ℕ) → IsConsistent held true marks → IsConsistent held true (take n marks)
  fewer_consistent n was = record {
    typed = record {
      rows = was.typed.rows;
      saved = record {
        at_begin = was.typed.saved.at_begin;
        savepoints = fewer_typed held.schema store n marks was.typed.saved.savepoints;
      };
      queries = was.typed.queries;
    };
    back = λ e.
        let back = was.back refl in
        record {
          saved = back.saved;
          each = All-take (IsSaved store held.lists) n marks back.each;
          ascend = fewer_ascend 0 0 marks (mark_of store) (length held.lists.log) n back.ascend;
        };
    settled = λ e. absurd (false≢true (sym e));
  }

  module _ (name : List ℕ) (place : ℕ) (latest : IsLatest name marks place) where
    -- The savepoints before the latest one with a name are those of the marks before its mark.
    earlier_marks : drop 1 (back_to name (saved_of store marks).savepoints) ≡ (saved_of store (take place marks)).savepoints
    earlier_marks =
        let own = some_there marks place (latest_within name marks place latest) in
        ap (drop 1) (back_is name store marks place latest
        ∙ (ap (λ (ms : List Mark). reverse (map (savepoint_at store) ms)) (take_last marks place own.0 own.1)
        ∙ saved_push store (take place marks) own.0))

    pub released_state : kept_state held true (take place marks) ≡ after_release name (kept_state held true marks)
    released_state = λ i. record {
      schema = held.schema;
      rows = instance_of store.tables;
      queries = queries_of held.lists.queries;
      saved = Some (record (saved_of store marks) { savepoints = sym earlier_marks i });
    }
