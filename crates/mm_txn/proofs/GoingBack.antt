-- What can be rolled back, through changes of rows, their undo, and savepoints.
use Rattle.std.proofs.Common.{◌≡◌, ℕ, zero, suc, ◌≤◌, List, [], ◌∷◌, ◌++◌, Some, drop, length, map, reverse, take, slice_get, refl, sym, ap, subst, ◌∙◌, arith}
use Rattle.std.specs.List.{All, AllByRecursion}
use Rattle.std.proofs.lemmas.List.{drop_all, length-take}
use Rattle.std.proofs.lemmas.List.Elements.{All-from_recursion, All-push, All-take, recursion_from_All}
use Rattle.mm_schema.specs.Instance.{Instance}
use Rattle.mm_standing.specs.State.{Lists, count_at}
use Rattle.mm_store.specs.Marks.{IsMark, KeepsMarks, mark_of, rows_at_mark}
use Rattle.mm_store.specs.Tables.{Tables}
use Rattle.mm_store.proofs.MarkLaws.{KeepsMarks-same}
use Rattle.mm_value.specs.declared.values.Value.{Value}
use Rattle.mm_plan.specs.Kept.{instance_of}
use Rattle.mm_txn.specs.Listed.{AreListed}
use Rattle.mm_txn.specs.Marks.{Ascend}
use Rattle.mm_txn.specs.Saved.{AreSaved, CanGoBack, GoesBack, IsSaved, KeepsLog, saved_of, savepoint_at}
use Rattle.mm_txn.specs.declared.savepoints.Mark.{Mark}
use Rattle.mm_txn.proofs.ListSteps.{saved_now, saved_through}
use Rattle.mm_txn.proofs.LatestMarks.{Ascend-longer, Ascend-push, Ascend-take, each_within}

-- No element of a prefix of a list is after it.
pub none_behind : {X : Type 0} (n : ℕ) (xs front : List X) → front ≡ take n xs → drop n front ≡ []
none_behind n xs front is = ap (drop n) is ∙ drop_taken n xs
  where
    drop_taken : {X : Type 0} (n : ℕ) (xs : List X) → drop n (take n xs) ≡ []
    drop_taken zero xs = refl
    drop_taken (suc n) [] = refl
    drop_taken (suc n) (x ∷ xs) = drop_taken n xs

-- A list of no length is empty.
pub empty_from_none : {X : Type 0} (xs : List X) → length xs ≡ 0 → xs ≡ []
empty_from_none [] none = refl
empty_from_none (x ∷ xs) none = absurd (omega (arith, none))

-- ---- older rows are kept

-- An unchanged store keeps its log.
pub KeepsLog-refl : (store : Tables) → KeepsLog store store
KeepsLog-refl store = record { log = refl; marks = KeepsMarks-same store }

-- All marks up to some lengths of the logs lead to the same rows.
module _ (store newer : Tables) (commands : ℕ) (keeps : (mark : ℕ) → mark ≤ commands → KeepsMarks store newer mark) where
  same_each : (changes : ℕ) (marks : List Mark) → AllByRecursion (λ (m : Mark). (m.commands ≤ commands) × (m.changes ≤ changes)) marks
      → map (savepoint_at newer) marks ≡ map (savepoint_at store) marks
  same_each changes [] within = refl
  same_each changes (m ∷ ms) within =
      λ i. record { name = m.name; rows = (keeps m.commands within.0.0).rows i } ∷ same_each changes ms within.1 i

  -- So the saved rows are the same.
  pub saved_same : (changes : ℕ) (marks : List Mark) → Ascend 0 0 marks commands changes → saved_of newer marks ≡ saved_of store marks
  saved_same changes marks ascend = λ i. record {
    at_begin = (keeps 0 (omega arith)).rows i;
    savepoints = reverse (same_each changes marks (each_within 0 0 marks commands changes ascend) i);
  }

  module _ (lists new : Lists) (queries : new.queries ≡ lists.queries) (changes : ℕ)
      (counts : (mark : ℕ) → mark ≤ changes → (list : ℕ) (row : List Value) → count_at mark list row new ≡ count_at mark list row lists) where
    goes_through : (c d : ℕ) → c ≤ commands → d ≤ changes → GoesBack store lists c d → GoesBack newer new c d
    goes_through c d before within back =
        let kept : KeepsMarks store newer c = keeps c before in
        record {
          mark = kept.kept back.mark;
          saved = saved_through d (rows_at_mark c store) (rows_at_mark c newer) lists new queries kept.rows back.saved (counts d within);
        }

    each_through : (marks : List Mark) → AllByRecursion (λ (m : Mark). (m.commands ≤ commands) × (m.changes ≤ changes)) marks
        → AllByRecursion (IsSaved store lists) marks → AllByRecursion (IsSaved newer new) marks
    each_through [] within saved = tt
    each_through (m ∷ ms) within saved = (goes_through m.commands m.changes within.0.0 within.0.1 saved.0, each_through ms within.1 saved.1)

    -- And store and lists can be rolled back to each mark.
    pub back_through : (marks : List Mark) → GoesBack store lists 0 0 → All (IsSaved store lists) marks → Ascend 0 0 marks commands changes
        → commands ≤ mark_of newer → changes ≤ length new.log → CanGoBack newer new marks
    back_through marks saved each ascend more longer = record {
      saved = goes_through 0 0 (omega arith) (omega arith) saved;
      each = All-from_recursion (IsSaved newer new) marks
          (each_through marks (each_within 0 0 marks commands changes ascend) (recursion_from_All (IsSaved store lists) marks each));
      ascend = Ascend-longer 0 0 marks commands changes (mark_of newer) (length new.log) more longer ascend;
    }

-- ---- SAVEPOINT and ROLLBACK TO

-- The current rows can be restored later.
pub back_to_now : (store : Tables) (lists : Lists) (mark : ℕ) → mark ≡ mark_of store → IsMark store mark → rows_at_mark mark store ≡ instance_of store.tables
    → AreListed (instance_of store.tables) lists → GoesBack store lists (mark_of store) (length lists.log)
back_to_now store lists mark now is rows listed =
    subst (λ (n : ℕ). GoesBack store lists n (length lists.log)) now (record {
      mark = is;
      saved = subst (λ (r : Instance). AreSaved (length lists.log) r lists) (sym rows)
          (saved_now (length lists.log) (instance_of store.tables) lists (drop_all (length lists.log) lists.log (omega arith)) listed);
    })

-- After setting a savepoint, a transaction can be rolled back to it, and to all earlier states.
pub back_marked : (store : Tables) (lists : Lists) (marks : List Mark) (mark : Mark) → IsSaved store lists mark → mark.commands ≡ mark_of store
    → mark.changes ≡ length lists.log → CanGoBack store lists marks → CanGoBack store lists (marks ++ mark ∷ [])
back_marked store lists marks mark now commands changes back = record {
  saved = back.saved;
  each = All-push (IsSaved store lists) marks mark back.each now;
  ascend = Ascend-push 0 0 marks (mark_of store) (length lists.log) mark commands changes back.ascend;
}

-- After a rollback to a mark, the transaction can be rolled back to it again, and to earlier marks.
pub back_to_mark : (store newer : Tables) (lists new : Lists) (marks : List Mark) (place : ℕ) (mark : Mark)
    → slice_get marks place ≡ Some mark → CanGoBack store lists marks → mark.changes ≤ length lists.log
    → mark_of newer ≡ mark.commands → new.log ≡ take mark.changes lists.log → new.queries ≡ lists.queries
    → ((n : ℕ) → n ≤ mark.commands → KeepsMarks store newer n)
    → ((n : ℕ) → n ≤ mark.changes → (list : ℕ) (row : List Value) → count_at n list row new ≡ count_at n list row lists)
    → CanGoBack newer new (take (suc place) marks)
back_to_mark store newer lists new marks place mark there back within reached log queries keeps counts =
    back_through store newer mark.commands keeps lists new queries mark.changes counts (take (suc place) marks) back.saved
    (All-take (IsSaved store lists) (suc place) marks back.each)
    (Ascend-take 0 0 marks (mark_of store) (length lists.log) place mark there back.ascend)
    (omega (arith, reached)) (omega (arith, length-take mark.changes lists.log, within, ap length log))
