-- Savepoints over several changes.
use Rattle.std.proofs.Common.{◌≡◌, ℕ, ◌≤◌, List, drop, refl, ap, ◌∙◌, arith}
use Rattle.std.proofs.lemmas.List.{drop_all}
use Rattle.mm_base.specs.Bases.{rows_now, rows_of_state}
use Rattle.mm_tables.specs.Log.{before}
use Rattle.mm_tables.specs.Tables.{back, keys_of, state_of}
use Rattle.mm_tables.specs.declared.log_record.LogRecord.{LogRecord}
use Rattle.mm_store.specs.Marks.{KeepsMarks, mark_of, rows_at_mark}
use Rattle.mm_store.specs.Tables.{Tables}

pub KeepsMarks-same : (store : Tables) (mark : ℕ) → KeepsMarks store store mark
KeepsMarks-same store mark = record { kept = λ is. is; rows = refl }

-- Two changes that keep a savepoint keep it one after another ..
pub KeepsMarks-then : (a b c : Tables) (mark : ℕ) → KeepsMarks a b mark → KeepsMarks b c mark → KeepsMarks a c mark
KeepsMarks-then a b c mark first second = record { kept = λ is. second.kept (first.kept is); rows = second.rows ∙ first.rows }

-- .. and so do two that keep all older savepoints, if the log after the first is no longer than the log before the second.
pub marks_then : (a b c : Tables) → mark_of a ≤ mark_of b → ((mark : ℕ) → mark ≤ mark_of a → KeepsMarks a b mark)
    → ((mark : ℕ) → mark ≤ mark_of b → KeepsMarks b c mark) → (mark : ℕ) → mark ≤ mark_of a → KeepsMarks a c mark
marks_then a b c longer first second mark within = KeepsMarks-then a b c mark (first mark within) (second mark (omega (arith, longer, within)))

-- If two stores have the same tables and the same log, what one keeps the other keeps.
pub KeepsMarks-stored : (old new : Tables) (mark : ℕ) → new.stored ≡ old.stored → KeepsMarks old new mark
KeepsMarks-stored old new mark same = record {
  kept = λ is. record { within = rw same is.within; lawful = rw same is.lawful };
  rows = ap (λ s. rows_of_state (keys_of s.tables) (before back (drop mark s.log) (state_of s.tables))) same;
}

-- The rows when the log ended here, or later, are the current ones.
pub rows_at_end : (store : Tables) (mark : ℕ) → mark_of store ≤ mark → rows_at_mark mark store ≡ rows_now store.stored
rows_at_end store mark past =
    ap (λ (log : List LogRecord). rows_of_state (keys_of store.stored.tables) (before back log (state_of store.stored.tables)))
    (drop_all mark store.stored.log past)
