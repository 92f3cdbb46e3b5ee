-- The capacity of links when a row is staged.
use Rattle.std.proofs.Common.{◌≡◌, ◌+◌, ◌≤◌, ℕ, List, [], ◌∷◌, ◌++◌, length, drop, sym, ap, ◌∙◌, arith}
use Rattle.mm_link.specs.declared.link.Link.{Link}
use Rattle.mm_tables.specs.Log.{before}
use Rattle.mm_tables.specs.Tables.{Stored, at_mark, back, extent_in, state_of}
use Rattle.mm_tables.specs.declared.log_record.LogRecord.{LogRecord}
use Rattle.mm_tables.specs.declared.logged_table.LoggedTable.{LoggedTable}
use Rattle.mm_base.specs.Joined.{HaveEntriesFor}
use Rattle.mm_base.proofs.Joining.{undone_all}

-- the undo of the newest records leads to the state before them
pub made_back : (old new : Stored) (es : List LogRecord) → new.log ≡ old.log ++ es
    → ((mark : ℕ) → mark ≤ length old.log → at_mark new mark ≡ at_mark old mark) → before back es (state_of new.tables) ≡ state_of old.tables
made_back old new es pushed marks =
    undone_all old.log es (state_of new.tables) (state_of old.tables)
    (ap (λ (rs : List LogRecord). before back (drop (length old.log) rs) (state_of new.tables)) (sym pushed) ∙ marks (length old.log) (omega arith))

pub staged_back : (old new : Stored) (e : LogRecord) → new.log ≡ old.log ++ e ∷ []
    → ((mark : ℕ) → mark ≤ length old.log → at_mark new mark ≡ at_mark old mark) → back e (state_of new.tables) ≡ state_of old.tables
staged_back old new e pushed marks = made_back old new (e ∷ []) pushed marks

module _ (old new : List LoggedTable) (links : List Link) (t : ℕ) where
  pub entries_here : extent_in new t ≤ extent_in old t + 1 → (n : ℕ) → HaveEntriesFor (n + 1) t old links → HaveEntriesFor n t new links
  entries_here more n have k d within =
      let was = have k d within in
      record { as_source = λ is. omega (arith, was.as_source is, more); as_target = λ is. omega (arith, was.as_target is, more) }

  pub entries_other : extent_in new t ≡ extent_in old t → (n : ℕ) → HaveEntriesFor n t old links → HaveEntriesFor n t new links
  entries_other same n have k d within =
      let was = have k d within in
      record { as_source = λ is. omega (arith, was.as_source is, same); as_target = λ is. omega (arith, was.as_target is, same) }
