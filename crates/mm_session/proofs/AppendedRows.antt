-- Appending rows: the outcomes of their INSERT, which are those of its line.
use Rattle.std.proofs.Common.{◌≡◌, ◌⊎◌, ℕ, ℤ, Bool, true, false, cond, List, [], ◌∷◌, Result, Ok, Err, IsTrue, inl, inr, ⊎_elim, map, refl, sym, ap}
use Rattle.std.proofs.Common.{subst, ◌∙◌}
use Rattle.mm_value.specs.declared.refusal.Refusal.{Refusal}
use Rattle.mm_value.specs.declared.refusal.Refusal.TheVariants.{LineTooLong, Memory, Syntax, TextTooLong}
use Rattle.mm_value.specs.declared.values.Value.{Value}
use Rattle.mm_value.specs.declared.values.Value.TheVariants.{Text}
use Rattle.mm_schema.specs.Name.{is_name}
use Rattle.mm_query.specs.Machine.{Outcome, refused_outcome}
use Rattle.mm_query.specs.State.{State}
use Rattle.mm_query.specs.declared.command.Command.{Command}
use Rattle.mm_lang.specs.Answering.{MayLeadTo, outcome_of}
use Rattle.mm_lang.specs.Reading.{command_takes_memory, reading, reading_takes_memory}
use Rattle.mm_reply.specs.Sinks.{defines}
use Rattle.mm_session.specs.Appending.{AppendsAt, AppendsRows, insert_of, insert_with}
use Rattle.mm_session.specs.ColumnArrays.{all_of, joined, row_at, rows_in, value_at, value_of}
use Rattle.mm_session.specs.Session.{AnswersLine, SessionState, outcome_in}
use Rattle.mm_session.specs.declared.column_array.ColumnArray.{ColumnArray}

-- ---- rows are not refused as a line that is too long

-- A result is no refusal of a line that is too long.
abbrev IsShort : {T : Type 0} → Result T Refusal → Type 0
IsShort result = result ≡ Err LineTooLong → ⊥

module _ {T : Type 0} where
  joined_short : (item : Result T Refusal) (items : Result (List T) Refusal) → IsShort item → IsShort items → IsShort (joined item items)
  joined_short (Err refusal) items first later e = first (let same : refusal ≡ LineTooLong = cc in ap (λ (r : Refusal). Err r) same)
  joined_short (Ok item) (Err refusal) first later e = later (let same : refusal ≡ LineTooLong = cc in ap (λ (r : Refusal). Err r) same)
  joined_short (Ok item) (Ok items) first later e = cc

  all_short : {X : Type 0} (read : X → Result T Refusal) → ((x : X) → IsShort (read x)) → (xs : List X) → IsShort (all_of (map read xs))
  all_short {X} read short [] e = cc
  all_short {X} read short (x ∷ xs) e = joined_short (read x) (all_of (map read xs)) (short x) (all_short read short xs) e

text_short : (long broken : Bool) (bytes : List ℕ) → IsShort {T = Value} (cond long (Err TextTooLong) (cond broken (Err Syntax) (Ok (Text bytes))))
text_short true broken bytes e = cc
text_short false true bytes e = cc
text_short false false bytes e = cc

value_short : (numbers : List ℤ) (offsets bytes : List ℕ) (at : ℕ) → IsShort (value_of numbers offsets bytes at)
value_short numbers [] bytes at e = cc
value_short numbers (first ∷ offsets) bytes at e = text_short _ _ _ e

rows_short : (columns : List ColumnArray) → IsShort (rows_in columns)
rows_short columns e =
    all_short (row_at columns)
    (λ at. all_short (λ (column : ColumnArray). value_at column at) (λ column. value_short column.numbers.now column.offsets.now column.bytes.now at) columns)
    _ e

insert_takes : (table : List ℕ) (named : Bool) (rows : Result (List (List Value)) Refusal) → IsShort rows
    → reading_takes_memory (cond named (insert_with table rows) (Err Syntax)) ≡ true
insert_takes table true (Ok rows) short = refl
insert_takes table true (Err LineTooLong) short = absurd (short refl)
insert_takes table true (Err refusal) short = refl
insert_takes table false rows short = refl

-- ---- the line

pub append_answers : (table line : List ℕ) (columns : List ColumnArray) (old new : SessionState) → reading line ≡ insert_of table columns
    → AppendsAt table columns old new → AnswersLine line old new
append_answers table line columns old new reads h =
    ⊎_elim
    (λ (step : outcome_in new ≡ outcome_of (insert_of table columns) old.state). record {
      choice = false;
      outcome = step ∙ ap (λ (r : Result Command Refusal). outcome_of r old.state) (sym reads);
      lines = h.lines;
      changes = h.changes;
    })
    (λ (memory : outcome_in new ≡ refused_outcome Memory old.state). record {
      choice = true;
      outcome = memory ∙ ap (λ (takes : Bool). cond takes (refused_outcome Memory old.state) (outcome_of (reading line) old.state))
          (sym (ap reading_takes_memory reads ∙ insert_takes table (is_name table) (rows_in columns) (rows_short columns)));
      lines = h.lines;
      changes = h.changes;
    })
    h.appends

-- ---- the outcome

module _ (table : List ℕ) (columns : List ColumnArray) (read : Result Command Refusal)
    (reads : (read ≡ insert_of table columns) ⊎ (read ≡ Err Memory)) where
  pub appends_read : (before : State) (outcome : Outcome) → MayLeadTo read before outcome → AppendsRows table columns before outcome
  appends_read before outcome leads = ⊎_elim (λ is. by read is leads) (λ is. inr (memory read is leads)) reads
    where
      by : (own : Result Command Refusal) → own ≡ insert_of table columns → MayLeadTo own before outcome → AppendsRows table columns before outcome
      by (Ok command) is leads =
          ⊎_elim
          (λ (step : outcome ≡ outcome_of (Ok command) before). inl (step ∙ ap (λ (r : Result Command Refusal). outcome_of r before) is))
          (λ (h : (outcome ≡ refused_outcome Memory before) × IsTrue (command_takes_memory command)). inr h.0)
          leads
      by (Err refusal) is refused = inl (refused ∙ ap (λ (r : Result Command Refusal). outcome_of r before) is)

      memory : (own : Result Command Refusal) → own ≡ Err Memory → MayLeadTo own before outcome → outcome ≡ refused_outcome Memory before
      memory own is leads = subst (λ (r : Result Command Refusal). MayLeadTo r before outcome) is leads

  -- No definition was read.
  pub insert_defines : defines read ≡ false
  insert_defines =
      ⊎_elim (λ is. ap defines is ∙ by (is_name table) (rows_in columns)) (λ (is : read ≡ Err Memory). ap defines is) reads
    where
      by : (named : Bool) (rows : Result (List (List Value)) Refusal) → defines (cond named (insert_with table rows) (Err Syntax)) ≡ false
      by true (Ok rows) = refl
      by true (Err refusal) = refl
      by false rows = refl
