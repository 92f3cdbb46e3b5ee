-- The rows of lines and of runs, and their columns.
use Rattle.std.proofs.Common.{◌≡◌, ℕ, Bool, true, false, ◌&&◌, cond, ltb, List, Option, Some, None, Result, Ok, Err, IsTrue, inl, inr, ⊎_elim}
use Rattle.std.proofs.Common.{length, refl, sym, ap, subst, ◌∙◌}
use Rattle.std.specs.Prelude.{◌⊎◌}
use Rattle.std.specs.List.{All}
use Rattle.mm_value.specs.declared.refusal.Refusal.{Refusal}
use Rattle.mm_value.specs.declared.refusal.Refusal.TheVariants.{LineTooLong, Memory}
use Rattle.mm_value.specs.declared.values.Value.{Value}
use Rattle.mm_schema.specs.declared.column.Column.{Column}
use Rattle.mm_query.specs.Machine.{Outcome, refused_outcome}
use Rattle.mm_query.specs.State.{State}
use Rattle.mm_query.specs.declared.command.Command.{Command}
use Rattle.mm_query.specs.declared.command.Command.TheVariants as command
use Rattle.mm_query.specs.declared.reply.Reply.{Reply}
use Rattle.mm_query.specs.declared.reply.Reply.TheVariants.{Refused, Rows}
use Rattle.mm_lang.specs.Answering.{outcome_of}
use Rattle.mm_lang.specs.Grammar.{command_of}
use Rattle.mm_lang.specs.Reading.{command_takes_memory, is_nothing, read_as, reading, takes_memory}
use Rattle.mm_lang.specs.Templates.{holes_of, template_of}
use Rattle.mm_lang.specs.Tokens.{has_hole, tokens}
use Rattle.mm_statement.specs.Filling.{IsFilling, blank}
use Rattle.mm_session.proofs.ColumnTypes.{HasTypesOf, reply_typed}
use Rattle.mm_session.proofs.LineReadings.{nothing_plain}
use Rattle.mm_session.proofs.ReachedStates.{IsSound}
use Rattle.mm_session.specs.Columns.{AreColumnsOf, columns_of}
use Rattle.mm_session.specs.Session.{SessionState, AnswersLine, RunsAt, outcome_in}
use Rattle.mm_session.specs.Statements.{AreColumnsFound, LeadsFilled, line_at}

-- ---- columns by the shape of a command

blank_columns : (own : Command) (state : State) → columns_of (blank own) state ≡ columns_of own state
blank_columns command.Nothing state = refl
blank_columns (command.Define definition) state = refl
blank_columns (command.Change mutation) state = refl
blank_columns (command.Scan table) state = refl
blank_columns (command.ScanIndex index) state = refl
blank_columns (command.Select query) state = refl
blank_columns (command.Explain query) state = refl
blank_columns (command.Show name) state = refl
blank_columns command.Tables state = refl
blank_columns command.Begin state = refl
blank_columns command.Commit state = refl
blank_columns command.Rollback state = refl
blank_columns (command.Savepoint name) state = refl
blank_columns (command.RollbackTo name) state = refl

-- Commands that differ only in their literals have the same columns.
columns_alike : (own filled : Command) (state : State) → blank filled ≡ blank own → columns_of filled state ≡ columns_of own state
columns_alike own filled state same =
    sym (blank_columns filled state) ∙ ap (λ (c : Command). columns_of c state) same ∙ blank_columns own state

-- ---- lines without holes

unholed_or_nothing : (is_long nothing holed : Bool) (spelled : Option Command) (own : Command)
    → cond is_long (Err LineTooLong) (cond nothing (Ok command.Nothing) (read_as (cond holed None spelled))) ≡ Ok own
    → (nothing ≡ true) ⊎ (holed ≡ false)
unholed_or_nothing true nothing holed spelled own e = absurd (cc)
unholed_or_nothing false true holed spelled own e = inl refl
unholed_or_nothing false false true spelled own e = absurd (cc)
unholed_or_nothing false false false spelled own e = inr refl

-- A line without holes reads as the same command if it may have holes.
reading_template : (line : List ℕ) (own : Command) → (has_hole (tokens line) ≡ false → template_of line ≡ reading line) → reading line ≡ Ok own
    → template_of line ≡ Ok own
unfolding reading
reading_template line own plain e =
    ⊎_elim
    (λ nothing. nothing_plain line nothing ∙ e)
    (λ unholed. plain unholed ∙ e)
    (unholed_or_nothing (ltb 4096 (length line)) (is_nothing line) (has_hole (tokens line)) (command_of (tokens line)) own e)

-- ---- rows

refused_rows : (refusal : Refusal) (rows : List (List Value)) → ◌≡◌ {A = Option Reply} (Some (Refused refusal)) (Some (Rows rows)) → ⊥
refused_rows refusal rows e = cc

module _ (state : State) (sound : IsSound state) (own : Command) (columns : List Column) (are : columns ≡ columns_of own state)
    (rows : List (List Value)) where
  -- A reply to a command that was read has rows of the types of the columns.
  read_rows : (read : Result Command Refusal) → ((filled : Command) → read ≡ Ok filled → columns_of filled state ≡ columns_of own state)
      → (outcome_of read state).reply ≡ Some (Rows rows) → All (HasTypesOf columns) rows
  read_rows (Ok filled) alike replied =
      subst (λ (cs : List Column). All (HasTypesOf cs) rows) (alike filled refl ∙ sym are)
      (reply_typed state sound.typed.rows sound.bound filled rows replied)
  read_rows (Err refusal) alike replied = absurd (refused_rows refusal rows replied)

pub line_rows : (line : List ℕ) (old new : SessionState) (columns : List Column) (rows : List (List Value)) → IsSound old.state
    → (has_hole (tokens line) ≡ false → template_of line ≡ reading line) → AreColumnsOf line old.state columns → AnswersLine line old new
    → new.reply ≡ Some (Rows rows) → All (HasTypesOf columns) rows
line_rows line old new columns rows sound plain are h is =
    by (h.choice && takes_memory line) (sym (ap (λ (o : Outcome). o.reply) h.outcome) ∙ is)
  where
    same : (own : Command) → reading line ≡ Ok own → columns_of own old.state ≡ columns_of are.0 old.state
    same own reads =
        let both : ◌≡◌ {A = Result Command Refusal} (Ok own) (Ok are.0) = sym (reading_template line own plain reads) ∙ are.1 in
        let equal : own ≡ are.0 = cc in
        ap (λ (c : Command). columns_of c old.state) equal

    by : (is_refused : Bool) → (cond is_refused (refused_outcome Memory old.state) (outcome_of (reading line) old.state)).reply ≡ Some (Rows rows)
        → All (HasTypesOf columns) rows
    by true replied = absurd (refused_rows Memory rows replied)
    by false replied = read_rows old.state sound are.0 columns are.2 rows (reading line) same replied

pub run_rows : (number : ℕ) (values : List Value) (old new : SessionState) (columns : List Column) (rows : List (List Value)) → IsSound old.state
    → AreColumnsFound (line_at number old.lines) old.state columns → RunsAt number values old new → new.reply ≡ Some (Rows rows)
    → All (HasTypesOf columns) rows
run_rows number values old new columns rows sound found h is =
    let runs = h.runs.runs in
    let line_same : h.runs.line ≡ found.0 =
    (let both : ◌≡◌ {A = Option (List ℕ)} (Some h.runs.line) (Some found.0) = sym h.runs.is ∙ found.1 in cc) in
    let reads : template_of h.runs.line ≡ Ok found.2.0 = ap template_of line_same ∙ found.2.1 in
    let own_same : runs.command ≡ found.2.0 =
    (let both : ◌≡◌ {A = Result Command Refusal} (Ok runs.command) (Ok found.2.0) = sym runs.read ∙ reads in cc) in
    let are : columns ≡ columns_of runs.command old.state = found.2.2 ∙ ap (λ (c : Command). columns_of c old.state) (sym own_same) in
    ⊎_elim
    (λ (l : LeadsFilled h.runs.line values runs.command old.state (outcome_in new)).
    read_rows old.state sound runs.command columns are rows l.0
    (λ filled reads. columns_alike runs.command filled old.state
    (subst (IsFilling (holes_of h.runs.line) values runs.command) reads l.1).0.same)
    (sym (ap (λ (o : Outcome). o.reply) l.2) ∙ is))
    (λ (m : (outcome_in new ≡ refused_outcome Memory old.state) × IsTrue (command_takes_memory runs.command)).
    absurd (refused_rows Memory rows (sym (ap (λ (o : Outcome). o.reply) m.0) ∙ is)))
    runs.leads
