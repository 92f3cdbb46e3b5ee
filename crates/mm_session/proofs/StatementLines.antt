-- A run of a statement has the effect of its line with the values in place of its holes.
use Rattle.std.proofs.Common.{◌≡◌, ◌≤◌, ℕ, Bool, true, false, cond, ltb, List, [], ◌∷◌, Option, Some, None, Result, Ok, Err, IsTrue, ⊎_elim}
use Rattle.std.proofs.Common.{length, refl, sym, ap, subst, ◌∙◌}
use Rattle.std.specs.List.{AllZip}
use Rattle.std.specs.Option.{option_or}
use Rattle.std.proofs.lemmas.Bool.{cond-true, le-ltb}
use Rattle.mm_value.specs.Literal.{Spells, is_within_limit}
use Rattle.mm_value.specs.declared.refusal.Refusal.{Refusal}
use Rattle.mm_value.specs.declared.refusal.Refusal.TheVariants.{LineTooLong, Memory}
use Rattle.mm_value.specs.declared.values.Value.{Value}
use Rattle.mm_value.specs.declared.values.Value.TheVariants.{Int, Text}
use Rattle.mm_query.specs.Machine.{refused_outcome}
use Rattle.mm_query.specs.declared.command.Command.{Command}
use Rattle.mm_query.specs.declared.command.Command.TheVariants.{Nothing}
use Rattle.mm_lang.specs.Answering.{outcome_of}
use Rattle.mm_lang.specs.Reading.{command_takes_memory, first_fault, is_nothing, literals_of, past_limit, plain_command, read_as, reading}
use Rattle.mm_lang.specs.Reading.{reading_takes_memory, takes_memory, unless}
use Rattle.mm_lang.specs.Templates.{holes_of, template_of}
use Rattle.mm_lang.specs.Tokens.{tokens}
use Rattle.mm_statement.specs.Filling.{IsFilling}
use Rattle.mm_statement.specs.Holes.{hole_count}
use Rattle.mm_statement.specs.Texts.{filled_line, keeps_signs}
use Rattle.mm_statement.proofs.TextFilled.{filled_line_only, filled_line_reads}
use Rattle.mm_session.proofs.LineReadings.{takes_alike}
use Rattle.mm_session.specs.Session.{SessionState, AnswersLine, RunsAt, outcome_in}
use Rattle.mm_session.specs.Statements.{LeadsFilled, Runs, line_at}

-- ---- a line of at most 4,096 bytes is not too long

one_fault : (within : Bool) (value : Value) (later : Option Refusal) → (later ≡ Some LineTooLong → ⊥)
    → option_or (cond within None (Some (past_limit value))) later ≡ Some LineTooLong → ⊥
one_fault true value later never e = never e
one_fault false (Int number) later never e = cc
one_fault false (Text text) later never e = cc

fault_not_long : (values : List Value) → first_fault values ≡ Some LineTooLong → ⊥
fault_not_long [] e = cc
fault_not_long (value ∷ values) e = one_fault (is_within_limit value) value (first_fault values) (fault_not_long values) e

read_not_long : (read : Option Command) → read_as read ≡ Err LineTooLong → ⊥
read_not_long None e = cc
read_not_long (Some own) e = by (first_fault (literals_of own)) (fault_not_long (literals_of own)) e
  where
    by : (fault : Option Refusal) → (fault ≡ Some LineTooLong → ⊥) → unless own fault ≡ Err LineTooLong → ⊥
    by None never e = cc
    by (Some refusal) never e = let same : refusal ≡ LineTooLong = cc in never (ap (λ (r : Refusal). Some r) same)

line_not_long : (is_long nothing : Bool) (read : Option Command) → is_long ≡ false
    → cond is_long (Err LineTooLong) (cond nothing (Ok Nothing) (read_as read)) ≡ Err LineTooLong → ⊥
line_not_long true nothing read short e = cc
line_not_long false true read short e = cc
line_not_long false false read short e = read_not_long read e

not_long : (line : List ℕ) → length line ≤ 4096 → reading line ≡ Err LineTooLong → ⊥
unfolding reading
not_long line short e =
    line_not_long (ltb 4096 (length line)) (is_nothing line) (plain_command (tokens line)) (le-ltb 4096 (length line) short) e

-- ---- the line of a statement

-- A line that reads as a command that allocates, if it reads as a command, allocates.
reading_takes : (line : List ℕ) → length line ≤ 4096 → ((own : Command) → reading line ≡ Ok own → command_takes_memory own ≡ true)
    → (read : Result Command Refusal) → reading line ≡ read → reading_takes_memory read ≡ true
reading_takes line short takes (Ok own) is = takes own is
reading_takes line short takes (Err LineTooLong) is = absurd (not_long line short is)
reading_takes line short takes (Err refusal) is = refl

-- The line of a statement has the effect of a run, with texts of the values in place of the holes.
answers_as : (number : ℕ) (line : List ℕ) (texts : List (List ℕ)) (values : List Value) (old new : SessionState) (h : RunsAt number values old new)
    → h.runs.line ≡ line → AllZip Spells texts values → keeps_signs (tokens line) texts ≡ true
    → length (filled_line line texts) ≤ 4096 → AnswersLine (filled_line line texts) old new
answers_as number line texts values old new h line_is stand keeps short =
    ⊎_elim
    (λ (l : LeadsFilled h.runs.line values runs.command old.state (outcome_in new)). record {
      choice = false;
      outcome = l.2 ∙ ap (λ (r : Result Command Refusal). outcome_of r old.state) (sym (filled_line_reads line texts values runs.command l.0 read stand
          count keeps short (subst (λ (bytes : List ℕ). IsFilling (holes_of bytes) values runs.command l.0) line_is l.1)));
      lines = h.lines;
      changes = h.changes;
    })
    (λ (m : (outcome_in new ≡ refused_outcome Memory old.state) × IsTrue (command_takes_memory runs.command)). record {
      choice = true;
      outcome = m.0 ∙ sym (cond-true (takes_memory written) (refused_outcome Memory old.state) (outcome_of (reading written) old.state) (takes m.1));
      lines = h.lines;
      changes = h.changes;
    })
    runs.leads
  where
    runs : Runs h.runs.line values old.state (outcome_in new)
    runs = h.runs.runs

    written : List ℕ
    written = filled_line line texts

    read : template_of line ≡ Ok runs.command
    read = ap template_of (sym line_is) ∙ runs.read

    count : length values ≡ hole_count (holes_of line)
    count = h.runs.count ∙ ap (λ (bytes : List ℕ). hole_count (holes_of bytes)) line_is

    takes : IsTrue (command_takes_memory runs.command) → takes_memory written ≡ true
    takes own =
        reading_takes written short
        (λ filled is. takes_alike filled runs.command
        (sym (filled_line_only line texts values runs.command filled read stand count keeps short is).same) own)
        (reading written) refl

pub run_answers : (number : ℕ) (line : List ℕ) (texts : List (List ℕ)) (values : List Value) (old new : SessionState) → line_at number old.lines ≡ Some line
    → AllZip Spells texts values → keeps_signs (tokens line) texts ≡ true → length (filled_line line texts) ≤ 4096 → RunsAt number values old new
    → AnswersLine (filled_line line texts) old new
run_answers number line texts values old new at stand keeps short h =
    let both : ◌≡◌ {A = Option (List ℕ)} (Some h.runs.line) (Some line) = sym h.runs.is ∙ at in
    let line_is : h.runs.line ≡ line = cc in
    answers_as number line texts values old new h line_is stand keeps short
