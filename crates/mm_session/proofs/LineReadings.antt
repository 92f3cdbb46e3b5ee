-- Lines that read as templates, their fillings, and the outcomes of these.
use Rattle.std.proofs.Common.{◌≡◌, ◌≢◌, ℕ, Bool, true, false, cond, ltb, List, [], ◌∷◌, Option, Some, None, Result, Ok, Err, IsTrue}
use Rattle.std.proofs.Common.{length, inl, inr, ⊎_elim, refl, sym, ap, ◌∙◌, arith}
use Rattle.std.specs.List.{cons_option}
use Rattle.std.specs.Option.{option_map}
use Rattle.std.proofs.lemmas.Bool.{cases_Bool, cond-false}
use Rattle.std.proofs.lemmas.List.Sums.{sum_by-cons}
use Rattle.mm_value.specs.declared.refusal.Refusal.{Refusal}
use Rattle.mm_value.specs.declared.refusal.Refusal.TheVariants.{LineTooLong, Memory}
use Rattle.mm_value.specs.declared.values.Value.{Value}
use Rattle.mm_query.specs.Machine.{Outcome, refused_outcome, step}
use Rattle.mm_query.specs.State.{State}
use Rattle.mm_query.specs.declared.command.Command.{Command}
use Rattle.mm_query.specs.declared.command.Command.TheVariants.{Nothing, Define, Change, Scan, ScanIndex, Select, Explain, Show, Tables, Begin, Commit}
use Rattle.mm_query.specs.declared.command.Command.TheVariants.{Rollback, Savepoint, RollbackTo}
use Rattle.mm_lang.specs.Answering.{MayLeadTo}
use Rattle.mm_lang.specs.Grammar.{literal_of}
use Rattle.mm_lang.specs.Reading.{Reads, command_takes_memory, first_fault, is_nothing, literals_of, plain_command, read_as, reading}
use Rattle.mm_lang.specs.Reading.{reading_takes_memory, takes_memory, unless}
use Rattle.mm_lang.specs.Templates.{holes_among, holes_of, template_command, template_of}
use Rattle.mm_lang.specs.Tokens.{Token, Word, Signed, Quoted, Mark, Hole, Unreadable, has_hole, tokens}
use Rattle.mm_statement.proofs.Fillers.{merged_no_values}
use Rattle.mm_statement.specs.Filling.{AnswersFilling, IsFilling, blank, merged}
use Rattle.mm_statement.specs.Holes.{hole_count}
use Rattle.mm_session.specs.Statements.{Runs}
use Rattle.mm_reply.specs.Sinks.{is_definition}
use Rattle.mm_session.specs.steps.Readings.{FillsLine}

-- ---- no literal past its limit

read_within : (read : Option Command) (c : Command) → read_as read ≡ Ok c → first_fault (literals_of c) ≡ None
read_within None c e = absurd (cc)
read_within (Some d) c e = by (first_fault (literals_of d)) refl e
  where
    by : (fault : Option Refusal) → first_fault (literals_of d) ≡ fault → unless d fault ≡ Ok c → first_fault (literals_of c) ≡ None
    by None is e = let same : d ≡ c = cc in ap (λ (x : Command). first_fault (literals_of x)) (sym same) ∙ is
    by (Some refusal) is e = absurd (cc)

line_within : (is_long nothing : Bool) (read : Option Command) (c : Command)
    → cond is_long (Err LineTooLong) (cond nothing (Ok Nothing) (read_as read)) ≡ Ok c → first_fault (literals_of c) ≡ None
line_within true nothing read c e = absurd (cc)
line_within false true read c e = let same : ◌≡◌ {A = Command} Nothing c = cc in ap (λ (d : Command). first_fault (literals_of d)) (sym same)
line_within false false read c e = read_within read c e

-- No literal of a command that a line with holes reads as is past its limit.
pub template_within : (line : List ℕ) (c : Command) → template_of line ≡ Ok c → first_fault (literals_of c) ≡ None
unfolding template_of
template_within line c e = line_within (ltb 4096 (length line)) (is_nothing line) (template_command (tokens line)) c e

-- ---- lines without holes

pub unflagged : (o : Option Value) (flags : List Bool) → hole_count (cons_option (option_map (λ (v : Value). false) o) flags) ≡ hole_count flags
unflagged None flags = refl
unflagged (Some v) flags = refl

unholed : (ts : List Token) → hole_count (holes_among ts) ≡ 0 → has_hole ts ≡ false
unholed [] none = refl
unholed (Hole ∷ ts) none = absurd (omega (arith, sum_by-cons (λ (b : Bool). cond b 1 0) true (holes_among ts)))
unholed (Word w ∷ ts) none = unholed ts (sym (unflagged (literal_of (Word w)) (holes_among ts)) ∙ none)
unholed (Signed w ∷ ts) none = unholed ts (sym (unflagged (literal_of (Signed w)) (holes_among ts)) ∙ none)
unholed (Quoted text ∷ ts) none = unholed ts (sym (unflagged (literal_of (Quoted text)) (holes_among ts)) ∙ none)
unholed (Mark symbol ∷ ts) none = unholed ts (sym (unflagged (literal_of (Mark symbol)) (holes_among ts)) ∙ none)
unholed (Unreadable ∷ ts) none = unholed ts (sym (unflagged (literal_of Unreadable) (holes_among ts)) ∙ none)

pub nothing_plain : (line : List ℕ) → is_nothing line ≡ true → template_of line ≡ reading line
unfolding template_of reading
nothing_plain line nothing =
    ap (λ b. cond (ltb 4096 (length line)) (Err LineTooLong) (cond b (Ok Nothing) (read_as (template_command (tokens line))))) nothing
    ∙ sym (ap (λ b. cond (ltb 4096 (length line)) (Err LineTooLong) (cond b (Ok Nothing) (read_as (plain_command (tokens line))))) nothing)

-- A line without holes reads as a line if a line does none of whose tokens is a hole.
plain_line : (line : List ℕ) → (has_hole (tokens line) ≡ false → template_of line ≡ reading line) → hole_count (holes_of line) ≡ 0
    → template_of line ≡ reading line
plain_line line plain none =
    ⊎_elim
    (λ nothing. nothing_plain line nothing)
    (λ some. plain (unholed (tokens line) (ap hole_count (sym (cond-false (is_nothing line) _ _ some)) ∙ none)))
    (cases_Bool (is_nothing line))

-- ---- commands that allocate

-- A command with literals allocates, ..
takes_literals : (c : Command) → literals_of c ≢ [] → IsTrue (command_takes_memory c)
takes_literals Nothing some = absurd (some refl)
takes_literals (Define definition) some = refl
takes_literals (Change mutation) some = refl
takes_literals (Scan table) some = refl
takes_literals (ScanIndex index) some = refl
takes_literals (Select query) some = refl
takes_literals (Explain query) some = refl
takes_literals (Show name) some = refl
takes_literals Tables some = refl
takes_literals Begin some = absurd (some refl)
takes_literals Commit some = absurd (some refl)
takes_literals Rollback some = absurd (some refl)
takes_literals (Savepoint name) some = refl
takes_literals (RollbackTo name) some = absurd (some refl)

-- .. and so does one whose line has holes.
holes_take : (line : List ℕ) (c : Command) → length (holes_of line) ≡ length (literals_of c) → hole_count (holes_of line) ≢ 0
    → IsTrue (command_takes_memory c)
holes_take line c places some = takes_literals c (λ none. some (by (holes_of line) (places ∙ ap length none)))
  where
    by : (holes : List Bool) → length holes ≡ 0 → hole_count holes ≡ 0
    by [] none = refl
    by (hole ∷ holes) none = absurd (omega arith)

blank_takes : (c : Command) → command_takes_memory (blank c) ≡ command_takes_memory c
blank_takes Nothing = refl
blank_takes (Define definition) = refl
blank_takes (Change mutation) = refl
blank_takes (Scan table) = refl
blank_takes (ScanIndex index) = refl
blank_takes (Select query) = refl
blank_takes (Explain query) = refl
blank_takes (Show name) = refl
blank_takes Tables = refl
blank_takes Begin = refl
blank_takes Commit = refl
blank_takes Rollback = refl
blank_takes (Savepoint name) = refl
blank_takes (RollbackTo name) = refl

-- Commands that differ only in literals allocate alike, ..
pub takes_alike : (c d : Command) → blank d ≡ blank c → IsTrue (command_takes_memory d) → IsTrue (command_takes_memory c)
takes_alike c d same takes = sym (blank_takes c) ∙ (sym (ap command_takes_memory same) ∙ (blank_takes d ∙ takes))

blank_defines : (c : Command) → is_definition (blank c) ≡ is_definition c
blank_defines Nothing = refl
blank_defines (Define definition) = refl
blank_defines (Change mutation) = refl
blank_defines (Scan table) = refl
blank_defines (ScanIndex index) = refl
blank_defines (Select query) = refl
blank_defines (Explain query) = refl
blank_defines (Show name) = refl
blank_defines Tables = refl
blank_defines Begin = refl
blank_defines Commit = refl
blank_defines Rollback = refl
blank_defines (Savepoint name) = refl
blank_defines (RollbackTo name) = refl

-- .. and changes the catalog alike.
pub defines_alike : (c d : Command) → blank d ≡ blank c → is_definition d ≡ is_definition c
defines_alike c d same = sym (blank_defines d) ∙ (ap is_definition same ∙ blank_defines c)

-- ---- readings

module _ (line : List ℕ) (command : Command) (values : List Value) (read : template_of line ≡ Ok command)
    (count : length values ≡ hole_count (holes_of line)) where
  -- Want of memory, in a command that takes some.
  pub fills_without : (e : Refusal) → e ≡ Memory → IsTrue (command_takes_memory command) → FillsLine line values (Err e)
  fills_without e is takes = record { command = command; read = read; fills = inr (ap (λ (r : Refusal). Err r) is, takes) }

  -- A line without holes reads as itself, ..
  pub fills_plain : (result : Result Command Refusal) → (has_hole (tokens line) ≡ false → template_of line ≡ reading line)
      → hole_count (holes_of line) ≡ 0 → Reads line result → FillsLine line values result
  fills_plain (Ok c) plain none reads = record {
    command = c;
    read = plain_line line plain none ∙ reads;
    fills = inl (record { same = refl; literals = sym (unfilled values (count ∙ none)) }, template_within line c (plain_line line plain none ∙ reads));
  }
    where
      unfilled : (given : List Value) → length given ≡ 0 → merged (holes_of line) given (literals_of c) ≡ literals_of c
      unfilled [] none = merged_no_values (holes_of line) (literals_of c)
      unfilled (v ∷ vs) none = absurd (omega arith)
  fills_plain (Err e) plain none reads =
      ⊎_elim
      (λ (h : reading line ≡ Err e). absurd (let clash : Ok command ≡ Err e = sym read ∙ (plain_line line plain none ∙ h) in cc))
      (λ (h : (e ≡ Memory) × IsTrue (takes_memory line)).
      fills_without e h.0 (sym (ap reading_takes_memory (sym (plain_line line plain none) ∙ read)) ∙ h.1))
      reads

  -- .. and one with holes by a filling.
  pub fills_filled : (result : Result Command Refusal) → length (holes_of line) ≡ length (literals_of command) → hole_count (holes_of line) ≢ 0
      → AnswersFilling (holes_of line) values command result → FillsLine line values result
  fills_filled result places some answers =
      ⊎_elim
      (λ (h : IsFilling (holes_of line) values command result). record { command = command; read = read; fills = inl h })
      (λ (h : result ≡ Err Memory). record { command = command; read = read; fills = inr (h, holes_take line command places some) })
      answers

-- ---- runs

module _ (line : List ℕ) (values : List Value) (before : State) (outcome : Outcome) where
  -- An outcome of a filled command is one of the statement.
  pub runs_filled : (filled : Command) → FillsLine line values (Ok filled) → MayLeadTo (Ok filled) before outcome → Runs line values before outcome
  runs_filled filled line_fills leads = record {
    command = line_fills.command;
    read = line_fills.read;
    leads =
        ⊎_elim
        (λ (f : IsFilling (holes_of line) values line_fills.command (Ok filled)).
        ⊎_elim
        (λ (is : outcome ≡ step filled before). inl (Ok filled, f, is))
        (λ (h : (outcome ≡ refused_outcome Memory before) × IsTrue (command_takes_memory filled)).
        inr (h.0, takes_alike line_fills.command filled f.0.same h.1))
        leads)
        (λ (h : (Ok filled ≡ Err Memory) × IsTrue (command_takes_memory line_fills.command)). absurd (let clash = h.0 in cc))
        line_fills.fills;
  }

  -- A refusal is one of the filling, or want of memory.
  pub runs_refused : (e : Refusal) → FillsLine line values (Err e) → outcome ≡ refused_outcome e before → Runs line values before outcome
  runs_refused e line_fills is = record {
    command = line_fills.command;
    read = line_fills.read;
    leads =
        ⊎_elim
        (λ (f : IsFilling (holes_of line) values line_fills.command (Err e)). inl (Err e, f, is))
        (λ (h : (Err e ≡ Err Memory) × IsTrue (command_takes_memory line_fills.command)).
        inr (is ∙ ap (λ (r : Refusal). refused_outcome r before) (let clash = h.0 in cc), h.1))
        line_fills.fills;
  }

  -- So is an outcome of a reading.
  pub runs_read : (read : Result Command Refusal) → FillsLine line values read → MayLeadTo read before outcome → Runs line values before outcome
  runs_read (Ok filled) fills leads = runs_filled filled fills leads
  runs_read (Err refusal) fills leads = runs_refused refusal fills leads
