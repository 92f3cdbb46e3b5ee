-- The reading of a line that was cut.
use Rattle.std.proofs.Common.{◌≡◌, ◌≤◌, ℕ, Bool, true, false, cond, ltb, List, [], ◌∷◌, Option, Some, None, Ok, Err, length, refl, sym, ap, ◌∙◌}
use Rattle.std.specs.Prelude.{Result, IsTrue}
use Rattle.std.specs.Option.{option_or}
use Rattle.std.proofs.lemmas.Bool.{cond-false, le-ltb}
use Rattle.mm_value.specs.Literal.{is_within_limit}
use Rattle.mm_value.specs.declared.refusal.Refusal.{Refusal}
use Rattle.mm_value.specs.declared.refusal.Refusal.TheVariants.{LineTooLong}
use Rattle.mm_value.specs.declared.values.Value.{Value}
use Rattle.mm_value.specs.declared.values.Value.TheVariants.{Int, Text}
use Rattle.mm_query.specs.declared.command.Command.{Command}
use Rattle.mm_query.specs.declared.command.Command.TheVariants.{Nothing, Define, Change, Select, Explain}
use Rattle.mm_lang.specs.Reading.{command_takes_memory, first_fault, is_nothing, literal_fault, literals_of, past_limit, plain_command, read_as, reading}
use Rattle.mm_lang.specs.Reading.{reading_takes_memory, takes_memory, unless}
use Rattle.mm_lang.specs.Templates.{holes_of, template_of}
use Rattle.mm_lang.specs.Tokens.{tokens}
use Rattle.mm_statement.specs.Filling.{Filled, IsFilling, blank}
use Rattle.mm_statement.proofs.TextLines.{line_only, line_reads}
use Rattle.mm_template.specs.Cutting.{IsCut}

pub cut_reads : (line template : List ℕ) (values : List Value) (command : Command) (result : Result Command Refusal) → IsCut line template values
    → template_of template ≡ Ok command → IsFilling (holes_of template) values command result → reading line ≡ result
cut_reads line template values command result c read filling =
    line_reads template line c.texts values command c.something read c.are_texts c.count c.fits c.written result filling

-- ---- memory

-- A 0 in place of each literal does not change whether a command may allocate.
blank_takes : (c : Command) → command_takes_memory (blank c) ≡ command_takes_memory c
blank_takes (Define definition) = refl
blank_takes (Change mutation) = refl
blank_takes (Select query) = refl
blank_takes (Explain query) = refl
blank_takes c = refl

-- No literal makes a line too long.
not_that : (o : Option Refusal) → Type 0
not_that o = o ≡ Some LineTooLong → ⊥

either_fault : (o p : Option Refusal) → not_that o → not_that p → not_that (option_or o p)
unfolding not_that
either_fault None p first second is = second is
either_fault (Some refusal) p first second is = first is

one_fault : (within : Bool) (v : Value) → not_that (cond within None (Some (past_limit v)))
unfolding not_that
one_fault true v is = absurd (cc)
one_fault false (Int z) is = absurd (cc)
one_fault false (Text text) is = absurd (cc)

no_fault : (vs : List Value) → not_that (first_fault vs)
unfolding not_that
no_fault [] is = absurd (cc)
no_fault (v ∷ vs) is = either_fault (literal_fault v) (first_fault vs) (one_fault (is_within_limit v) v) (no_fault vs) is

no_refusal : (c : Command) (o : Option Refusal) → not_that o → unless c o ≡ Err LineTooLong → ⊥
unfolding not_that
no_refusal c None isnt is = absurd (cc)
no_refusal c (Some refusal) isnt is =
    let same : refusal ≡ LineTooLong = cc in
    isnt (ap Some same)

not_read : (o : Option Command) → read_as o ≡ Err LineTooLong → ⊥
not_read None is = absurd (cc)
not_read (Some c) is = no_refusal c (first_fault (literals_of c)) (no_fault (literals_of c)) is

not_long : (line : List ℕ) → length line ≤ 4096 → reading line ≡ Err LineTooLong → ⊥
unfolding reading
not_long line fits is =
    by (is_nothing line) (sym (cond-false (ltb 4096 (length line)) (Err LineTooLong) short (le-ltb 4096 (length line) fits)) ∙ is)
  where
    read : Result Command Refusal
    read = read_as (plain_command (tokens line))

    short : Result Command Refusal
    short = cond (is_nothing line) (Ok Nothing) read

    by : (is_none : Bool) → cond is_none (Ok Nothing) read ≡ Err LineTooLong → ⊥
    by true is = absurd (cc)
    by false is = not_read (plain_command (tokens line)) is

-- A line that was cut may allocate if its template's command may.
pub cut_takes : (line template : List ℕ) (values : List Value) (command : Command) → IsCut line template values → template_of template ≡ Ok command
    → IsTrue (command_takes_memory command) → IsTrue (takes_memory line)
cut_takes line template values command c read takes = by (reading line) refl
  where
    by : (r : Result Command Refusal) → reading line ≡ r → IsTrue (takes_memory line)
    by (Ok f) is =
        let filled : Filled (holes_of template) values command f =
        line_only template line c.texts values command c.something read c.are_texts c.count c.fits c.written f is in
        ap reading_takes_memory is ∙ sym (blank_takes f) ∙ ap command_takes_memory filled.same ∙ blank_takes command ∙ takes
    by (Err LineTooLong) is = absurd (not_long line c.fits is)
    by (Err refusal) is = ap reading_takes_memory is
