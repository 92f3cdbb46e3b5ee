-- Lines with literals in place of the holes of another line.
use Rattle.std.proofs.Common.{◌≡◌, ◌≤◌, ℕ, suc, Bool, true, false, not, ◌&&◌, ◌||◌, cond, eqb, ltb, List, [], ◌∷◌, Option, Some, None, Ok, Err}
use Rattle.std.proofs.Common.{length, neg_ℤ, one-add, pos, refl, sym, ap, subst, ◌∙◌, arith}
use Rattle.std.specs.Prelude.{Result, count_by}
use Rattle.std.specs.List.{AllZip, cons_option, list_all}
use Rattle.std.specs.Option.{option_map, option_and_then}
use Rattle.std.specs.Str.Parse.{digits_value}
use Rattle.std.proofs.lemmas.Bool.{and_parts, cond-false, cond-true, eqb-true, false≢true, le-ltb}
use Rattle.std.proofs.lemmas.List.Sums.{sum_by-cons}
use Rattle.std.proofs.lemmas.Option.{none-some}
use Rattle.mm_value.specs.Literal.{is_numeral}
use Rattle.mm_value.specs.declared.refusal.Refusal.{Refusal}
use Rattle.mm_value.specs.declared.refusal.Refusal.TheVariants.{LineTooLong, NumberOutOfRange, Syntax}
use Rattle.mm_value.specs.declared.values.Value.{Value}
use Rattle.mm_value.specs.declared.values.Value.TheVariants.{Int}
use Rattle.mm_query.specs.declared.command.Command.{Command}
use Rattle.mm_query.specs.declared.command.Command.TheVariants.{Nothing}
use Rattle.mm_lang.specs.Grammar.{command_behind, command_of}
use Rattle.mm_lang.specs.Phrases.{◌>>=◌, alone, one_word}
use Rattle.mm_lang.specs.Reading.{is_comment, is_nothing, read_as, reading, unless}
use Rattle.mm_lang.specs.Templates.{holes_among, holes_of, may_have_holes, template_command, template_of}
use Rattle.mm_lang.specs.Tokens.{Token, Word, Signed, Quoted, Mark, Hole, Unreadable, has_hole, is_blank, lexed, tokens}
use Rattle.mm_lang.specs.Words.{keyword_named}
use Rattle.mm_lang.specs.declared.read.token.Symbol.TheVariants.{Minus, Plus}
use Rattle.mm_lang.specs.steps.Parts.{Front, chained, then_parts, word_parts}
use Rattle.mm_statement.specs.Filling.{Filled, IsFilling}
use Rattle.mm_statement.specs.Texts.{IsText, behind, with_texts}
use Rattle.mm_statement.proofs.TextCommands.{filled_read}
use Rattle.mm_statement.proofs.TextQueries.{read_filled}
use Rattle.mm_statement.proofs.TextTokens.{AreReadable, texts_readable}
use Rattle.mm_lang.proofs.Preparing.{read_some}

-- ---- no hole remains

-- the number of holes
abbrev pub hole_count : List Bool → ℕ
hole_count holes = count_by (λ hole. hole) holes

text_no_hole : (t : Token) (v : Value) (us : List Token) → IsText t v → has_hole (t ∷ us) ≡ has_hole us
text_no_hole Hole v us h = absurd h
text_no_hole t v us h = refl

behind_plus_no_hole : (t : Token) (v : Value) (us : List Token) → IsText t v → has_hole (behind Plus Minus t us) ≡ has_hole us
behind_plus_no_hole (Signed w) v us h = refl
behind_plus_no_hole Hole v us h = absurd h
behind_plus_no_hole t v us h = refl

behind_minus_no_hole : (t : Token) (v : Value) (us : List Token) → IsText t v → has_hole (behind Minus Plus t us) ≡ has_hole us
behind_minus_no_hole (Signed w) v us h = refl
behind_minus_no_hole Hole v us h = absurd h
behind_minus_no_hole t v us h = refl

-- A literal that is not a hole is not counted.
not_counted : (is_number : Bool) (v : Value) (holes : List Bool)
    → hole_count (cons_option (option_map (λ (x : Value). false) (cond is_number (Some v) None)) holes) ≡ hole_count holes
not_counted true v holes = refl
not_counted false v holes = refl

one_counted : (holes : List Bool) → hole_count (true ∷ holes) ≡ suc (hole_count holes)
one_counted holes = sum_by-cons (λ hole. cond hole 1 0) true holes ∙ one-add (hole_count holes)

one_less : (holes : List Bool) (n : ℕ) → hole_count (true ∷ holes) ≤ suc n → hole_count holes ≤ n
one_less holes n h = omega (arith, h, one_counted holes)

none_less : (holes : List Bool) → hole_count (true ∷ holes) ≤ 0 → ⊥
none_less holes h = omega (arith, h, one_counted holes)

-- With a literal for each hole, none remains.
pub no_hole_left : (ts texts : List Token) → AreReadable texts → hole_count (holes_among ts) ≤ length texts → has_hole (with_texts ts texts) ≡ false
no_hole_left [] texts r enough = refl
no_hole_left (Mark Plus ∷ Hole ∷ ts) (t ∷ texts) r enough =
    behind_plus_no_hole t r.0.0 (with_texts ts texts) r.0.1 ∙ no_hole_left ts texts r.1 (one_less (holes_among ts) (length texts) enough)
no_hole_left (Mark Minus ∷ Hole ∷ ts) (t ∷ texts) r enough =
    behind_minus_no_hole t r.0.0 (with_texts ts texts) r.0.1 ∙ no_hole_left ts texts r.1 (one_less (holes_among ts) (length texts) enough)
no_hole_left (Mark Plus ∷ Hole ∷ ts) [] r enough = absurd (none_less (holes_among ts) enough)
no_hole_left (Mark Minus ∷ Hole ∷ ts) [] r enough = absurd (none_less (holes_among ts) enough)
no_hole_left (Hole ∷ ts) (t ∷ texts) r enough =
    text_no_hole t r.0.0 (with_texts ts texts) r.0.1 ∙ no_hole_left ts texts r.1 (one_less (holes_among ts) (length texts) enough)
no_hole_left (Hole ∷ ts) [] r enough = absurd (none_less (holes_among ts) enough)
no_hole_left (Word w ∷ ts) texts r enough =
    no_hole_left ts texts r
    (subst (λ n. n ≤ length texts) (not_counted (is_numeral w) (Int (pos (digits_value 10 w))) (holes_among ts)) enough)
no_hole_left (Signed w ∷ ts) texts r enough =
    no_hole_left ts texts r
    (subst (λ n. n ≤ length texts) (not_counted (is_numeral w) (Int (neg_ℤ (pos (digits_value 10 w)))) (holes_among ts)) enough)
no_hole_left (Quoted text ∷ ts) texts r enough = no_hole_left ts texts r enough
no_hole_left (Mark s ∷ ts) texts r enough = no_hole_left ts texts r enough
no_hole_left (Unreadable ∷ ts) texts r enough = no_hole_left ts texts r enough

-- ---- a line with a command is neither empty nor a comment

blank_tokens : (bs : List ℕ) → list_all is_blank bs ≡ true → tokens bs ≡ []
unfolding lexed
blank_tokens [] all = refl
blank_tokens (b ∷ bs) all =
    let p = and_parts (is_blank b) (list_all is_blank bs) all in
    cond-true (is_blank b) _ _ p.0 ∙ blank_tokens bs p.1

comment_tokens : (bs : List ℕ) → is_comment bs ≡ true → (us : List Token) × (tokens bs ≡ Mark Minus ∷ us)
unfolding lexed
comment_tokens [] is = absurd (false≢true is)
comment_tokens (a ∷ []) is = absurd (false≢true is)
comment_tokens (a ∷ b ∷ bs) is =
    let p = and_parts (eqb a 45) (eqb b 45) is in
    let first : a ≡ 45 = eqb-true a 45 p.0 in
    let second : b ≡ 45 = eqb-true b 45 p.1 in
    (tokens (45 ∷ bs), λ i. tokens (first i ∷ second i ∷ bs))

pub word_is_something : (bs w : List ℕ) (us : List Token) → tokens bs ≡ Word w ∷ us → is_nothing bs ≡ false
word_is_something bs w us begins = by (list_all is_blank bs) refl (is_comment bs) refl
  where
    by : (blank : Bool) → list_all is_blank bs ≡ blank → (comment : Bool) → is_comment bs ≡ comment → (list_all is_blank bs || is_comment bs) ≡ false
    by true is comment also =
        let both : ◌≡◌ {A = List Token} [] (Word w ∷ us) = sym (blank_tokens bs is) ∙ begins in
        absurd (cc)
    by false is true also =
        let p = comment_tokens bs also in
        let both : Mark Minus ∷ p.0 ≡ Word w ∷ us = sym p.1 ∙ begins in
        absurd (cc)
    by false is false also = λ i. is i || also i

pub command_begins : (ts : List Token) (c : Command) → command_of ts ≡ Some c → (w : List ℕ) × (us : List Token) × (ts ≡ Word w ∷ us)
unfolding command_of
command_begins ts c e =
    let p = chained (λ (r : Front Command). alone r.0 r.1) ((one_word keyword_named >>= command_behind) ts) c e in
    let q = then_parts (one_word keyword_named) command_behind ts p.0.0 p.0.1 p.1 in
    let r = word_parts keyword_named ts q.0 q.1 q.2 in
    (r.0, q.1, r.1)

pub command_is_something : (bs : List ℕ) (ts texts : List Token) (c : Command) → tokens bs ≡ with_texts ts texts → command_of ts ≡ Some c
    → is_nothing bs ≡ false
command_is_something bs ts texts c is read =
    let p = command_begins ts c read in
    word_is_something bs p.0 (with_texts p.1 texts) (is ∙ ap (λ l. with_texts l texts) p.2)

-- ---- the reading of lines

template_some : (ts : List Token) (o : Option Command) (c : Command)
    → option_and_then (λ d. cond (has_hole ts && not (may_have_holes d)) None (Some d)) o ≡ Some c → o ≡ Some c
template_some ts None c e = absurd (none-some c e)
template_some ts (Some d) c e = by (has_hole ts && not (may_have_holes d)) e
  where
    by : (refused : Bool) → cond refused None (Some d) ≡ Some c → ◌≡◌ {A = Option Command} (Some d) (Some c)
    by true e = absurd (none-some c e)
    by false e = e

pub template_reads : (line : List ℕ) (c : Command) → is_nothing line ≡ false → template_of line ≡ Ok c → command_of (tokens line) ≡ Some c
unfolding template_of
template_reads line c some e = by (ltb 4096 (length line)) (ap (λ b. cond (ltb 4096 (length line)) (Err LineTooLong) (cond b (Ok Nothing) read)) (sym some) ∙ e)
  where
    read : Result Command Refusal
    read = read_as (template_command (tokens line))

    by : (is_long : Bool) → cond is_long (Err LineTooLong) read ≡ Ok c → command_of (tokens line) ≡ Some c
    by true e = absurd (cc)
    by false e = template_some (tokens line) (command_of (tokens line)) c (read_some (template_command (tokens line)) c e)

plain_reads : (bs : List ℕ) → length bs ≤ 4096 → is_nothing bs ≡ false → has_hole (tokens bs) ≡ false → reading bs ≡ read_as (command_of (tokens bs))
unfolding reading
plain_reads bs short some plain =
    cond-false (ltb 4096 (length bs)) _ _ (le-ltb 4096 (length bs) short) ∙ cond-false (is_nothing bs) _ _ some
    ∙ ap read_as (cond-false (has_hole (tokens bs)) _ _ plain)

-- Tokens with literals in place of holes read as the result of filling.
filling_read : (ts texts : List Token) (values : List Value) (c : Command) (result : Result Command Refusal) → command_of ts ≡ Some c
    → AllZip IsText texts values → IsFilling (holes_among ts) values c result → read_as (command_of (with_texts ts texts)) ≡ result
filling_read ts texts values c (Ok f) read stand h = ap read_as (filled_read ts texts values c f read stand h.0) ∙ ap (unless f) h.1
filling_read ts texts values c (Err Syntax) read stand h = by (command_of (with_texts ts texts)) refl
  where
    by : (o : Option Command) → command_of (with_texts ts texts) ≡ o → read_as o ≡ Err Syntax
    by None is = refl
    by (Some f) is = absurd (h f (read_filled ts texts values c f read stand is))
filling_read ts texts values c (Err NumberOutOfRange) read stand h =
    ap read_as (filled_read ts texts values c h.0 read stand h.1) ∙ ap (unless h.0) h.2
filling_read ts texts values c (Err refusal) read stand h = absurd h

-- A command that the tokens read as, with literals in place of holes, is the filled one.
filled_only : (ts texts : List Token) (values : List Value) (c f : Command) → command_of ts ≡ Some c → AllZip IsText texts values
    → read_as (command_of (with_texts ts texts)) ≡ Ok f → Filled (holes_among ts) values c f
filled_only ts texts values c f read stand is =
    read_filled ts texts values c f read stand (read_some (command_of (with_texts ts texts)) f is)

module _ (line written : List ℕ) (texts : List Token) (values : List Value) (c : Command) (some : is_nothing line ≡ false) (e : template_of line ≡ Ok c)
    (stand : AllZip IsText texts values) (enough : length values ≡ hole_count (holes_of line)) (short : length written ≤ 4096)
    (is : tokens written ≡ with_texts (tokens line) texts) where
  of_tokens : holes_of line ≡ holes_among (tokens line)
  of_tokens = cond-false (is_nothing line) _ _ some

  -- A line with the tokens of another line, with literals in place of holes, reads as these tokens.
  written_reads : reading written ≡ read_as (command_of (with_texts (tokens line) texts))
  written_reads =
      let read = template_reads line c some e in
      let fits : hole_count (holes_among (tokens line)) ≤ length texts = omega (arith, enough, ap hole_count of_tokens, same_length texts values stand) in
      plain_reads written short (command_is_something written (tokens line) texts c is read)
      (ap has_hole is ∙ no_hole_left (tokens line) texts (texts_readable texts values stand) fits)
      ∙ ap (λ ts. read_as (command_of ts)) is
    where
      same_length : (texts : List Token) (values : List Value) → AllZip IsText texts values → length texts ≡ length values
      same_length [] [] h = refl
      same_length [] (v ∷ values) h = absurd h
      same_length (t ∷ texts) [] h = absurd h
      same_length (t ∷ texts) (v ∷ values) h = ap suc (same_length texts values h.1)

  -- So it reads as the result of filling, ..
  pub line_reads : (result : Result Command Refusal) → IsFilling (holes_of line) values c result → reading written ≡ result
  line_reads result h =
      written_reads
      ∙ filling_read (tokens line) texts values c result (template_reads line c some e) stand
      (subst (λ holes. IsFilling holes values c result) of_tokens h)

  -- .. and as no other command.
  pub line_only : (f : Command) → reading written ≡ Ok f → Filled (holes_of line) values c f
  line_only f reads =
      subst (λ holes. Filled holes values c f) (sym of_tokens)
      (filled_only (tokens line) texts values c f (template_reads line c some e) stand (sym written_reads ∙ reads))
