-- Lines with literals of values in place of their holes.
use Rattle.std.proofs.Common.{cond, ◌≡◌, ◌≤◌, ⊎_elim, ℕ, Bool, true, false, ltb, List, [], ◌∷◌, None, Some, Ok, Err}
use Rattle.std.proofs.Common.{length, refl, sym, ap, subst, ◌∙◌}
use Rattle.std.specs.Prelude.{Option, Result}
use Rattle.std.specs.List.{AllZip}
use Rattle.std.proofs.lemmas.Bool.{cases_Bool, cond-false, cond-true, false≢true, le-ltb}
use Rattle.mm_value.specs.Literal.{Spells}
use Rattle.mm_value.specs.declared.refusal.Refusal.{Refusal}
use Rattle.mm_value.specs.declared.refusal.Refusal.TheVariants.{NumberOutOfRange, Syntax}
use Rattle.mm_value.specs.declared.values.Value.{Value}
use Rattle.mm_query.specs.declared.command.Command.{Command}
use Rattle.mm_query.specs.declared.command.Command.TheVariants.{Nothing}
use Rattle.mm_lang.specs.Reading.{first_fault, is_nothing, literals_of, reading}
use Rattle.mm_lang.specs.Templates.{holes_of, template_of}
use Rattle.mm_lang.specs.Tokens.{Token, Outside, tokens}
use Rattle.mm_statement.specs.Filling.{Filled, IsFilling}
use Rattle.mm_statement.specs.Texts.{filled_bytes, filled_line, keeps_signs, with_texts}
use Rattle.mm_statement.proofs.TextBytes.{HasSign, IsTokenText, bytes_same, kept_signs}
use Rattle.mm_statement.proofs.TextCommands.{fixed_same, is_fixed}
use Rattle.mm_statement.proofs.TextLines.{hole_count, line_only, line_reads}
use Rattle.mm_lang.specs.Grammar.{command_of}
use Rattle.mm_lang.specs.Reading.{read_as}
use Rattle.mm_lang.specs.Tokens.{has_hole}
use Rattle.mm_lang.proofs.SpelledCommands.{command_read}
use Rattle.mm_statement.proofs.TextBytes.{in_place}
use Rattle.mm_statement.proofs.TextLines.{command_begins, template_reads, word_is_something}
use Rattle.mm_statement.proofs.TextPieces.{pieces_of}
use Rattle.mm_statement.proofs.TextSigns.{command_once, nothing_kept, turned_twice}

-- The tokens of a line with literals in place of its holes.
filled_tokens : (line : List ℕ) (texts : List (List ℕ)) (said : List Token) → AllZip IsTokenText texts said → AllZip HasSign texts said
    → keeps_signs (tokens line) texts ≡ true → tokens (filled_line line texts) ≡ with_texts (tokens line) said
filled_tokens line texts said fronts signs keeps = bytes_same Outside line texts said fronts ∙ kept_signs (tokens line) texts said signs keeps

nothing_fault : (f : Command) → f ≡ Nothing → first_fault (literals_of f) ≡ Some NumberOutOfRange → ⊥
nothing_fault f is h =
    let none : ◌≡◌ {A = Option Refusal} None (Some NumberOutOfRange) = sym (ap (λ c. first_fault (literals_of c)) is) ∙ h in
    cc

-- An empty line and a comment have nothing to fill.
nothing_filled : (values : List Value) (result : Result Command Refusal) → IsFilling [] values Nothing result → result ≡ Ok Nothing
unfolding is_fixed
nothing_filled values (Ok f) h = ap (λ c. Ok c) (fixed_same Nothing f refl h.0.same)
nothing_filled values (Err Syntax) h = absurd (h Nothing (record { same = refl; literals = refl }))
nothing_filled values (Err NumberOutOfRange) h = absurd (nothing_fault h.0 (fixed_same Nothing h.0 refl h.1.same) h.2)
nothing_filled values (Err refusal) h = absurd h

no_values : (texts : List (List ℕ)) (values : List Value) → AllZip Spells texts values → length values ≡ 0 → texts ≡ []
no_values [] values h none = refl
no_values (x ∷ texts) [] h none = absurd h
no_values (x ∷ texts) (v ∷ values) h none = absurd (cc)

nothing_read : (line : List ℕ) → length line ≤ 4096 → is_nothing line ≡ true → (reading line ≡ Ok Nothing) × (template_of line ≡ Ok Nothing)
unfolding reading template_of
nothing_read line short nothing =
    let long = le-ltb 4096 (length line) short in (
      cond-false (ltb 4096 (length line)) _ _ long ∙ cond-true (is_nothing line) _ _ nothing,
      cond-false (ltb 4096 (length line)) _ _ long ∙ cond-true (is_nothing line) _ _ nothing,
    )

-- A line with literals of values in place of its holes reads as the result of filling.
pub filled_line_reads : (line : List ℕ) (texts : List (List ℕ)) (values : List Value) (c : Command) (result : Result Command Refusal)
    → template_of line ≡ Ok c → AllZip Spells texts values → length values ≡ hole_count (holes_of line) → keeps_signs (tokens line) texts ≡ true
    → length (filled_line line texts) ≤ 4096 → IsFilling (holes_of line) values c result → reading (filled_line line texts) ≡ result
unfolding filled_bytes
filled_line_reads line texts values c result read stand enough keeps short h =
    ⊎_elim
    (λ nothing.
    let holes : holes_of line ≡ [] = cond-true (is_nothing line) _ _ nothing in
    let none : texts ≡ [] = no_values texts values stand (enough ∙ ap hole_count holes) in
    let same : filled_line line texts ≡ line = ap (filled_line line) none in
    let p = nothing_read line (subst (λ l. length l ≤ 4096) same short) nothing in
    let is : ◌≡◌ {A = Result Command Refusal} (Ok c) (Ok Nothing) = sym read ∙ p.1 in
    let alone : c ≡ Nothing = cc in
    ap reading same ∙ p.0 ∙ sym (nothing_filled values result (subst (λ d. IsFilling [] values d result) alone
    (subst (λ l. IsFilling l values c result) holes h))))
    (λ some.
    let p = pieces_of texts values stand in
    line_reads line (filled_line line texts) p.said values c some read p.are_texts enough short
    (filled_tokens line texts p.said p.fronts p.signs keeps) result h)
    (cases_Bool (is_nothing line))

-- The line reads as no other command.
pub filled_line_only : (line : List ℕ) (texts : List (List ℕ)) (values : List Value) (c f : Command)
    → template_of line ≡ Ok c → AllZip Spells texts values → length values ≡ hole_count (holes_of line) → keeps_signs (tokens line) texts ≡ true
    → length (filled_line line texts) ≤ 4096 → reading (filled_line line texts) ≡ Ok f → Filled (holes_of line) values c f
unfolding filled_bytes
filled_line_only line texts values c f read stand enough keeps short reads =
    ⊎_elim
    (λ nothing.
    let holes : holes_of line ≡ [] = cond-true (is_nothing line) _ _ nothing in
    let none : texts ≡ [] = no_values texts values stand (enough ∙ ap hole_count holes) in
    let same : filled_line line texts ≡ line = ap (filled_line line) none in
    let p = nothing_read line (subst (λ l. length l ≤ 4096) same short) nothing in
    let is : ◌≡◌ {A = Result Command Refusal} (Ok c) (Ok Nothing) = sym read ∙ p.1 in
    let is_too : ◌≡◌ {A = Result Command Refusal} (Ok f) (Ok Nothing) = sym reads ∙ ap reading same ∙ p.0 in
    let alone : Nothing ≡ c = cc in
    let alone_too : Nothing ≡ f = cc in
    let whole : Filled [] values Nothing Nothing = record { same = refl; literals = refl } in
    subst (λ l. Filled l values c f) (sym holes) (subst (λ d. Filled [] values d f) alone (subst (λ d. Filled [] values Nothing d) alone_too whole)))
    (λ some.
    let p = pieces_of texts values stand in
    line_only line (filled_line line texts) p.said values c some read p.are_texts enough short
    (filled_tokens line texts p.said p.fronts p.signs keeps) f reads)
    (cases_Bool (is_nothing line))

-- ---- signs that are not kept

none_either : (is : Bool) (o : Option Command) → o ≡ None → cond is None o ≡ None
none_either true o none = refl
none_either false o none = none

-- Tokens with a minus literal after a sign are no command.
turned_unread : (ts : List Token) (texts : List (List ℕ)) (said : List Token) → AllZip HasSign texts said → keeps_signs ts texts ≡ false
    → command_of (in_place ts said) ≡ None
turned_unread ts texts said signs turned = by (command_of (in_place ts said)) refl
  where
    by : (o : Option Command) → command_of (in_place ts said) ≡ o → o ≡ None
    by None is = refl
    by (Some f) is =
        absurd (false≢true (sym (command_once (in_place ts said) f (command_read (in_place ts said) f is)) ∙ turned_twice ts texts said signs turned))

placed_is_something : (bytes : List ℕ) (ts said : List Token) (c : Command) → tokens bytes ≡ in_place ts said → command_of ts ≡ Some c
    → is_nothing bytes ≡ false
unfolding in_place
placed_is_something bytes ts said c is read =
    let p = command_begins ts c read in
    word_is_something bytes p.0 (in_place p.1 said) (is ∙ ap (λ l. in_place l said) p.2)

-- A line with a minus literal after a sign is no command.
pub turned_line_refused : (line : List ℕ) (texts : List (List ℕ)) (values : List Value) (c : Command) → template_of line ≡ Ok c
    → AllZip Spells texts values → length values ≡ hole_count (holes_of line) → keeps_signs (tokens line) texts ≡ false
    → length (filled_line line texts) ≤ 4096 → reading (filled_line line texts) ≡ Err Syntax
unfolding reading
turned_line_refused line texts values c read stand enough turned short =
    ⊎_elim
    (λ nothing.
    let none : texts ≡ [] = no_values texts values stand (enough ∙ ap hole_count (cond-true (is_nothing line) _ _ nothing)) in
    absurd (false≢true (sym turned ∙ ap (keeps_signs (tokens line)) none ∙ nothing_kept (tokens line))))
    (λ some.
    let p = pieces_of texts values stand in
    let bytes = filled_line line texts in
    let is : tokens bytes ≡ in_place (tokens line) p.said = bytes_same Outside line texts p.said p.fronts in
    let unread : command_of (tokens bytes) ≡ None = ap command_of is ∙ turned_unread (tokens line) texts p.said p.signs turned in
    cond-false (ltb 4096 (length bytes)) _ _ (le-ltb 4096 (length bytes) short)
    ∙ cond-false (is_nothing bytes) _ _ (placed_is_something bytes (tokens line) p.said c is (template_reads line c some read))
    ∙ ap read_as (none_either (has_hole (tokens bytes)) (command_of (tokens bytes)) unread))
    (cases_Bool (is_nothing line))
