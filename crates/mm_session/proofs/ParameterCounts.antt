-- How many values a statement takes.
use Rattle.std.proofs.Common.{◌≡◌, ℕ, ◌+◌, Bool, true, false, cond, List, [], ◌∷◌, Option, Some, refl, sym, ap, zero-add, ◌∙◌}
use Rattle.std.specs.Prelude.{count_by}
use Rattle.std.specs.Option.{option_map}
use Rattle.std.proofs.lemmas.Bool.{cond-false}
use Rattle.std.proofs.lemmas.List.Sums.{sum_by-cons}
use Rattle.mm_lang.specs.Grammar.{literal_of}
use Rattle.mm_lang.specs.Reading.{is_nothing}
use Rattle.mm_lang.specs.Templates.{holes_among, holes_of}
use Rattle.mm_lang.specs.Tokens.{Token, Word, Signed, Quoted, Mark, Hole, Unreadable, is_hole, tokens}
use Rattle.mm_statement.specs.Holes.{hole_count}
use Rattle.mm_session.proofs.LineReadings.{unflagged}
use Rattle.mm_session.specs.Session.{SessionState}
use Rattle.mm_session.specs.Statements.{line_at, parameters_at}

-- The holes among the next tokens, and whether the first is one.
next_token : (t : Token) (ts : List Token) → count_by is_hole (t ∷ ts) ≡ cond (is_hole t) 1 0 + count_by is_hole ts
next_token t ts = sum_by-cons (λ (token : Token). cond (is_hole token) 1 0) t ts

-- A token that is no hole is not counted.
no_hole : (t : Token) (ts : List Token) → is_hole t ≡ false → count_by is_hole (t ∷ ts) ≡ count_by is_hole ts
no_hole t ts none = next_token t ts ∙ ap (λ (b : Bool). cond b 1 0 + count_by is_hole ts) none ∙ zero-add (count_by is_hole ts)

holes_counted : (ts : List Token) → hole_count (holes_among ts) ≡ count_by is_hole ts
holes_counted [] = refl
holes_counted (Hole ∷ ts) =
    sum_by-cons (λ (hole : Bool). cond hole 1 0) true (holes_among ts) ∙ ap (λ (n : ℕ). 1 + n) (holes_counted ts) ∙ sym (next_token Hole ts)
holes_counted (Word w ∷ ts) = unflagged (literal_of (Word w)) (holes_among ts) ∙ holes_counted ts ∙ sym (no_hole (Word w) ts refl)
holes_counted (Signed w ∷ ts) = unflagged (literal_of (Signed w)) (holes_among ts) ∙ holes_counted ts ∙ sym (no_hole (Signed w) ts refl)
holes_counted (Quoted text ∷ ts) = unflagged (literal_of (Quoted text)) (holes_among ts) ∙ holes_counted ts ∙ sym (no_hole (Quoted text) ts refl)
holes_counted (Mark symbol ∷ ts) = unflagged (literal_of (Mark symbol)) (holes_among ts) ∙ holes_counted ts ∙ sym (no_hole (Mark symbol) ts refl)
holes_counted (Unreadable ∷ ts) = unflagged (literal_of Unreadable) (holes_among ts) ∙ holes_counted ts ∙ sym (no_hole Unreadable ts refl)

pub parameters_counted : (number : ℕ) (line : List ℕ) (session : SessionState) → line_at number session.lines ≡ Some line → is_nothing line ≡ false
    → parameters_at number session.lines ≡ Some (count_by is_hole (tokens line))
parameters_counted number line session at some =
    ap (λ (o : Option (List ℕ)). option_map (λ (l : List ℕ). hole_count (holes_of l)) o) at
    ∙ ap (λ (n : ℕ). Some n) (ap hole_count (cond-false (is_nothing line) [] (holes_among (tokens line)) some) ∙ holes_counted (tokens line))
