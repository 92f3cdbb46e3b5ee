-- The results of reading a literal, by outcome.
use Rattle.std.proofs.Common.{◌≡◌, ◌⊎◌, ◌↔◌, inl, inr, ◌<◌, ◌≤◌, ℕ, List, ◌∷◌, length, Result, Ok, Err, MatchResult, IfOk, IfErr, IsErrOf, Bool, true, false}
use Rattle.std.proofs.Common.{pos, get_or, ◌≢◌, refl, sym, ap, subst, ◌∙◌, arith}
use Rattle.std.specs.Int.{w64}
use Rattle.std.specs.Str.Parse.{digits_value}
use Rattle.std.specs.Int.RustNames.{FitsSigned}
use Rattle.std.proofs.lemmas.Int.{to_z-of_z}
use mir.Val.{to_z, of_z}
use Rattle.std.proofs.Math.IntN.{ℤ}
use Rattle.mm_value.specs.declared.refusal.Refusal.{Refusal}
use Rattle.mm_value.specs.declared.refusal.Refusal.TheVariants.{Syntax, NumberOutOfRange, TextTooLong, Memory}
use Rattle.mm_value.specs.declared.values.Value.{Value}
use Rattle.mm_value.specs.declared.values.Value.TheVariants.{Int, Text}
use Rattle.mm_value.specs.Literal.{IsNumeral, SpellsInt, SpellsText, Spells, IsWithinLimit}
use Rattle.mm_value.specs.Reading.{ReadsInt, ReadsText, Closes, signed_value}
use Rattle.mm_value.proofs.Limits.{int_within, within_int, text_within, within_text}
use Rattle.mm_value.proofs.Spelling.{Spells-unique, SpellsInt-unique, SpellsInt-no_text, SpellsText-unique, SpellsText-closes, Closes-spells, quote_no_int}
use Rattle.mm_value.proofs.Spelling.{minus_no_digits, minus_no_text}

-- each outcome with the property of the bytes
abbrev pub Outcome : List ℕ → Result Value Refusal → Type 0
Outcome bytes (Ok v) = Spells bytes v × IsWithinLimit v
Outcome bytes (Err e) =
    ((e ≡ Syntax) × ((v : Value) → Spells bytes v → ⊥))
    ⊎ (((e ≡ NumberOutOfRange) × ((z : ℤ) × SpellsInt bytes z × ¬ FitsSigned w64 z))
    ⊎ (((e ≡ TextTooLong) × ((text : List ℕ) × SpellsText bytes text × (64 < length text)))
    ⊎ ((e ≡ Memory) × ((text : List ℕ) × SpellsText bytes text × (16 < length text) × (length text ≤ 64)))))

-- a number that exceeds 64 bits is no value within its limit
range_no_value : (bytes : List ℕ) (z : ℤ) (v : Value) → SpellsInt bytes z → ¬ FitsSigned w64 z → Spells bytes v → IsWithinLimit v → ⊥
range_no_value bytes z (Int y) p out q within = out (subst (FitsSigned w64) (SpellsInt-unique bytes y z q p) (within_int y within))
range_no_value bytes z (Text t) p out q within = SpellsInt-no_text bytes z t p q

-- .. and neither is a text of more than 64 bytes
long_no_value : (bytes text : List ℕ) (v : Value) → SpellsText bytes text → 64 < length text → Spells bytes v → IsWithinLimit v → ⊥
long_no_value bytes text (Int z) p long q within = SpellsInt-no_text bytes z text q p
long_no_value bytes text (Text t) p long q within = omega (arith, long, within_text t within, ap length (SpellsText-unique bytes t text q p))

ok : (bytes : List ℕ) (r : Result Value Refusal) → Outcome bytes r → IfOk r (λ v. Spells bytes v × IsWithinLimit v)
ok bytes (Ok v) h = h
ok bytes (Err e) h = tt

found : (bytes : List ℕ) (r : Result Value Refusal) → Outcome bytes r
    → (value : Value) → Spells bytes value → IsWithinLimit value → MatchResult r (λ v. v ≡ value) (λ e. e ≡ Memory)
found bytes (Ok v) h w spells within = Spells-unique bytes v w h.0 spells
found bytes (Err e) (inl h) w spells within = absurd (h.1 w spells)
found bytes (Err e) (inr (inl h)) w spells within = absurd (range_no_value bytes h.1.0 w h.1.1 h.1.2 spells within)
found bytes (Err e) (inr (inr (inl h))) w spells within = absurd (long_no_value bytes h.1.0 w h.1.1 h.1.2 spells within)
found bytes (Err e) (inr (inr (inr h))) w spells within = h.0

syntax_iff : (bytes : List ℕ) (r : Result Value Refusal) → Outcome bytes r → IsErrOf r Syntax ↔ ((v : Value) → Spells bytes v → ⊥)
syntax_iff bytes (Ok v) h = (λ e. absurd (cc (e)), λ none. absurd (none v h.0))
syntax_iff bytes (Err e) (inl h) = (λ _. h.1, λ _. ap Err h.0)
syntax_iff bytes (Err e) (inr (inl h)) = (λ f. cc (f, h.0), λ none. absurd (none (Int h.1.0) h.1.1))
syntax_iff bytes (Err e) (inr (inr (inl h))) = (λ f. cc (f, h.0), λ none. absurd (none (Text h.1.0) h.1.1))
syntax_iff bytes (Err e) (inr (inr (inr h))) = (λ f. cc (f, h.0), λ none. absurd (none (Text h.1.0) h.1.1))

range_iff : (bytes : List ℕ) (r : Result Value Refusal) → Outcome bytes r → IsErrOf r NumberOutOfRange ↔ ((z : ℤ) × SpellsInt bytes z × ¬ FitsSigned w64 z)
range_iff bytes (Ok v) h = (λ e. cc (e), λ w. absurd (range_no_value bytes w.0 v w.1 w.2 h.0 h.1))
range_iff bytes (Err e) (inl h) = (λ f. cc (f, h.0), λ w. absurd (h.1 (Int w.0) w.1))
range_iff bytes (Err e) (inr (inl h)) = (λ _. h.1, λ _. ap Err h.0)
range_iff bytes (Err e) (inr (inr (inl h))) = (λ f. cc (f, h.0), λ w. absurd (SpellsInt-no_text bytes w.0 h.1.0 w.1 h.1.1))
range_iff bytes (Err e) (inr (inr (inr h))) = (λ f. cc (f, h.0), λ w. absurd (SpellsInt-no_text bytes w.0 h.1.0 w.1 h.1.1))

too_long_iff : (bytes : List ℕ) (r : Result Value Refusal) → Outcome bytes r
    → IsErrOf r TextTooLong ↔ ((text : List ℕ) × SpellsText bytes text × (64 < length text))
too_long_iff bytes (Ok v) h = (λ e. cc (e), λ w. absurd (long_no_value bytes w.0 v w.1 w.2 h.0 h.1))
too_long_iff bytes (Err e) (inl h) = (λ f. cc (f, h.0), λ w. absurd (h.1 (Text w.0) w.1))
too_long_iff bytes (Err e) (inr (inl h)) = (λ f. cc (f, h.0), λ w. absurd (SpellsInt-no_text bytes h.1.0 w.0 h.1.1 w.1))
too_long_iff bytes (Err e) (inr (inr (inl h))) = (λ _. h.1, λ _. ap Err h.0)
too_long_iff bytes (Err e) (inr (inr (inr h))) =
    (λ f. cc (f, h.0), λ w. absurd (omega (arith, w.2, h.1.3, ap length (SpellsText-unique bytes w.0 h.1.0 w.1 h.1.1))))

refusals : (bytes : List ℕ) (r : Result Value Refusal) → Outcome bytes r
    → IfErr r (λ e. (e ≡ Syntax) ⊎ ((e ≡ NumberOutOfRange) ⊎ ((e ≡ TextTooLong) ⊎ (e ≡ Memory))))
refusals bytes (Ok v) h = tt
refusals bytes (Err e) (inl h) = inl h.0
refusals bytes (Err e) (inr (inl h)) = inr (inl h.0)
refusals bytes (Err e) (inr (inr (inl h))) = inr (inr (inl h.0))
refusals bytes (Err e) (inr (inr (inr h))) = inr (inr (inr h.0))

memory : (bytes : List ℕ) (r : Result Value Refusal) → Outcome bytes r → IsErrOf r Memory → (text : List ℕ) × SpellsText bytes text × (16 < length text)
memory bytes (Ok v) h e = cc (e)
memory bytes (Err e) (inl h) f = cc (f, h.0)
memory bytes (Err e) (inr (inl h)) f = cc (f, h.0)
memory bytes (Err e) (inr (inr (inl h))) f = cc (f, h.0)
memory bytes (Err e) (inr (inr (inr h))) f = (h.1.0, h.1.1, h.1.2)

-- the clauses of `read_literal`
abbrev pub Clauses : List ℕ → Result Value Refusal → Type 0
Clauses bytes r = record {
  ok : IfOk r (λ v. Spells bytes v × IsWithinLimit v);
  found : (value : Value) → Spells bytes value → IsWithinLimit value → MatchResult r (λ v. v ≡ value) (λ e. e ≡ Memory);
  syntax : IsErrOf r Syntax ↔ ((v : Value) → Spells bytes v → ⊥);
  range : IsErrOf r NumberOutOfRange ↔ ((z : ℤ) × SpellsInt bytes z × ¬ FitsSigned w64 z);
  too_long : IsErrOf r TextTooLong ↔ ((text : List ℕ) × SpellsText bytes text × (64 < length text));
  refusals : IfErr r (λ e. (e ≡ Syntax) ⊎ ((e ≡ NumberOutOfRange) ⊎ ((e ≡ TextTooLong) ⊎ (e ≡ Memory))));
  memory : IsErrOf r Memory → (text : List ℕ) × SpellsText bytes text × (16 < length text);
  number : IsErrOf r Memory → (z : ℤ) → SpellsInt bytes z → ⊥;
}

pub clauses : (bytes : List ℕ) (r : Result Value Refusal) → Outcome bytes r → Clauses bytes r
clauses bytes r h = record {
  ok = ok bytes r h;
  found = found bytes r h;
  syntax = syntax_iff bytes r h;
  range = range_iff bytes r h;
  too_long = too_long_iff bytes r h;
  refusals = refusals bytes r h;
  memory = memory bytes r h;
  number = λ e z spells. let t = memory bytes r h e in SpellsInt-no_text bytes z t.0 spells t.1;
}

-- after an opening quote
pub text_read : (bytes body text : List ℕ) → bytes ≡ 39 ∷ body → ReadsText body (Ok text) → Outcome bytes (Ok (Text text))
text_read bytes body text e h = (subst (λ l. SpellsText l text) (sym e) (Closes-spells body text h.0), text_within text h.1)

-- a text whose spelling begins with an opening quote ends the bytes after it
closed : (bytes body text : List ℕ) → bytes ≡ 39 ∷ body → SpellsText bytes text → Closes body text
closed bytes body text e h = SpellsText-closes body text (subst (λ l. SpellsText l text) e h)

spelled : (bytes body text : List ℕ) → bytes ≡ 39 ∷ body → Closes body text → SpellsText bytes text
spelled bytes body text e h = subst (λ l. SpellsText l text) (sym e) (Closes-spells body text h)

unclosed : (bytes body : List ℕ) → bytes ≡ 39 ∷ body → ((text : List ℕ) → Closes body text → ⊥) → (v : Value) → Spells bytes v → ⊥
unclosed bytes body e none (Int z) h = quote_no_int bytes body z e h
unclosed bytes body e none (Text text) h = none text (closed bytes body text e h)

pub text_refused : (bytes body : List ℕ) (e : Refusal) → bytes ≡ 39 ∷ body → ReadsText body (Err e) → Outcome bytes (Err e)
text_refused bytes body e is (inl h) = inl (h.0, unclosed bytes body is h.1)
text_refused bytes body e is (inr (inl h)) = inr (inr (inl (h.0, (h.1.0, spelled bytes body h.1.0 is h.1.1, h.1.2))))
text_refused bytes body e is (inr (inr h)) = inr (inr (inr (h.0, (h.1.0, spelled bytes body h.1.0 is h.1.1, h.1.2, h.1.3))))

-- the digits follow a minus, or are all bytes, which begin with neither a minus nor a quote
abbrev pub IsSigned : Bool → List ℕ → List ℕ → Type 0
IsSigned true bytes digits = bytes ≡ 45 ∷ digits
IsSigned false bytes digits = (bytes ≡ digits) × (x : ℕ) × (xs : List ℕ) × (bytes ≡ x ∷ xs) × (x ≢ 39) × (x ≢ 45)

numeral_spells : (is_negative : Bool) (bytes digits : List ℕ) → IsSigned is_negative bytes digits → IsNumeral digits
    → SpellsInt bytes (signed_value is_negative digits)
numeral_spells true bytes digits e h = inr (digits, e, h, refl)
numeral_spells false bytes digits e h = inl (subst IsNumeral (sym e.0) h, ap (λ l. pos (digits_value 10 l)) (sym e.0))

no_numeral : (is_negative : Bool) (bytes digits : List ℕ) → IsSigned is_negative bytes digits → ¬ IsNumeral digits → (v : Value) → Spells bytes v → ⊥
no_numeral true bytes digits e none (Int z) (inl h) = minus_no_digits bytes digits e h.0
no_numeral true bytes digits e none (Int z) (inr h) = let f : h.0 ≡ digits = cc (e, h.1) in none (subst IsNumeral f h.2)
no_numeral true bytes digits e none (Text text) h = minus_no_text bytes digits text e h
no_numeral false bytes digits e none (Int z) (inl h) = none (subst IsNumeral e.0 h.0)
no_numeral false bytes digits e none (Int z) (inr h) = e.5 (ap (λ l. get_or l 0 0) (sym e.3 ∙ h.1))
no_numeral false bytes digits e none (Text text) h = e.4 (ap (λ l. get_or l 0 0) (sym e.3 ∙ h.0))

pub int_read : (is_negative : Bool) (bytes digits : List ℕ) (z : ℤ) → IsSigned is_negative bytes digits → ReadsInt is_negative digits (Ok z)
    → Outcome bytes (Ok (Int z))
int_read is_negative bytes digits z e h = (subst (SpellsInt bytes) (sym h.1) (numeral_spells is_negative bytes digits e h.0), int_within z h.2)

pub int_refused : (is_negative : Bool) (bytes digits : List ℕ) (r : Refusal) → IsSigned is_negative bytes digits
    → ReadsInt is_negative digits (Err r) → Outcome bytes (Err r)
int_refused is_negative bytes digits r e (inl h) = inl (h.0, no_numeral is_negative bytes digits e h.1)
int_refused is_negative bytes digits r e (inr h) = inr (inl (h.0, (signed_value is_negative digits, numeral_spells is_negative bytes digits e h.1, h.2)))

-- the clauses if an error is returned
pub clauses_passed : (bytes : List ℕ) (r : Result Value Refusal) (e f : Refusal) → r ≡ Err f → f ≡ e → Outcome bytes (Err e) → Clauses bytes r
clauses_passed bytes r e f is same h = clauses bytes r (subst (Outcome bytes) (sym (is ∙ ap Err same)) h)

-- the clauses if a number is read
pub clauses_number : (is_negative : Bool) (bytes digits : List ℕ) (z : ℤ) → IsSigned is_negative bytes digits → ReadsInt is_negative digits (Ok z)
    → Clauses bytes (Ok (Int (to_z w64 (of_z w64 z))))
clauses_number is_negative bytes digits z e h =
    clauses bytes (Ok (Int (to_z w64 (of_z w64 z))))
    (subst (λ y. Outcome bytes (Ok (Int y))) (sym (to_z-of_z w64 z h.2)) (int_read is_negative bytes digits z e h))
