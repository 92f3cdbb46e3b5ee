-- No bytes spell two values, and a value's text spells it.
use Rattle.std.proofs.Common.{◌≡◌, inl, inr, ◌<◌, ℕ, suc, List, [], ◌∷◌, ◌++◌, get_or, pos, refl, sym, ap, subst, ◌∙◌, arith}
use Rattle.std.specs.Int.{w64}
use Rattle.std.specs.Int.RustNames.{FitsSigned}
use Rattle.std.specs.Char.{digit_value}
use Rattle.std.specs.Str.Parse.{AllDigits, digits_value}
use Rattle.std.specs.Fmt.{decimal, signed_decimal}
use Rattle.std.proofs.Math.IntN.{ℤ, negsuc, neg_ℤ}
use Rattle.std.proofs.lemmas.Fmt.{decimal_is_IsNumeral}
use Rattle.mm_value.specs.declared.values.Value.{Value}
use Rattle.mm_value.specs.declared.values.Value.TheVariants.{Int, Text}
use Rattle.mm_value.specs.Literal.{IsNumeral, SpellsInt, doubled, quoted, SpellsText, Spells, IsWithinLimit}
use Rattle.mm_value.specs.Reading.{Closes}
use Rattle.mm_value.specs.Storable.{IsStorable}
use Rattle.mm_value.specs.Written.{value_text}
use Rattle.mm_value.proofs.Closing.{Closes-unique}
use Rattle.mm_value.proofs.Limits.{int_within, text_within}
use Rattle.mm_value.proofs.Numerals.{numeral_parts, numeral_from}

-- digits begin with a digit
digits_head : (x : ℕ) (xs bytes : List ℕ) → bytes ≡ x ∷ xs → AllDigits 10 bytes → digit_value x < 10
digits_head x xs bytes e h = (subst (AllDigits 10) e h).0

-- bytes that begin with a quote spell no number
pub quote_no_int : (bytes body : List ℕ) (z : ℤ) → bytes ≡ 39 ∷ body → SpellsInt bytes z → ⊥
quote_no_int bytes body z e (inl h) = omega (arith, digits_head 39 body bytes e (numeral_parts bytes h.0).1)
quote_no_int bytes body z e (inr h) =
    let f : 39 ∷ body ≡ 45 ∷ h.0 = sym e ∙ h.1 in
    let g : ◌≡◌ {A = ℕ} 39 45 = ap (λ l. get_or l 0 0) f in
    absurd (differ g)
  where
    differ : ◌≡◌ {A = ℕ} 39 45 → ⊥
    differ g = omega arith

-- digits do not begin with a minus
pub minus_no_digits : (bytes ds : List ℕ) → bytes ≡ 45 ∷ ds → IsNumeral bytes → ⊥
minus_no_digits bytes ds e h = omega (arith, digits_head 45 ds bytes e (numeral_parts bytes h).1)

-- .. and neither does a text
pub minus_no_text : (bytes ds text : List ℕ) → bytes ≡ 45 ∷ ds → SpellsText bytes text → ⊥
minus_no_text bytes ds text e h = absurd (differ (ap (λ l. get_or l 0 0) (sym e ∙ h.0)))
  where
    differ : ◌≡◌ {A = ℕ} 45 39 → ⊥
    differ g = omega arith

pub SpellsInt-unique : (bytes : List ℕ) (y z : ℤ) → SpellsInt bytes y → SpellsInt bytes z → y ≡ z
SpellsInt-unique bytes y z (inl p) (inl q) = p.1 ∙ sym q.1
SpellsInt-unique bytes y z (inl p) (inr q) = absurd (minus_no_digits bytes q.0 q.1 p.0)
SpellsInt-unique bytes y z (inr p) (inl q) = absurd (minus_no_digits bytes p.0 p.1 q.0)
SpellsInt-unique bytes y z (inr p) (inr q) = let e : p.0 ≡ q.0 = cc (p.1, q.1) in p.3 ∙ ap (λ ds. neg_ℤ (pos (digits_value 10 ds))) e ∙ sym q.3

-- a text in quotes is an opening quote and the bytes that end it
pub SpellsText-closes : (body text : List ℕ) → SpellsText (39 ∷ body) text → Closes body text
SpellsText-closes body text h = record { spelled = let e = h.0 in cc; one_line = h.1 }

pub Closes-spells : (body text : List ℕ) → Closes body text → SpellsText (39 ∷ body) text
Closes-spells body text h = (ap (λ l. 39 ∷ l) h.spelled, h.one_line)

pub SpellsText-unique : (bytes text other : List ℕ) → SpellsText bytes text → SpellsText bytes other → text ≡ other
SpellsText-unique bytes text other p q =
    let body = doubled text ++ 39 ∷ [] in
    let e : quoted other ≡ quoted text = sym q.0 ∙ p.0 in
    Closes-unique body text other (record { spelled = refl; one_line = p.1 }) (record { spelled = cc; one_line = q.1 })

-- no bytes spell both a number and a text
pub SpellsInt-no_text : (bytes : List ℕ) (z : ℤ) (text : List ℕ) → SpellsInt bytes z → SpellsText bytes text → ⊥
SpellsInt-no_text bytes z text p q = quote_no_int bytes (doubled text ++ 39 ∷ []) z q.0 p

pub Spells-unique : (bytes : List ℕ) (v w : Value) → Spells bytes v → Spells bytes w → v ≡ w
Spells-unique bytes (Int y) (Int z) p q = ap Int (SpellsInt-unique bytes y z p q)
Spells-unique bytes (Int y) (Text u) p q = absurd (SpellsInt-no_text bytes y u p q)
Spells-unique bytes (Text t) (Int z) p q = absurd (SpellsInt-no_text bytes z t q p)
Spells-unique bytes (Text t) (Text u) p q = ap Text (SpellsText-unique bytes t u p q)

signed_decimal_spells : (z : ℤ) → FitsSigned w64 z → SpellsInt (signed_decimal z) z
signed_decimal_spells (pos n) fits = let h = decimal_is_IsNumeral n (omega (arith, fits.sfits)) in inl (numeral_from (decimal n) h.0.0 h.0.1, ap pos (sym h.1))
signed_decimal_spells (negsuc n) fits =
    let h = decimal_is_IsNumeral (suc n) (omega (arith, fits.sfits)) in
    inr (decimal (suc n), refl, numeral_from (decimal (suc n)) h.0.0 h.0.1, ap (λ k. neg_ℤ (pos k)) (sym h.1))

-- the text of a value spells that value
pub value_text-spells : (v : Value) → IsStorable v → Spells (value_text v) v × IsWithinLimit v
value_text-spells (Int z) h = (signed_decimal_spells z h, int_within z h)
value_text-spells (Text t) h = ((refl, h.one_line), text_within t h.short)
