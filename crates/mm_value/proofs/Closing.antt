-- The bytes that end a text after its opening quote.
use Rattle.std.proofs.Common.{◌≡◌, ◌≢◌, ◌⊎◌, inl, inr, ◌<◌, ◌≤◌, ℕ, ◌+◌, List, [], ◌∷◌, ◌++◌, length, take, set, refl, sym, ap, subst, ◌∙◌, arith}
use Rattle.std.proofs.Common.{append_assoc, append-nil, length-set, length-append}
use Rattle.std.specs.List.{All}
use Rattle.std.proofs.lemmas.Bool.{cases_eq}
use Rattle.std.proofs.lemmas.List.{take_all, take_more_set, take-append-le}
use Rattle.std.proofs.lemmas.List.Elements.{All-tail}
use Rattle.mm_value.specs.Literal.{doubled_byte, doubled}
use Rattle.mm_value.specs.Reading.{Closes}
use Rattle.mm_value.proofs.Quotes.{doubled_other, doubled-append}

-- a quote is doubled
doubled_at_quote : (x : ℕ) (xs : List ℕ) → x ≡ 39 → doubled (x ∷ xs) ≡ 39 ∷ 39 ∷ doubled xs
doubled_at_quote x xs e = ap (λ b. doubled (b ∷ xs)) e

-- how the bytes that end a text begin: with the closing quote, with a doubled quote, or with another byte of the text
abbrev Begins : ℕ → List ℕ → List ℕ → Type 0
Begins x xs text =
    ((text ≡ []) × (x ≡ 39) × (xs ≡ []))
    ⊎ (((ts : List ℕ) × (text ≡ x ∷ ts) × (x ≡ 39) × (xs ≡ 39 ∷ (doubled ts ++ 39 ∷ [])))
    ⊎ ((ts : List ℕ) × (text ≡ x ∷ ts) × (x ≢ 39) × (xs ≡ doubled ts ++ 39 ∷ [])))

begins : (x : ℕ) (xs text : List ℕ) → x ∷ xs ≡ doubled text ++ 39 ∷ [] → Begins x xs text
begins x xs [] e = inl (refl, cc, cc)
begins x xs (t ∷ ts) e =
    elim (cases_eq t 39) [
      | inl is ↦ let f : x ∷ xs ≡ 39 ∷ (39 ∷ (doubled ts ++ 39 ∷ [])) = e ∙ ap (λ l. l ++ 39 ∷ []) (doubled_at_quote t ts is) in inr (inl (ts, cc, cc, cc))
      | inr ne ↦ let f : x ∷ xs ≡ t ∷ (doubled ts ++ 39 ∷ []) = e ∙ ap (λ l. l ++ 39 ∷ []) (doubled_other t ts ne) in
          let g : x ≡ t = cc in inr (inr (ts, cc, subst (λ b. b ≢ 39) (sym g) ne, cc))
    ]

-- the remaining text after a prefix of it
pub doubled_cancel : (front rest text : List ℕ) → doubled front ++ rest ≡ doubled text ++ 39 ∷ []
    → (back : List ℕ) × (text ≡ front ++ back) × (rest ≡ doubled back ++ 39 ∷ [])
doubled_cancel [] rest text e = (text, refl, e)
doubled_cancel (x ∷ xs) rest text e =
    elim (cases_eq x 39) [
      | inl is ↦
          let f : 39 ∷ (39 ∷ (doubled xs ++ rest)) ≡ doubled text ++ 39 ∷ [] = sym (ap (λ l. l ++ rest) (doubled_at_quote x xs is)) ∙ e in
          elim (begins 39 (39 ∷ (doubled xs ++ rest)) text f) [
            | inl w ↦ cc (w.2)
            | inr (inl w) ↦ let g : doubled xs ++ rest ≡ doubled w.0 ++ 39 ∷ [] = cc (w.3) in
                let back = doubled_cancel xs rest w.0 g in
                (back.0, w.1 ∙ ap (λ b. b ∷ w.0) (sym is) ∙ ap (λ l. x ∷ l) back.1, back.2)
            | inr (inr w) ↦ absurd (w.2 refl)
          ]
      | inr ne ↦
          let f : x ∷ (doubled xs ++ rest) ≡ doubled text ++ 39 ∷ [] = sym (ap (λ l. l ++ rest) (doubled_other x xs ne)) ∙ e in
          elim (begins x (doubled xs ++ rest) text f) [
            | inl w ↦ absurd (ne w.1)
            | inr (inl w) ↦ absurd (ne w.2)
            | inr (inr w) ↦ let back = doubled_cancel xs rest w.0 w.3 in
                (back.0, w.1 ∙ ap (λ l. x ∷ l) back.1, back.2)
          ]
    ]

-- bytes after an opening quote are at most one text
pub Closes-unique : (body text other : List ℕ) → Closes body text → Closes body other → text ≡ other
Closes-unique body text other p q =
    let back = doubled_cancel text (39 ∷ []) other (sym p.spelled ∙ q.spelled) in
    sym (back.1 ∙ ap (λ l. text ++ l) (ends back.0 back.2) ∙ append-nil text)
  where
    ends : (back : List ℕ) → 39 ∷ [] ≡ doubled back ++ 39 ∷ [] → back ≡ []
    ends back e = elim (begins 39 [] back e) [ inl w ↦ w.0 | inr (inl w) ↦ cc (w.3) | inr (inr w) ↦ absurd (w.2 refl) ]

-- after a prefix of the text, the rest ends the remaining text
pub Closes-back : (body front rest text : List ℕ) → body ≡ doubled front ++ rest → Closes body text → (back : List ℕ) × Closes rest back
Closes-back body front rest text e h =
    let back = doubled_cancel front rest text (sym e ∙ h.spelled) in
    (back.0, record { spelled = back.2; one_line = All-back front back.0 (subst (All (λ b. b ≢ 10)) back.1 h.one_line) })
  where
    All-back : (xs ys : List ℕ) → All (λ b. b ≢ 10) (xs ++ ys) → All (λ b. b ≢ 10) ys
    All-back [] ys all = all
    All-back (x ∷ xs) ys all = All-back xs ys (All-tail (λ b. b ≢ 10) x (xs ++ ys) all)

-- a text is at most as long as its spelling
pub length-doubled : (text : List ℕ) → length text ≤ length (doubled text)
length-doubled [] = omega arith
length-doubled (x ∷ xs) =
    elim (cases_eq x 39) [
      | inl is ↦ omega (arith, length-doubled xs, ap length (doubled_at_quote x xs is))
      | inr ne ↦ omega (arith, length-doubled xs, ap length (doubled_other x xs ne))
    ]

-- a prefix of the text, one byte longer
pub doubled_front_more : (body front rest tail : List ℕ) (x : ℕ) → body ≡ doubled front ++ rest → rest ≡ doubled_byte x ++ tail
    → body ≡ doubled (front ++ x ∷ []) ++ tail
doubled_front_more body front rest tail x e f =
    let pushed : doubled (front ++ x ∷ []) ≡ doubled front ++ doubled_byte x = doubled-append front (x ∷ []) ∙ ap (λ l. doubled front ++ l)
    (append-nil (doubled_byte x)) in
    e ∙ ap (λ l. doubled front ++ l) f ∙ sym (append_assoc (doubled front) (doubled_byte x) tail) ∙ ap (λ l. l ++ tail) (sym pushed)

-- the prefix of the buffer after one more byte is written
pub buffer_more : (buffer front : List ℕ) (x n : ℕ) → n ≡ length front → n < length buffer → take n buffer ≡ take (length buffer) front
    → take (length (front ++ x ∷ [])) (set buffer n x) ≡ take (length (set buffer n x)) (front ++ x ∷ [])
buffer_more buffer front x n is lt e =
    let longer : length (front ++ x ∷ []) ≡ n + 1 = omega (arith, length-append front (x ∷ [])) in
    let stands : take n buffer ≡ front = e ∙ take_all (length buffer) front (omega arith) in
    ap (λ k. take k (set buffer n x)) longer ∙ take_more_set buffer n x lt ∙ ap (λ l. l ++ x ∷ []) stands
    ∙ sym (take_all (length (set buffer n x)) (front ++ x ∷ []) (omega (arith, length-set buffer n x)))

-- .. and if the buffer is full
pub buffer_full : (buffer front : List ℕ) (x : ℕ) → length buffer ≤ length front → take (length front) buffer ≡ take (length buffer) front
    → take (length (front ++ x ∷ [])) buffer ≡ take (length buffer) (front ++ x ∷ [])
buffer_full buffer front x full e =
    take_all (length (front ++ x ∷ [])) buffer (omega (arith, length-append front (x ∷ []))) ∙ sym (take_all (length front) buffer full) ∙ e
    ∙ sym (take-append-le (length buffer) front (x ∷ []) full)
