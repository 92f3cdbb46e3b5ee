-- Combined phrases are read by reading each part.
use Rattle.std.proofs.Common.{◌≡◌, ◌⊎◌, inl, inr, ℕ, Bool, true, false, cond, List, [], ◌∷◌, Option, Some, None, refl, ap, ◌∙◌}
use Rattle.std.specs.Option.{option_map, option_and_then, option_or}
use Rattle.std.proofs.lemmas.Option.{none-some, same_Some}
use Rattle.mm_lang.specs.Phrases.{Phrase, ◌>>=◌, one, one_word, word_of, say, optional, in_parentheses, the_symbol}
use Rattle.mm_lang.specs.Tokens.{Token, Word}
use Rattle.mm_lang.specs.declared.read.token.Symbol.TheVariants.{Open, Close}

pub tested : {A : Type 0} (b : Bool) (o : Option A) (y : A) → cond b o None ≡ Some y → (b ≡ true) × (o ≡ Some y)
tested true o y e = (refl, e)
tested false o y e = absurd (none-some y e)

pub mapped : {A B : Type 0} (f : A → B) (o : Option A) (y : B) → option_map f o ≡ Some y → (x : A) × (o ≡ Some x) × (f x ≡ y)
mapped f None y e = absurd (none-some y e)
mapped f (Some x) y e = (x, refl, same_Some (f x) y e)

pub chained : {A B : Type 0} (f : A → Option B) (o : Option A) (y : B) → option_and_then f o ≡ Some y → (x : A) × (o ≡ Some x) × (f x ≡ Some y)
chained f None y e = absurd (none-some y e)
chained f (Some x) y e = (x, refl, e)

-- a value and the remaining tokens
abbrev pub Front : Type 0 → Type 0
Front A = A × List Token

pub said_same : {A : Type 0} (y x : A) (ts us : List Token) → ◌≡◌ {A = Option (Front A)} (Some (y, ts)) (Some (x, us)) → (y ≡ x) × (ts ≡ us)
said_same {A} y x ts us e =
    let same : ◌≡◌ {A = Front A} (y, ts) (x, us) = same_Some _ _ e in
    (ap (λ (r : Front A). r.0) same, ap (λ (r : Front A). r.1) same)

pub then_parts : {A B : Type 0} (first : Phrase A) (next : A → Phrase B) (ts : List Token) (y : B) (us : List Token)
    → (first >>= next) ts ≡ Some (y, us) → (x : A) × (ms : List Token) × (first ts ≡ Some (x, ms)) × (next x ms ≡ Some (y, us))
then_parts {A} {B} first next ts y us e =
    let answer : Front B = (y, us) in
    let p = chained (λ (r : Front A). next r.0 r.1) (first ts) answer e in
    (p.0.0, p.0.1, p.1, p.2)

pub one_parts : {A : Type 0} (says : Token → Option A) (ts : List Token) (x : A) (us : List Token)
    → one says ts ≡ Some (x, us) → (t : Token) × (ts ≡ t ∷ us) × (says t ≡ Some x)
one_parts {A} says [] x us e = let answer : Front A = (x, us) in absurd (none-some answer e)
one_parts {A} says (t ∷ ts) x us e =
    let answer : Front A = (x, us) in
    let pair : A → Front A = λ y. (y, ts) in
    let p = mapped pair (says t) answer e in
    (t, ap (λ (r : Front A). t ∷ r.1) p.2, p.1 ∙ ap (λ (r : Front A). Some r.0) p.2)

pub word_parts : {A : Type 0} (says : List ℕ → Option A) (ts : List Token) (x : A) (us : List Token)
    → one_word says ts ≡ Some (x, us) → (word : List ℕ) × (ts ≡ Word word ∷ us) × (says word ≡ Some x)
word_parts {A} says ts x us e =
    let p = one_parts (λ t. option_and_then says (word_of t)) ts x us e in
    let q = chained says (word_of p.0) x p.2 in
    (q.0, p.1 ∙ ap (λ t. t ∷ us) (is_word p.0 q.0 q.1), q.2)
  where
    is_word : (t : Token) (word : List ℕ) → word_of t ≡ Some word → t ≡ Word word
    is_word (Word w) word e = ap Word (same_Some w word e)
    is_word _ word e = absurd (none-some word e)

pub optional_parts : {A : Type 0} (absent : A) (phrase : Phrase A) (ts : List Token) (x : A) (us : List Token)
    → optional absent phrase ts ≡ Some (x, us) → (phrase ts ≡ Some (x, us)) ⊎ ((phrase ts ≡ None) × (absent ≡ x) × (ts ≡ us))
optional_parts {A} absent phrase ts x us e = by (phrase ts) refl e
  where
    by : (o : Option (Front A)) → phrase ts ≡ o → option_or o (Some (absent, ts)) ≡ Some (x, us)
        → (phrase ts ≡ Some (x, us)) ⊎ ((phrase ts ≡ None) × (absent ≡ x) × (ts ≡ us))
    by None is e = let p = said_same absent x ts us e in inr (is, p.0, p.1)
    by (Some r) is e = inl (is ∙ e)

pub in_parentheses_parts : {A : Type 0} (phrase : Phrase A) (ts : List Token) (x : A) (us : List Token) → in_parentheses phrase ts ≡ Some (x, us)
    → (inner ms : List Token) × (the_symbol Open ts ≡ Some (tt, inner)) × (phrase inner ≡ Some (x, ms)) × (the_symbol Close ms ≡ Some (tt, us))
in_parentheses_parts {A} phrase ts x us e =
    let p = then_parts (the_symbol Open) (λ o. phrase >>= (λ y. the_symbol Close >>= (λ c. say y))) ts x us e in
    let q = then_parts phrase (λ y. the_symbol Close >>= (λ c. say y)) p.1 x us p.3 in
    let r = then_parts (the_symbol Close) (λ c. say q.0) q.1 x us q.3 in
    let s = said_same q.0 x r.1 us r.3 in
    (p.1, q.1, p.2, q.2 ∙ ap (λ y. Some (y, q.1)) s.0, r.2 ∙ ap (λ vs. Some (tt, vs)) s.1)
