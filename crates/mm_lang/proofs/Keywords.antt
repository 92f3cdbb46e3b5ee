-- Keywords by their first letters.
use Rattle.std.proofs.Common.{◌≡◌, ℕ, Bool, true, false, cond, eqb, List, [], ◌∷◌, Some, None, length, get_or, refl, sym, ap, ◌∙◌, arith}
use Rattle.std.specs.List.{filter, find}
use Rattle.std.proofs.lemmas.Bool.{cond-true, cond-false, eqb-true, false≢true}
use Rattle.std.proofs.lemmas.Bool.Decides.{Decides-eqb}
use Rattle.mm_lang.specs.declared.read.keyword.Keyword.{Keyword}
use Rattle.mm_lang.specs.declared.read.keyword.TheConstants.{KEYWORDS}
use Rattle.mm_lang.specs.Words.{is_word, keyword_named}
use Rattle.mm_lang.specs.steps.Letters.{begins_keyword, begins_with}
use Rattle.mm_lang.proofs.SpelledWords.{is_word-Decides}

-- The first element that passes a test is also the first among the elements that pass a weaker test.
find_among : {X : Type 0} (p q : X → Bool) → ((x : X) → p x ≡ true → q x ≡ true) → (xs : List X) → find p (filter q xs) ≡ find p xs
find_among p q implied [] = refl
find_among {X} p q implied (x ∷ xs) = by (p x) refl (q x) refl (find_among p q implied xs)
  where
    by : (a : Bool) → p x ≡ a → (b : Bool) → q x ≡ b → find p (filter q xs) ≡ find p xs
        → find p (cond b (x ∷ filter q xs) (filter q xs)) ≡ cond a (Some x) (find p xs)
    by true passes true kept others = cond-true (p x) _ _ passes
    by true passes false dropped others = absurd (false≢true (sym dropped ∙ implied x passes))
    by false fails true kept others = cond-false (p x) _ _ fails ∙ others
    by false fails false dropped others = others

-- a word that is a keyword begins with its first letter
first_letter : (b : ℕ) (bs : List ℕ) (k : Keyword) → is_word k (b ∷ bs) ≡ true → begins_keyword b k ≡ true
first_letter b bs k named = ap (begins_with b) (sym ((is_word-Decides k (b ∷ bs)).0 named)) ∙ (Decides-eqb b b).1 refl

-- A word's keyword is among those that begin with its first letter.
pub named_among : (w : List ℕ) → eqb (length w) 0 ≡ false → find (λ k. is_word k w) (filter (begins_keyword (get_or w 0 0)) KEYWORDS) ≡ keyword_named w
named_among [] some = absurd (false≢true (sym some))
named_among (b ∷ bs) some = find_among (λ k. is_word k (b ∷ bs)) (begins_keyword b) (first_letter b bs) KEYWORDS

-- No keyword is empty.
pub named_none : (w : List ℕ) → eqb (length w) 0 ≡ true → None ≡ keyword_named w
named_none [] none = refl
named_none (b ∷ bs) none = absurd (omega (arith, eqb-true (length (b ∷ bs)) 0 none))
