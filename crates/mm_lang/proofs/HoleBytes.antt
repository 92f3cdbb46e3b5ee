-- Without a question mark among the bytes, no token is a hole.
use Rattle.std.proofs.Common.{◌≡◌, ℕ, Bool, true, false, ◌||◌, cond, eqb, List, [], ◌∷◌, refl, sym, ap}
use Rattle.std.specs.List.{list_any}
use Rattle.std.proofs.lemmas.Bool.{cond-false, false≢true}
use Rattle.mm_lang.specs.Tokens.{Token, Word, Signed, Quoted, Mark, Hole, Unreadable, Place, Outside, Inside, has_hole, tokens, lexed, is_blank, is_word_byte}
use Rattle.mm_lang.specs.Tokens.{begins_word, begins_equal, onto_word, onto_minus, onto_equal, onto_text, onto_symbol}
use Rattle.mm_lang.specs.declared.read.token.Symbol.{Symbol}
use Rattle.mm_lang.specs.declared.read.token.Symbol.TheVariants.{Less, AtMost, Greater, AtLeast}

-- no token is a hole
abbrev Free : List Token → Type 0
Free ts = has_hole ts ≡ false

either : (b : Bool) (ts us : List Token) → Free ts → Free us → Free (cond b ts us)
either true ts us first second = first
either false ts us first second = second

behind : (t : Token) (ts : List Token) → Free (t ∷ ts) → Free ts
behind Hole ts free = absurd (false≢true (sym free))
behind (Word w) ts free = free
behind (Signed w) ts free = free
behind (Quoted w) ts free = free
behind (Mark s) ts free = free
behind Unreadable ts free = free

word_free : (b : ℕ) (joins : Bool) (ts : List Token) → Free ts → Free (onto_word b joins ts)
word_free b true [] free = refl
word_free b true (Word w ∷ ts) free = free
word_free b true (Signed w ∷ ts) free = free
word_free b true (Quoted w ∷ ts) free = free
word_free b true (Mark s ∷ ts) free = free
word_free b true (Hole ∷ ts) free = free
word_free b true (Unreadable ∷ ts) free = free
word_free b false ts free = free

minus_free : (joins : Bool) (ts : List Token) → Free ts → Free (onto_minus joins ts)
minus_free true [] free = refl
minus_free true (Word w ∷ ts) free = free
minus_free true (Signed w ∷ ts) free = free
minus_free true (Quoted w ∷ ts) free = free
minus_free true (Mark s ∷ ts) free = free
minus_free true (Hole ∷ ts) free = free
minus_free true (Unreadable ∷ ts) free = free
minus_free false ts free = free

equal_free : (alone joined : Symbol) (joins : Bool) (ts : List Token) → Free ts → Free (onto_equal alone joined joins ts)
equal_free alone joined true [] free = refl
equal_free alone joined true (t ∷ ts) free = behind t ts free
equal_free alone joined false ts free = free

text_free : (b : ℕ) (ts : List Token) → Free ts → Free (onto_text b ts)
text_free b [] free = refl
text_free b (Quoted w ∷ ts) free = free
text_free b (Word w ∷ ts) free = free
text_free b (Signed w ∷ ts) free = free
text_free b (Mark s ∷ ts) free = free
text_free b (Hole ∷ ts) free = free
text_free b (Unreadable ∷ ts) free = free

symbol_free : (b : ℕ) (bs : List ℕ) (ts : List Token) → eqb b 63 ≡ false → Free ts → Free (onto_symbol b bs ts)
symbol_free b bs ts other free =
    either (eqb b 40) _ _ free (either (eqb b 41) _ _ free (either (eqb b 44) _ _ free (either (eqb b 46) _ _ free (either (eqb b 61) _ _ free
    (either (eqb b 60) _ _ (equal_free Less AtMost (begins_equal bs) ts free)
    (either (eqb b 62) _ _ (equal_free Greater AtLeast (begins_equal bs) ts free)
    (either (eqb b 43) _ _ free
    (either (eqb b 45) _ _ (minus_free (begins_word bs) ts free)
    (ap has_hole (cond-false (eqb b 63) _ _ other))))))))))

-- no byte is a question mark
abbrev Unasked : List ℕ → Type 0
Unasked bs = list_any (λ y. eqb y 63) bs ≡ false

first_unasked : (b : ℕ) (bs : List ℕ) → Unasked (b ∷ bs) → (eqb b 63 ≡ false) × Unasked bs
first_unasked b bs unasked = by (eqb b 63) refl unasked
  where
    by : (c : Bool) → eqb b 63 ≡ c → (c || list_any (λ y. eqb y 63) bs) ≡ false → (eqb b 63 ≡ false) × Unasked bs
    by true is h = absurd (false≢true (sym h))
    by false is h = (is, h)

free_at : (place : Place) (bs : List ℕ) → Unasked bs → Free (lexed place bs)
unfolding lexed
free_at Outside [] unasked = refl
free_at Outside (b ∷ bs) unasked =
    let p = first_unasked b bs unasked in
    either (is_blank b) _ _ (free_at Outside bs p.1)
    (either (eqb b 39) _ _ (free_at Inside bs p.1)
    (either (is_word_byte b) _ _ (word_free b (begins_word bs) (lexed Outside bs) (free_at Outside bs p.1))
    (symbol_free b bs (lexed Outside bs) p.0 (free_at Outside bs p.1))))
free_at Inside [] unasked = refl
free_at Inside (b ∷ []) unasked = either (eqb b 39) _ _ refl refl
free_at Inside (b ∷ c ∷ bs) unasked =
    let p = first_unasked b (c ∷ bs) unasked in
    let q = first_unasked c bs p.1 in
    either (eqb b 10) _ _ refl
    (either (eqb b 39) _ _ (either (eqb c 39) _ _ (text_free 39 (lexed Inside bs) (free_at Inside bs q.1)) (free_at Outside (c ∷ bs) p.1))
    (text_free b (lexed Inside (c ∷ bs)) (free_at Inside (c ∷ bs) p.1)))

pub unasked_free : (line : List ℕ) → list_any (λ y. eqb y 63) line ≡ false → has_hole (tokens line) ≡ false
unasked_free line unasked = free_at Outside line unasked
