-- The tokens of bytes, by the first byte.
use Rattle.std.proofs.Common.{◌≡◌, ◌≢◌, ℕ, Bool, true, false, ⊎_elim, suc, one-add, eqb, List, [], ◌∷◌, ◌++◌, get_or, take, drop, refl, sym, ap, ◌∙◌}
use Rattle.std.specs.List.{prefix_len}
use Rattle.std.proofs.lemmas.Bool.{cases_Bool, false≢true, cond-true, cond-false, or_from, ne_eqb}
use Rattle.mm_lang.specs.declared.read.token.Symbol.TheVariants.{Equal}
use Rattle.mm_lang.specs.Tokens.{Token, Word, Quoted, Mark, Unreadable, Inside, tokens, lexed, is_blank, is_word_byte, begins_word, onto_word, onto_text}
use Rattle.mm_lang.specs.Tokens.{onto_symbol}
use Rattle.mm_lang.specs.steps.Splitting.{begins_blank}

-- no bytes
pub tokens_none : tokens [] ≡ []
unfolding lexed
tokens_none = refl

-- a blank
pub tokens_blank : (b : ℕ) (bs : List ℕ) → is_blank b ≡ true → tokens (b ∷ bs) ≡ tokens bs
unfolding lexed
tokens_blank b bs blank = cond-true (is_blank b) _ _ blank

-- the run at the front, one byte longer
pub run_yes : (p : ℕ → Bool) (b : ℕ) (bs : List ℕ) → p b ≡ true → prefix_len p (b ∷ bs) ≡ suc (prefix_len p bs)
run_yes p b bs passes = cond-true (p b) _ _ passes ∙ one-add (prefix_len p bs)

pub run_no : (p : ℕ → Bool) (b : ℕ) (bs : List ℕ) → p b ≡ false → prefix_len p (b ∷ bs) ≡ 0
run_no p b bs fails = cond-false (p b) _ _ fails

pub tokens_blanks : (bytes : List ℕ) → tokens (drop (prefix_len is_blank bytes) bytes) ≡ tokens bytes
tokens_blanks [] = refl
tokens_blanks (b ∷ bs) =
    ⊎_elim
    (λ blank. ap (λ n. tokens (drop n (b ∷ bs))) (run_yes is_blank b bs blank) ∙ tokens_blanks bs ∙ sym (tokens_blank b bs blank))
    (λ visible. ap (λ n. tokens (drop n (b ∷ bs))) (run_no is_blank b bs visible))
    (cases_Bool (is_blank b))

pub visible_behind_blanks : (bytes : List ℕ) → begins_blank (drop (prefix_len is_blank bytes) bytes) ≡ false
visible_behind_blanks [] = refl
visible_behind_blanks (b ∷ bs) =
    ⊎_elim
    (λ blank. ap (λ n. begins_blank (drop n (b ∷ bs))) (run_yes is_blank b bs blank) ∙ visible_behind_blanks bs)
    (λ visible. ap (λ n. begins_blank (drop n (b ∷ bs))) (run_no is_blank b bs visible) ∙ visible)
    (cases_Bool (is_blank b))

-- a quote
pub tokens_quote : (bs : List ℕ) → tokens (39 ∷ bs) ≡ lexed Inside bs
unfolding lexed
tokens_quote bs = refl

-- a byte of a word
pub word_byte_not : (b n : ℕ) → is_word_byte b ≡ true → is_word_byte n ≡ false → eqb b n ≡ false
word_byte_not b n word other = ne_eqb b n (λ e. false≢true (sym other ∙ ap is_word_byte (sym e) ∙ word))

pub word_step : (b : ℕ) (bs : List ℕ) → is_word_byte b ≡ true → tokens (b ∷ bs) ≡ onto_word b (begins_word bs) (tokens bs)
unfolding lexed
word_step b bs word =
    cond-false (is_blank b) _ _ (or_from (eqb b 32) (eqb b 9) (word_byte_not b 32 word refl) (word_byte_not b 9 word refl))
    ∙ cond-false (eqb b 39) _ _ (word_byte_not b 39 word refl)
    ∙ cond-true (is_word_byte b) _ _ word

pub tokens_word : (b : ℕ) (bs : List ℕ) → is_word_byte b ≡ true
    → tokens (b ∷ bs) ≡ Word (b ∷ take (prefix_len is_word_byte bs) bs) ∷ tokens (drop (prefix_len is_word_byte bs) bs)
tokens_word b [] word = word_step b [] word
tokens_word b (c ∷ cs) word =
    ⊎_elim
    (λ goes_on.
    word_step b (c ∷ cs) word
    ∙ ap (λ joins. onto_word b joins (tokens (c ∷ cs))) goes_on
    ∙ ap (onto_word b true) (tokens_word c cs goes_on)
    ∙ ap (λ n. Word (b ∷ take n (c ∷ cs)) ∷ tokens (drop n (c ∷ cs))) (sym (run_yes is_word_byte c cs goes_on)))
    (λ ends.
    word_step b (c ∷ cs) word
    ∙ ap (λ joins. onto_word b joins (tokens (c ∷ cs))) ends
    ∙ ap (λ n. Word (b ∷ take n (c ∷ cs)) ∷ tokens (drop n (c ∷ cs))) (sym (run_no is_word_byte c cs ends)))
    (cases_Bool (is_word_byte c))

-- a symbol, or an unreadable byte
pub tokens_symbol : (b : ℕ) (bs : List ℕ) → is_blank b ≡ false → b ≢ 39 → is_word_byte b ≡ false → tokens (b ∷ bs) ≡ onto_symbol b bs (tokens bs)
unfolding lexed
tokens_symbol b bs visible unquoted symbol =
    cond-false (is_blank b) _ _ visible ∙ cond-false (eqb b 39) _ _ (ne_eqb b 39 unquoted) ∙ cond-false (is_word_byte b) _ _ symbol

-- an equals sign
pub tokens_equal : (bs : List ℕ) → tokens (61 ∷ bs) ≡ Mark Equal ∷ tokens bs
unfolding lexed
tokens_equal bs = refl

-- A text, after its opening quote.

-- bytes prepended to a text that is read to its end
pub onto_texts : List ℕ → List Token → List Token
onto_texts [] ts = ts
onto_texts (b ∷ bs) ts = onto_text b (onto_texts bs ts)

pub onto_texts_none : (ts : List Token) → onto_texts [] ts ≡ ts
unfolding onto_texts
onto_texts_none ts = refl

pub onto_texts_push : (said : List ℕ) (b : ℕ) (ts : List Token) → onto_texts (said ++ b ∷ []) ts ≡ onto_texts said (onto_text b ts)
unfolding onto_texts
onto_texts_push [] b ts = refl
onto_texts_push (c ∷ said) b ts = ap (onto_text c) (onto_texts_push said b ts)

pub onto_texts_quoted : (said text : List ℕ) (ts : List Token) → onto_texts said (Quoted text ∷ ts) ≡ Quoted (said ++ text) ∷ ts
unfolding onto_texts
onto_texts_quoted [] text ts = refl
onto_texts_quoted (c ∷ said) text ts = ap (onto_text c) (onto_texts_quoted said text ts)

pub onto_texts_unreadable : (said : List ℕ) → onto_texts said (Unreadable ∷ []) ≡ Unreadable ∷ []
unfolding onto_texts
onto_texts_unreadable [] = refl
onto_texts_unreadable (c ∷ said) = ap (onto_text c) (onto_texts_unreadable said)

pub text_none : lexed Inside [] ≡ Unreadable ∷ []
unfolding lexed
text_none = refl

pub text_line_feed : (bs : List ℕ) → lexed Inside (10 ∷ bs) ≡ Unreadable ∷ []
unfolding lexed
text_line_feed [] = refl
text_line_feed (c ∷ bs) = refl

pub text_quotes : (bs : List ℕ) → lexed Inside (39 ∷ 39 ∷ bs) ≡ onto_text 39 (lexed Inside bs)
unfolding lexed
text_quotes bs = refl

pub text_end : (bs : List ℕ) → get_or bs 0 0 ≢ 39 → lexed Inside (39 ∷ bs) ≡ Quoted [] ∷ tokens bs
unfolding lexed
text_end [] single = refl
text_end (c ∷ bs) single = cond-false (eqb c 39) _ _ (ne_eqb c 39 single)

pub text_byte : (b : ℕ) (bs : List ℕ) → b ≢ 10 → b ≢ 39 → lexed Inside (b ∷ bs) ≡ onto_text b (lexed Inside bs)
unfolding lexed
text_byte b [] one_line unquoted = cond-false (eqb b 39) _ _ (ne_eqb b 39 unquoted)
text_byte b (c ∷ bs) one_line unquoted =
    cond-false (eqb b 10) _ _ (ne_eqb b 10 one_line) ∙ cond-false (eqb b 39) _ _ (ne_eqb b 39 unquoted)
