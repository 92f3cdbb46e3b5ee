-- The first token of some bytes, by its first byte.
use Rattle.std.proofs.Common.{⊎_elim, ◌≡◌, ◌≢◌, ◌<◌, ◌≤◌, ℕ, suc, ◌+◌, ◌-◌, true, false, eqb, List, [], ◌∷◌, length, get_or, take, drop, Bor, refl, sym, ap}
use Rattle.std.proofs.Common.{◌∙◌, arith, length-drop, one-add}
use Rattle.std.specs.List.{prefix_len}
use Rattle.std.proofs.lemmas.Bool.{cases_Bool, cond-false, ne_eqb}
use Rattle.std.proofs.lemmas.List.{take_rest}
use Rattle.std.proofs.lemmas.List.Sums.{prefix_len-le-length}
use Rattle.mm_lang.specs.declared.read.token.Symbol.{Symbol}
use Rattle.mm_lang.specs.declared.read.token.Symbol.TheVariants.{Minus}
use Rattle.mm_lang.specs.declared.read.token.Token.{Token as Shown}
use Rattle.mm_lang.specs.declared.read.token.Token.TheVariants as shown
use Rattle.mm_lang.specs.Tokens.{Token, Word, Signed, Mark, Unreadable, Inside, tokens, lexed, is_word_byte, begins_word, begins_equal, onto_minus}
use Rattle.mm_lang.specs.Tokens.{onto_equal, onto_symbol}
use Rattle.mm_lang.specs.steps.Splitting.{Splits, begins_blank}
use Rattle.mm_lang.proofs.Lexing.{tokens_none, tokens_quote, tokens_word, tokens_symbol, tokens_equal, run_yes, run_no}

-- a comparison directly followed by an equals sign, or not
pub splits_joined : (alone joined : Symbol) (rest : List ℕ) → 1 ≤ length rest → get_or rest 0 0 ≡ 61
    → Splits (onto_equal alone joined (begins_equal rest) (tokens rest)) (length rest + 1) (shown.Mark joined) (drop 1 rest)
splits_joined alone joined [] some equal = absurd (omega arith)
splits_joined alone joined (b ∷ bs) some equal = record {
  first = Mark joined;
  shows = refl;
  in_front =
      ap (λ c. onto_equal alone joined (eqb c 61) (tokens (c ∷ bs))) equal ∙ ap (onto_equal alone joined true) (tokens_equal bs);
  shorter = omega arith;
}

-- a minus directly followed by a word, or not
word_in_range : (bytes : List ℕ) → 0 < length bytes → 1 + prefix_len is_word_byte (drop 1 bytes) ≤ length bytes
word_in_range bytes some =
    let behind = length-drop 1 bytes in
    let run = prefix_len-le-length is_word_byte (drop 1 bytes) in
    omega arith

pub minus_in_range : (bytes : List ℕ) (n : ℕ) → 0 < length bytes → n ≡ prefix_len is_word_byte (take (length bytes - 1) (drop 1 bytes)) → 1 + n ≤ length bytes
minus_in_range bytes n some is =
    let e : n ≡ prefix_len is_word_byte (drop 1 bytes) = is ∙ ap (prefix_len is_word_byte) (take_rest bytes 1) in
    omega (arith, word_in_range bytes some)

run_of : (bytes : List ℕ) (n : ℕ) → n ≡ prefix_len is_word_byte (take (length bytes - 1) (drop 1 bytes)) → n ≡ prefix_len is_word_byte (drop 1 bytes)
run_of bytes n is = is ∙ ap (prefix_len is_word_byte) (take_rest bytes 1)

minus_alone : (rest : List ℕ) → prefix_len is_word_byte rest ≡ 0 → onto_minus (begins_word rest) (tokens rest) ≡ Mark Minus ∷ tokens rest
minus_alone [] none = refl
minus_alone (b ∷ bs) none =
    ⊎_elim
    (λ word. absurd (omega (arith, sym (run_yes is_word_byte b bs word) ∙ none)))
    (λ other. ap (λ joins. onto_minus joins (tokens (b ∷ bs))) other)
    (cases_Bool (is_word_byte b))

minus_word : (rest : List ℕ) → prefix_len is_word_byte rest ≢ 0
    → onto_minus (begins_word rest) (tokens rest) ≡ Signed (take (prefix_len is_word_byte rest) rest) ∷ tokens (drop (prefix_len is_word_byte rest) rest)
minus_word [] some = absurd (some refl)
minus_word (b ∷ bs) some =
    ⊎_elim
    (λ word.
    ap (λ joins. onto_minus joins (tokens (b ∷ bs))) word
    ∙ ap (onto_minus true) (tokens_word b bs word)
    ∙ ap (λ n. Signed (take n (b ∷ bs)) ∷ tokens (drop n (b ∷ bs))) (sym (run_yes is_word_byte b bs word)))
    (λ other. absurd (some (run_no is_word_byte b bs other)))
    (cases_Bool (is_word_byte b))

-- a minus and a run of n bytes, and the bytes after them
pub splits_minus : (bytes : List ℕ) (n : ℕ) (rest : List ℕ) → 0 < length bytes
    → n ≡ prefix_len is_word_byte (take (length bytes - 1) (drop 1 bytes)) → n ≡ 0 → rest ≡ drop (1 + n) bytes
    → Splits (onto_minus (begins_word (drop 1 bytes)) (tokens (drop 1 bytes))) (length bytes) (shown.Mark Minus) rest
splits_minus bytes n rest some is none back = record {
  first = Mark Minus;
  shows = refl;
  in_front = minus_alone (drop 1 bytes) (sym (run_of bytes n is) ∙ none) ∙ ap (λ l. Mark Minus ∷ tokens l) (sym (back ∙ ap (λ k. drop (1 + k) bytes) none));
  shorter = omega (arith, ap length back, length-drop (1 + n) bytes);
}

pub splits_signed : (bytes : List ℕ) (n : ℕ) (front : Bor (List ℕ)) (rest : List ℕ) → 0 < length bytes → get_or bytes 0 0 ≡ 45
    → n ≡ prefix_len is_word_byte (take (length bytes - 1) (drop 1 bytes)) → n ≢ 0
    → front.now ≡ take (1 + n) bytes → rest ≡ drop (1 + n) bytes
    → Splits (onto_minus (begins_word (drop 1 bytes)) (tokens (drop 1 bytes))) (length bytes) (shown.Signed front) rest
splits_signed [] n front rest some minus is nonzero front_is back = absurd (omega arith)
splits_signed (b ∷ bs) n front rest some minus is nonzero front_is back =
    let run : n ≡ prefix_len is_word_byte bs = run_of (b ∷ bs) n is in
    record {
      first = Signed (take (prefix_len is_word_byte bs) bs);
      shows = (
        take (prefix_len is_word_byte bs) bs,
        front_is ∙ ap (λ k. take k (b ∷ bs)) (one-add n) ∙ ap (λ c. c ∷ take n bs) minus ∙ ap (λ k. 45 ∷ take k bs) run,
        refl,
      );
      in_front =
          minus_word bs (λ e. nonzero (run ∙ e))
          ∙ ap (λ l. Signed (take (prefix_len is_word_byte bs) bs) ∷ tokens l) (sym (back ∙ ap (λ k. drop k (b ∷ bs)) (one-add n) ∙ ap (λ k. drop k bs) run));
      shorter = omega (arith, ap length back, length-drop (1 + n) (b ∷ bs));
    }

-- a word
pub splits_word : (bytes : List ℕ) (front : Bor (List ℕ)) (rest : List ℕ) (n : ℕ) → is_word_byte (get_or bytes 0 0) ≡ true
    → n ≡ prefix_len is_word_byte bytes → 0 < length bytes
    → front.now ≡ take n bytes → rest ≡ drop n bytes → Splits (tokens bytes) (length bytes) (shown.Word front) rest
splits_word [] front rest n word is some front_is back = absurd (omega arith)
splits_word (b ∷ bs) front rest n word is some front_is back =
    let run : n ≡ suc (prefix_len is_word_byte bs) = is ∙ run_yes is_word_byte b bs word in
    record {
      first = Word front.now;
      shows = (refl, ap begins_word (front_is ∙ ap (λ k. take k (b ∷ bs)) run) ∙ word);
      in_front =
          tokens_word b bs word
          ∙ ap (λ w. Word w ∷ tokens (drop (prefix_len is_word_byte bs) bs)) (sym (front_is ∙ ap (λ k. take k (b ∷ bs)) run))
          ∙ ap (λ l. Word front.now ∷ tokens l) (sym (back ∙ ap (λ k. drop k (b ∷ bs)) run));
      shorter = omega (arith, ap length back, length-drop n (b ∷ bs));
    }

-- a symbol, or an unreadable byte
pub splits_symbol : (bytes : List ℕ) (token : Shown) (rest : List ℕ) → 0 < length bytes → begins_blank bytes ≡ false → get_or bytes 0 0 ≢ 39
    → is_word_byte (get_or bytes 0 0) ≡ false
    → Splits (onto_symbol (get_or bytes 0 0) (drop 1 bytes) (tokens (drop 1 bytes))) (length bytes) token rest → Splits (tokens bytes) (length bytes) token rest
splits_symbol [] token rest some visible unquoted symbol s = absurd (omega arith)
splits_symbol (b ∷ bs) token rest some visible unquoted symbol s = record {
  first = s.first;
  shows = s.shows;
  in_front = tokens_symbol b bs visible unquoted symbol ∙ s.in_front;
  shorter = s.shorter;
}

-- a text
pub splits_text : (bytes : List ℕ) (token : Shown) (rest : List ℕ) → 0 < length bytes → get_or bytes 0 0 ≡ 39
    → Splits (lexed Inside (drop 1 bytes)) (length bytes) token rest → Splits (tokens bytes) (length bytes) token rest
splits_text [] token rest some quote s = absurd (omega arith)
splits_text (b ∷ bs) token rest some quote s = record {
  first = s.first;
  shows = s.shows;
  in_front = ap (λ c. tokens (c ∷ bs)) quote ∙ tokens_quote bs ∙ s.in_front;
  shorter = s.shorter;
}

-- a byte that is none of the symbols
not_symbol : (b : ℕ) (bs : List ℕ) (ts : List Token) → b ≢ 40 → b ≢ 41 → b ≢ 44 → b ≢ 46 → b ≢ 61 → b ≢ 60 → b ≢ 62 → b ≢ 43 → b ≢ 45 → b ≢ 63
    → onto_symbol b bs ts ≡ Unreadable ∷ []
not_symbol b bs ts opening close comma dot equal less greater plus minus hole =
    cond-false (eqb b 40) _ _ (ne_eqb b 40 opening) ∙ cond-false (eqb b 41) _ _ (ne_eqb b 41 close) ∙ cond-false (eqb b 44) _ _ (ne_eqb b 44 comma)
    ∙ cond-false (eqb b 46) _ _ (ne_eqb b 46 dot) ∙ cond-false (eqb b 61) _ _ (ne_eqb b 61 equal) ∙ cond-false (eqb b 60) _ _ (ne_eqb b 60 less)
    ∙ cond-false (eqb b 62) _ _ (ne_eqb b 62 greater) ∙ cond-false (eqb b 43) _ _ (ne_eqb b 43 plus) ∙ cond-false (eqb b 45) _ _ (ne_eqb b 45 minus)
    ∙ cond-false (eqb b 63) _ _ (ne_eqb b 63 hole)

pub splits_unreadable : (b : ℕ) (bs : List ℕ) (ts : List Token) (limit : ℕ) → b ≢ 40 → b ≢ 41 → b ≢ 44 → b ≢ 46 → b ≢ 61 → b ≢ 60 → b ≢ 62 → b ≢ 43
    → b ≢ 45 → b ≢ 63 → 0 < limit
    → Splits (onto_symbol b bs ts) limit shown.Unreadable []
splits_unreadable b bs ts limit opening close comma dot equal less greater plus minus hole some = record {
  first = Unreadable;
  shows = refl;
  in_front = not_symbol b bs ts opening close comma dot equal less greater plus minus hole ∙ ap (λ l. Unreadable ∷ l) (sym tokens_none);
  shorter = some;
}
