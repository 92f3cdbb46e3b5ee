-- Runs of bytes before bytes that agree: blanks, and kept bytes.
use Rattle.std.proofs.Common.{◌≡◌, ◌≤◌, inl, ⊎_elim, ℕ, Bool, true, false, not, ◌&&◌, ◌||◌, eqb, List, [], ◌∷◌, ◌++◌, length, take, drop, get_or, refl}
use Rattle.std.proofs.Common.{sym, ap, ◌∙◌, arith}
use Rattle.std.specs.List.{list_all, prefix_len}
use Rattle.std.proofs.lemmas.Bool.{and_parts, cases_Bool, eqb-true, false≢true}
use Rattle.mm_lang.specs.Tokens.{Token, Word, begins_word, is_blank, is_word_byte, onto_word, tokens}
use Rattle.mm_lang.proofs.Lexing.{run_no, run_yes, tokens_blank, tokens_word, word_step}
use Rattle.mm_statement.specs.Texts.{with_texts}
use Rattle.mm_template.specs.steps.Pieces.{BeginsAs, is_before_value, is_kept_byte, is_mark, is_passed}
use Rattle.mm_template.specs.steps.Progress.{Agrees, begins_signed}
use Rattle.mm_template.proofs.Fronts.{no_word}
use Rattle.mm_template.proofs.Pieces.{mark_token}
use Rattle.mm_template.proofs.Tokens.{count_step, holes_in, not_signed, token_agrees, with_step}

-- ---- blanks

blank_agrees : (may : Bool) (b : ℕ) (rest tail : List ℕ) (texts : List Token) → is_blank b ≡ true → Agrees may rest tail texts
    → Agrees may (b ∷ rest) (b ∷ tail) texts
blank_agrees may b rest tail texts blank a =
    let same : tokens (b ∷ tail) ≡ tokens tail = tokens_blank b tail blank in
    record {
      begins = inl refl;
      written = tokens_blank b rest blank ∙ a.written ∙ ap (λ ts. with_texts ts texts) (sym same);
      count = ap holes_in same ∙ a.count;
      unsigned = λ isnt. ap (λ ts. begins_signed ts texts) same ∙ a.unsigned isnt;
    }

pub blanks_agree : (may : Bool) (front rest tail : List ℕ) (texts : List Token) → list_all is_blank front ≡ true → Agrees may rest tail texts
    → Agrees may (front ++ rest) (front ++ tail) texts
blanks_agree may [] rest tail texts all a = a
blanks_agree may (b ∷ bs) rest tail texts all a =
    let p = and_parts (is_blank b) (list_all is_blank bs) all in
    blank_agrees may b (bs ++ rest) (bs ++ tail) texts p.0 (blanks_agree may bs rest tail texts p.1 a)

-- ---- a byte of a word

-- Bytes that begin with a word, and the same bytes with a text in place of each later hole.
word_agrees : (b : ℕ) (rest tail word : List ℕ) (ts texts : List Token) → tokens (b ∷ tail) ≡ Word word ∷ ts
    → tokens (b ∷ rest) ≡ Word word ∷ with_texts ts texts → holes_in ts ≡ length texts → Agrees false (b ∷ rest) (b ∷ tail) texts
word_agrees b rest tail word ts texts of_tail of_rest count = record {
  begins = inl refl;
  written = of_rest ∙ sym (with_step (Word word) ts texts refl (λ sign. absurd (false≢true sign))) ∙ ap (λ l. with_texts l texts) (sym of_tail);
  count = ap holes_in of_tail ∙ count_step (Word word) ts refl ∙ count;
  unsigned = λ isnt. ap (λ l. begins_signed l texts) of_tail ∙ not_signed (Word word) ts texts refl;
}

-- Tokens of which the first is a word.
record FirstWord (ts : List Token) : Type 0 where
  word : List ℕ
  others : List Token
  is : ts ≡ Word word ∷ others

first_word : (bytes : List ℕ) → begins_word bytes ≡ true → FirstWord (tokens bytes)
first_word [] begins = absurd (false≢true begins)
first_word (b ∷ bs) begins = record {
  word = b ∷ take (prefix_len is_word_byte bs) bs;
  others = tokens (drop (prefix_len is_word_byte bs) bs);
  is = tokens_word b bs begins;
}

letter_agrees : (b : ℕ) (rest tail : List ℕ) (texts : List Token) → is_word_byte b ≡ true → begins_word rest ≡ begins_word tail
    → Agrees false rest tail texts → Agrees false (b ∷ rest) (b ∷ tail) texts
letter_agrees b rest tail texts letter same a = ⊎_elim joins alone (cases_Bool (begins_word tail))
  where
    joins : begins_word tail ≡ true → Agrees false (b ∷ rest) (b ∷ tail) texts
    joins begins =
        let p = first_word tail begins in
        word_agrees b rest tail (b ∷ p.word) p.others texts
        (word_step b tail letter ∙ ap (λ j. onto_word b j (tokens tail)) begins ∙ ap (onto_word b true) p.is)
        (word_step b rest letter
        ∙ ap (λ j. onto_word b j (tokens rest)) (same ∙ begins)
        ∙ ap (onto_word b true)
        (a.written ∙ ap (λ l. with_texts l texts) p.is ∙ with_step (Word p.word) p.others texts refl (λ sign. absurd (false≢true sign))))
        (sym (count_step (Word p.word) p.others refl) ∙ ap holes_in (sym p.is) ∙ a.count)

    alone : begins_word tail ≡ false → Agrees false (b ∷ rest) (b ∷ tail) texts
    alone ends =
        word_agrees b rest tail (b ∷ []) (tokens tail) texts
        (word_step b tail letter ∙ ap (λ j. onto_word b j (tokens tail)) ends)
        (word_step b rest letter ∙ ap (λ j. onto_word b j (tokens rest)) (same ∙ ends) ∙ ap (λ l. Word (b ∷ []) ∷ l) a.written)
        a.count

-- ---- kept bytes

kept_byte_agrees : (b : ℕ) (rest tail : List ℕ) (texts : List Token) → is_kept_byte b ≡ true → begins_word rest ≡ begins_word tail
    → Agrees false rest tail texts → Agrees false (b ∷ rest) (b ∷ tail) texts
kept_byte_agrees b rest tail texts kept same a = by (is_word_byte b) refl (is_blank b) refl kept
  where
    by : (letter : Bool) → is_word_byte b ≡ letter → (blank : Bool) → is_blank b ≡ blank → (letter || blank || is_mark b) ≡ true
        → Agrees false (b ∷ rest) (b ∷ tail) texts
    by true is blank other h = letter_agrees b rest tail texts is same a
    by false is true other h = blank_agrees false b rest tail texts other a
    by false is false other h =
        token_agrees false false false (b ∷ []) rest tail texts (omega arith) (mark_token (b ∷ rest) (omega arith) h) (λ e. absurd (false≢true e)) a

same_start : (front rest tail : List ℕ) → begins_word rest ≡ false → BeginsAs tail rest → begins_word (front ++ rest) ≡ begins_word (front ++ tail)
same_start [] rest tail ends begins = ends ∙ sym (no_word tail rest begins ends)
same_start (b ∷ bs) rest tail ends begins = refl

pub kept_agree : (front rest tail : List ℕ) (texts : List Token) → list_all is_kept_byte front ≡ true → begins_word rest ≡ false
    → Agrees false rest tail texts → Agrees false (front ++ rest) (front ++ tail) texts
kept_agree [] rest tail texts all ends a = a
kept_agree (b ∷ bs) rest tail texts all ends a =
    let p = and_parts (is_kept_byte b) (list_all is_kept_byte bs) all in
    kept_byte_agrees b (bs ++ rest) (bs ++ tail) texts p.0 (same_start bs rest tail ends a.begins) (kept_agree bs rest tail texts p.1 ends a)

not_word : (b : ℕ) → is_kept_byte b ≡ false → is_word_byte b ≡ false
not_word b isnt = by (is_word_byte b) isnt
  where
    by : (letter : Bool) → (letter || is_blank b || is_mark b) ≡ false → letter ≡ false
    by true h = h
    by false h = refl

-- ---- skipped bytes

pub passed_are_kept : (is_insert : Bool) (bytes : List ℕ) → list_all (is_passed is_insert) bytes ≡ true → list_all is_kept_byte bytes ≡ true
passed_are_kept is_insert [] all = refl
passed_are_kept is_insert (b ∷ bs) all =
    let p = and_parts (is_passed is_insert b) (list_all (is_passed is_insert) bs) all in
    ap (λ is. is && list_all is_kept_byte bs) (and_parts (is_kept_byte b) (not (is_insert && is_before_value b)) p.0).0
    ∙ passed_are_kept is_insert bs p.1

no_word_before_value : (b : ℕ) → is_before_value b ≡ true → is_word_byte b ≡ false
no_word_before_value b before = by (eqb b 44) refl before
  where
    by : (comma : Bool) → eqb b 44 ≡ comma → (comma || eqb b 40) ≡ true → is_word_byte b ≡ false
    by true is h = ap is_word_byte (eqb-true b 44 is)
    by false is h = ap is_word_byte (eqb-true b 40 h)

not_passed : (is_insert : Bool) (b : ℕ) → is_passed is_insert b ≡ false → is_word_byte b ≡ false
not_passed is_insert b isnt = by (is_kept_byte b) refl is_insert (is_before_value b) refl isnt
  where
    by : (kept : Bool) → is_kept_byte b ≡ kept → (is_insert before : Bool) → is_before_value b ≡ before
        → (kept && not (is_insert && before)) ≡ false → is_word_byte b ≡ false
    by false is is_insert before same h = not_word b is
    by true is true true same h = no_word_before_value b same
    by true is true false same h = absurd (false≢true (sym h))
    by true is false before same h = absurd (false≢true (sym h))

-- The longest run of skipped bytes ends where no byte of a word follows.
pub passed_ends : (is_insert : Bool) (bytes : List ℕ) → begins_word (drop (prefix_len (is_passed is_insert) bytes) bytes) ≡ false
passed_ends is_insert [] = refl
passed_ends is_insert (b ∷ bs) =
    ⊎_elim
    (λ passed. ap (λ n. begins_word (drop n (b ∷ bs))) (run_yes (is_passed is_insert) b bs passed) ∙ passed_ends is_insert bs)
    (λ other. ap (λ n. begins_word (drop n (b ∷ bs))) (run_no (is_passed is_insert) b bs other) ∙ not_passed is_insert b other)
    (cases_Bool (is_passed is_insert b))

-- After four skipped bytes the longest run continues.
pub four_passed : (p : ℕ → Bool) (bytes : List ℕ) (w x y z : Bool) → 4 ≤ length bytes → w ≡ p (get_or bytes 0 0) → x ≡ p (get_or bytes 1 0)
    → y ≡ p (get_or bytes 2 0) → z ≡ p (get_or bytes 3 0) → (((w && x) && y) && z) ≡ true
    → drop (prefix_len p (drop 4 bytes)) (drop 4 bytes) ≡ drop (prefix_len p bytes) bytes
four_passed p [] w x y z some first second third fourth all = absurd (omega arith)
four_passed p (a ∷ []) w x y z some first second third fourth all = absurd (omega arith)
four_passed p (a ∷ b ∷ []) w x y z some first second third fourth all = absurd (omega arith)
four_passed p (a ∷ b ∷ c ∷ []) w x y z some first second third fourth all = absurd (omega arith)
four_passed p (a ∷ b ∷ c ∷ d ∷ bs) w x y z some first second third fourth all =
    let q = and_parts ((w && x) && y) z all in
    let r = and_parts (w && x) y q.0 in
    let s = and_parts w x r.0 in
    sym
    (past a (b ∷ c ∷ d ∷ bs) (sym first ∙ s.0) ∙ past b (c ∷ d ∷ bs) (sym second ∙ s.1) ∙ past c (d ∷ bs) (sym third ∙ r.1)
    ∙ past d bs (sym fourth ∙ q.1))
  where
    past : (b : ℕ) (bs : List ℕ) → p b ≡ true
        → drop (prefix_len p (b ∷ bs)) (b ∷ bs) ≡ drop (prefix_len p bs) bs
    past b bs kept = ap (λ n. drop n (b ∷ bs)) (run_yes p b bs kept)
