-- Bytes that are one token, whatever bytes with the same beginning follow them.
use Rattle.std.proofs.Common.{◌≡◌, ◌<◌, ◌≤◌, ◌+◌, inl, inr, ⊎_elim, ℕ, suc, Bool, true, false, ◌&&◌, eqb, List, [], ◌∷◌, ◌++◌, length, take, drop, get_or}
use Rattle.std.proofs.Common.{one-add, refl, sym, ap, subst, ◌∙◌, arith}
use Rattle.std.specs.List.{list_all, prefix_len}
use Rattle.std.proofs.lemmas.Bool.{and_parts, cases_Bool, false≢true}
use Rattle.mm_lang.specs.declared.read.token.Symbol.{Symbol}
use Rattle.mm_lang.specs.declared.read.token.Symbol.TheVariants.{Open, Close, Comma, Dot, Equal, Less, AtMost, Greater, AtLeast, Plus, Minus}
use Rattle.mm_lang.specs.Tokens.{Word, Signed, Mark, begins_equal, begins_word, is_word_byte, lexed, onto_equal, onto_minus, onto_word, tokens}
use Rattle.mm_lang.proofs.Lexing.{run_no, run_yes, word_step}
use Rattle.mm_template.specs.steps.Pieces.{BeginsAs, IsOneToken, is_sign}

-- ---- bytes that continue no token

word_at : (bytes : List ℕ) → begins_word bytes ≡ is_word_byte (get_or bytes 0 0)
word_at [] = refl
word_at (b ∷ bs) = refl

equal_at : (bytes : List ℕ) → begins_equal bytes ≡ eqb (get_or bytes 0 0) 61
equal_at [] = refl
equal_at (b ∷ bs) = refl

pub no_word : (tail rest : List ℕ) → BeginsAs tail rest → begins_word rest ≡ false → begins_word tail ≡ false
no_word tail rest (inl same) none = word_at tail ∙ ap is_word_byte same ∙ sym (word_at rest) ∙ none
no_word tail rest (inr hole) none = word_at tail ∙ ap is_word_byte hole

no_equal : (tail rest : List ℕ) → BeginsAs tail rest → begins_equal rest ≡ false → begins_equal tail ≡ false
no_equal tail rest (inl same) none = equal_at tail ∙ ap (λ b. eqb b 61) same ∙ sym (equal_at rest) ∙ none
no_equal tail rest (inr hole) none = equal_at tail ∙ ap (λ b. eqb b 61) hole

-- ---- words

word_front : (b : ℕ) (bs tail : List ℕ) → list_all is_word_byte (b ∷ bs) ≡ true → begins_word tail ≡ false
    → tokens ((b ∷ bs) ++ tail) ≡ Word (b ∷ bs) ∷ tokens tail
word_front b [] tail all ends =
    let p = and_parts (is_word_byte b) true all in
    word_step b tail p.0 ∙ ap (λ joins. onto_word b joins (tokens tail)) ends
word_front b (c ∷ cs) tail all ends =
    let p = and_parts (is_word_byte b) (list_all is_word_byte (c ∷ cs)) all in
    let q = and_parts (is_word_byte c) (list_all is_word_byte cs) p.1 in
    let behind = (c ∷ cs) ++ tail in
    word_step b behind p.0 ∙ ap (λ joins. onto_word b joins (tokens behind)) q.0 ∙ ap (onto_word b true) (word_front c cs tail p.1 ends)

-- The longest run of word bytes has only word bytes, as each longest run has, and ends where no further one follows.
pub run_all : (p : ℕ → Bool) (bytes : List ℕ) → list_all p (take (prefix_len p bytes) bytes) ≡ true
run_all p [] = refl
run_all p (b ∷ bs) =
    ⊎_elim
    (λ passes.
    ap (λ n. list_all p (take n (b ∷ bs))) (run_yes p b bs passes)
    ∙ ap (λ is. is && list_all p (take (prefix_len p bs) bs)) passes ∙ run_all p bs)
    (λ fails. ap (λ n. list_all p (take n (b ∷ bs))) (run_no p b bs fails))
    (cases_Bool (p b))

run_ends : (bytes : List ℕ) → begins_word (drop (prefix_len is_word_byte bytes) bytes) ≡ false
run_ends [] = refl
run_ends (b ∷ bs) =
    ⊎_elim
    (λ word. ap (λ n. begins_word (drop n (b ∷ bs))) (run_yes is_word_byte b bs word) ∙ run_ends bs)
    (λ other. ap (λ n. begins_word (drop n (b ∷ bs))) (run_no is_word_byte b bs other) ∙ other)
    (cases_Bool (is_word_byte b))

-- ---- a minus

begins_front : (b : ℕ) (bs tail : List ℕ) → is_word_byte b ≡ true → begins_word ((b ∷ bs) ++ tail) ≡ true
begins_front b bs tail word = word

signed_front : (b : ℕ) (bs tail : List ℕ) → list_all is_word_byte (b ∷ bs) ≡ true → begins_word tail ≡ false
    → tokens (45 ∷ (b ∷ bs) ++ tail) ≡ Signed (b ∷ bs) ∷ tokens tail
unfolding lexed
signed_front b bs tail all ends =
    let p = and_parts (is_word_byte b) (list_all is_word_byte bs) all in
    ap (λ joins. onto_minus joins (tokens ((b ∷ bs) ++ tail))) (begins_front b bs tail p.0) ∙ ap (onto_minus true) (word_front b bs tail all ends)

minus_front : (tail : List ℕ) → begins_word tail ≡ false → tokens (45 ∷ tail) ≡ Mark Minus ∷ tokens tail
unfolding lexed
minus_front tail ends = ap (λ joins. onto_minus joins (tokens tail)) ends

-- A minus and the word directly after it ..
pub signed_token : (bytes : List ℕ) (n : ℕ) → 0 < length bytes → get_or bytes 0 0 ≡ 45 → n ≡ prefix_len is_word_byte (drop 1 bytes) → 0 < n
    → IsOneToken false (take (1 + n) bytes) (drop (1 + n) bytes)
signed_token [] n some minus run long = absurd (omega arith)
signed_token (b ∷ []) n some minus run long = absurd (omega (arith, run))
signed_token (b ∷ c ∷ cs) n some minus run long =
    ⊎_elim
    (λ word.
    subst (λ k. IsOneToken false (take k (b ∷ c ∷ cs)) (drop k (b ∷ c ∷ cs))) (sym (one-add n ∙ ap suc (run ∙ run_yes is_word_byte c cs word)))
    (subst (λ d. IsOneToken false (d ∷ c ∷ front) rest) (sym minus) (one word)))
    (λ other. absurd (omega (arith, run ∙ run_no is_word_byte c cs other)))
    (cases_Bool (is_word_byte c))
  where
    rest : List ℕ
    rest = drop (prefix_len is_word_byte cs) cs

    front : List ℕ
    front = take (prefix_len is_word_byte cs) cs

    one : is_word_byte c ≡ true → IsOneToken false (45 ∷ c ∷ front) rest
    one word = record {
      token = Signed (c ∷ front);
      is = λ tail begins.
          signed_front c front tail (ap (λ is. is && list_all is_word_byte front) word ∙ run_all is_word_byte cs)
          (no_word tail rest begins (run_ends cs));
      no_hole = refl;
      no_sign = λ isnt. refl;
    }

no_run : (bytes : List ℕ) → prefix_len is_word_byte bytes ≡ 0 → begins_word bytes ≡ false
no_run bytes none = sym (ap (λ n. begins_word (drop n bytes)) none) ∙ run_ends bytes

-- .. and a minus alone.
pub minus_token : (bytes : List ℕ) (n : ℕ) → 0 < length bytes → get_or bytes 0 0 ≡ 45 → n ≡ prefix_len is_word_byte (drop 1 bytes) → n ≡ 0
    → IsOneToken true (take 1 bytes) (drop 1 bytes)
minus_token [] n some minus run none = absurd (omega arith)
minus_token (b ∷ bs) n some minus run none =
    subst (λ d. IsOneToken true (d ∷ []) bs) (sym minus)
    (record {
      token = Mark Minus;
      is = λ tail begins. minus_front tail (no_word tail bs begins (no_run bs (sym run ∙ none)));
      no_hole = refl;
      no_sign = λ isnt. absurd (false≢true (sym isnt));
    })

-- ---- symbols

plus_front : (tail : List ℕ) → tokens (43 ∷ tail) ≡ Mark Plus ∷ tokens tail
unfolding lexed
plus_front tail = refl

pub plus_token : (bytes : List ℕ) → 0 < length bytes → get_or bytes 0 0 ≡ 43 → IsOneToken true (take 1 bytes) (drop 1 bytes)
plus_token [] some plus = absurd (omega arith)
plus_token (b ∷ bs) some plus =
    subst (λ d. IsOneToken true (d ∷ []) bs) (sym plus)
    (record { token = Mark Plus; is = λ tail begins. plus_front tail; no_hole = refl; no_sign = λ isnt. absurd (false≢true (sym isnt)) })

equal_front : (tail : List ℕ) → tokens (61 ∷ tail) ≡ Mark Equal ∷ tokens tail
unfolding lexed
equal_front tail = refl

dot_front : (tail : List ℕ) → tokens (46 ∷ tail) ≡ Mark Dot ∷ tokens tail
unfolding lexed
dot_front tail = refl

comma_front : (tail : List ℕ) → tokens (44 ∷ tail) ≡ Mark Comma ∷ tokens tail
unfolding lexed
comma_front tail = refl

open_front : (tail : List ℕ) → tokens (40 ∷ tail) ≡ Mark Open ∷ tokens tail
unfolding lexed
open_front tail = refl

close_front : (tail : List ℕ) → tokens (41 ∷ tail) ≡ Mark Close ∷ tokens tail
unfolding lexed
close_front tail = refl

-- A byte that is a symbol, whatever follows it.
mark_token : (s : Symbol) (code : ℕ) (bytes : List ℕ) → is_sign (Mark s) ≡ false → ((tail : List ℕ) → tokens (code ∷ tail) ≡ Mark s ∷ tokens tail)
    → 0 < length bytes → get_or bytes 0 0 ≡ code → IsOneToken false (take 1 bytes) (drop 1 bytes)
mark_token s code [] unsigned front some is = absurd (omega arith)
mark_token s code (b ∷ bs) unsigned front some is =
    subst (λ d. IsOneToken false (d ∷ []) bs) (sym is)
    (record { token = Mark s; is = λ tail begins. front tail; no_hole = refl; no_sign = λ isnt. unsigned })

pub equal_token : (bytes : List ℕ) → 0 < length bytes → get_or bytes 0 0 ≡ 61 → IsOneToken false (take 1 bytes) (drop 1 bytes)
equal_token bytes some is = mark_token Equal 61 bytes refl equal_front some is

pub dot_token : (bytes : List ℕ) → 0 < length bytes → get_or bytes 0 0 ≡ 46 → IsOneToken false (take 1 bytes) (drop 1 bytes)
dot_token bytes some is = mark_token Dot 46 bytes refl dot_front some is

pub comma_token : (bytes : List ℕ) → 0 < length bytes → get_or bytes 0 0 ≡ 44 → IsOneToken false (take 1 bytes) (drop 1 bytes)
comma_token bytes some is = mark_token Comma 44 bytes refl comma_front some is

pub open_token : (bytes : List ℕ) → 0 < length bytes → get_or bytes 0 0 ≡ 40 → IsOneToken false (take 1 bytes) (drop 1 bytes)
open_token bytes some is = mark_token Open 40 bytes refl open_front some is

pub close_token : (bytes : List ℕ) → 0 < length bytes → get_or bytes 0 0 ≡ 41 → IsOneToken false (take 1 bytes) (drop 1 bytes)
close_token bytes some is = mark_token Close 41 bytes refl close_front some is

-- ---- comparisons

less_front : (tail : List ℕ) → begins_equal tail ≡ false → tokens (60 ∷ tail) ≡ Mark Less ∷ tokens tail
unfolding lexed
less_front tail ends = ap (λ joins. onto_equal Less AtMost joins (tokens tail)) ends

greater_front : (tail : List ℕ) → begins_equal tail ≡ false → tokens (62 ∷ tail) ≡ Mark Greater ∷ tokens tail
unfolding lexed
greater_front tail ends = ap (λ joins. onto_equal Greater AtLeast joins (tokens tail)) ends

at_most_front : (tail : List ℕ) → tokens (60 ∷ 61 ∷ tail) ≡ Mark AtMost ∷ tokens tail
unfolding lexed
at_most_front tail = refl

at_least_front : (tail : List ℕ) → tokens (62 ∷ 61 ∷ tail) ≡ Mark AtLeast ∷ tokens tail
unfolding lexed
at_least_front tail = refl

alone_token : (s : Symbol) (code : ℕ) (bytes : List ℕ) → is_sign (Mark s) ≡ false
    → ((tail : List ℕ) → begins_equal tail ≡ false → tokens (code ∷ tail) ≡ Mark s ∷ tokens tail)
    → 0 < length bytes → get_or bytes 0 0 ≡ code → begins_equal (drop 1 bytes) ≡ false → IsOneToken false (take 1 bytes) (drop 1 bytes)
alone_token s code [] unsigned front some is ends = absurd (omega arith)
alone_token s code (b ∷ bs) unsigned front some is ends =
    subst (λ d. IsOneToken false (d ∷ []) bs) (sym is)
    (record { token = Mark s; is = λ tail begins. front tail (no_equal tail bs begins ends); no_hole = refl; no_sign = λ isnt. unsigned })

joined_token : (s : Symbol) (code : ℕ) (bytes : List ℕ) → is_sign (Mark s) ≡ false
    → ((tail : List ℕ) → tokens (code ∷ 61 ∷ tail) ≡ Mark s ∷ tokens tail)
    → 2 ≤ length bytes → get_or bytes 0 0 ≡ code → get_or bytes 1 0 ≡ 61 → IsOneToken false (take 2 bytes) (drop 2 bytes)
joined_token s code [] unsigned front some is equal = absurd (omega arith)
joined_token s code (b ∷ []) unsigned front some is equal = absurd (omega arith)
joined_token s code (b ∷ c ∷ bs) unsigned front some is equal =
    subst (λ d. IsOneToken false (d ∷ c ∷ []) bs) (sym is)
    (subst (λ d. IsOneToken false (code ∷ d ∷ []) bs) (sym equal)
    (record { token = Mark s; is = λ tail begins. front tail; no_hole = refl; no_sign = λ isnt. unsigned }))

pub less_token : (bytes : List ℕ) → 0 < length bytes → get_or bytes 0 0 ≡ 60 → begins_equal (drop 1 bytes) ≡ false
    → IsOneToken false (take 1 bytes) (drop 1 bytes)
less_token bytes some is ends = alone_token Less 60 bytes refl less_front some is ends

pub greater_token : (bytes : List ℕ) → 0 < length bytes → get_or bytes 0 0 ≡ 62 → begins_equal (drop 1 bytes) ≡ false
    → IsOneToken false (take 1 bytes) (drop 1 bytes)
greater_token bytes some is ends = alone_token Greater 62 bytes refl greater_front some is ends

pub at_most_token : (bytes : List ℕ) → 2 ≤ length bytes → get_or bytes 0 0 ≡ 60 → get_or bytes 1 0 ≡ 61
    → IsOneToken false (take 2 bytes) (drop 2 bytes)
at_most_token bytes some is equal = joined_token AtMost 60 bytes refl at_most_front some is equal

pub at_least_token : (bytes : List ℕ) → 2 ≤ length bytes → get_or bytes 0 0 ≡ 62 → get_or bytes 1 0 ≡ 61
    → IsOneToken false (take 2 bytes) (drop 2 bytes)
at_least_token bytes some is equal = joined_token AtLeast 62 bytes refl at_least_front some is equal
