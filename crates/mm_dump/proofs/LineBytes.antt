-- The tokens of a line by its bytes: their number, and the texts among them.
use Rattle.std.proofs.Common.{◌≡◌, ◌≢◌, ◌≤◌, ◌+◌, ℕ, suc, Bool, true, false, cond, eqb, List, [], ◌∷◌, ◌++◌, length, refl, sym, ap, ◌∙◌, subst, length-append}
use Rattle.std.proofs.Common.{arith}
use Rattle.std.specs.List.{AllByRecursion}
use Rattle.std.proofs.lemmas.Bool.{eq-eqb, eqb-true, false≢true}
use Rattle.mm_value.specs.Literal.{doubled, doubled_byte, quoted}
use Rattle.mm_lang.specs.declared.read.token.Symbol.{Symbol}
use Rattle.mm_lang.specs.declared.read.token.Symbol.TheVariants.{Open, Close, Comma, Dot, Equal, Less, AtMost, Greater, AtLeast, Plus}
use Rattle.mm_lang.specs.Tokens.{Inside, Outside, Place, Token, Word, Signed, Quoted, Mark, Hole, Unreadable, begins_equal, begins_word, is_blank, is_word_byte}
use Rattle.mm_lang.specs.Tokens.{lexed, onto_equal, onto_minus, onto_symbol, onto_text, onto_word, tokens}
use Rattle.mm_lang.specs.Words.{symbol_text}
use Rattle.mm_dump.proofs.LeastTexts.{least, word_first}

-- ---- the least bytes of the tokens

few_first : (ts : List Token) → word_first ts ≤ 1
few_first [] = omega arith
few_first (Word w ∷ ts) = omega arith
few_first (Signed w ∷ ts) = omega arith
few_first (Quoted said ∷ ts) = omega arith
few_first (Mark symbol ∷ ts) = omega arith
few_first (Hole ∷ ts) = omega arith
few_first (Unreadable ∷ ts) = omega arith

-- A blank separates a word from a word before it.
abbrev spare : Bool → List Token → ℕ
spare begins ts = cond begins 0 (word_first ts)

word_least : (b : ℕ) (begins : Bool) (ts : List Token) (n : ℕ) → least ts + spare begins ts ≤ n → least (onto_word b begins ts) ≤ suc n
word_least b true [] n is = omega (arith, is)
word_least b true (Word w ∷ ts) n is = omega (arith, is)
word_least b true (Signed w ∷ ts) n is = omega (arith, is)
word_least b true (Quoted said ∷ ts) n is = omega (arith, is)
word_least b true (Mark symbol ∷ ts) n is = omega (arith, is)
word_least b true (Hole ∷ ts) n is = omega (arith, is)
word_least b true (Unreadable ∷ ts) n is = omega (arith, is)
word_least b false ts n is = omega (arith, is)

minus_least : (begins : Bool) (ts : List Token) (n : ℕ) → least ts + spare begins ts ≤ n
    → least (onto_minus begins ts) + word_first (onto_minus begins ts) ≤ suc n
minus_least true [] n is = omega (arith, is)
minus_least true (Word w ∷ ts) n is = omega (arith, is)
minus_least true (Signed w ∷ ts) n is = omega (arith, is)
minus_least true (Quoted said ∷ ts) n is = omega (arith, is)
minus_least true (Mark symbol ∷ ts) n is = omega (arith, is)
minus_least true (Hole ∷ ts) n is = omega (arith, is)
minus_least true (Unreadable ∷ ts) n is = omega (arith, is)
minus_least false ts n is = omega (arith, is)

equal_front : (bs : List ℕ) → tokens (61 ∷ bs) ≡ Mark Equal ∷ tokens bs
unfolding lexed
equal_front bs = refl

-- An equals sign is a token.
equal_first : (bs : List ℕ) → begins_equal bs ≡ true → (ts : List Token) × (tokens bs ≡ Mark Equal ∷ ts)
equal_first [] is = absurd (false≢true is)
equal_first (b ∷ bs) is = (tokens bs, ap (λ c. tokens (c ∷ bs)) (eqb-true b 61 is) ∙ equal_front bs)

-- A comparison that has one or two bytes.
comparison_least : (alone joined : Symbol) → length (symbol_text alone) ≡ 1 → length (symbol_text joined) ≡ 2 → (bs : List ℕ) (n : ℕ)
    → least (tokens bs) ≤ n
    → least (onto_equal alone joined (begins_equal bs) (tokens bs)) + word_first (onto_equal alone joined (begins_equal bs) (tokens bs)) ≤ suc n
comparison_least alone joined one two bs n is = by (begins_equal bs) refl
  where
    by : (b : Bool) → begins_equal bs ≡ b
        → least (onto_equal alone joined b (tokens bs)) + word_first (onto_equal alone joined b (tokens bs)) ≤ suc n
    by true joins =
        let first = equal_first bs joins in
        let bytes : least (Mark Equal ∷ first.0) ≤ n = subst (λ ts. least ts ≤ n) first.1 is in
        subst (λ ts. least (onto_equal alone joined true ts) + word_first (onto_equal alone joined true ts) ≤ suc n) (sym first.1)
        (omega (arith, two, bytes))
    by false other = omega (arith, one, is)

symbol_least : (b : ℕ) (bs : List ℕ) (n : ℕ) → least (tokens bs) + spare (begins_word bs) (tokens bs) ≤ n
    → least (onto_symbol b bs (tokens bs)) + word_first (onto_symbol b bs (tokens bs)) ≤ suc n
symbol_least b bs n is =
    by (eqb b 40) (eqb b 41) (eqb b 44) (eqb b 46) (eqb b 61) (eqb b 60) (eqb b 62) (eqb b 43) (eqb b 45) (eqb b 63)
  where
    by : (o c k d e l g p m q : Bool)
        → least (cond o (Mark Open ∷ tokens bs) (cond c (Mark Close ∷ tokens bs) (cond k (Mark Comma ∷ tokens bs) (cond d (Mark Dot ∷ tokens bs)
        (cond e (Mark Equal ∷ tokens bs) (cond l (onto_equal Less AtMost (begins_equal bs) (tokens bs))
        (cond g (onto_equal Greater AtLeast (begins_equal bs) (tokens bs)) (cond p (Mark Plus ∷ tokens bs)
        (cond m (onto_minus (begins_word bs) (tokens bs)) (cond q (Hole ∷ tokens bs) (Unreadable ∷ [])))))))))))
        + word_first (cond o (Mark Open ∷ tokens bs) (cond c (Mark Close ∷ tokens bs) (cond k (Mark Comma ∷ tokens bs) (cond d (Mark Dot ∷ tokens bs)
        (cond e (Mark Equal ∷ tokens bs) (cond l (onto_equal Less AtMost (begins_equal bs) (tokens bs))
        (cond g (onto_equal Greater AtLeast (begins_equal bs) (tokens bs)) (cond p (Mark Plus ∷ tokens bs)
        (cond m (onto_minus (begins_word bs) (tokens bs)) (cond q (Hole ∷ tokens bs) (Unreadable ∷ []))))))))))) ≤ suc n
    by true c k d e l g p m q = omega (arith, is)
    by false true k d e l g p m q = omega (arith, is)
    by false false true d e l g p m q = omega (arith, is)
    by false false false true e l g p m q = omega (arith, is)
    by false false false false true l g p m q = omega (arith, is)
    by false false false false false true g p m q = comparison_least Less AtMost refl refl bs n (omega (arith, is))
    by false false false false false false true p m q = comparison_least Greater AtLeast refl refl bs n (omega (arith, is))
    by false false false false false false false true m q = omega (arith, is)
    by false false false false false false false false true q = minus_least (begins_word bs) (tokens bs) n is
    by false false false false false false false false false true = omega (arith, is)
    by false false false false false false false false false false = omega arith

quoted_more : (b : ℕ) (text : List ℕ) → length (quoted (b ∷ text)) ≡ length (doubled_byte b) + length (quoted text)
quoted_more b text =
    let whole : length (quoted (b ∷ text)) ≡ suc (length (doubled_byte b ++ doubled text) + 1) =
    ap suc (length-append (doubled_byte b ++ doubled text) (39 ∷ [])) in
    let parts : length (doubled_byte b ++ doubled text) ≡ length (doubled_byte b) + length (doubled text) = length-append (doubled_byte b) (doubled text) in
    let rest : length (quoted text) ≡ suc (length (doubled text) + 1) = ap suc (length-append (doubled text) (39 ∷ [])) in
    omega (arith, whole, parts, rest)

text_least : (b : ℕ) (ts : List Token) (n : ℕ) → least ts ≤ n → word_first ts ≡ 0
    → (least (onto_text b ts) ≤ length (doubled_byte b) + n) × (word_first (onto_text b ts) ≡ 0)
text_least b [] n is none = (omega arith, none)
text_least b (Word w ∷ ts) n is none = (omega (arith, is), none)
text_least b (Signed w ∷ ts) n is none = (omega (arith, is), none)
text_least b (Quoted text ∷ ts) n is none = (let more = quoted_more b text in omega (arith, is, more), none)
text_least b (Mark symbol ∷ ts) n is none = (omega (arith, is), none)
text_least b (Hole ∷ ts) n is none = (omega (arith, is), none)
text_least b (Unreadable ∷ ts) n is none = (omega (arith, is), none)

-- Bytes have a token's bytes and a blank before each word after another one; those of a text follow its opening quote.
abbrev IsBounded : Place → List ℕ → Type 0
IsBounded Outside bs = least (lexed Outside bs) + spare (begins_word bs) (lexed Outside bs) ≤ length bs
IsBounded Inside bs = (least (lexed Inside bs) ≤ suc (length bs)) × (word_first (lexed Inside bs) ≡ 0)

bounded : (place : Place) (bs : List ℕ) → IsBounded place bs
unfolding lexed
bounded Outside [] = omega arith
bounded Outside (b ∷ bs) = by (is_blank b) (eqb b 39) (is_word_byte b) (bounded Outside bs) (bounded Inside bs)
  where
    by : (blank quote begins : Bool) → least (lexed Outside bs) + spare (begins_word bs) (lexed Outside bs) ≤ length bs
        → (least (lexed Inside bs) ≤ suc (length bs)) × (word_first (lexed Inside bs) ≡ 0)
        → least (cond blank (lexed Outside bs) (cond quote (lexed Inside bs)
        (cond begins (onto_word b (begins_word bs) (lexed Outside bs)) (onto_symbol b bs (lexed Outside bs)))))
        + spare begins (cond blank (lexed Outside bs) (cond quote (lexed Inside bs)
        (cond begins (onto_word b (begins_word bs) (lexed Outside bs)) (onto_symbol b bs (lexed Outside bs))))) ≤ suc (length bs)
    by true quote true outside inside = omega (arith, outside)
    by true quote false outside inside = let few = few_first (lexed Outside bs) in omega (arith, outside, few)
    by false true true outside inside = omega (arith, inside.0)
    by false true false outside inside = omega (arith, inside.0, inside.1)
    by false false true outside inside = let is = word_least b (begins_word bs) (lexed Outside bs) (length bs) outside in omega (arith, is)
    by false false false outside inside = symbol_least b bs (length bs) outside
bounded Inside [] = (omega arith, refl)
bounded Inside (b ∷ []) = by (eqb b 39)
  where
    by : (quote : Bool) → (least (cond quote (Quoted [] ∷ []) (Unreadable ∷ [])) ≤ 2) × (word_first (cond quote (Quoted [] ∷ []) (Unreadable ∷ [])) ≡ 0)
    by true = (omega arith, refl)
    by false = (omega arith, refl)
bounded Inside (b ∷ c ∷ bs) =
    by (eqb b 10) (eqb b 39) (eqb c 39) refl (bounded Inside bs) (bounded Outside (c ∷ bs)) (bounded Inside (c ∷ bs))
  where
    by : (feed quote other : Bool) → eqb b 39 ≡ quote → (least (lexed Inside bs) ≤ suc (length bs)) × (word_first (lexed Inside bs) ≡ 0)
        → least (lexed Outside (c ∷ bs)) + spare (begins_word (c ∷ bs)) (lexed Outside (c ∷ bs)) ≤ length (c ∷ bs)
        → (least (lexed Inside (c ∷ bs)) ≤ suc (length (c ∷ bs))) × (word_first (lexed Inside (c ∷ bs)) ≡ 0)
        → (least (cond feed (Unreadable ∷ []) (cond quote (cond other (onto_text 39 (lexed Inside bs)) (Quoted [] ∷ lexed Outside (c ∷ bs)))
        (onto_text b (lexed Inside (c ∷ bs))))) ≤ suc (suc (suc (length bs))))
        × (word_first (cond feed (Unreadable ∷ []) (cond quote (cond other (onto_text 39 (lexed Inside bs)) (Quoted [] ∷ lexed Outside (c ∷ bs)))
        (onto_text b (lexed Inside (c ∷ bs))))) ≡ 0)
    by true quote other is behind outside inside = (omega arith, refl)
    by false true true is behind outside inside =
        let r = text_least 39 (lexed Inside bs) (suc (length bs)) behind.0 behind.1 in (omega (arith, r.0), r.1)
    by false true false is behind outside inside = (omega (arith, outside), refl)
    by false false other is behind outside inside =
        let r = text_least b (lexed Inside (c ∷ bs)) (suc (length (c ∷ bs))) inside.0 inside.1 in
        let one : length (doubled_byte b) ≡ 1 = ap (λ d. length (cond d (39 ∷ 39 ∷ []) (b ∷ []))) is in
        (omega (arith, r.0, one), r.1)

-- A line has at least the bytes of its tokens, and one for each blank that separates two words.
pub tokens_least : (line : List ℕ) → least (tokens line) ≤ length line
tokens_least line = let b = bounded Outside line in omega (arith, b)

-- ---- texts

-- A text between quotes has no line feed.
abbrev pub IsOneLine : Token → Type 0
IsOneLine (Quoted said) = AllByRecursion (λ b. b ≢ 10) said
IsOneLine (Word w) = Unit {0}
IsOneLine (Signed w) = Unit {0}
IsOneLine (Mark symbol) = Unit {0}
IsOneLine Hole = Unit {0}
IsOneLine Unreadable = Unit {0}

abbrev pub AreOneLine : List Token → Type 0
AreOneLine ts = AllByRecursion IsOneLine ts

word_line : (b : ℕ) (begins : Bool) (ts : List Token) → AreOneLine ts → AreOneLine (onto_word b begins ts)
word_line b true [] all = (tt, tt)
word_line b true (Word w ∷ ts) all = all
word_line b true (Signed w ∷ ts) all = (tt, all)
word_line b true (Quoted said ∷ ts) all = (tt, all)
word_line b true (Mark symbol ∷ ts) all = (tt, all)
word_line b true (Hole ∷ ts) all = (tt, all)
word_line b true (Unreadable ∷ ts) all = (tt, all)
word_line b false ts all = (tt, all)

minus_line : (begins : Bool) (ts : List Token) → AreOneLine ts → AreOneLine (onto_minus begins ts)
minus_line true [] all = (tt, tt)
minus_line true (Word w ∷ ts) all = all
minus_line true (Signed w ∷ ts) all = (tt, all)
minus_line true (Quoted said ∷ ts) all = (tt, all)
minus_line true (Mark symbol ∷ ts) all = (tt, all)
minus_line true (Hole ∷ ts) all = (tt, all)
minus_line true (Unreadable ∷ ts) all = (tt, all)
minus_line false ts all = (tt, all)

equal_line : (alone joined : Symbol) (joins : Bool) (ts : List Token) → AreOneLine ts → AreOneLine (onto_equal alone joined joins ts)
equal_line alone joined true [] all = (tt, tt)
equal_line alone joined true (t ∷ ts) all = (tt, all.1)
equal_line alone joined false ts all = (tt, all)

symbol_line : (b : ℕ) (bs : List ℕ) (ts : List Token) → AreOneLine ts → AreOneLine (onto_symbol b bs ts)
symbol_line b bs ts all =
    by (eqb b 40) (eqb b 41) (eqb b 44) (eqb b 46) (eqb b 61) (eqb b 60) (eqb b 62) (eqb b 43) (eqb b 45) (eqb b 63)
  where
    by : (o c k d e l g p m q : Bool)
        → AreOneLine (cond o (Mark Open ∷ ts) (cond c (Mark Close ∷ ts) (cond k (Mark Comma ∷ ts) (cond d (Mark Dot ∷ ts) (cond e (Mark Equal ∷ ts)
        (cond l (onto_equal Less AtMost (begins_equal bs) ts) (cond g (onto_equal Greater AtLeast (begins_equal bs) ts) (cond p (Mark Plus ∷ ts)
        (cond m (onto_minus (begins_word bs) ts) (cond q (Hole ∷ ts) (Unreadable ∷ [])))))))))))
    by true c k d e l g p m q = (tt, all)
    by false true k d e l g p m q = (tt, all)
    by false false true d e l g p m q = (tt, all)
    by false false false true e l g p m q = (tt, all)
    by false false false false true l g p m q = (tt, all)
    by false false false false false true g p m q = equal_line Less AtMost (begins_equal bs) ts all
    by false false false false false false true p m q = equal_line Greater AtLeast (begins_equal bs) ts all
    by false false false false false false false true m q = (tt, all)
    by false false false false false false false false true q = minus_line (begins_word bs) ts all
    by false false false false false false false false false true = (tt, all)
    by false false false false false false false false false false = (tt, tt)

text_line : (b : ℕ) (ts : List Token) → b ≢ 10 → AreOneLine ts → AreOneLine (onto_text b ts)
text_line b [] other all = all
text_line b (Word w ∷ ts) other all = all
text_line b (Signed w ∷ ts) other all = all
text_line b (Quoted text ∷ ts) other all = ((other, all.0), all.1)
text_line b (Mark symbol ∷ ts) other all = all
text_line b (Hole ∷ ts) other all = all
text_line b (Unreadable ∷ ts) other all = all

no_feed : (b : ℕ) → eqb b 10 ≡ false → b ≢ 10
no_feed b other is = false≢true (sym other ∙ eq-eqb b 10 is)

in_one_line : (place : Place) (bs : List ℕ) → AreOneLine (lexed place bs)
unfolding lexed
in_one_line Outside [] = tt
in_one_line Outside (b ∷ bs) = by (is_blank b) (eqb b 39) (is_word_byte b) (in_one_line Outside bs) (in_one_line Inside bs)
  where
    by : (blank quote begins : Bool) → AreOneLine (lexed Outside bs) → AreOneLine (lexed Inside bs)
        → AreOneLine (cond blank (lexed Outside bs) (cond quote (lexed Inside bs)
        (cond begins (onto_word b (begins_word bs) (lexed Outside bs)) (onto_symbol b bs (lexed Outside bs)))))
    by true quote begins outside inside = outside
    by false true begins outside inside = inside
    by false false true outside inside = word_line b (begins_word bs) (lexed Outside bs) outside
    by false false false outside inside = symbol_line b bs (lexed Outside bs) outside
in_one_line Inside [] = (tt, tt)
in_one_line Inside (b ∷ []) = by (eqb b 39)
  where
    by : (quote : Bool) → AreOneLine (cond quote (Quoted [] ∷ []) (Unreadable ∷ []))
    by true = (tt, tt)
    by false = (tt, tt)
in_one_line Inside (b ∷ c ∷ bs) =
    by (eqb b 10) (eqb b 39) (eqb c 39) refl (in_one_line Inside bs) (in_one_line Outside (c ∷ bs)) (in_one_line Inside (c ∷ bs))
  where
    by : (feed quote other : Bool) → eqb b 10 ≡ feed → AreOneLine (lexed Inside bs) → AreOneLine (lexed Outside (c ∷ bs)) → AreOneLine (lexed Inside (c ∷ bs))
        → AreOneLine (cond feed (Unreadable ∷ []) (cond quote (cond other (onto_text 39 (lexed Inside bs)) (Quoted [] ∷ lexed Outside (c ∷ bs)))
        (onto_text b (lexed Inside (c ∷ bs)))))
    by true quote other is behind outside inside = (tt, tt)
    by false true true is behind outside inside = text_line 39 (lexed Inside bs) (λ e. omega (arith, e)) behind
    by false true false is behind outside inside = (tt, outside)
    by false false other is behind outside inside = text_line b (lexed Inside (c ∷ bs)) (no_feed b is) inside

-- No text of a line has a line feed.
pub texts_in_one_line : (line : List ℕ) → AreOneLine (tokens line)
texts_in_one_line line = in_one_line Outside line
