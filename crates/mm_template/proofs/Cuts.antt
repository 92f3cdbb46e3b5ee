-- Each piece of a line is copied to the template or replaced by a hole, and the line is the template with texts in place of its holes.
use Rattle.std.proofs.Common.{◌≡◌, ◌<◌, ◌≤◌, ◌-◌, inl, inr, ℕ, suc, Bool, true, false, not, ◌&&◌, ◌||◌, eqb, List, [], ◌∷◌}
use Rattle.std.proofs.Common.{◌++◌, Some, None, append-nil, append_assoc, length, length-append, length-take, take, take-append-drop, drop}
use Rattle.std.proofs.Common.{refl, sym, ap, subst, ◌∙◌, arith}
use Rattle.std.specs.Prelude.{IfSome, Option, count_by}
use Rattle.std.specs.List.{AllZip, list_all, prefix_len}
use Rattle.std.proofs.lemmas.Bool.{cond-false, eqb-true, false≢true, ne_eqb}
use Rattle.std.proofs.lemmas.List.{take-append-le}
use Rattle.mm_value.specs.Literal.{Spells}
use Rattle.mm_value.specs.declared.values.Value.{Value}
use Rattle.mm_lang.specs.Reading.{is_nothing}
use Rattle.mm_lang.specs.Templates.{holes_among}
use Rattle.mm_lang.specs.Tokens.{Token, Signed, Hole, begins_word, is_blank, lexed, tokens}
use Rattle.mm_statement.specs.Texts.{IsText, begins_minus}
use Rattle.mm_statement.proofs.TextBytes.{HasSign, IsTokenText, begins_quote, is_signed}
use Rattle.mm_statement.proofs.TextPieces.{pieces_of}
use Rattle.mm_template.specs.Cutting.{Cut, IsCut}
use Rattle.mm_template.specs.steps.Pieces.{BeginsAs, CutsLiteral, IsOperator, Keeps, MayBeCut, begins_keyword, begins_text, is_passed}
use Rattle.mm_template.specs.steps.Progress.{Agrees, IsCutTo, IsWhole, begins_signed}
use Rattle.mm_template.proofs.Fronts.{run_all}
use Rattle.mm_template.proofs.Runs.{blanks_agree, kept_agree, passed_are_kept, passed_ends}
use Rattle.mm_template.proofs.Tokens.{count_hole, token_agrees}

-- ---- a literal

plain_text : (t : Token) (ts texts : List Token) → is_signed t ≡ false → begins_signed (Hole ∷ ts) (t ∷ texts) ≡ false
unfolding is_signed
plain_text (Signed w) ts texts isnt = absurd (false≢true (sym isnt))
plain_text t ts texts isnt = refl

-- A literal, in place of which the template has a hole.
literal_agrees : (before after : Bool) (front rest tail : List ℕ) (texts : List Token) (t : Token) → tokens (front ++ rest) ≡ t ∷ tokens rest
    → (before ≡ false → is_signed t ≡ false) → Agrees after rest tail texts → Agrees before (front ++ rest) (63 ∷ tail) (t ∷ texts)
unfolding lexed
literal_agrees before after front rest tail texts t is unsigned a = record {
  begins = inr refl;
  written = is ∙ ap (λ ts. t ∷ ts) a.written;
  count = count_hole (tokens tail) ∙ ap suc a.count;
  unsigned = λ isnt. plain_text t (tokens tail) texts (unsigned isnt);
}

-- ---- a whole line

nothing_left : (may : Bool) → Agrees may [] [] []
unfolding lexed
nothing_left may = record { begins = inl refl; written = refl; count = refl; unsigned = λ isnt. refl }

-- Nothing is cut yet.
pub cut_start : (line : List ℕ) → IsCutTo line line line [] [] true
cut_start line = record { kept = []; split = refl; texts = []; are_texts = tt; goes_on = λ tail others a. a }

some_taken : (n : ℕ) (l : List ℕ) → 0 < n → n ≤ length l → 0 < length (take n l)
some_taken n l some fits = omega (arith, length-take n l)

-- Bytes are kept.
kept_step : (before after : Bool) (line left rest front behind template : List ℕ) (values : List Value) → rest ≡ front ++ behind
    → ((tail : List ℕ) (others : List Token) → Agrees after behind tail others → Agrees before (front ++ behind) (front ++ tail) others)
    → IsCutTo line left rest template values before → IsCutTo line left behind template values after
kept_step before after line left rest front behind template values split step c = record {
  kept = c.kept ++ front;
  split = c.split ∙ ap (λ l. c.kept ++ l) split ∙ sym (append_assoc c.kept front behind);
  texts = c.texts;
  are_texts = c.are_texts;
  goes_on = λ tail others a.
      subst (λ l. Agrees true line l (c.texts ++ others)) (joined tail)
      (c.goes_on (front ++ tail) others (subst (λ l. Agrees before l (front ++ tail) others) (sym split) (step tail others a)));
}
  where
    joined : (tail : List ℕ) → (template ++ c.kept) ++ (front ++ tail) ≡ (template ++ (c.kept ++ front)) ++ tail
    joined tail = sym (append_assoc (template ++ c.kept) front tail) ∙ ap (λ l. l ++ tail) (append_assoc template c.kept front)

-- The longest run of kept bytes.
pub cut_run : (is_insert before : Bool) (line left bytes rest template : List ℕ) (values : List Value)
    → rest ≡ drop (prefix_len (is_passed is_insert) bytes) bytes → IsCutTo line left bytes template values before
    → IsCutTo line left rest template values false
cut_run is_insert before line left bytes rest template values is c =
    let n = prefix_len (is_passed is_insert) bytes in
    subst (λ l. IsCutTo line left l template values false) (sym is)
    (kept_step before false line left bytes (take n bytes) (drop n bytes) template values (sym (take-append-drop n bytes))
    (λ tail others a.
    any_flag before _ _ others
    (kept_agree (take n bytes) (drop n bytes) tail others (passed_are_kept is_insert (take n bytes) (run_all (is_passed is_insert) bytes))
    (passed_ends is_insert bytes) a)) c)
  where
    any_flag : (before : Bool) (rest tail : List ℕ) (texts : List Token) → Agrees false rest tail texts → Agrees before rest tail texts
    any_flag before rest tail texts a = record { begins = a.begins; written = a.written; count = a.count; unsigned = λ isnt. a.unsigned refl }

-- An operator ..
pub cut_operator : (line left bytes behind template : List ℕ) (values : List Value) (takes_any : Bool) (n : ℕ) → IsOperator bytes takes_any n
    → behind ≡ drop n bytes → IsCutTo line left bytes template values false → IsCutTo line left behind template values takes_any
cut_operator line left bytes behind template values takes_any n operator is c =
    subst (λ l. IsCutTo line left l template values takes_any) (sym is)
    (kept_step false takes_any line left bytes (take n bytes) (drop n bytes) template values (sym (take-append-drop n bytes))
    (λ tail others a.
    token_agrees false takes_any (not takes_any) (take n bytes) (drop n bytes) tail others (some_taken n bytes operator.some operator.fits)
    operator.is (negated takes_any) a) c)
  where
    negated : (takes_any : Bool) → not takes_any ≡ true → takes_any ≡ false
    negated true isnt = sym isnt
    negated false isnt = refl

-- .. and the blanks after it.
pub cut_blanks : (may : Bool) (line left bytes rest template : List ℕ) (values : List Value) → rest ≡ drop (prefix_len is_blank bytes) bytes
    → IsCutTo line left bytes template values may → IsCutTo line left rest template values may
cut_blanks may line left bytes rest template values is c =
    let n = prefix_len is_blank bytes in
    subst (λ l. IsCutTo line left l template values may) (sym is)
    (kept_step may may line left bytes (take n bytes) (drop n bytes) template values (sym (take-append-drop n bytes))
    (λ tail others a. blanks_agree may (take n bytes) (drop n bytes) tail others (run_all is_blank bytes) a) c)

-- No literal is cut.
pub cut_nothing : (may : Bool) (line left bytes rest template : List ℕ) (values : List Value) (n : ℕ) → n ≤ 0 → rest ≡ drop n bytes
    → IsCutTo line left bytes template values may → IsCutTo line left rest template values may
cut_nothing may line left bytes rest template values n none is c =
    let zero : n ≡ 0 = omega arith in
    subst (λ l. IsCutTo line left l template values may) (sym (is ∙ ap (λ k. drop k bytes) zero)) c

push_text : (texts : List Token) (values : List Value) (t : Token) (v : Value) → AllZip IsText texts values → IsText t v
    → AllZip IsText (texts ++ t ∷ []) (values ++ v ∷ [])
push_text [] [] t v all is = (is, tt)
push_text [] (w ∷ values) t v all is = absurd all
push_text (u ∷ texts) [] t v all is = absurd all
push_text (u ∷ texts) (w ∷ values) t v all is = (all.0, push_text texts values t v all.1 is)

-- A literal, as a token.
record Literal (front rest : List ℕ) (v : Value) : Type 0 where
  token : Token
  is_text : IsText token v
  is : tokens (front ++ rest) ≡ token ∷ tokens rest
  sign : is_signed token ≡ begins_minus front

no_quote : (rest : List ℕ) → begins_text rest ≡ false → begins_quote rest ≡ false
unfolding begins_quote
no_quote [] isnt = refl
no_quote (b ∷ bs) isnt = isnt

literal_token : (front rest : List ℕ) (v : Value) → Spells front v → begins_word rest ≡ false → begins_text rest ≡ false → Literal front rest v
literal_token front rest v spelled word text =
    let p = pieces_of (front ∷ []) (v ∷ []) (spelled, tt) in
    by p.said p.are_texts p.fronts p.signs
  where
    by : (said : List Token) → AllZip IsText said (v ∷ []) → AllZip IsTokenText (front ∷ []) said → AllZip HasSign (front ∷ []) said → Literal front rest v
    by [] are fronts signs = absurd are
    by (t ∷ []) are fronts signs =
        record { token = t; is_text = are.0; is = fronts.0 rest word (no_quote rest text); sign = signs.0 }
    by (t ∷ u ∷ said) are fronts signs = absurd are.1

-- A literal is cut.
pub cut_literal : (line left rest front behind : List ℕ) (old new : Cut) (n : ℕ) (may after : Bool) → MayBeCut rest may n
    → front ≡ take n rest → behind ≡ drop n rest → IsCutTo line left rest old.template old.values may
    → CutsLiteral old new (take (length left - length rest) left) front behind
    → IsCutTo line behind behind new.template new.values after
cut_literal line left rest front behind old new n may after literal taken is c cut =
    let p = literal_token front behind cut.value cut.spelled cut.no_word cut.no_text in
    let split : rest ≡ front ++ behind = sym (take-append-drop n rest) ∙ (λ i. sym taken i ++ sym is i) in
    let kept : take (length left - length rest) left ≡ c.kept =
    ap (λ l. take (length l - length rest) l) c.split ∙ front_of c.kept rest in
    let template : new.template ≡ (old.template ++ c.kept) ++ 63 ∷ [] = cut.template ∙ ap (λ l. (old.template ++ l) ++ 63 ∷ []) kept in
    record {
      kept = [];
      split = refl;
      texts = c.texts ++ p.token ∷ [];
      are_texts =
          subst (λ l. AllZip IsText (c.texts ++ p.token ∷ []) l) (sym cut.values)
          (push_text c.texts old.values p.token cut.value c.are_texts p.is_text);
      goes_on = λ tail others a.
          subst (λ l. Agrees true line l ((c.texts ++ p.token ∷ []) ++ others)) (joined template tail)
          (subst (λ ts. Agrees true line ((old.template ++ c.kept) ++ 63 ∷ tail) ts) (sym (append_assoc c.texts (p.token ∷ []) others))
          (c.goes_on (63 ∷ tail) (p.token ∷ others)
          (subst (λ l. Agrees may l (63 ∷ tail) (p.token ∷ others)) (sym split)
          (literal_agrees may after front behind tail others p.token p.is (λ isnt. p.sign ∙ ap begins_minus taken ∙ literal.unsigned isnt) a))));
    }
  where
    front_of : (kept rest : List ℕ) → take (length (kept ++ rest) - length rest) (kept ++ rest) ≡ kept
    front_of kept rest =
        let n : length (kept ++ rest) - length rest ≡ length kept = omega (arith, length-append kept rest) in
        ap (λ m. take m (kept ++ rest)) n ∙ take-append-le (length kept) kept rest (omega arith) ∙ all_of kept
      where
        all_of : (l : List ℕ) → take (length l) l ≡ l
        all_of [] = refl
        all_of (b ∷ bs) = ap (λ l. b ∷ l) (all_of bs)

    joined : new.template ≡ (old.template ++ c.kept) ++ 63 ∷ [] → (tail : List ℕ) → (old.template ++ c.kept) ++ 63 ∷ tail ≡ (new.template ++ []) ++ tail
    joined is tail =
        sym (append_assoc (old.template ++ c.kept) (63 ∷ []) tail) ∙ ap (λ l. l ++ tail) (sym is ∙ sym (append-nil new.template))

-- The line is cut to its end, and the rest is kept.
pub cut_end : (line left rest : List ℕ) (old new : Cut) (may : Bool) → length rest ≡ 0 → IsCutTo line left rest old.template old.values may
    → Keeps old new left → IsWhole line new.template new.values
cut_end line left [] old new may none c keeps =
    let kept : left ≡ c.kept = c.split ∙ append-nil c.kept in
    let template : new.template ≡ old.template ++ c.kept = keeps.template ∙ ap (λ l. old.template ++ l) kept in
    record {
      texts = c.texts;
      are_texts = subst (λ l. AllZip IsText c.texts l) (sym keeps.values) c.are_texts;
      agrees =
          subst (λ l. Agrees true line l c.texts) (append-nil (old.template ++ c.kept) ∙ sym template)
          (subst (λ ts. Agrees true line ((old.template ++ c.kept) ++ []) ts) (append-nil c.texts) (c.goes_on [] [] (nothing_left may)));
    }
cut_end line left (b ∷ rest) old new may none c keeps = absurd (omega arith)

-- ---- the contract

some_byte : (b : ℕ) (bs : List ℕ) → is_blank b ≡ false → eqb b 45 ≡ false → is_nothing (b ∷ bs) ≡ false
some_byte b [] blank comment = ap (λ is. (is && true) || false) blank
some_byte b (c ∷ bs) blank comment =
    ap (λ is. (is && list_all is_blank (c ∷ bs)) || ((eqb b 45) && (eqb c 45))) blank ∙ ap (λ is. is && (eqb c 45)) comment

-- The first byte of a keyword whose lines are cut is a capital letter.
keyword_byte : (b : ℕ) → (eqb b 83 || eqb b 73 || eqb b 85 || eqb b 68) ≡ true → 65 ≤ b
keyword_byte b is = by (eqb b 83) refl (eqb b 73) refl (eqb b 85) refl is
  where
    by : (s : Bool) → eqb b 83 ≡ s → (i : Bool) → eqb b 73 ≡ i → (u : Bool) → eqb b 85 ≡ u → (s || i || u || eqb b 68) ≡ true → 65 ≤ b
    by true is i other u third h = omega (arith, eqb-true b 83 is)
    by false is true other u third h = omega (arith, eqb-true b 73 other)
    by false is false other true third h = omega (arith, eqb-true b 85 third)
    by false is false other false third h = omega (arith, eqb-true b 68 h)

-- No line that begins with a capital letter or a `?` is empty or a comment.
capital_byte : (b : ℕ) (bs : List ℕ) → 63 ≤ b → is_nothing (b ∷ bs) ≡ false
capital_byte b bs high =
    let no_space : eqb b 32 ≡ false = ne_eqb b 32 (λ is. omega (arith, high, is)) in
    let no_tab : eqb b 9 ≡ false = ne_eqb b 9 (λ is. omega (arith, high, is)) in
    some_byte b bs (ap (λ x. x || eqb b 9) no_space ∙ no_tab) (ne_eqb b 45 (λ is. omega (arith, high, is)))

-- A template that begins as a line with such a keyword is neither an empty line nor a comment.
begins_something : (line template : List ℕ) → begins_keyword line ≡ true → BeginsAs template line → is_nothing template ≡ false
begins_something [] template keyword begins = absurd (false≢true keyword)
begins_something (a ∷ rest) [] keyword (inl same) = let capital = keyword_byte a keyword in absurd (omega (arith, capital, same))
begins_something (a ∷ rest) [] keyword (inr hole) = absurd (omega (arith, hole))
begins_something (a ∷ rest) (b ∷ bs) keyword (inr hole) = capital_byte b bs (omega (arith, hole))
begins_something (a ∷ rest) (b ∷ bs) keyword (inl same) = let capital = keyword_byte a keyword in capital_byte b bs (omega (arith, capital, same))

same_length : (texts : List Token) (values : List Value) → AllZip IsText texts values → length texts ≡ length values
same_length [] [] all = refl
same_length [] (v ∷ values) all = absurd all
same_length (t ∷ texts) [] all = absurd all
same_length (t ∷ texts) (v ∷ values) all = ap suc (same_length texts values all.1)

-- A line that is cut to its end is cut.
pub whole_cut : (line template : List ℕ) (values : List Value) → length line ≤ 512 → begins_keyword line ≡ true → IsWhole line template values
    → IsCut line template values
whole_cut line template values short keyword w =
    let something = begins_something line template keyword w.agrees.begins in
    record {
      texts = w.texts;
      are_texts = w.are_texts;
      written = w.agrees.written;
      count =
          sym (same_length w.texts values w.are_texts) ∙ sym w.agrees.count
          ∙ ap (count_by (λ hole. hole)) (sym (cond-false (is_nothing template) [] (holes_among (tokens template)) something));
      something = something;
      fits = omega arith;
    }

-- ---- for the results of calls

-- No bytes are kept.
pub keeps_nothing : (old : Cut) (bytes : List ℕ) → eqb (length bytes) 0 ≡ true → Keeps old old bytes
keeps_nothing old [] none = record { template = sym (append-nil old.template); values = refl }
keeps_nothing old (b ∷ bs) none = absurd (omega (arith, eqb-true (length (b ∷ bs)) 0 none))

-- A property of the result of a call that returns `Some`.
pub if_some : {A P Q : Type 0} (o : Option A) → (P → Q) → IfSome o (λ x. P) → IfSome o (λ x. Q)
if_some None f h = tt
if_some (Some x) f h = f h
