-- A phrase that is exact for a spelling reads exactly what the spelling allows, and so do lists of it and the phrase in parentheses.
use Rattle.std.proofs.Common.{◌≡◌, ◌<◌, ⊎_elim, ℕ, Bool, true, false, zero, suc, List, [], ◌∷◌, ◌++◌, Option, Some, None, length, refl, sym, ap, ◌∙◌, subst}
use Rattle.std.proofs.Common.{arith, append_assoc, length-append}
use Rattle.std.specs.Option.{option_map, option_and_then, option_or}
use Rattle.std.proofs.lemmas.Option.{none-some}
use Rattle.mm_lang.specs.declared.read.keyword.Keyword.{Keyword}
use Rattle.mm_lang.specs.declared.read.token.Symbol.TheVariants.{Open, Close}
use Rattle.mm_lang.specs.Phrases.{Phrase, ◌>>=◌, say, one, the_symbol, the_keyword, has_keyword, behind_item, at_most, list_of, clause_behind, clause}
use Rattle.mm_lang.specs.Phrases.{in_parentheses}
use Rattle.mm_lang.specs.Spelling.{word, SpellsOne, SpellsList, SpellsClause, SpellsInParentheses}
use Rattle.mm_lang.specs.Tokens.{Token, Mark}
use Rattle.mm_lang.specs.steps.Parts.{Front, said_same, then_parts, one_parts, in_parentheses_parts}
use Rattle.mm_lang.proofs.Lists.{onto}
use Rattle.mm_lang.proofs.SpelledWords.{symbol_read, has_keyword_read}

-- The tokens that the phrase reads are a spelling of its value, and each spelling is read if no following token continues it.
pub record IsExact {A : Type 0} (phrase : Phrase A) (Spells : List Token → A → Type 0) (Ends : List Token → Type 0) : Type 0 where
  pub sound : (ts : List Token) (x : A) (us : List Token) → phrase ts ≡ Some (x, us) → (front : List Token) × Spells front x × (ts ≡ front ++ us)
  pub complete : (front : List Token) (x : A) (us : List Token) → Spells front x → Ends us → phrase (front ++ us) ≡ Some (x, us)

-- The phrase is this single token, without a value.
pub record IsToken (phrase : Phrase (Unit {0})) (token : Token) : Type 0 where
  pub sound : (ts us : List Token) → phrase ts ≡ Some (tt, us) → ts ≡ token ∷ us
  pub complete : (us : List Token) → phrase (token ∷ us) ≡ Some (tt, us)

-- any tokens may follow
abbrev pub Always : List Token → Type 0
Always us = Unit {0}

pub one_exact : {A : Type 0} (says : Token → Option A) (Says : Token → A → Type 0) → ((t : Token) (x : A) → says t ≡ Some x → Says t x)
    → ((t : Token) (x : A) → Says t x → says t ≡ Some x) → IsExact (one says) (SpellsOne Says) Always
one_exact {A} says Says to from = record {
  sound = λ ts x us e. let p = one_parts says ts x us e in (p.0 ∷ [], (p.0, to p.0 x p.2, refl), p.1);
  complete =
      λ front x us h _.
      let pair : A → Front A = λ y. (y, us) in
      ap (λ l. one says (l ++ us)) h.2 ∙ ap (option_map pair) (from h.0 x h.1);
}

-- an item before a list
pub SpellsList-cons : {A : Type 0} (separator : Token) (Spells : List Token → A → Type 0) (first others : List Token) (x : A) (xs : List A)
    → Spells first x → SpellsList separator Spells others xs → SpellsList separator Spells (first ++ separator ∷ others) (x ∷ xs)
SpellsList-cons separator Spells first others x [] h k = absurd k
SpellsList-cons separator Spells first others x (y ∷ ys) h k = (first, others, h, k, refl)

module _ {A : Type 0} (separator : Phrase (Unit {0})) (token : Token) (item : Phrase A) (Spells : List Token → A → Type 0) (Ends : List Token → Type 0)
    (mark : IsToken separator token) (exact : IsExact item Spells Ends) where
  abbrev IsFront : List Token → List A → List Token → Type 0
  IsFront ts xs us = (front : List Token) × SpellsList token Spells front xs × (ts ≡ front ++ us)

  -- the items after the first
  behind_sound : (n : ℕ) (first : List Token) (x : A) (ms : List Token) (ys : List A) (us : List Token) → Spells first x
      → ((ts : List Token) (xs : List A) (us : List Token) → at_most n separator item ts ≡ Some (xs, us) → IsFront ts xs us)
      → (o : Option (Front (Unit {0}))) → separator ms ≡ o → behind_item o (at_most n separator item) ms ≡ Some (ys, us) → IsFront (first ++ ms) (x ∷ ys) us
  behind_sound n first x ms ys us h rest None is e =
      let p = said_same [] ys ms us e in
      (first, subst (λ l. SpellsList token Spells first (x ∷ l)) p.0 h, ap (λ l. first ++ l) p.1)
  behind_sound n first x ms ys us h rest (Some s) is e =
      let p = rest s.1 ys us e in
      let q = mark.sound ms s.1 is in (
        first ++ token ∷ p.0,
        SpellsList-cons token Spells first p.0 x ys h p.1,
        ap (λ l. first ++ l) (q ∙ ap (λ l. token ∷ l) p.2) ∙ sym (append_assoc first (token ∷ p.0) us),
      )

  at_most_sound : (n : ℕ) (ts : List Token) (xs : List A) (us : List Token) → at_most n separator item ts ≡ Some (xs, us) → IsFront ts xs us
  unfolding at_most
  at_most_sound zero ts xs us e = let answer : Front (List A) = (xs, us) in absurd (none-some answer e)
  at_most_sound (suc n) ts xs us e =
      let p = then_parts item (λ x. (λ ms. behind_item (separator ms) (at_most n separator item) ms) >>= (λ ys. say (x ∷ ys))) ts xs us e in
      let q = then_parts (λ ms. behind_item (separator ms) (at_most n separator item) ms) (λ ys. say (p.0 ∷ ys)) p.1 xs us p.3 in
      let r = said_same (p.0 ∷ q.0) xs q.1 us q.3 in
      let s = exact.sound ts p.0 p.1 p.2 in
      let t = behind_sound n s.0 p.0 p.1 q.0 q.1 s.1 (at_most_sound n) (separator p.1) refl q.2 in
      (t.0, subst (SpellsList token Spells t.0) r.0 t.1, s.2 ∙ t.2 ∙ ap (λ l. t.0 ++ l) r.1)

  at_most_complete : (ends : (us : List Token) → Ends (token ∷ us)) (n : ℕ) (xs : List A) (front us : List Token) → SpellsList token Spells front xs
      → Ends us → separator us ≡ None
      → length front < n → at_most n separator item (front ++ us) ≡ Some (xs, us)
  unfolding at_most
  at_most_complete ends zero xs front us h end last less = absurd (omega arith)
  at_most_complete ends (suc n) [] front us h end last less = absurd h
  at_most_complete ends (suc n) (x ∷ []) front us h end last less =
      ap (option_and_then (λ (r : Front A). option_and_then (onto r.0) (behind_item (separator r.1) (at_most n separator item) r.1)))
      (exact.complete front x us h end)
      ∙ ap (λ (o : Option (Front (Unit {0}))). option_and_then (onto x) (behind_item o (at_most n separator item) us)) last
  at_most_complete ends (suc n) (x ∷ y ∷ ys) front us h end last less =
      let behind = h.1 ++ us in
      let all : front ++ us ≡ h.0 ++ token ∷ behind = ap (λ l. l ++ us) h.4 ∙ append_assoc h.0 (token ∷ h.1) us in
      let fewer : length h.1 < n = omega (arith, ap length h.4, length-append h.0 (token ∷ h.1), less) in
      ap (at_most (suc n) separator item) all
      ∙ ap (option_and_then (λ (r : Front A). option_and_then (onto r.0) (behind_item (separator r.1) (at_most n separator item) r.1)))
      (exact.complete h.0 x (token ∷ behind) h.2 (ends behind))
      ∙ ap (λ (o : Option (Front (Unit {0}))). option_and_then (onto x) (behind_item o (at_most n separator item) (token ∷ behind))) (mark.complete behind)
      ∙ ap (option_and_then (onto x)) (at_most_complete ends n (y ∷ ys) h.1 us h.3 end last fewer)

  pub list_exact : ((us : List Token) → Ends (token ∷ us)) → IsExact (list_of separator item) (SpellsList token Spells) (λ us. Ends us × (separator us ≡ None))
  list_exact ends = record {
    sound = λ ts xs us e. at_most_sound (suc (length ts)) ts xs us e;
    complete = λ front xs us h end. at_most_complete ends (suc (length (front ++ us))) xs front us h end.0 end.1 (omega (arith, length-append front us));
  }

pub parentheses_exact : {A : Type 0} (phrase : Phrase A) (Spells : List Token → A → Type 0) (Ends : List Token → Type 0) → IsExact phrase Spells Ends
    → ((us : List Token) → Ends (Mark Close ∷ us)) → IsExact (in_parentheses phrase) (SpellsInParentheses Spells) Always
parentheses_exact {A} phrase Spells Ends exact ends = record {
  sound =
      λ ts x us e.
      let p = in_parentheses_parts phrase ts x us e in
      let q = exact.sound p.0 x p.1 p.3 in
      let close : p.1 ≡ Mark Close ∷ us = symbol_read Close p.1 us p.4 in (
        Mark Open ∷ q.0 ++ Mark Close ∷ [],
        (q.0, q.1, refl),
        symbol_read Open ts p.0 p.2 ∙ ap (λ l. Mark Open ∷ l) (q.2 ∙ ap (λ l. q.0 ++ l) close ∙ sym (append_assoc q.0 (Mark Close ∷ []) us)),
      );
  complete =
      λ front x us h _.
      ap (λ l. in_parentheses phrase (l ++ us)) h.2
      ∙ ap (λ l. in_parentheses phrase (Mark Open ∷ l)) (append_assoc h.0 (Mark Close ∷ []) us)
      ∙ ap (option_and_then (λ (r : Front A). (the_symbol Close >>= (λ c. say r.0)) r.1)) (exact.complete h.0 x (Mark Close ∷ us) h.1 (ends us));
}

-- A clause whose keyword is read as itself.
module _ {A : Type 0} (wanted : Keyword) (separator : Phrase (Unit {0})) (token : Token) (item : Phrase A) (Spells : List Token → A → Type 0)
    (Ends : List Token → Type 0) (exact : IsExact (list_of separator item) (SpellsList token Spells) Ends)
    (here : (us : List Token) → the_keyword wanted (word wanted ∷ us) ≡ Some (tt, us)) where
  keyword_spelled : (front : List Token) (xs : List A) → SpellsList token Spells front xs → SpellsClause wanted token Spells (word wanted ∷ front) xs
  keyword_spelled front [] h = absurd h
  keyword_spelled front (x ∷ xs) h = (front, h, refl)

  clause_sound : (ts : List Token) (xs : List A) (us : List Token) → clause wanted separator item ts ≡ Some (xs, us)
      → (front : List Token) × SpellsClause wanted token Spells front xs × (ts ≡ front ++ us)
  unfolding clause
  clause_sound ts xs us e =
      let p = then_parts (has_keyword wanted) (clause_behind separator item) ts xs us e in
      ⊎_elim
      (λ there. let s = exact.sound p.1 xs us (ap (λ b. clause_behind separator item b p.1) (sym there.0) ∙ p.3) in
      (word wanted ∷ s.0, keyword_spelled s.0 xs s.1, there.1 ∙ ap (λ l. word wanted ∷ l) s.2))
      (λ not_there. let s = said_same [] xs p.1 us (ap (λ b. clause_behind separator item b p.1) (sym not_there.0) ∙ p.3) in
      ([], subst (SpellsClause wanted token Spells []) s.0 refl, not_there.1 ∙ s.1))
      (has_keyword_read wanted ts p.0 p.1 p.2)

  -- a clause, given the result of reading its keyword
  by_keyword : List Token → Option (Front (Unit {0})) → Option (Front (List A))
  by_keyword ts found =
      option_and_then (λ (r : Front Bool). clause_behind separator item r.0 r.1)
      (option_or (option_and_then (λ (s : Front (Unit {0})). say true s.1) found) (Some (false, ts)))

  clause_complete : (front : List Token) (xs : List A) (us : List Token) → SpellsClause wanted token Spells front xs → Ends us
      → the_keyword wanted us ≡ None → clause wanted separator item (front ++ us) ≡ Some (xs, us)
  unfolding clause by_keyword
  clause_complete front [] us h end last = ap (λ l. clause wanted separator item (l ++ us)) h ∙ ap (by_keyword us) last
  clause_complete front (x ∷ xs) us h end last =
      ap (λ l. clause wanted separator item (l ++ us)) h.2 ∙ ap (by_keyword (word wanted ∷ h.0 ++ us)) (here (h.0 ++ us))
      ∙ exact.complete h.0 (x ∷ xs) us h.1 end

  pub clause_exact : IsExact (clause wanted separator item) (SpellsClause wanted token Spells) (λ us. Ends us × (the_keyword wanted us ≡ None))
  clause_exact = record { sound = clause_sound; complete = λ front xs us h end. clause_complete front xs us h end.0 end.1 }
