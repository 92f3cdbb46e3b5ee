-- Numbers, shifts, operands, tests and assignments, read part by part.
use Rattle.std.proofs.Common.{◌≡◌, ◌≤◌, inl, inr, ⊎_elim, ℕ, Bool, true, false, cond, List, [], ◌∷◌, Option, Some, None, Result, Ok, Err, length, refl, subst}
use Rattle.std.proofs.Common.{sym, ap, ◌∙◌, arith}
use Rattle.std.specs.Prelude.{ℤ, FitsSigned}
use Rattle.std.specs.Int.{w64}
use Rattle.std.specs.Option.{option_and_then, option_or}
use Rattle.std.proofs.lemmas.Bool.{cases_Bool, cond-true}
use Rattle.std.proofs.lemmas.Option.{none-some}
use Rattle.mm_value.specs.Literal.{IsNumeral, is_numeral, is_within_limit}
use Rattle.mm_value.specs.Reading.{signed_value}
use Rattle.mm_value.specs.declared.refusal.Refusal.{Refusal}
use Rattle.mm_value.specs.declared.refusal.Refusal.TheVariants.{NumberOutOfRange}
use Rattle.mm_value.specs.declared.values.Value.{Value}
use Rattle.mm_value.specs.declared.values.Value.TheVariants.{Int}
use Rattle.mm_value.proofs.Limits.{int_within, within_int}
use Rattle.mm_query.specs.declared.atom.Assignment.{Assignment}
use Rattle.mm_query.specs.declared.atom.Atom.{Atom}
use Rattle.mm_query.specs.declared.atom.Comparison.{Comparison}
use Rattle.mm_query.specs.declared.atom.Operand.{Operand}
use Rattle.mm_query.specs.declared.atom.Operand.TheVariants as kind_of
use Rattle.mm_lang.specs.declared.read.reader.Reader.{Reader}
use Rattle.mm_lang.specs.declared.read.token.Symbol.TheVariants as symbol
use Rattle.mm_lang.specs.Grammar.{literal_of, name, comparison, numbered, digits, unit_shift, behind_sign, shift, with_shift, operand_behind}
use Rattle.mm_lang.specs.Grammar.{operand_on, test_on, assignment}
use Rattle.mm_lang.specs.Phrases.{Phrase, ◌>>=◌, ◌>>◌, say, one, the_symbol, maybe}
use Rattle.mm_lang.specs.Reading.{assignment_literals, first_fault, operand_literals, test_literals}
use Rattle.mm_lang.specs.Tokens.{Token, Signed, Mark, Hole, tokens}
use Rattle.mm_lang.specs.steps.Parsing.{BeginsNotSigned, Fails, Follows, Gives, ReadsPhrase, Skips, no_literals, only_literal, shift_literals, the_hole}
use Rattle.mm_lang.specs.steps.Parts.{Front, said_same}
use Rattle.mm_lang.proofs.SpelledWords.{symbol_read}
use Rattle.mm_lang.proofs.Readings.{Took, took, or_none, fails_first, fails_next, reads_behind, given_made}

-- ---- numbers

pub not_within : (z : ℤ) → ¬ FitsSigned w64 z → is_within_limit (Int z) ≡ false
not_within z past = ⊎_elim (λ fits. absurd (past (within_int z fits))) (λ other. other) (cases_Bool (is_within_limit (Int z)))

module _ (is_negative : Bool) (word : List ℕ) (old : Reader) where
  abbrev number : ℤ
  number = signed_value is_negative word

  numbered_is : IsNumeral word → numbered is_negative word (tokens old.rest) ≡ Some (Some number, tokens old.rest)
  numbered_is numeral = cond-true (is_numeral word) _ _ numeral

  -- A number within its limit is returned, ..
  pub number_within : (z : ℤ) → IsNumeral word → z ≡ signed_value is_negative word → FitsSigned w64 z
      → Gives (numbered is_negative word) shift_literals old old (Some z)
  number_within z numeral is fits =
      let within : is_within_limit (Int (signed_value is_negative word)) ≡ true = ap (λ n. is_within_limit (Int n)) (sym is) ∙ int_within z fits in
      record {
        said = Some (signed_value is_negative word);
        read = numbered_is numeral;
        fault = sym (ap (λ b. option_or old.fault (option_or (cond b None (Some NumberOutOfRange)) None)) within ∙ or_none old.fault);
        same = λ none. ap (λ (n : ℤ). Some n) is;
        shorter = omega arith;
      }

  -- .. and one past its limit is recorded.
  pub number_past : (fault : Option Refusal) (placeholder : ℤ) → IsNumeral word → ¬ FitsSigned w64 (signed_value is_negative word)
      → fault ≡ option_or old.fault (Some NumberOutOfRange)
      → Gives (numbered is_negative word) shift_literals old (record old { fault = fault }) (Some placeholder)
  number_past fault placeholder numeral past noted =
      let out : is_within_limit (Int (signed_value is_negative word)) ≡ false = not_within (signed_value is_negative word) past in
      record {
        said = Some (signed_value is_negative word);
        read = numbered_is numeral;
        fault = noted ∙ sym (ap (λ b. option_or old.fault (option_or (cond b None (Some NumberOutOfRange)) None)) out);
        same =
            λ none. let some : ◌≡◌ {A = Option Refusal} (Some NumberOutOfRange) None =
            sym (ap (λ b. option_or (cond b None (Some NumberOutOfRange)) None) out) ∙ none in absurd (cc);
        shorter = omega arith;
      }

some-none : {A : Type 0} {x : A} → Some x ≡ None → ⊥
some-none e = cc

-- ---- after a sign

hole_front : (ts us : List Token) → the_hole ts ≡ Some (tt, us) → ts ≡ Hole ∷ us
hole_front [] us e = let answer : Front (Unit {0}) = (tt, us) in absurd (none-some answer e)
hole_front (Hole ∷ ts) us e = ap (λ l. Hole ∷ l) (said_same tt tt ts us e).1
hole_front (t ∷ ts) us e = let answer : Front (Unit {0}) = (tt, us) in absurd (none-some answer e)

unit_within : (is_negative : Bool) → first_fault (shift_literals (Some (unit_shift is_negative))) ≡ None
unit_within true = refl
unit_within false = refl

pub unit_fits : (is_negative : Bool) → FitsSigned w64 (unit_shift is_negative)
unit_fits true = within_int (unit_shift true) refl
unit_fits false = within_int (unit_shift false) refl

-- A hole is 1, ..
pub hole_given : (is_negative : Bool) (old new : Reader) (z : ℤ) → Skips the_hole old new true → z ≡ unit_shift is_negative
    → Gives (behind_sign is_negative) shift_literals old new (Some z)
hole_given is_negative old new z h is =
    let t = took h.0 in
    record {
      said = Some (unit_shift is_negative);
      read = ap (behind_sign is_negative) (hole_front (tokens old.rest) (tokens new.rest) t.is);
      fault = t.fault ∙ sym (ap (option_or old.fault) (unit_within is_negative) ∙ or_none old.fault);
      same = λ none. ap (λ (n : ℤ). Some n) is;
      shorter = t.shorter;
    }

no_hole : (is_negative : Bool) (ts : List Token) → the_hole ts ≡ None → behind_sign is_negative ts ≡ digits is_negative ts
no_hole is_negative (Hole ∷ ts) none = absurd (some-none none)
no_hole is_negative ts none = refl

same_reading : {A : Type 0} (p q : Phrase A) (literals : A → List Value) (old new : Reader) (r : Result A Refusal) → p (tokens old.rest) ≡ q (tokens old.rest)
    → ReadsPhrase q literals old new r → ReadsPhrase p literals old new r
same_reading p q literals old new (Ok x) same g = record { said = g.said; read = same ∙ g.read; fault = g.fault; same = g.same; shorter = g.shorter }
same_reading p q literals old new (Err e) same (inl none) = inl (none.0, same ∙ none.1)
same_reading p q literals old new (Err e) same (inr memory) = inr memory

-- .. and without a hole digits are read.
pub digits_read : (is_negative : Bool) (old mid new : Reader) (r : Result (Option ℤ) Refusal) → Skips the_hole old mid false
    → ReadsPhrase (digits is_negative) shift_literals mid new r → ReadsPhrase (behind_sign is_negative) shift_literals old new r
digits_read is_negative old mid new r none h =
    same_reading (behind_sign is_negative) (digits is_negative) shift_literals old new r (no_hole is_negative (tokens old.rest) none.0)
    (subst (λ (reader : Reader). ReadsPhrase (digits is_negative) shift_literals reader new r) none.1 h)

-- ---- shifts

-- The shift continues with this phrase, ..
pub record GoesOnWith (old mid : Reader) (number : Phrase (Option ℤ)) : Type 0 where
  pub is : shift (tokens old.rest) ≡ number (tokens mid.rest)
  pub fault : mid.fault ≡ old.fault
  pub shorter : length mid.rest ≤ length old.rest

-- .. after a plus, ..
pub plus_goes_on : (old mid : Reader) → Skips (the_symbol symbol.Plus) old mid true → GoesOnWith old mid (behind_sign false)
unfolding shift
plus_goes_on old mid h =
    let t = took h.0 in
    record { is = ap shift (symbol_read symbol.Plus (tokens old.rest) (tokens mid.rest) t.is); fault = t.fault; shorter = t.shorter }

module _ (old now mid : Reader) (same : ◌≡◌ {A = Reader} now old) where
  -- .. after a minus, ..
  pub minus_goes_on : Skips (the_symbol symbol.Minus) now mid true → GoesOnWith old mid (behind_sign true)
  unfolding shift
  minus_goes_on h =
      let t = took h.0 in
      record {
        is =
            ap (λ (r : Reader). shift (tokens r.rest)) (sym same)
            ∙ ap shift (symbol_read symbol.Minus (tokens now.rest) (tokens mid.rest) t.is);
        fault = t.fault ∙ ap (λ (r : Reader). r.fault) same;
        shorter = omega (arith, t.shorter, ap (λ (r : Reader). length r.rest) same);
      }

  -- .. or in a word with a minus.
  pub signed_goes_on : (word : List ℕ) → Follows now.rest (Signed word) mid.rest → mid.fault ≡ now.fault → GoesOnWith old mid (numbered true word)
  unfolding shift
  signed_goes_on word f faults = record {
    is = ap (λ (r : Reader). shift (tokens r.rest)) (sym same) ∙ ap shift f.in_front;
    fault = faults ∙ ap (λ (r : Reader). r.fault) same;
    shorter = omega (arith, f.shorter, ap (λ (r : Reader). length r.rest) same);
  }

-- The result of that phrase is the result of the shift.
pub shift_reads : (old mid new : Reader) (number : Phrase (Option ℤ)) (r : Result (Option ℤ) Refusal) → GoesOnWith old mid number
    → ReadsPhrase number shift_literals mid new r → ReadsPhrase shift shift_literals old new r
shift_reads old mid new number (Ok x) on g = record {
  said = g.said;
  read = on.is ∙ g.read;
  fault = g.fault ∙ ap (λ f. option_or f (first_fault (shift_literals g.said))) on.fault;
  same = g.same;
  shorter = omega (arith, g.shorter, on.shorter);
}
shift_reads old mid new number (Err e) on (inl none) = inl (none.0, on.is ∙ none.1)
shift_reads old mid new number (Err e) on (inr memory) = inr memory

no_sign : (ts : List Token) → the_symbol symbol.Plus ts ≡ None → the_symbol symbol.Minus ts ≡ None → BeginsNotSigned ts → shift ts ≡ Some (None, ts)
unfolding shift
no_sign (Mark symbol.Plus ∷ ts) plus minus signed = absurd (some-none plus)
no_sign (Mark symbol.Minus ∷ ts) plus minus signed = absurd (some-none minus)
no_sign (Signed word ∷ ts) plus minus signed = absurd signed
no_sign ts plus minus signed = refl

-- Without a sign there is no shift.
pub shift_none : (old now new : Reader) → Skips (the_symbol symbol.Plus) old now false → Skips (the_symbol symbol.Minus) now new false
    → BeginsNotSigned (tokens new.rest) → Gives shift shift_literals old new None
shift_none old now new plus minus signed =
    let same : ◌≡◌ {A = Reader} new old = minus.1 ∙ plus.1 in
    let tokens_are : tokens new.rest ≡ tokens old.rest = ap (λ (r : Reader). tokens r.rest) same in
    record {
      said = None;
      read =
          no_sign (tokens old.rest) plus.0 (ap (λ (r : Reader). the_symbol symbol.Minus (tokens r.rest)) (sym plus.1) ∙ minus.0)
          (subst BeginsNotSigned tokens_are signed)
          ∙ ap (λ ts. Some (None, ts)) (sym tokens_are);
      fault = ap (λ (r : Reader). r.fault) same ∙ sym (or_none old.fault);
      same = λ none. refl;
      shorter = omega (arith, ap (λ (r : Reader). length r.rest) same);
    }

-- ---- operands

literals_shifted : {F : Type 0} (f : F) (by : Option ℤ) → operand_literals (with_shift f by) ≡ shift_literals by
literals_shifted f None = refl
literals_shifted f (Some z) = refl

module _ {F : Type 0} (column : Phrase F) (old : Reader) where
  -- an operand, given the result of reading a literal
  by_literal : Option (Front Value) → Option (Front (Operand F))
  by_literal found =
      option_and_then (λ (r : Front (Option Value)). operand_behind column r.0 r.1)
      (option_or (option_and_then (λ (r : Front Value). say (Some r.0) r.1) found) (Some (None, tokens old.rest)))

  -- A literal is an operand.
  pub operand_literal : (new : Reader) (v : Value) → Gives (one literal_of) only_literal old new v
      → Gives (operand_on column) operand_literals old new (kind_of.Literal v)
  unfolding operand_on by_literal
  operand_literal new v g = record {
    said = kind_of.Literal g.said;
    read = ap by_literal g.read;
    fault = g.fault;
    same = λ fits. ap (λ (x : Value). kind_of.Literal x) (g.same fits);
    shorter = g.shorter;
  }

  behind_column : F → Phrase (Operand F)
  behind_column f = shift >>= (λ by. say (with_shift f by))

  module _ (mid : Reader) (none : one literal_of (tokens old.rest) ≡ None) (is : ◌≡◌ {A = Reader} mid old) where
    -- Without a literal, a column and its shift are read.
    operand_goes_on : (new : Reader) (r : Result (Operand F) Refusal) → ReadsPhrase (operand_behind column None) operand_literals mid new r
        → ReadsPhrase (operand_on column) operand_literals old new r
    unfolding operand_on by_literal
    operand_goes_on new r h =
        let took_none : Took (maybe (one literal_of)) old mid None = record {
          is =
              ap (λ (o : Option (Front Value)). option_or (option_and_then (λ (r : Front Value). say (Some r.0) r.1) o) (Some (None, tokens old.rest))) none
              ∙ ap (λ (r : Reader). Some (None, tokens r.rest)) (sym is);
          fault = ap (λ (r : Reader). r.fault) is;
          shorter = omega (arith, ap (λ (r : Reader). length r.rest) is);
        } in
        reads_behind (maybe (one literal_of)) (operand_behind column) operand_literals old mid new None r took_none h

    pub operand_no_column : (e : Refusal) → Fails column mid e → Fails (operand_on column) old e
    unfolding behind_column
    operand_no_column e h = operand_goes_on mid (Err e) (fails_first column behind_column mid e h)

    module _ (named : Reader) (f : F) (g : Gives column no_literals mid named f) where
      pub operand_no_shift : (e : Refusal) → Fails shift named e → Fails (operand_on column) old e
      unfolding behind_column
      operand_no_shift e h =
          let t = took g in
          operand_goes_on mid (Err e)
          (fails_next column behind_column mid named f e t.is (fails_first shift (λ by. say (with_shift f by)) named e h))

      pub operand_column : (new : Reader) (by : Option ℤ) (o : Operand F) → Gives shift shift_literals named new by → o ≡ with_shift f by
          → Gives (operand_on column) operand_literals old new o
      unfolding behind_column
      operand_column new by o h is =
          subst (Gives (operand_on column) operand_literals old new) (sym is)
          (operand_goes_on new (Ok (with_shift f by))
          (reads_behind column behind_column operand_literals mid named new f (Ok (with_shift f by)) (took g)
          (given_made shift (with_shift f) shift_literals operand_literals (literals_shifted f) h)))

-- ---- tests

module _ {F : Type 0} (column : Phrase F) where
  make_test : F → Comparison → Operand F → Atom F
  make_test f c o = record { left = f; comparison = c; right = o }

  after_how : F → Comparison → Phrase (Atom F)
  after_how f c = operand_on column >>= (λ o. say (record { left = f; comparison = c; right = o }))

  after_left : F → Phrase (Atom F)
  after_left f = comparison >>= after_how f

  pub test_no_column : (old : Reader) (e : Refusal) → Fails column old e → Fails (test_on column) old e
  unfolding test_on after_left after_how
  test_no_column old e h = fails_first column after_left old e h

  module _ (old named : Reader) (f : F) (a : Gives column no_literals old named f) where
    pub test_no_comparison : (e : Refusal) → Fails comparison named e → Fails (test_on column) old e
    unfolding test_on after_left after_how
    test_no_comparison e h = let t = took a in fails_next column after_left old named f e t.is (fails_first comparison (after_how f) named e h)

    module _ (mid : Reader) (c : Comparison) (b : Gives comparison no_literals named mid c) where
      pub test_no_operand : (e : Refusal) → Fails (operand_on column) mid e → Fails (test_on column) old e
      unfolding test_on after_left after_how
      test_no_operand e h =
          let t = took a in
          let u = took b in
          fails_next column after_left old named f e t.is
          (fails_next comparison (after_how f) named mid c e u.is
          (fails_first (operand_on column) (λ o. say (record { left = f; comparison = c; right = o })) mid e h))

      pub test_given : (new : Reader) (o : Operand F) → Gives (operand_on column) operand_literals mid new o
          → Gives (test_on column) test_literals old new (record { left = f; comparison = c; right = o })
      unfolding test_on after_left after_how make_test
      test_given new o g =
          reads_behind column after_left test_literals old named new f (Ok (make_test f c o)) (took a)
          (reads_behind comparison (after_how f) test_literals named mid new c (Ok (make_test f c o)) (took b)
          (given_made (operand_on column) (make_test f c) operand_literals test_literals (λ x. refl) g))

-- ---- assignments

make_assignment : List ℕ → Operand (List ℕ) → Assignment (List ℕ)
make_assignment n o = record { column = n; source = o }

after_equal : List ℕ → Phrase (Assignment (List ℕ))
after_equal n = operand_on name >>= (λ o. say (record { column = n; source = o }))

after_column : List ℕ → Phrase (Assignment (List ℕ))
after_column n = the_symbol symbol.Equal >> after_equal n

pub assignment_no_name : (old : Reader) (e : Refusal) → Fails name old e → Fails assignment old e
unfolding assignment after_column after_equal
assignment_no_name old e h = fails_first name after_column old e h

module _ (old named : Reader) (n : List ℕ) (a : Gives name no_literals old named n) where
  pub assignment_no_equal : (e : Refusal) → Fails (the_symbol symbol.Equal) named e → Fails assignment old e
  unfolding assignment after_column after_equal
  assignment_no_equal e h =
      let t = took a in fails_next name after_column old named n e t.is (fails_first (the_symbol symbol.Equal) (λ u. after_equal n) named e h)

  module _ (mid : Reader) (b : Gives (the_symbol symbol.Equal) no_literals named mid tt) where
    pub assignment_no_operand : (e : Refusal) → Fails (operand_on name) mid e → Fails assignment old e
    unfolding assignment after_column after_equal
    assignment_no_operand e h =
        let t = took a in
        let u = took b in
        fails_next name after_column old named n e t.is
        (fails_next (the_symbol symbol.Equal) (λ u. after_equal n) named mid tt e u.is
        (fails_first (operand_on name) (λ o. say (record { column = n; source = o })) mid e h))

    pub assignment_given : (new : Reader) (o : Operand (List ℕ)) → Gives (operand_on name) operand_literals mid new o
        → Gives assignment assignment_literals old new (record { column = n; source = o })
    unfolding assignment after_column after_equal make_assignment
    assignment_given new o g =
        reads_behind name after_column assignment_literals old named new n (Ok (make_assignment n o)) (took a)
        (reads_behind (the_symbol symbol.Equal) (λ u. after_equal n) assignment_literals named mid new tt (Ok (make_assignment n o)) (took b)
        (given_made (operand_on name) (make_assignment n) operand_literals assignment_literals (λ x. refl) g))
