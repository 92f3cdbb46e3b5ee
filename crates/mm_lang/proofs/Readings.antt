-- Combined phrases, read one after the other.
use Rattle.std.proofs.Common.{◌≡◌, ◌≤◌, inl, inr, ℕ, Bool, true, false, List, [], ◌∷◌, ◌++◌, Option, Some, None, Result, Ok, Err, length, refl, subst, sym}
use Rattle.std.proofs.Common.{ap, ◌∙◌, arith}
use Rattle.std.specs.List.{flat_map}
use Rattle.std.specs.Option.{option_map, option_and_then, option_or, ok_or}
use Rattle.mm_schema.specs.declared.column.Column.{Column}
use Rattle.mm_schema.specs.declared.column.Role.{Role}
use Rattle.mm_schema.specs.declared.column.Role.TheVariants.{Plain, Key, Reference}
use Rattle.mm_value.specs.declared.col_type.ColType.{ColType}
use Rattle.mm_value.specs.declared.refusal.Refusal.{Refusal}
use Rattle.mm_value.specs.declared.refusal.Refusal.TheVariants.{Syntax}
use Rattle.mm_value.specs.declared.values.Value.{Value}
use Rattle.mm_lang.specs.declared.read.keyword.Keyword.{Keyword}
use Rattle.mm_lang.specs.declared.read.keyword.Keyword.TheVariants as keyword
use Rattle.mm_lang.specs.declared.read.reader.Reader.{Reader}
use Rattle.mm_lang.specs.Grammar.{name, col_type, on_delete_of, reference_to, reference, role_behind, role, column}
use Rattle.mm_lang.specs.Phrases.{Phrase, ◌>>=◌, say, one, one_word, word_of, the_keyword, has_keyword, list_of, clause_behind, clause}
use Rattle.mm_lang.specs.Reading.{first_fault, literal_fault}
use Rattle.mm_lang.specs.Tokens.{Token, Word, tokens}
use Rattle.mm_lang.specs.steps.Parsing.{Fails, Follows, Gives, GivesItems, ReadsPhrase, ReadsWithoutMemory, Skips, no_literals}
use Rattle.mm_lang.specs.steps.Parts.{Front, one_parts}

-- The first fault of two lists of literals.

pub or_assoc : (a b c : Option Refusal) → option_or a (option_or b c) ≡ option_or (option_or a b) c
or_assoc None b c = refl
or_assoc (Some e) b c = refl

pub fault-append : (xs ys : List Value) → first_fault (xs ++ ys) ≡ option_or (first_fault xs) (first_fault ys)
fault-append [] ys = refl
fault-append (x ∷ xs) ys = ap (option_or (literal_fault x)) (fault-append xs ys) ∙ or_assoc (literal_fault x) (first_fault xs) (first_fault ys)

pub or_none_parts : (a b : Option Refusal) → option_or a b ≡ None → (a ≡ None) × (b ≡ None)
or_none_parts None b e = (refl, e)
or_none_parts (Some x) b e = absurd (cc)

pub or_none : (fault : Option Refusal) → option_or fault None ≡ fault
or_none None = refl
or_none (Some e) = refl

-- A phrase with no literals was read.
pub record Took {A : Type 0} (phrase : Phrase A) (old new : Reader) (x : A) : Type 0 where
  pub is : phrase (tokens old.rest) ≡ Some (x, tokens new.rest)
  pub fault : new.fault ≡ old.fault
  pub shorter : length new.rest ≤ length old.rest

module _ {A : Type 0} {phrase : Phrase A} {old new : Reader} {x : A} where
  pub took : Gives phrase no_literals old new x → Took phrase old new x
  took g = record {
    is = g.read ∙ ap (λ y. Some (y, tokens new.rest)) (sym (g.same refl));
    fault = g.fault ∙ or_none old.fault;
    shorter = g.shorter;
  }

  pub gives : Took phrase old new x → Gives phrase no_literals old new x
  gives t = record { said = x; read = t.is; fault = t.fault ∙ sym (or_none old.fault); same = λ _. refl; shorter = t.shorter }

pub took_then : {A B : Type 0} {first : Phrase A} (next : A → Phrase B) {old mid new : Reader} {x : A} {y : B}
    → Took first old mid x → Took (next x) mid new y → Took (first >>= next) old new y
took_then {A} next a b = record {
  is = ap (option_and_then (λ (r : Front A). next r.0 r.1)) a.is ∙ b.is;
  fault = b.fault ∙ a.fault;
  shorter = omega (arith, a.shorter, b.shorter);
}

pub took_say : {A : Type 0} (x : A) (reader : Reader) → Took (say x) reader reader x
took_say x reader = record { is = refl; fault = refl; shorter = omega arith }

-- If a step fails, the whole fails.
module _ {A B : Type 0} (first : Phrase A) (next : A → Phrase B) (old : Reader) where
  pub fails_first : (e : Refusal) → Fails first old e → Fails (first >>= next) old e
  fails_first e (inl h) = inl (h.0, ap (option_and_then (λ (r : Front A). next r.0 r.1)) h.1)
  fails_first e (inr h) = inr h

  pub fails_next : (mid : Reader) (x : A) (e : Refusal) → first (tokens old.rest) ≡ Some (x, tokens mid.rest) → Fails (next x) mid e
      → Fails (first >>= next) old e
  fails_next mid x e is (inl h) = inl (h.0, ap (option_and_then (λ (r : Front A). next r.0 r.1)) is ∙ h.1)
  fails_next mid x e is (inr h) = inr h

-- A phrase follows one without literals.
pub reads_behind : {A B : Type 0} (first : Phrase A) (next : A → Phrase B) (literals : B → List Value) (old mid new : Reader) (x : A) (r : Result B Refusal)
    → Took first old mid x → ReadsPhrase (next x) literals mid new r → ReadsPhrase (first >>= next) literals old new r
reads_behind {A} first next literals old mid new x (Ok y) t g = record {
  said = g.said;
  read = ap (option_and_then (λ (r : Front A). next r.0 r.1)) t.is ∙ g.read;
  fault = g.fault ∙ ap (λ f. option_or f (first_fault (literals g.said))) t.fault;
  same = g.same;
  shorter = omega (arith, t.shorter, g.shorter);
}
reads_behind first next literals old mid new x (Err e) t h = fails_next first next old mid x e t.is h

-- A value was made of the value that was read.
pub given_made : {A B : Type 0} (phrase : Phrase A) (make : A → B) (literals : A → List Value) (all : B → List Value)
    → ((x : A) → all (make x) ≡ literals x) → {old new : Reader} {x : A} → Gives phrase literals old new x
    → Gives (phrase >>= (λ y. say (make y))) all old new (make x)
given_made {A} phrase make literals all same {old = old} {new = new} g = record {
  said = make g.said;
  read = ap (option_and_then (λ (r : Front A). say (make r.0) r.1)) g.read;
  fault = g.fault ∙ ap (λ l. option_or old.fault (first_fault l)) (sym (same g.said));
  same = λ none. ap make (g.same (ap first_fault (sym (same g.said)) ∙ none));
  shorter = g.shorter;
}

-- A value was made of two phrases, one after the other.
pub given_both : {A B C : Type 0} (first : Phrase A) (second : Phrase B) (make : A → B → C) (a : A → List Value) (b : B → List Value) (all : C → List Value)
    → ((x : A) (y : B) → all (make x y) ≡ a x ++ b y) → (old mid new : Reader) (x : A) (y : B) → Gives first a old mid x → Gives second b mid new y
    → Gives (first >>= (λ u. second >>= (λ v. say (make u v)))) all old new (make x y)
given_both {A} {B} first second make a b all same old mid new x y g h =
    let faults : first_fault (all (make g.said h.said)) ≡ option_or (first_fault (a g.said)) (first_fault (b h.said)) =
    ap first_fault (same g.said h.said) ∙ fault-append (a g.said) (b h.said) in
    record {
      said = make g.said h.said;
      read =
          ap (option_and_then (λ (r : Front A). (second >>= (λ v. say (make r.0 v))) r.1)) g.read
          ∙ ap (option_and_then (λ (r : Front B). say (make g.said r.0) r.1)) h.read;
      fault =
          h.fault ∙ ap (λ f. option_or f (first_fault (b h.said))) g.fault
          ∙ sym (or_assoc old.fault (first_fault (a g.said)) (first_fault (b h.said))) ∙ ap (option_or old.fault) (sym faults);
      same =
          λ none. let p = or_none_parts (first_fault (a g.said)) (first_fault (b h.said)) (sym faults ∙ none) in
          λ i. make (g.same p.0 i) (h.same p.1 i);
      shorter = omega (arith, g.shorter, h.shorter);
    }

-- The items of a list with none before them are the list.
pub listed : {A : Type 0} {phrase : Phrase (List A)} {literals : List A → List Value} {old new : Reader} {before after : List A} → before ≡ []
    → GivesItems phrase literals old new before after → Gives phrase literals old new after
listed {before = before} none items =
    let h = items.given in
    record {
      said = h.said;
      read = h.read;
      fault = h.fault;
      same = λ fits. items.joined ∙ ap (λ l. l ++ items.items) none ∙ h.same fits;
      shorter = h.shorter;
    }

pub none_fault : {A : Type 0} (items : List A) → first_fault (flat_map no_literals items) ≡ None
none_fault [] = refl
none_fault (x ∷ xs) = none_fault xs

-- A list of items with no literals was read.
pub took_list : {A : Type 0} {phrase : Phrase (List A)} {old new : Reader} {xs : List A} → Gives phrase (flat_map no_literals) old new xs
    → Took phrase old new xs
took_list {old = old} {new = new} g = record {
  is = g.read ∙ ap (λ l. Some (l, tokens new.rest)) (sym (g.same (none_fault g.said)));
  fault = g.fault ∙ ap (option_or old.fault) (none_fault g.said) ∙ or_none old.fault;
  shorter = g.shorter;
}

-- Whether a keyword is next was read.
pub keyword_stands : (k : Keyword) (old new : Reader) (b : Bool) → Skips (the_keyword k) old new b → Took (has_keyword k) old new b
keyword_stands k old new true h =
    let t = took h.0 in
    record {
      is = ap (λ (o : Option (Front (Unit {0}))). option_or (option_and_then (λ (r : Front (Unit {0})). say true r.1) o)
          (Some (false, tokens old.rest))) t.is;
      fault = t.fault;
      shorter = t.shorter;
    }
keyword_stands k old new false h = record {
  is =
      ap (λ (o : Option (Front (Unit {0}))). option_or (option_and_then (λ (r : Front (Unit {0})). say true r.1) o) (Some (false, tokens old.rest))) h.0
      ∙ ap (λ (r : Reader). Some (false, tokens r.rest)) (sym h.1);
  fault = ap (λ (r : Reader). r.fault) h.1;
  shorter = omega (arith, ap (λ (r : Reader). length r.rest) h.1);
}

-- Items after a keyword: none without the keyword, ..
pub clause_none : {A : Type 0} (wanted : Keyword) (separator : Phrase (Unit {0})) (item : Phrase A) (literals : A → List Value) (old new : Reader)
    → Skips (the_keyword wanted) old new false → (xs : List A) → xs ≡ [] → Gives (clause wanted separator item) (flat_map literals) old new xs
unfolding clause
clause_none wanted separator item literals old new skips xs none =
    subst (Gives (clause wanted separator item) (flat_map literals) old new) (sym none)
    (reads_behind (has_keyword wanted) (clause_behind separator item) (flat_map literals) old new new false (Ok []) (keyword_stands wanted old new false skips)
    (record { said = []; read = refl; fault = sym (or_none new.fault); same = λ fits. refl; shorter = omega arith }))

-- .. and otherwise those of a list.
pub clause_reads : {A : Type 0} (wanted : Keyword) (separator : Phrase (Unit {0})) (item : Phrase A) (literals : A → List Value) (old mid new : Reader)
    (r : Result (List A) Refusal) → Skips (the_keyword wanted) old mid true → ReadsPhrase (list_of separator item) (flat_map literals) mid new r
    → ReadsPhrase (clause wanted separator item) (flat_map literals) old new r
unfolding clause
clause_reads wanted separator item literals old mid new r skips h =
    reads_behind (has_keyword wanted) (clause_behind separator item) (flat_map literals) old mid new true r (keyword_stands wanted old mid true skips) h

-- A word was read.
pub word_given : (old new : Reader) (word : List ℕ) → Follows old.rest (Word word) new.rest → new.fault ≡ old.fault
    → Gives (one word_of) no_literals old new word
word_given old new word f same = gives (record { is = ap (one word_of) f.in_front; fault = same; shorter = omega (arith, f.shorter) })

pub word_says : {A : Type 0} (says : List ℕ → Option A) (ts : List Token) (word : List ℕ) (us : List Token)
    → one word_of ts ≡ Some (word, us) → one_word says ts ≡ option_map (λ x. (x, us)) (says word)
word_says {A} says ts word us e =
    let p = one_parts word_of ts word us e in
    let pair : A → Front A = λ x. (x, us) in
    ap (one_word says) p.1 ∙ ap (λ o. option_map pair (option_and_then says o)) p.2

pub word_reads : {A : Type 0} (says : List ℕ → Option A) (old new : Reader) (word : List ℕ) → Gives (one word_of) no_literals old new word
    → ReadsWithoutMemory (one_word says) no_literals old new (ok_or (says word) Syntax)
word_reads {A} says old new word g = by (says word) refl
  where
    t : Took (one word_of) old new word
    t = took g

    pair : A → Front A
    pair x = (x, tokens new.rest)

    by : (o : Option A) → says word ≡ o → ReadsWithoutMemory (one_word says) no_literals old new (ok_or o Syntax)
    by None is = (refl, word_says says (tokens old.rest) word (tokens new.rest) t.is ∙ ap (option_map pair) is)
    by (Some x) is =
        gives (record
        { is = word_says says (tokens old.rest) word (tokens new.rest) t.is ∙ ap (option_map pair) is; fault = t.fault; shorter = t.shorter })

-- The role of a column: KEY, ..

pub role_key : (old new : Reader) → Skips (the_keyword keyword.Key) old new true → Took role old new Key
role_key old new h = took_then role_behind (keyword_stands keyword.Key old new true h) (took_say Key new)

module _ (old mid new : Reader) (key : Skips (the_keyword keyword.Key) old mid false) where
  -- .. nothing, ..
  pub role_plain : Skips (the_keyword keyword.Ref) mid new false → Took role old new Plain
  role_plain h =
      took_then role_behind (keyword_stands keyword.Key old mid false key)
      (took_then reference (keyword_stands keyword.Ref mid new false h) (took_say Plain new))

  -- .. or REF and the reference after it.
  pub role_reference : (behind : Reader) (r : Result Role Refusal) → Skips (the_keyword keyword.Ref) mid behind true
      → ReadsPhrase (reference true) no_literals behind new r → ReadsPhrase role no_literals old new r
  role_reference behind r h reads =
      reads_behind (has_keyword keyword.Key) role_behind no_literals old mid new false r (keyword_stands keyword.Key old mid false key)
      (reads_behind (has_keyword keyword.Ref) reference no_literals mid behind new true r (keyword_stands keyword.Ref mid behind true h) reads)

-- After REF: the name of a table, and then CASCADE or nothing.

pub reference_no_name : (old : Reader) (e : Refusal) → Fails name old e → Fails (reference true) old e
reference_no_name old e h = fails_first name reference_to old e h

pub reference_given : (old mid new : Reader) (table : List ℕ) (there : Bool) → Gives name no_literals old mid table
    → Skips (the_keyword keyword.Cascade) mid new there → Gives (reference true) no_literals old new (Reference table (on_delete_of there))
reference_given old mid new table there g h =
    gives (took_then reference_to (took g)
    (took_then (λ (b : Bool). say (Reference table (on_delete_of b))) (keyword_stands keyword.Cascade mid new there h)
    (took_say (Reference table (on_delete_of there)) new)))

-- A column.

say_column : List ℕ → ColType → Role → Phrase Column
say_column n t r = say (record { name = n; col_type = t; role = r })

after_type : List ℕ → ColType → Phrase Column
after_type n t = role >>= say_column n t

after_name : List ℕ → Phrase Column
after_name n = col_type >>= after_type n

pub column_no_name : (old : Reader) (e : Refusal) → Fails name old e → Fails column old e
unfolding column after_name after_type say_column
column_no_name old e h = fails_first name after_name old e h

pub column_no_type : (old mid : Reader) (n : List ℕ) (e : Refusal) → Gives name no_literals old mid n → Fails col_type mid e → Fails column old e
unfolding column after_name after_type say_column
column_no_type old mid n e g h = let t = took g in fails_next name after_name old mid n e t.is (fails_first col_type (after_type n) mid e h)

pub column_no_role : (old mid behind : Reader) (n : List ℕ) (t : ColType) (e : Refusal) → Gives name no_literals old mid n
    → Gives col_type no_literals mid behind t → Fails role behind e → Fails column old e
unfolding column after_name after_type say_column
column_no_role old mid behind n t e a b h =
    let first = took a in
    let second = took b in
    fails_next name after_name old mid n e first.is
    (fails_next col_type (after_type n) mid behind t e second.is (fails_first role (say_column n t) behind e h))

pub column_given : (old mid behind new : Reader) (n : List ℕ) (t : ColType) (r : Role) → Gives name no_literals old mid n
    → Gives col_type no_literals mid behind t
    → Gives role no_literals behind new r → Gives column no_literals old new (record { name = n; col_type = t; role = r })
unfolding column after_name after_type say_column
column_given old mid behind new n t r a b c =
    gives (took_then after_name (took a)
    (took_then (after_type n) (took b) (took_then (say_column n t) (took c) (took_say (record { name = n; col_type = t; role = r }) new))))
