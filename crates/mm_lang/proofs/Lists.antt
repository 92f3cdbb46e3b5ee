-- Lists: what follows their first item, and the items read so far.
use Rattle.std.proofs.Common.{◌≡◌, ◌≤◌, ◌<◌, inl, inr, ℕ, zero, suc, true, false, List, [], ◌∷◌, ◌++◌, Option, Some, None, length, refl, sym, ap, ◌∙◌, subst}
use Rattle.std.proofs.Common.{arith, append_assoc, append-nil}
use Rattle.std.specs.List.{flat_map}
use Rattle.std.specs.Option.{option_map, option_and_then, option_or}
use Rattle.std.proofs.lemmas.List.Concat.{flat_map-append}
use Rattle.mm_value.specs.declared.refusal.Refusal.{Refusal}
use Rattle.mm_value.specs.declared.values.Value.{Value}
use Rattle.mm_lang.specs.declared.read.reader.Reader.{Reader}
use Rattle.mm_lang.specs.declared.read.phrase.Separator.{Separator}
use Rattle.mm_lang.specs.declared.read.phrase.Separator.TheVariants.{Comma, And}
use Rattle.mm_lang.specs.Phrases.{Phrase, the_separator, behind_item, at_most, list_of}
use Rattle.mm_lang.specs.Reading.{first_fault}
use Rattle.mm_lang.specs.Tokens.{Token, tokens}
use Rattle.mm_lang.specs.steps.Parsing.{Fails, Gives, GivesItems, NeverLonger, Skips}
use Rattle.mm_lang.specs.steps.Parts.{Front, one_parts}
use Rattle.mm_lang.proofs.Readings.{took, or_none, or_assoc, fault-append, or_none_parts}

and_then_same : {A B : Type 0} (o : Option A) (f g : A → Option B) → ((x : A) → o ≡ Some x → f x ≡ g x) → option_and_then f o ≡ option_and_then g o
and_then_same None f g h = refl
and_then_same (Some x) f g h = h x refl

-- an item joins the others
abbrev pub onto : {A : Type 0} → A → Front (List A) → Option (Front (List A))
onto x r = Some (x ∷ r.0, r.1)

behind_same : {A : Type 0} (o : Option (Front (Unit {0}))) (p q : Phrase (List A)) (ts : List Token) → ((s : Front (Unit {0})) → o ≡ Some s → p s.1 ≡ q s.1)
    → behind_item o p ts ≡ behind_item o q ts
behind_same None p q ts h = refl
behind_same (Some s) p q ts h = h s refl

module _ {A : Type 0} (separator : Phrase (Unit {0})) (item : Phrase A) where
  pub list_none : (ts : List Token) → item ts ≡ None → list_of separator item ts ≡ None
  unfolding at_most
  list_none ts e =
      ap (option_and_then (λ (r : Front A). option_and_then (onto r.0) (behind_item (separator r.1) (at_most (length ts) separator item) r.1))) e

  pub list_last : (ts : List Token) (x : A) (us : List Token) → item ts ≡ Some (x, us) → separator us ≡ None → list_of separator item ts ≡ Some (x ∷ [], us)
  unfolding at_most
  list_last ts x us e last =
      ap (option_and_then (λ (r : Front A). option_and_then (onto r.0) (behind_item (separator r.1) (at_most (length ts) separator item) r.1))) e
      ∙ ap (λ (o : Option (Front (Unit {0}))). option_and_then (onto x) (behind_item o (at_most (length ts) separator item) us)) last

  module _ (shorter : (ts : List Token) (us : List Token) → separator ts ≡ Some (tt, us) → length us < length ts) (never_longer : NeverLonger item) where
    -- a larger bound on the number of items changes nothing, if both are large enough
    at_most_same : (n m : ℕ) (ts : List Token) → length ts < n → length ts < m → at_most n separator item ts ≡ at_most m separator item ts
    unfolding at_most
    at_most_same zero m ts p q = absurd (omega arith)
    at_most_same (suc n) zero ts p q = absurd (omega arith)
    at_most_same (suc n) (suc m) ts p q =
        and_then_same (item ts) (λ (r : Front A). option_and_then (onto r.0) (behind_item (separator r.1) (at_most n separator item) r.1))
        (λ (r : Front A). option_and_then (onto r.0) (behind_item (separator r.1) (at_most m separator item) r.1))
        (λ (r : Front A) is. let left = never_longer ts r.0 r.1 is in
        ap (option_and_then (onto r.0)) (behind_same (separator r.1) (at_most n separator item) (at_most m separator item) r.1
        (λ (s : Front (Unit {0})) is. let next = shorter r.1 s.1 is in at_most_same n m s.1 (omega (arith, left, next, p)) (omega (arith, left, next, q)))))

    pub list_more : (ts : List Token) (x : A) (us vs : List Token) → item ts ≡ Some (x, us) → separator us ≡ Some (tt, vs)
        → list_of separator item ts ≡ option_and_then (onto x) (list_of separator item vs)
    unfolding at_most
    list_more ts x us vs e more =
        let left = never_longer ts x us e in
        let next = shorter us vs more in
        ap (option_and_then (λ (r : Front A). option_and_then (onto r.0) (behind_item (separator r.1) (at_most (length ts) separator item) r.1))) e
        ∙ ap (λ (o : Option (Front (Unit {0}))). option_and_then (onto x) (behind_item o (at_most (length ts) separator item) us)) more
        ∙ ap (option_and_then (onto x)) (at_most_same (length ts) (suc (length vs)) vs (omega (arith, left, next)) (omega arith))

separator_shorter : (separator : Separator) (ts us : List Token) → the_separator separator ts ≡ Some (tt, us) → length us < length ts
separator_shorter Comma ts us e = let p = one_parts _ ts tt us e in omega (arith, ap length p.1)
separator_shorter And ts us e = let p = one_parts _ ts tt us e in omega (arith, ap length p.1)

-- Some items of a list were read since an earlier reader.
pub record Gathered {A : Type 0} (literals : A → List Value) (old now : Reader) (said before after : List A) : Type 0 where
  pub items : List A
  pub joined : after ≡ before ++ items
  pub fault : now.fault ≡ option_or old.fault (first_fault (flat_map literals said))
  pub same : first_fault (flat_map literals said) ≡ None → items ≡ said
  pub shorter : length now.rest ≤ length old.rest

-- they precede the others
abbrev pub in_front : {A : Type 0} → List A → Front (List A) → Front (List A)
in_front said r = (said ++ r.0, r.1)

-- The rest of the list follows them.
pub record InItems {A : Type 0} (separator : Separator) (item : Phrase A) (literals : A → List Value) (old now : Reader) (before after : List A) : Type 0 where
  pub said : List A
  pub so_far : Gathered literals old now said before after
  pub goes_on : list_of (the_separator separator) item (tokens old.rest)
      ≡ option_map (in_front said) (list_of (the_separator separator) item (tokens now.rest))

module _ {A : Type 0} (separator : Separator) (item : Phrase A) (literals : A → List Value) (old : Reader) (before : List A) where
  pub items_begin : InItems separator item literals old old before before
  items_begin = record {
    said = [];
    so_far = record { items = []; joined = sym (append-nil before); fault = sym (or_none old.fault); same = λ _. refl; shorter = omega arith };
    goes_on = same (list_of (the_separator separator) item (tokens old.rest));
  }
    where
      same : (o : Option (Front (List A))) → o ≡ option_map (in_front []) o
      same None = refl
      same (Some r) = refl

  module _ (now : Reader) (after : List A) (h : InItems separator item literals old now before after) where
    pub items_fail : (e : Refusal) → Fails item now e → Fails (list_of (the_separator separator) item) old e
    items_fail e (inl f) = inl (f.0, h.goes_on ∙ ap (option_map (in_front h.said)) (list_none (the_separator separator) item (tokens now.rest) f.1))
    items_fail e (inr f) = inr f

    -- the others were read as a list of their own, ..
    pub items_behind : (new : Reader) (all : List A) → GivesItems (list_of (the_separator separator) item) (flat_map literals) now new after all
        → GivesItems (list_of (the_separator separator) item) (flat_map literals) old new before all
    items_behind new all others = record {
      items = h.so_far.items ++ others.items;
      joined = others.joined ∙ ap (λ l. l ++ others.items) h.so_far.joined ∙ append_assoc before h.so_far.items others.items;
      given = record {
        said = h.said ++ rest.said;
        read = h.goes_on ∙ ap (option_map (in_front h.said)) rest.read;
        fault =
            rest.fault ∙ ap (λ f. option_or f (first_fault (flat_map literals rest.said))) h.so_far.fault
            ∙ sym (or_assoc old.fault (first_fault (flat_map literals h.said)) (first_fault (flat_map literals rest.said)))
            ∙ ap (option_or old.fault) (sym faults);
        same =
            λ none. let p = or_none_parts (first_fault (flat_map literals h.said)) (first_fault (flat_map literals rest.said)) (sym faults ∙ none) in
            λ i. h.so_far.same p.0 i ++ rest.same p.1 i;
        shorter = omega (arith, rest.shorter, h.so_far.shorter);
      };
    }
      where
        rest : Gives (list_of (the_separator separator) item) (flat_map literals) now new others.items
        rest = others.given

        faults : first_fault (flat_map literals (h.said ++ rest.said))
            ≡ option_or (first_fault (flat_map literals h.said)) (first_fault (flat_map literals rest.said))
        faults = ap first_fault (flat_map-append literals h.said rest.said) ∙ fault-append (flat_map literals h.said) (flat_map literals rest.said)

    -- .. or there is no such list
    pub items_fail_behind : (e : Refusal) → Fails (list_of (the_separator separator) item) now e → Fails (list_of (the_separator separator) item) old e
    items_fail_behind e (inl f) = inl (f.0, h.goes_on ∙ ap (option_map (in_front h.said)) f.1)
    items_fail_behind e (inr f) = inr f

    module _ (mid : Reader) (x : A) (g : Gives item literals now mid x) (more : List A) (pushed : more ≡ after ++ x ∷ []) where
      all_literals : flat_map literals (h.said ++ g.said ∷ []) ≡ flat_map literals h.said ++ literals g.said
      all_literals = flat_map-append literals h.said (g.said ∷ []) ∙ ap (λ l. flat_map literals h.said ++ l) (append-nil (literals g.said))

      faults : first_fault (flat_map literals (h.said ++ g.said ∷ [])) ≡ option_or (first_fault (flat_map literals h.said)) (first_fault (literals g.said))
      faults = ap first_fault all_literals ∙ fault-append (flat_map literals h.said) (literals g.said)

      gathered : Gathered literals old mid (h.said ++ g.said ∷ []) before more
      unfolding all_literals faults
      gathered = record {
        items = h.so_far.items ++ x ∷ [];
        joined = pushed ∙ ap (λ l. l ++ x ∷ []) h.so_far.joined ∙ append_assoc before h.so_far.items (x ∷ []);
        fault =
            g.fault ∙ ap (λ f. option_or f (first_fault (literals g.said))) h.so_far.fault
            ∙ sym (or_assoc old.fault (first_fault (flat_map literals h.said)) (first_fault (literals g.said))) ∙ ap (option_or old.fault) (sym faults);
        same =
            λ none. let p = or_none_parts (first_fault (flat_map literals h.said)) (first_fault (literals g.said)) (sym faults ∙ none) in
            ap (λ l. l ++ x ∷ []) (h.so_far.same p.0) ∙ ap (λ y. h.said ++ y ∷ []) (g.same p.1);
        shorter = omega (arith, g.shorter, h.so_far.shorter);
      }

      pub items_end : (new : Reader) → Skips (the_separator separator) mid new false
          → GivesItems (list_of (the_separator separator) item) (flat_map literals) old new before more
      items_end new s =
          let end : ◌≡◌ {A = Reader} mid new = sym s.1 in
          let all : Gathered literals old new (h.said ++ g.said ∷ []) before
          more = subst (λ (r : Reader). Gathered literals old r (h.said ++ g.said ∷ []) before more) end gathered in
          record {
            items = all.items;
            joined = all.joined;
            given = record {
              said = h.said ++ g.said ∷ [];
              read =
                  h.goes_on ∙ ap (option_map (in_front h.said))
                  (list_last (the_separator separator) item (tokens now.rest) g.said (tokens mid.rest) g.read s.0)
                  ∙ ap (λ (r : Reader). Some (h.said ++ g.said ∷ [], tokens r.rest)) end;
              fault = all.fault;
              same = all.same;
              shorter = all.shorter;
            };
          }

      pub items_more : NeverLonger item → (new : Reader) → Skips (the_separator separator) mid new true → InItems separator item literals old new before more
      items_more never_longer new s =
          let t = took s.0 in
          record {
            said = h.said ++ g.said ∷ [];
            so_far = record {
              items = gathered.items;
              joined = gathered.joined;
              fault = t.fault ∙ gathered.fault;
              same = gathered.same;
              shorter = omega (arith, t.shorter, gathered.shorter);
            };
            goes_on =
                h.goes_on
                ∙ ap (option_map (in_front h.said))
                (list_more (the_separator separator) item (separator_shorter separator) never_longer (tokens now.rest) g.said (tokens mid.rest)
                (tokens new.rest) g.read t.is)
                ∙ regroup (list_of (the_separator separator) item (tokens new.rest));
          }
        where
          regroup : (o : Option (Front (List A)))
              → option_map (in_front h.said) (option_and_then (onto g.said) o) ≡ option_map (in_front (h.said ++ g.said ∷ [])) o
          regroup None = refl
          regroup (Some r) = ap (λ l. Some (l, r.1)) (sym (append_assoc h.said (g.said ∷ []) r.0))
