-- The results of single steps of a filler.
use Rattle.std.proofs.Common.{◌≡◌, ◌≢◌, ℕ, zero, suc, Bool, true, false, cond, List, [], ◌∷◌, ◌++◌, Option, Some, None, length, refl, sym, ap, ◌∙◌, inl, inr}
use Rattle.std.proofs.Common.{arith, IsTrue, ◌↔◌}
use Rattle.std.specs.Int.{w64}
use Rattle.std.specs.Int.RustNames.{FitsSigned}
use Rattle.std.specs.List.{flat_map}
use Rattle.std.specs.Option.{option_map_or, option_or, option_to_list}
use Rattle.std.specs.Vec.Iter.{into_iter_items}
use Rattle.std.proofs.Math.IntN.{ℤ, pos, negsuc, neg_ℤ}
use Rattle.std.proofs.lemmas.Bool.{cases_Bool, false≢true}
use Rattle.mm_value.proofs.Limits.{int_within, text_within, within_int}
use Rattle.mm_value.specs.Literal.{is_within_limit}
use Rattle.mm_value.specs.Storable.{IsStorable}
use Rattle.mm_value.specs.declared.refusal.Refusal.TheVariants.{NumberOutOfRange}
use Rattle.mm_value.specs.declared.values.Value.{Value}
use Rattle.mm_value.specs.declared.values.Value.TheVariants.{Int, Text}
use Rattle.mm_lang.specs.Reading.{literal_fault, position_literals}
use Rattle.mm_statement.specs.Filling.{given, merged}
use Rattle.mm_statement.specs.declared.filler.Filler.{Filler}
use Rattle.mm_statement.specs.steps.Fills.{IsChanging, Keeps, KeepsPositions, Notes, Replaces, Takes, fault_of, filled_by, range_fault}
use Rattle.mm_lang.proofs.Literals.{within_none}
use Rattle.mm_lang.proofs.Readings.{or_none}

-- ---- remaining literals and values

pub merged_no_values : (holes : List Bool) (literals : List Value) → merged holes [] literals ≡ literals
merged_no_values [] literals = refl
merged_no_values (true ∷ holes) literals = refl
merged_no_values (false ∷ holes) [] = refl
merged_no_values (false ∷ holes) (l ∷ literals) = ap (λ t. l ∷ t) (merged_no_values holes literals)

pub merged_no_literals : (holes : List Bool) (values : List Value) → merged holes values [] ≡ []
merged_no_literals [] values = refl
merged_no_literals (true ∷ holes) [] = refl
merged_no_literals (true ∷ holes) (v ∷ values) = refl
merged_no_literals (false ∷ holes) values = refl

pub none_left : (values : List Value) → length values ≡ 0 → values ≡ []
none_left [] h = refl
none_left (v ∷ values) h = absurd (cc)

-- The next literal is a hole: the next value was taken for it, if any.
pub taken_hole : (taken : Option Value) (all holes : List Bool) (values now : List Value) → all ≡ true ∷ holes → values ≡ option_to_list taken ++ now
    → (taken ≡ None → length values ≡ 0) → (literal : Value) (rest : List Value)
    → merged all values (literal ∷ rest) ≡ option_map_or (given literal) taken literal ∷ merged holes now rest
taken_hole None all holes values now are split none literal rest =
    let empty : values ≡ [] = none_left values (none refl) in
    (λ i. merged (are i) (empty i) (literal ∷ rest))
    ∙ ap (λ t. literal ∷ t) (sym (merged_no_values holes rest) ∙ ap (λ v. merged holes v rest) (sym empty ∙ split))
taken_hole (Some v) all holes values now are split none literal rest = λ i. merged (are i) (split i) (literal ∷ rest)

-- ---- faults

pub storable_fault : (v : Value) → IsStorable v → literal_fault v ≡ None
storable_fault (Int z) h = within_none (Int z) (int_within z h)
storable_fault (Text text) h = within_none (Text text) (text_within text (omega (arith, h)))

past_fault : (z : ℤ) → (FitsSigned w64 z → ⊥) → literal_fault (Int z) ≡ Some NumberOutOfRange
past_fault z h =
    elim (cases_Bool (is_within_limit (Int z))) [
      | inl within ↦ absurd (h (within_int z within))
      | inr past ↦ ap (λ b. cond b None (Some NumberOutOfRange)) past
    ]

or_past : (b : Bool) → range_fault true ≡ option_or (range_fault b) (Some NumberOutOfRange)
or_past true = refl
or_past false = refl

-- a value within its limit has no fault
nothing_noted : (old new : Filler) (v : Value) → new.is_out_of_range ≡ old.is_out_of_range → literal_fault v ≡ None
    → fault_of new ≡ option_or (fault_of old) (literal_fault v)
nothing_noted old new v flag none = ap range_fault flag ∙ sym (or_none (fault_of old)) ∙ ap (option_or (fault_of old)) (sym none)

-- ---- numbers after a minus

pub noted_negated : (old : Filler) (number negated : ℤ) → FitsSigned w64 (neg_ℤ number) → negated ≡ neg_ℤ number
    → Notes old old (given (Int (negsuc zero)) (Int number)) (Int negated)
noted_negated old number negated fits are = record {
  behind = λ literals. refl;
  fault = nothing_noted old old (Int (neg_ℤ number)) refl (storable_fault (Int (neg_ℤ number)) fits);
  kept = λ none. ap Int are;
  types = refl;
}

pub noted_past : (old new : Filler) (number : ℤ) → (FitsSigned w64 (neg_ℤ number) → ⊥) → new.holes ≡ old.holes → new.values ≡ old.values
    → new.is_out_of_range ≡ true → Notes old new (given (Int (negsuc zero)) (Int number)) (Int number)
noted_past old new number past holes values flag = record {
  behind = λ literals. λ i. merged (holes i).now (into_iter_items (values i)) literals;
  fault = ap range_fault flag ∙ or_past old.is_out_of_range ∙ ap (option_or (fault_of old)) (sym (past_fault (neg_ℤ number) past));
  kept = λ none. absurd (some_none (sym (ap range_fault flag) ∙ none));
  types = refl;
}
  where
    some_none : range_fault true ≡ None → ⊥
    some_none h = cc

pub noted_text : (old : Filler) (text : List ℕ) → IsStorable (Text text) → Notes old old (given (Int (negsuc zero)) (Text text)) (Text text)
noted_text old text storable = record {
  behind = λ literals. refl;
  fault = nothing_noted old old (Text text) refl (storable_fault (Text text) storable);
  kept = λ none. refl;
  types = refl;
}

-- ---- the next literal

plain_given : (literal value : Value) → literal ≢ Int (negsuc zero) → given literal value ≡ value
plain_given (Int (pos n)) value plain = refl
plain_given (Int (negsuc zero)) value plain = absurd (plain refl)
plain_given (Int (negsuc (suc n))) value plain = refl
plain_given (Text text) value plain = refl

pub replaced_none : (old new : Filler) (literal : Value) → Takes old new None → new.is_out_of_range ≡ old.is_out_of_range → IsStorable literal
    → Replaces old new literal None
replaced_none old new literal takes flag storable = record {
  meant = literal;
  behind = λ rest. takes literal rest;
  fault = nothing_noted old new literal flag (storable_fault literal storable);
  kept = λ none. refl;
  types = refl;
}

pub replaced_plain : (old new : Filler) (literal value : Value) → Takes old new (Some value) → new.is_out_of_range ≡ old.is_out_of_range
    → IsStorable value → literal ≢ Int (negsuc zero) → Replaces old new literal (Some value)
replaced_plain old new literal value takes flag storable plain =
    let same = plain_given literal value plain in
    record {
      meant = value;
      behind = λ rest. takes literal rest ∙ ap (λ v. v ∷ filled_by new rest) same;
      fault = nothing_noted old new value flag (storable_fault value storable);
      kept = λ none. refl;
      types = refl;
    }

pub replaced_minus : (old mid new : Filler) (literal value result : Value) → Takes old mid (Some value) → mid.is_out_of_range ≡ old.is_out_of_range
    → literal ≡ Int (negsuc zero) → Notes mid new (given (Int (negsuc zero)) value) result → Replaces old new literal (Some result)
replaced_minus old mid new literal value result takes flag minus notes = record {
  meant = given (Int (negsuc zero)) value;
  behind = λ rest. takes literal rest ∙ (λ i. given (minus i) value ∷ sym (notes.behind rest) i);
  fault = notes.fault ∙ ap (λ b. option_or (range_fault b) (literal_fault (given (Int (negsuc zero)) value))) flag;
  kept = notes.kept;
  types = notes.types;
}

-- ---- positions

pub position_skipped : (old new : Filler) (position : ℕ) → Takes old new None → new.is_out_of_range ≡ old.is_out_of_range → Keeps old new (position ∷ [])
position_skipped old new position takes flag = record { behind = λ rest. takes (Int (pos position)) rest; fault = ap range_fault flag }

pub position_kept : (old new : Filler) (position : ℕ) (value : Value) → Takes old new (Some value) → new.is_out_of_range ≡ old.is_out_of_range
    → value ≡ Int (pos position) → Keeps old new (position ∷ [])
position_kept old new position value takes flag same = record {
  behind = λ rest. takes (Int (pos position)) rest ∙ ap (λ v. v ∷ filled_by new rest) same;
  fault = ap range_fault flag;
}

pub position_changed : (old new : Filler) (position : ℕ) (value : Value) → Takes old new (Some value) → value ≢ Int (pos position)
    → IsChanging old (position ∷ [])
position_changed old new position value takes other rest tail h =
    let both : value ∷ filled_by new rest ≡ Int (pos position) ∷ tail = sym (takes (Int (pos position)) rest) ∙ h in
    other (cc)

pub positions_none : (old : Filler) → Keeps old old []
positions_none old = record { behind = λ rest. refl; fault = refl }

one_more : (positions : List ℕ) (position : ℕ) (rest : List Value)
    → flat_map position_literals (positions ++ position ∷ []) ++ rest ≡ flat_map position_literals positions ++ Int (pos position) ∷ rest
one_more [] position rest = refl
one_more (p ∷ positions) position rest = ap (λ l. Int (pos p) ∷ l) (one_more positions position rest)

in_middle : (positions : List ℕ) (position : ℕ) (behind : List ℕ) (rest : List Value)
    → flat_map position_literals (positions ++ position ∷ behind) ++ rest
    ≡ flat_map position_literals positions ++ (Int (pos position) ∷ (flat_map position_literals behind ++ rest))
in_middle [] position behind rest = refl
in_middle (p ∷ positions) position behind rest = ap (λ l. Int (pos p) ∷ l) (in_middle positions position behind rest)

pub positions_next : (old mid new : Filler) (positions : List ℕ) (position : ℕ) → Keeps old mid positions → Keeps mid new (position ∷ [])
    → Keeps old new (positions ++ position ∷ [])
positions_next old mid new positions position first second = record {
  behind =
      λ rest. ap (filled_by old) (one_more positions position rest) ∙ first.behind (Int (pos position) ∷ rest)
      ∙ ap (λ l. flat_map position_literals positions ++ l) (second.behind rest)
      ∙ sym (one_more positions position (filled_by new rest));
  fault = second.fault ∙ first.fault;
}

same_front : (front xs ys : List Value) → front ++ xs ≡ front ++ ys → xs ≡ ys
same_front [] xs ys h = h
same_front (v ∷ front) xs ys h = let rest : front ++ xs ≡ front ++ ys = cc in same_front front xs ys rest

pub positions_stuck : (old mid : Filler) (positions : List ℕ) (position : ℕ) (behind : List ℕ) → Keeps old mid positions → IsChanging mid (position ∷ [])
    → IsChanging old (positions ++ position ∷ behind)
positions_stuck old mid positions position behind first stuck rest tail h =
    let others = flat_map position_literals behind in
    stuck (others ++ rest) (others ++ tail)
    (same_front (flat_map position_literals positions) (filled_by mid (Int (pos position) ∷ others ++ rest)) (Int (pos position) ∷ others ++ tail)
    (sym (first.behind (Int (pos position) ∷ others ++ rest)) ∙ ap (filled_by old) (sym (in_middle positions position behind rest)) ∙ h
    ∙ in_middle positions position behind tail))

pub position_by : (kept : Bool) (old new : Filler) (position : ℕ) (value : Value) → Takes old new (Some value) → new.is_out_of_range ≡ old.is_out_of_range
    → IsTrue kept ↔ (value ≡ Int (pos position)) → KeepsPositions old new (position ∷ []) kept
position_by true old new position value takes flag by = position_kept old new position value takes flag (by.0 refl)
position_by false old new position value takes flag by = position_changed old new position value takes (λ same. false≢true (by.1 same))
