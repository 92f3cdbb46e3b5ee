-- Columns as arrays of values, and their rows.
use Rattle.std.proofs.Common.{◌≡◌, ◌⊎◌, ◌↔◌, ◌+◌, ◌-◌, ◌<◌, ◌≤◌, ℕ, zero, suc, Bool, cond, nat_lt, ◌==◌, true, false, List, [], ◌∷◌, ◌++◌}
use Rattle.std.proofs.Common.{Result, Ok, Err, IsTrue, arith, get_or, length, map, take}
use Rattle.std.proofs.Common.{IfErr, inl, inr, ⊎_elim, refl, sym, ap, subst, ◌∙◌}
use Rattle.std.specs.Prelude.{ℤ, slice_index, slice_range}
use Rattle.std.proofs.lemmas.Bool.{eqb-true, ltb-true}
use Rattle.std.proofs.lemmas.List.{get_or-map, length-map, take_all, take_more}
use Rattle.std.proofs.lemmas.List.FromFn.{get_or-range_with_len, length-range_with_len}
use Rattle.std.proofs.lemmas.List.Folds.{Any-from_list_any}
use Rattle.std.specs.List.{Any, list_any, range_with_len}
use Rattle.std.specs.List.Sorted.{IsNonDecreasing}
use Rattle.std.specs.Bool.{MatchBool}
use Rattle.std.proofs.lemmas.List.Elements.{All-from_get_or}
use Rattle.mm_value.specs.declared.refusal.Refusal.{Refusal}
use Rattle.mm_value.specs.declared.refusal.Refusal.TheVariants.{Memory, Syntax, TextTooLong}
use Rattle.mm_value.specs.declared.values.Value.TheVariants.{Text}
use Rattle.mm_session.specs.ColumnArrays.{AreOffsets, all_of, joined, text_read, value_of}

ok_same : {T : Type 0} (x y : T) → ◌≡◌ {A = Result T Refusal} (Ok x) (Ok y) → x ≡ y
ok_same x y e = cc

-- An offset is less than the one before it.
abbrev Falls : List ℕ → Type 0
Falls offsets = (k : ℕ) × (k + 1 < length offsets) × ((d : ℕ) → get_or offsets (k + 1) d < get_or offsets k d)

-- Sorted offsets whose last one lies within the bytes are right, and no others are.
pub sorted_offsets : (bytes last : ℕ) (offsets : List ℕ) (sorted : Bool) → 0 < length offsets → get_or offsets (length offsets - 1) 0 ≡ last
    → last ≤ bytes → MatchBool sorted (IsNonDecreasing offsets) (Falls offsets) → IsTrue sorted ↔ AreOffsets bytes offsets
sorted_offsets bytes last offsets true some is within rise = (
  λ t. record {
    rise = rise;
    within = All-from_get_or (λ o. o ≤ bytes) offsets 0
        (λ i h. let below = rise i (length offsets - 1) 0 (omega (arith, h)) (omega (arith, some)) in omega (arith, below, is, within));
  },
  λ are. refl,
)
sorted_offsets bytes last offsets false some is within falls = (
  λ t. absurd (cc),
  λ are. let below = are.rise falls.0 (falls.0 + 1) 0 (omega arith) falls.1 in let above = falls.2 0 in absurd (omega (arith, below, above)),
)

-- ---- lists of results

module _ {T : Type 0} where
  all_more : (items : List (Result T Refusal)) (values : List T) (value : T) → all_of items ≡ Ok values
      → all_of (items ++ Ok value ∷ []) ≡ Ok (values ++ value ∷ [])
  all_more [] values value are = ap (λ (vs : List T). Ok (vs ++ value ∷ [])) (ok_same [] values are)
  all_more (item ∷ items) values value are = by item (all_of items) (λ later found. all_more items later value found) are
    where
      by : (first : Result T Refusal) (rest : Result (List T) Refusal)
          → ((later : List T) → rest ≡ Ok later → all_of (items ++ Ok value ∷ []) ≡ Ok (later ++ value ∷ [])) → joined first rest ≡ Ok values
          → joined first (all_of (items ++ Ok value ∷ [])) ≡ Ok (values ++ value ∷ [])
      by (Err refusal) rest more both = absurd (cc)
      by (Ok own) (Err refusal) more both = absurd (cc)
      by (Ok own) (Ok later) more both =
          ap (joined (Ok own)) (more later refl) ∙ ap (λ (vs : List T). Ok (vs ++ value ∷ [])) (ok_same (own ∷ later) values both)

  -- the items up to the next one are all there
  all_next : (items : List (Result T Refusal)) (i : ℕ) (d : Result T Refusal) (values : List T) (value : T) → i < length items
      → all_of (take i items) ≡ Ok values → get_or items i d ≡ Ok value → all_of (take (i + 1) items) ≡ Ok (values ++ value ∷ [])
  all_next items i d values value within before is =
      ap all_of (take_more items i d within) ∙ ap (λ (next : Result T Refusal). all_of (take i items ++ next ∷ [])) is
      ∙ all_more (take i items) values value before

  -- the next one is the first refusal
  all_stop : (items : List (Result T Refusal)) (i : ℕ) (d : Result T Refusal) (values : List T) (refusal : Refusal) → i < length items
      → all_of (take i items) ≡ Ok values → get_or items i d ≡ Err refusal → all_of items ≡ Err refusal
  all_stop [] i d values refusal within before is = absurd (omega (arith, within))
  all_stop (item ∷ items) zero d values refusal within before is = ap (λ (first : Result T Refusal). joined first (all_of items)) is
  all_stop (item ∷ items) (suc i) d values refusal within before is =
      by item (all_of (take i items)) (λ later found. all_stop items i d later refusal (omega (arith, within)) found is) before
    where
      by : (first : Result T Refusal) (rest : Result (List T) Refusal) → ((later : List T) → rest ≡ Ok later → all_of items ≡ Err refusal)
          → joined first rest ≡ Ok values → joined first (all_of items) ≡ Err refusal
      by (Err other) rest stop both = absurd (cc)
      by (Ok own) (Err other) stop both = absurd (cc)
      by (Ok own) (Ok later) stop both = ap (joined (Ok own)) (stop later refl)

  -- so for the items that a function gives
  module _ {X : Type 0} (read : X → Result T Refusal) (xs : List X) (i : ℕ) (d : X) (values : List T) (within : i < length xs)
      (before : all_of (take i (map read xs)) ≡ Ok values) where
    inside : i < length (map read xs)
    inside = omega (arith, within, length-map xs read)

    pub read_next : (value : T) → read (get_or xs i d) ≡ Ok value → all_of (take (i + 1) (map read xs)) ≡ Ok (values ++ value ∷ [])
    read_next value is = all_next (map read xs) i (Err Syntax) values value inside before (get_or-map read xs i d (Err Syntax) within ∙ is)

    pub read_stop : (refusal : Refusal) → read (get_or xs i d) ≡ Err refusal → all_of (map read xs) ≡ Err refusal
    read_stop refusal is = all_stop (map read xs) i (Err Syntax) values refusal inside before (get_or-map read xs i d (Err Syntax) within ∙ is)

    pub read_fails : {U : Type 0} (result : Result U Refusal) (refusal : Refusal) → (x : Refusal) × (result ≡ Err x) × (x ≡ refusal)
        → (read (get_or xs i d) ≡ Err refusal) ⊎ (refusal ≡ Memory)
        → IfErr result (λ (e : Refusal). (all_of (map read xs) ≡ Err e) ⊎ (e ≡ Memory))
    read_fails {U} result refusal p fails =
        subst (λ (r : Result U Refusal). IfErr r (λ (e : Refusal). (all_of (map read xs) ≡ Err e) ⊎ (e ≡ Memory))) (sym (p.1 ∙ ap (λ (e : Refusal). Err e) p.2))
        (⊎_elim (λ (is : read (get_or xs i d) ≡ Err refusal). inl (read_stop refusal is)) (λ (is : refusal ≡ Memory). inr is) fails)

  -- and for those that it gives at the numbers below another
  module _ (read : ℕ → Result T Refusal) (count at : ℕ) (values : List T) (before : all_of (take at (map read (range_with_len 0 count))) ≡ Ok values) where
    pub count_ends : count ≤ at → all_of (map read (range_with_len 0 count)) ≡ Ok values
    count_ends end =
        ap all_of (sym (take_all at (map read (range_with_len 0 count))
        (omega (arith, end, length-map (range_with_len 0 count) read, length-range_with_len 0 count)))) ∙ before

    module _ (within : at < count) where
      inside_range : at < length (range_with_len 0 count)
      inside_range = omega (arith, within, length-range_with_len 0 count)

      index_is : get_or (range_with_len 0 count) at 0 ≡ at
      index_is = omega (arith, get_or-range_with_len 0 count at 0 within)

      pub count_next : (value : T) → read at ≡ Ok value → all_of (take (at + 1) (map read (range_with_len 0 count))) ≡ Ok (values ++ value ∷ [])
      count_next value is = read_next read (range_with_len 0 count) at 0 values inside_range before value (ap read index_is ∙ is)

      pub count_fails : {U : Type 0} (result : Result U Refusal) (refusal : Refusal) → (x : Refusal) × (result ≡ Err x) × (x ≡ refusal)
          → (read at ≡ Err refusal) ⊎ (refusal ≡ Memory)
          → IfErr result (λ (e : Refusal). (all_of (map read (range_with_len 0 count)) ≡ Err e) ⊎ (e ≡ Memory))
      count_fails {U} result refusal p fails =
          read_fails read (range_with_len 0 count) at 0 values inside_range before result refusal p
          (subst (λ (i : ℕ). (read i ≡ Err refusal) ⊎ (refusal ≡ Memory)) (sym index_is) fails)

-- ---- texts

-- bytes that are a text
text_is : (bytes : List ℕ) → (64 < length bytes → ⊥) → (Any (λ b. b ≡ 10) bytes → ⊥) → text_read bytes ≡ Ok (Text bytes)
text_is bytes short one_line = by (nat_lt 64 (length bytes)) refl (list_any (λ byte. byte == 10) bytes) refl
  where
    broken_by : Any (λ byte. (byte == 10) ≡ true) bytes → ⊥
    broken_by found = one_line (found.0, found.1, found.2, found.3, eqb-true found.1 10 found.4)

    by : (long : Bool) → nat_lt 64 (length bytes) ≡ long → (broken : Bool) → list_any (λ byte. byte == 10) bytes ≡ broken
        → cond long (Err TextTooLong) (cond broken (Err Syntax) (Ok (Text bytes))) ≡ Ok (Text bytes)
    by true is broken found = absurd (short (ltb-true 64 (length bytes) is))
    by false is true found = absurd (broken_by (Any-from_list_any (λ byte. byte == 10) bytes found))
    by false is false found = refl

-- the value of a column with offsets
pub text_value : (numbers : List ℤ) (offsets bytes : List ℕ) (at : ℕ) (text : List ℕ) → (offsets ≡ [] → ⊥)
    → text ≡ slice_range bytes (slice_index offsets at) (slice_index offsets (at + 1)) → (64 < length text → ⊥) → (Any (λ b. b ≡ 10) text → ⊥)
    → value_of numbers offsets bytes at ≡ Ok (Text text)
text_value numbers [] bytes at text some is short one_line = absurd (some refl)
text_value numbers (first ∷ offsets) bytes at text some is short one_line = ap text_read (sym is) ∙ text_is text short one_line
