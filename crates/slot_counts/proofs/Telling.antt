-- The flags of numbers that differ, after one number changes or is told.
use Rattle.std.proofs.Common.{◌≡◌, ◌≢◌, ℕ, ◌+◌, ◌<◌, ◌≤◌, Bool, true, false, true≢false, List}
use Rattle.std.proofs.Common.{[], ◌∷◌, ◌++◌, Option, Some, None, length, get_or, map, refl, set, subst}
use Rattle.std.proofs.Common.{sym, ap, ◌∙◌, ⊎_elim, arith}
use Rattle.std.proofs.lemmas.Bool.{cases_eq, cases_lt}
use Rattle.std.proofs.lemmas.List.{get_or-map, get_or-set_other, get_or-set_same, get_or_append_left, get_or_past, get_or_push}
use Rattle.std.proofs.lemmas.List.{length-map, length-set, length_push, map-set}
use Rattle.std.specs.Option.{IfSome, option_map}
use Rattle.slot_counts.specs.Numbers.{Fed, IsChanged, Numbers, Tells, differs, noted, shown_count, telling_of}

same_not : (m : ℕ) → differs m m ≡ false
same_not m = grind arith

pub differ_is : (m n : ℕ) → differs m n ≡ true → m ≢ n
differ_is m n is e = true≢false (sym is ∙ (ap (λ (k : ℕ). differs k n) e ∙ same_not n))

pub same_is : (m n : ℕ) → differs m n ≡ false → m ≡ n
same_is m n is = grind arith

-- A flag that is set belongs to a slot.
pub told_within : (flags : List Bool) (i : ℕ) → get_or flags i false ≡ true → i < length flags
told_within flags i is =
    ⊎_elim (λ (h : i < length flags). h)
    (λ (h : length flags ≤ i). absurd (true≢false (sym is ∙ get_or_past flags i false h))) (cases_lt i (length flags))

-- The number of a slot changes, and its flag with it.
pub tells_set : (flags : List Bool) (counts seen : List ℕ) (i n : ℕ) → Tells flags counts seen → i < length counts
    → Tells (set flags i (differs n (get_or seen i 0))) (set counts i n) seen
tells_set flags counts seen i n tells within = record {
  size = length-set flags i (differs n (get_or seen i 0)) ∙ (tells.size ∙ sym (length-set counts i n));
  each = λ k.
      ⊎_elim
      (λ (e : k ≡ i).
      ap (λ (j : ℕ). get_or (set flags i (differs n (get_or seen i 0))) j false) e
      ∙ (get_or-set_same flags i (differs n (get_or seen i 0)) false (omega (arith, within, tells.size))
      ∙ (ap (λ (m : ℕ). differs m (get_or seen i 0)) (sym (get_or-set_same counts i n 0 within))
      ∙ ap (λ (j : ℕ). differs (get_or (set counts i n) j 0) (get_or seen j 0)) (sym e))))
      (λ (apart : k ≢ i).
      get_or-set_other flags i k (differs n (get_or seen i 0)) false apart
      ∙ (tells.each k ∙ ap (λ (m : ℕ). differs m (get_or seen k 0)) (sym (get_or-set_other counts i k n 0 apart))))
      (cases_eq k i);
}

-- The number of a slot is told.
pub tells_taken : (flags : List Bool) (counts seen : List ℕ) (i n : ℕ) → Tells flags counts seen → i < length counts → length seen ≡ length counts
    → n ≡ get_or counts i 0 → Tells (set flags i false) counts (set seen i n)
tells_taken flags counts seen i n tells within size is = record {
  size = length-set flags i false ∙ tells.size;
  each = λ k.
      ⊎_elim
      (λ (e : k ≡ i).
      ap (λ (j : ℕ). get_or (set flags i false) j false) e
      ∙ (get_or-set_same flags i false false (omega (arith, within, tells.size))
      ∙ (sym (same_not (get_or counts i 0))
      ∙ (ap (λ (m : ℕ). differs (get_or counts i 0) m) (sym is ∙ sym (get_or-set_same seen i n 0 (omega (arith, within, size))))
      ∙ ap (λ (j : ℕ). differs (get_or counts j 0) (get_or (set seen i n) j 0)) (sym e)))))
      (λ (apart : k ≢ i).
      get_or-set_other flags i k false false apart
      ∙ (tells.each k ∙ ap (λ (m : ℕ). differs (get_or counts k 0) m) (sym (get_or-set_other seen i k n 0 apart))))
      (cases_eq k i);
}

zero_more : (xs : List ℕ) (k : ℕ) → get_or (xs ++ 0 ∷ []) k 0 ≡ get_or xs k 0
zero_more xs k =
    ⊎_elim
    (λ (h : k < length xs). get_or_append_left xs (0 ∷ []) 0 k h)
    (λ (h : length xs ≤ k).
    ⊎_elim
    (λ (e : k ≡ length xs). get_or_push xs 0 0 k (sym e) ∙ sym (get_or_past xs k 0 h))
    (λ (past : k ≢ length xs). get_or_past (xs ++ 0 ∷ []) k 0 (omega (arith, h, past, length_push xs 0)) ∙ sym (get_or_past xs k 0 h))
    (cases_eq k (length xs)))
    (cases_lt k (length xs))

false_more : (xs : List Bool) (k : ℕ) → get_or (xs ++ false ∷ []) k false ≡ get_or xs k false
false_more xs k =
    ⊎_elim
    (λ (h : k < length xs). get_or_append_left xs (false ∷ []) false k h)
    (λ (h : length xs ≤ k).
    ⊎_elim
    (λ (e : k ≡ length xs). get_or_push xs false false k (sym e) ∙ sym (get_or_past xs k false h))
    (λ (past : k ≢ length xs). get_or_past (xs ++ false ∷ []) k false (omega (arith, h, past, length_push xs false)) ∙ sym (get_or_past xs k false h))
    (cases_eq k (length xs)))
    (cases_lt k (length xs))

-- One more slot, with the number 0.
pub tells_grown : (flags : List Bool) (counts seen : List ℕ) → Tells flags counts seen → Tells (flags ++ false ∷ []) (counts ++ 0 ∷ []) seen
tells_grown flags counts seen tells = record {
  size = length_push flags false ∙ (ap (λ (n : ℕ). n + 1) tells.size ∙ sym (length_push counts 0));
  each = λ k. false_more flags k ∙ (tells.each k ∙ ap (λ (m : ℕ). differs m (get_or seen k 0)) (sym (zero_more counts k)));
}

-- One more slot, for which 0 was told.
pub tells_grown_both : (flags : List Bool) (counts seen : List ℕ) → Tells flags counts seen
    → Tells (flags ++ false ∷ []) (counts ++ 0 ∷ []) (seen ++ 0 ∷ [])
tells_grown_both flags counts seen tells = record {
  size = (tells_grown flags counts seen tells).size;
  each = λ k. (tells_grown flags counts seen tells).each k ∙ ap (λ (m : ℕ). differs (get_or (counts ++ 0 ∷ []) k 0) m) (sym (zero_more seen k));
}

-- The numbers to tell, once the count of a slot is another.
pub shown_set : (distinct : Bool) (counts : List ℕ) (slot n : ℕ)
    → map (shown_count distinct) (set counts slot n) ≡ set (map (shown_count distinct) counts) slot (shown_count distinct n)
shown_set distinct counts slot n = map-set (shown_count distinct) counts slot n

pub shown_zero : (distinct : Bool) → shown_count distinct 0 ≡ 0
shown_zero true = refl
shown_zero false = refl

-- The number to tell for the count at an index.
pub shown_at : (distinct : Bool) (counts : List ℕ) (i : ℕ) → get_or (map (shown_count distinct) counts) i 0 ≡ shown_count distinct (get_or counts i 0)
shown_at distinct counts i =
    ⊎_elim
    (λ (h : i < length counts). get_or-map (shown_count distinct) counts i 0 0 h)
    (λ (h : length counts ≤ i).
    get_or_past (map (shown_count distinct) counts) i 0 (omega (arith, h, length-map counts (shown_count distinct)))
    ∙ (sym (shown_zero distinct) ∙ ap (shown_count distinct) (sym (get_or_past counts i 0 h))))
    (cases_lt i (length counts))

-- The flags of a feed say which numbers differ.
abbrev pub IsFed : List ℕ → Fed → Type 0
IsFed counts f = Tells f.changed (map (shown_count f.distinct) counts) f.told × (length f.told ≡ length counts)

-- A feed that has recorded a count.
pub fed_noted : (feed : Option Fed) (counts : List ℕ) (slot n : ℕ) → IfSome feed (IsFed counts) → slot < length counts
    → IfSome (option_map (noted slot n) feed) (IsFed (set counts slot n))
fed_noted None counts slot n fed within = tt
fed_noted (Some f) counts slot n fed within = (
  subst (λ l. Tells (noted slot n f).changed l f.told) (sym (shown_set f.distinct counts slot n))
      (tells_set f.changed (map (shown_count f.distinct) counts) f.told slot (shown_count f.distinct n) fed.0
      (omega (arith, within, length-map counts (shown_count f.distinct)))),
  fed.1 ∙ sym (length-set counts slot n),
)

-- A slot whose flag is set has a number that differs from what was last told.
pub changed_at : (f : Fed) (now : Numbers) → IsFed now.counts f → now.feed ≡ Some (telling_of f) → (slot : ℕ) → get_or f.changed slot false ≡ true
    → IsChanged now slot
changed_at f now fed was slot is = record {
  within = omega (arith, told_within f.changed slot is, fed.0.size, length-map now.counts (shown_count f.distinct));
  before = telling_of f;
  was = was;
  other = subst (λ (n : ℕ). n ≢ get_or f.told slot 0) (shown_at f.distinct now.counts slot)
      (differ_is (get_or (map (shown_count f.distinct) now.counts) slot 0) (get_or f.told slot 0) (sym (fed.0.each slot) ∙ is));
}
