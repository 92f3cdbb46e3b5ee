-- The entries whose count is not 0 are those of the counted slots.
use Rattle.std.proofs.Common.{◌≡◌, ◌≢◌, ℕ, zero, suc, ◌+◌, ◌<◌, ◌≤◌, Bool, true, false, true≢false, cond}
use Rattle.std.proofs.Common.{not, List, [], ◌∷◌, ◌++◌, All, filter, get_or, length, map}
use Rattle.std.proofs.Common.{refl, sym, ap, ◌∙◌, subst, ⊎_elim, arith}
use Rattle.std.specs.Prelude.{◌==◌, IsPermutation}
use Rattle.std.proofs.lemmas.Bool.{cases_lt}
use Rattle.std.proofs.lemmas.List.{get_or-map, get_or_past, length-map}
use Rattle.std.proofs.lemmas.List.Elements.{All-get_or}
use Rattle.std.proofs.lemmas.List.Sorted.{All-permutation, IsPermutation-map, IsPermutation-sym}
use Rattle.mm_value.specs.declared.values.Value.{Value}
use Rattle.mm_partition.specs.Places.{Content, Free, Hidden, Live, row_in}
use Rattle.slot_counts.specs.Numbers.{is_counted}
use Rattle.slot_counts.specs.Sets.{indices_from}
use Rattle.slot_counts.proofs.Indices.{indices_are}
use Rattle.mm_multiset.specs.Counts.{Entries, has_rows}
use Rattle.mm_multiset.specs.Slots.{AreMarked, IsMarked, IsWalk, entries_of, entry_at, entry_of}

-- The entry of one slot, if its count is not 0.
one_shown : (s : Content) (n : ℕ) (rest : Entries) → IsMarked s n → cond (is_counted n) ((row_in s, n) ∷ rest) rest ≡ filter has_rows (entry_of s n) ++ rest
one_shown Free n rest is = ap {B = Entries} (λ b. cond b (([], n) ∷ rest) rest) (ap is_counted is)
one_shown (Live row) n rest is = either (not (n == 0))
  where
    either : (b : Bool) → cond b ((row, n) ∷ rest) rest ≡ cond b ((row, n) ∷ []) [] ++ rest
    either true = refl
    either false = refl
one_shown (Hidden row) n rest is = ap {B = Entries} (λ b. cond b ((row, n) ∷ rest) rest) (ap is_counted is)

filter_both : (xs ys : Entries) → filter has_rows (xs ++ ys) ≡ filter has_rows xs ++ filter has_rows ys
filter_both [] ys = refl
filter_both (x ∷ xs) ys = by (has_rows x) (filter_both xs ys)
  where
    by : (b : Bool) → filter has_rows (xs ++ ys) ≡ filter has_rows xs ++ filter has_rows ys
        → cond b (x ∷ filter has_rows (xs ++ ys)) (filter has_rows (xs ++ ys)) ≡ cond b (x ∷ filter has_rows xs) (filter has_rows xs) ++ filter has_rows ys
    by true e = ap (λ l. x ∷ l) e
    by false e = e

map_cond : (f : ℕ → List Value × ℕ) (k : ℕ) (b : Bool) (l : List ℕ) → map f (cond b (k ∷ l) l) ≡ cond b (f k ∷ map f l) (map f l)
map_cond f k true l = refl
map_cond f k false l = refl

-- The entries of the counted slots, from one slot on.
shown_from : (f : ℕ → List Value × ℕ) (k : ℕ) (slots : List Content) (counts : List ℕ) → length counts ≡ length slots
    → ((j : ℕ) → f (k + j) ≡ entry_at slots counts j) → ((j : ℕ) → IsMarked (get_or slots j Free) (get_or counts j 0))
    → map f (indices_from k (map is_counted counts)) ≡ filter has_rows (entries_of slots counts)
shown_from f k [] [] size at marked = refl
shown_from f k [] (n ∷ counts) size at marked = absurd (let no : ⊥ = omega (arith, size) in no)
shown_from f k (s ∷ slots) [] size at marked = absurd (let no : ⊥ = omega (arith, size) in no)
shown_from f k (s ∷ slots) (n ∷ counts) size at marked =
    let rest : map f (indices_from (suc k) (map is_counted counts)) ≡ filter has_rows (entries_of slots counts) =
    shown_from f (suc k) slots counts (omega (arith, size))
    (λ j. ap f (let e : suc k + j ≡ k + suc j = omega arith in e) ∙ at (suc j)) (λ j. marked (suc j))
    in
    let first : f k ≡ (row_in s, n) = ap f (let e : k ≡ k + 0 = omega arith in e) ∙ at zero in
    map_cond f k (is_counted n) (indices_from (suc k) (map is_counted counts))
    ∙ ((λ i. cond (is_counted n) (first i ∷ rest i) (rest i))
    ∙ (one_shown s n (filter has_rows (entries_of slots counts)) (marked zero)
    ∙ sym (filter_both (entry_of s n) (entries_of slots counts))))

-- A counted slot has a count, and it is not 0.
counted_within : (counts : List ℕ) (i : ℕ) → get_or (map is_counted counts) i false ≡ true → i < length counts
counted_within counts i is =
    ⊎_elim
    (λ (h : i < length counts). h)
    (λ (h : length counts ≤ i).
    absurd (true≢false (sym is ∙ get_or_past (map is_counted counts) i false (omega (arith, h, length-map counts is_counted)))))
    (cases_lt i (length counts))

counted_some : (counts : List ℕ) (i : ℕ) → get_or (map is_counted counts) i false ≡ true → get_or counts i 0 ≢ 0
counted_some counts i is e =
    true≢false (sym is ∙ (get_or-map is_counted counts i 0 false (counted_within counts i is) ∙ ap is_counted e))

module _ (slots : List Content) (counts shown : List ℕ) (marked : AreMarked slots counts)
    (are : IsPermutation shown (indices_from 0 (map is_counted counts))) where
  -- The iteration returns the entries whose count is not 0.
  pub walk_gives : IsPermutation (map (entry_at slots counts) shown) (filter has_rows (entries_of slots counts))
  walk_gives =
      subst (IsPermutation (map (entry_at slots counts) shown))
      (shown_from (entry_at slots counts) 0 slots counts marked.size
      (λ j. ap (entry_at slots counts) (let e : 0 + j ≡ j = omega arith in e)) marked.each)
      (IsPermutation-map (entry_at slots counts) shown (indices_from 0 (map is_counted counts)) are)

  flags_set : All (λ (i : ℕ). get_or (map is_counted counts) i false ≡ true) shown
  flags_set =
      All-permutation (λ (i : ℕ). get_or (map is_counted counts) i false ≡ true) (indices_from 0 (map is_counted counts)) shown
      (IsPermutation-sym shown (indices_from 0 (map is_counted counts)) are)
      (indices_are (λ (i : ℕ). get_or (map is_counted counts) i false) 0 (map is_counted counts)
      (λ j. ap (λ (n : ℕ). get_or (map is_counted counts) n false) (let e : 0 + j ≡ j = omega arith in e)))

  live_at : (s : Content) (n : ℕ) → IsMarked s n → n ≢ 0 → (row : List Value) × (s ≡ Live row)
  live_at Free n is some = absurd (some is)
  live_at (Live row) n is some = (row, refl)
  live_at (Hidden row) n is some = absurd (some is)

  -- Each of its slots has a row.
  pub walk_is : IsWalk slots counts shown
  walk_is k d within =
      let set : get_or (map is_counted counts) (get_or shown k d) false ≡ true =
      All-get_or (λ (i : ℕ). get_or (map is_counted counts) i false ≡ true) shown k d within flags_set
      in (
        counted_within counts (get_or shown k d) set,
        live_at (get_or slots (get_or shown k d) Free) (get_or counts (get_or shown k d) 0) (marked.each (get_or shown k d))
            (counted_some counts (get_or shown k d) set),
      )
