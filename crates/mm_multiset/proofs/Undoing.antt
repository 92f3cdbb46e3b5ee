-- Opposite changes undo each other, and each finds its entry.
use Rattle.std.proofs.Common.{◌≡◌, ℕ, ℤ, pos, ◌+ℤ◌, neg_ℤ, ◌⊎◌, inl, inr, Bool, true, false, cond, ◌||◌, is_some, Some, List, [], ◌∷◌, refl, sym, ap}
use Rattle.std.proofs.Common.{◌∙◌, arith}
use Rattle.std.proofs.lemmas.Int.{ints}
use Rattle.std.specs.List.{AllByRecursion, list_any}
use Rattle.std.specs.Map.{keys_of, lookup}
use Rattle.mm_value.specs.Equality.{same_row}
use Rattle.mm_value.specs.EqualityLaws.{same_row_equiv}
use Rattle.mm_value.specs.declared.values.Value.{Value}
use Rattle.mm_multiset.specs.Counts.{Adds, AddsAll, Entries, count_in, has_entry, signed_count}
use Rattle.mm_multiset.specs.declared.signed.Signed.{Signed}

none_more : (a : ℤ) → a ≡ a +ℤ pos 0
none_more a = omega (arith, ints)

-- The count of a row after many changes.
pub count_after : (row : List Value) (changes : List Signed) (old new : Entries) → AddsAll changes old new
    → pos (count_in row new) ≡ pos (count_in row old) +ℤ signed_count row changes
count_after row [] old new h = ap (λ es. pos (count_in row es)) h ∙ none_more (pos (count_in row old))
count_after row (c ∷ cs) old new h =
    three (pos (count_in row new)) (pos (count_in row h.0)) (pos (count_in row old)) (cond (same_row row c.row) c.count (pos 0)) (signed_count row cs)
    (count_after row cs h.0 new h.2) (h.1.counts row)
  where
    three : (a b d x y : ℤ) → a ≡ b +ℤ y → b ≡ d +ℤ (x +ℤ pos 0) → a ≡ d +ℤ (x +ℤ y)
    three a b d x y p q = omega (arith, ints)

-- If the undo of each row negates its changes, each count is as before.
pub undone : (changes undo : List Signed) (old mid new : Entries) → ((row : List Value) → signed_count row undo ≡ neg_ℤ (signed_count row changes))
    → AddsAll changes old mid → AddsAll undo mid new → (row : List Value) → count_in row new ≡ count_in row old
undone changes undo old mid new opposite there back row =
    same (count_in row new) (count_in row old) (pos (count_in row mid)) (signed_count row changes) (signed_count row undo) (count_after row undo mid new back)
    (count_after row changes old mid there) (opposite row)
  where
    same : (a b : ℕ) (m x y : ℤ) → pos a ≡ m +ℤ y → m ≡ pos b +ℤ x → y ≡ neg_ℤ x → a ≡ b
    same a b m x y p q r = omega (arith, ints)

-- ---- entries

-- A row has an entry exactly if it is among the keys.
pub entry_in_keys : (row : List Value) (es : Entries) → has_entry row es ≡ list_any (same_row row) (keys_of es)
entry_in_keys row [] = refl
entry_in_keys row (e ∷ es) = by (same_row row e.0) (entry_in_keys row es)
  where
    by : (b : Bool) → has_entry row es ≡ list_any (same_row row) (keys_of es) → is_some (cond b (Some e.1) (lookup (same_row row) es))
        ≡ b || list_any (same_row row) (keys_of es)
    by true h = refl
    by false h = h

module _ (change : Signed) (old new : Entries) (adds : Adds change old new) where
  -- The changed row has an entry.
  pub found_one : has_entry change.row new ≡ true
  found_one = adds.entries change.row ∙ ap (λ b. cond b true (has_entry change.row old)) (same_row_equiv.refl change.row)

  -- A row that had an entry still has it.
  pub kept_one : (row : List Value) → has_entry row old ≡ true → has_entry row new ≡ true
  kept_one row had = adds.entries row ∙ (ap (λ b. cond (same_row change.row row) true b) had ∙ either (same_row change.row row))
    where
      either : (b : Bool) → cond b true true ≡ true
      either true = refl
      either false = refl

  -- Only the changed row can have a new entry.
  pub only_one : (row : List Value) → has_entry row new ≡ true → (has_entry row old ≡ true) ⊎ (same_row row change.row ≡ true)
  only_one row has = by (same_row change.row row) refl (sym (adds.entries row) ∙ has)
    where
      by : (b : Bool) → same_row change.row row ≡ b → cond b true (has_entry row old) ≡ true
          → (has_entry row old ≡ true) ⊎ (same_row row change.row ≡ true)
      by true e h = inr (same_row_equiv.symm row change.row ∙ e)
      by false e h = inl h

pub kept_all : (changes : List Signed) (old new : Entries) → AddsAll changes old new → (row : List Value) → has_entry row old ≡ true → has_entry row new ≡ true
kept_all [] old new h row had = ap (has_entry row) h ∙ had
kept_all (c ∷ cs) old new h row had = kept_all cs h.0 new h.2 row (kept_one c old h.0 h.1 row had)

pub found_all : (changes : List Signed) (old new : Entries) → AddsAll changes old new → AllByRecursion (λ change. has_entry change.row new ≡ true) changes
found_all [] old new h = tt
found_all (c ∷ cs) old new h = (kept_all cs h.0 new h.2 c.row (found_one c old h.0 h.1), found_all cs h.0 new h.2)
