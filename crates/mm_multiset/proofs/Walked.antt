-- The entries whose count is not 0, in any order, have the counts of all entries.
use Rattle.std.proofs.Common.{◌≡◌, ℕ, Bool, true, false, cond, not, List, [], ◌∷◌, Some, filter, refl, sym, ◌∙◌, arith}
use Rattle.std.specs.Prelude.{◌==◌, IsPermutation}
use Rattle.std.specs.List.{AllByRecursion}
use Rattle.std.specs.Map.{keys_of, lookup}
use Rattle.std.specs.Option.{unwrap_or}
use Rattle.std.proofs.lemmas.List.Sorted.{IsPermutation-sym}
use Rattle.std.proofs.lemmas.Map.Keys.{IsDistinct-cons, IsDistinct-head, IsDistinct-tail}
use Rattle.mm_value.specs.Equality.{same_row}
use Rattle.mm_value.specs.declared.values.Value.{Value}
use Rattle.mm_multiset.specs.Counts.{Entries, IsOnce, count_in, has_rows}
use Rattle.mm_multiset.proofs.EntryBags.{count_cons, count_moved, once_moved}

apart_shown : (row : List Value) (es : Entries) → AllByRecursion (λ k. same_row row k ≡ false) (keys_of es)
    → AllByRecursion (λ k. same_row row k ≡ false) (keys_of (filter has_rows es))
apart_shown row [] all = tt
apart_shown row (e ∷ es) all = by (has_rows e) (apart_shown row es all.1)
  where
    by : (b : Bool) → AllByRecursion (λ k. same_row row k ≡ false) (keys_of (filter has_rows es))
        → AllByRecursion (λ k. same_row row k ≡ false) (keys_of (cond b (e ∷ filter has_rows es) (filter has_rows es)))
    by true rest = (all.0, rest)
    by false rest = rest

once_shown : (es : Entries) → IsOnce es → IsOnce (filter has_rows es)
once_shown [] once = once
once_shown (e ∷ es) once =
    by (has_rows e) (apart_shown e.0 es (IsDistinct-head same_row e.0 (keys_of es) once))
    (once_shown es (IsDistinct-tail same_row e.0 (keys_of es) once))
  where
    by : (b : Bool) → AllByRecursion (λ k. same_row e.0 k ≡ false) (keys_of (filter has_rows es)) → IsOnce (filter has_rows es)
        → IsOnce (cond b (e ∷ filter has_rows es) (filter has_rows es))
    by true apart rest = IsDistinct-cons same_row e.0 (keys_of (filter has_rows es)) apart rest
    by false apart rest = rest

pub zero_is : (n : ℕ) → not (n == 0) ≡ false → n ≡ 0
zero_is n is = grind arith

nothing : (b : Bool) (n : ℕ) → n ≡ 0 → cond b n 0 ≡ 0
nothing true n zero = zero
nothing false n zero = refl

count_shown : (row : List Value) (es : Entries) → IsOnce es → count_in row (filter has_rows es) ≡ count_in row es
count_shown row [] once = refl
count_shown row (e ∷ es) once = by (has_rows e) refl (count_shown row es (IsDistinct-tail same_row e.0 (keys_of es) once))
  where
    either : (b : Bool) → count_in row (filter has_rows es) ≡ count_in row es
        → unwrap_or (cond b (Some e.1) (lookup (same_row row) (filter has_rows es))) 0 ≡ unwrap_or (cond b (Some e.1) (lookup (same_row row) es)) 0
    either true rest = refl
    either false rest = rest

    by : (b : Bool) → has_rows e ≡ b → count_in row (filter has_rows es) ≡ count_in row es
        → count_in row (cond b (e ∷ filter has_rows es) (filter has_rows es)) ≡ count_in row (e ∷ es)
    by true is rest = either (same_row row e.0) rest
    by false is rest = omega (arith, rest, count_cons row e es once, nothing (same_row row e.0) e.1 (zero_is e.1 is))

module _ (walk es : Entries) (moved : IsPermutation walk (filter has_rows es)) (once : IsOnce es) where
  back : IsPermutation (filter has_rows es) walk
  back = IsPermutation-sym walk (filter has_rows es) moved

  pub once_walked : IsOnce walk
  once_walked = once_moved (filter has_rows es) walk back (once_shown es once)

  pub count_walked : (row : List Value) → count_in row walk ≡ count_in row es
  count_walked row = sym (count_moved row (filter has_rows es) walk back (once_shown es once)) ∙ count_shown row es once
