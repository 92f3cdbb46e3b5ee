-- The counts and their total after a change of one entry.
use Rattle.std.proofs.Common.{◌≡◌, ℕ, ◌+◌, ◌<◌, ◌≤◌, ◌^◌, ◌≤ℤ◌, ◌<ℤ◌, FitsSigned, ℤ, pos, ◌+ℤ◌, Bool, true, false, cond, List, [], ◌∷◌, ◌++◌, Option, Some}
use Rattle.std.proofs.Common.{None, is_some, refl, sym, ap, ◌∙◌, arith}
use Rattle.std.proofs.lemmas.Int.{ints, fits_signed_from_abs}
use mir.Syntax.{w128}
use Rattle.std.proofs.lemmas.List.Sums.{sum_by-cons, sum_by_push}
use Rattle.std.proofs.lemmas.Map.Entries.{sum_by-set_value}
use Rattle.std.specs.Map.{values_of, lookup, set_value}
use Rattle.std.specs.List.{sum}
use Rattle.std.specs.Option.{unwrap_or}
use Rattle.mm_value.specs.Equality.{same_row}
use Rattle.mm_value.specs.EqualityLaws.{same_row_equiv}
use Rattle.mm_value.specs.declared.values.Value.{Value}
use Rattle.mm_value.proofs.SameRows.{rows_exact}
use Rattle.mm_multiset.specs.Counts.{Adds, Entries, count_in, has_entry, total_of}

-- A count is at most the total.
pub count_within : (row : List Value) (es : Entries) → count_in row es ≤ total_of es
count_within row [] = omega arith
count_within row (e ∷ es) =
    step (same_row row e.0) e.1 (lookup (same_row row) es) (total_of es) (total_of (e ∷ es)) (sum_by-cons (λ x. x) e.1 (values_of es)) (count_within row es)
  where
    step : (b : Bool) (n : ℕ) (found : Option ℕ) (t s : ℕ) → s ≡ n + t → unwrap_or found 0 ≤ t → unwrap_or (cond b (Some n) found) 0 ≤ s
    step true n found t s e h = omega (arith, e)
    step false n found t s e h = omega (arith, e, h)

module _ (row : List Value) (change : ℤ) (es fs : Entries) (w : ℕ)
    (found : (q : List Value) → lookup (same_row q) fs ≡ cond (same_row row q) (Some w) (lookup (same_row q) es)) where
  one_more : (x d : ℤ) → d ≡ change → x +ℤ change ≡ x +ℤ (d +ℤ pos 0)
  one_more x d e = omega (arith, ints)

  none_more : (x d : ℤ) → d ≡ pos 0 → x ≡ x +ℤ (d +ℤ pos 0)
  none_more x d e = omega (arith, ints)

  counts : pos w ≡ pos (count_in row es) +ℤ change → (q : List Value) → pos (count_in q fs)
      ≡ pos (count_in q es) +ℤ (cond (same_row q row) change (pos 0) +ℤ pos 0)
  counts is q = by (same_row row q) refl
    where
      by : (b : Bool) → same_row row q ≡ b → pos (count_in q fs) ≡ pos (count_in q es) +ℤ (cond (same_row q row) change (pos 0) +ℤ pos 0)
      by true e =
          let turned : same_row q row ≡ true = same_row_equiv.symm q row ∙ e in
          let same : row ≡ q = (rows_exact row q).0 e in
          ap (λ o. pos (unwrap_or o 0)) (found q ∙ ap (λ b. cond b (Some w) (lookup (same_row q) es)) e)
          ∙ is
          ∙ ap (λ r. pos (count_in r es) +ℤ change) same
          ∙ one_more (pos (count_in q es)) (cond (same_row q row) change (pos 0)) (ap (λ b. cond b change (pos 0)) turned)
      by false e =
          let turned : same_row q row ≡ false = same_row_equiv.symm q row ∙ e in
          ap (λ o. pos (unwrap_or o 0)) (found q ∙ ap (λ b. cond b (Some w) (lookup (same_row q) es)) e)
          ∙ none_more (pos (count_in q es)) (cond (same_row q row) change (pos 0)) (ap (λ b. cond b change (pos 0)) turned)

  -- The row has an entry, and every other row has one exactly if it had one.
  entries : (q : List Value) → has_entry q fs ≡ cond (same_row row q) true (has_entry q es)
  entries q = ap is_some (found q) ∙ either (same_row row q) (lookup (same_row q) es)
    where
      either : (b : Bool) (o : Option ℕ) → is_some (cond b (Some w) o) ≡ cond b true (is_some o)
      either true o = refl
      either false o = refl

  module _ (v : ℕ) (had : lookup (same_row row) es ≡ Some v) (is : pos w ≡ pos v +ℤ change) where
    -- An existing entry has the changed count.
    pub adds_at_entry : Adds (record { row = row; count = change }) es fs
    adds_at_entry = record {
      counts = counts (is ∙ ap (λ o. pos (unwrap_or o 0) +ℤ change) (sym had));
      entries = entries;
    }

    arithmetic : (t s : ℕ) → t + v ≡ s + w → pos t ≡ pos s +ℤ change
    arithmetic t s e = omega (arith, ints)

    pub total_at_entry : fs ≡ set_value (same_row row) es w → pos (total_of fs) ≡ pos (total_of es) +ℤ change
    total_at_entry are =
        ap (λ l. pos (total_of l)) are ∙ arithmetic (total_of (set_value (same_row row) es w)) (total_of es)
        (sum_by-set_value (λ x. x) (same_row row) es v w had)

  module _ (none : lookup (same_row row) es ≡ None) (is : pos w ≡ pos 0 +ℤ change) (are : fs ≡ es ++ (row, w) ∷ []) where
    values_push : (xs : Entries) → values_of (xs ++ (row, w) ∷ []) ≡ values_of xs ++ w ∷ []
    values_push [] = refl
    values_push (x ∷ xs) = ap (λ l. x.1 ∷ l) (values_push xs)

    -- A new entry is appended.
    pub adds_at_end : Adds (record { row = row; count = change }) es fs
    adds_at_end = record {
      counts = counts (is ∙ ap (λ o. pos (unwrap_or o 0) +ℤ change) (sym none));
      entries = entries;
    }

    more : (t s : ℕ) → t ≡ s + w → pos t ≡ pos s +ℤ change
    more t s e = omega (arith, ints)

    pub total_at_end : pos (total_of fs) ≡ pos (total_of es) +ℤ change
    total_at_end =
        ap (λ l. pos (total_of l)) are ∙ more (total_of (es ++ (row, w) ∷ [])) (total_of es)
        (ap (λ l. sum l) (values_push es) ∙ sum_by_push (λ x. x) (values_of es) w)

-- The number of a change fits 128 bits if the count stays at 0 or above and the total below 2^64.
pub change_fits : (n t : ℕ) (z : ℤ) → n ≤ t → t < 2 ^ 64 → pos 0 ≤ℤ (pos n +ℤ z) → (pos t +ℤ z) <ℤ pos (2 ^ 64) → FitsSigned w128 z
change_fits n t z within fits least most = fits_signed_from_abs w128 z (omega (arith, ints))
