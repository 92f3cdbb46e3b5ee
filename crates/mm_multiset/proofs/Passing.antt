-- Each entry of a multiset results in at most one change, of its own row.
use Rattle.std.proofs.Common.{◌≡◌, ◌≢◌, ℕ, ◌^◌, FitsSigned, ℤ, pos, neg_ℤ, ◌+ℤ◌, ◌-ℤ◌, ◌<ℤ◌, Bool, true, false, true≢false, cond, ◌||◌, Option, Some, None}
use Rattle.std.proofs.Common.{is_some, List, [], ◌∷◌, ◌++◌, All, map, refl, sym, subst, ap, ◌∙◌, arith}
use Rattle.std.proofs.lemmas.Int.{fits_signed_from_abs, ints}
use mir.Syntax.{w128}
use Rattle.std.proofs.lemmas.List.{map-append}
use Rattle.std.proofs.lemmas.List.Elements.{All-head, All-nil, All-push, All-tail}
use Rattle.std.proofs.lemmas.Map.{lookup-none}
use Rattle.std.proofs.lemmas.Map.Entries.{none_past_head}
use Rattle.std.proofs.lemmas.Map.Keys.{IsDistinct-head, IsDistinct-push, IsDistinct-tail}
use Rattle.std.specs.List.{AllByRecursion, IsDistinct, list_any}
use Rattle.std.specs.Map.{keys_of, lookup}
use Rattle.std.specs.Option.{option_map_or, unwrap_or}
use Rattle.mm_value.specs.Equality.{same_row}
use Rattle.mm_value.specs.EqualityLaws.{same_row_equiv}
use Rattle.mm_value.specs.declared.values.Value.{Value}
use Rattle.mm_value.proofs.SameRows.{rows_exact}
use Rattle.mm_multiset.specs.Counts.{Entries, IsNet, IsOnce, count_in, has_entry, signed_count}
use Rattle.mm_multiset.specs.declared.signed.Signed.{Signed}

abbrev rows_in : List Signed → List (List Value)
rows_in changes = map (λ change. change.row) changes

-- A row that is not among the changed ones has no change.
pub unchanged : (row : List Value) (changes : List Signed) → AllByRecursion (λ other. same_row row other ≡ false) (rows_in changes) → signed_count row changes
    ≡ pos 0
unchanged row [] h = refl
unchanged row (c ∷ cs) h = none (cond (same_row row c.row) c.count (pos 0)) (signed_count row cs) (ap (λ b. cond b c.count (pos 0)) h.0) (unchanged row cs h.1)
  where
    none : (a b : ℤ) → a ≡ pos 0 → b ≡ pos 0 → a +ℤ b ≡ pos 0
    none a b p q = omega (arith, ints)

-- If each row is changed once, by a number other than 0, a row without a change is not among the changed ones.
absent : (row : List Value) (changes : List Signed) → IsDistinct same_row (rows_in changes) → All (λ change. change.count ≢ pos 0) changes
    → signed_count row changes ≡ pos 0 → list_any (same_row row) (rows_in changes) ≡ false
absent row [] once nonzero h = refl
absent row (c ∷ cs) once nonzero h =
    by (same_row row c.row) refl (λ none. absent row cs (IsDistinct-tail same_row c.row (rows_in cs) once)
    (All-tail (λ change. change.count ≢ pos 0) c cs nonzero) none)
  where
    first : (a b : ℤ) → a ≡ c.count → b ≡ pos 0 → a +ℤ b ≡ pos 0 → c.count ≡ pos 0
    first a b p q r = omega (arith, ints)

    later : (a b : ℤ) → a ≡ pos 0 → a +ℤ b ≡ pos 0 → b ≡ pos 0
    later a b p q = omega (arith, ints)

    by : (b : Bool) → same_row row c.row ≡ b → (signed_count row cs ≡ pos 0 → list_any (same_row row) (rows_in cs) ≡ false)
        → b || list_any (same_row row) (rows_in cs) ≡ false
    by true e rest =
        let others = unchanged c.row cs (IsDistinct-head same_row c.row (rows_in cs) once) in
        let same : c.row ≡ row = sym ((rows_exact row c.row).0 e) in
        absurd (All-head (λ change. change.count ≢ pos 0) c cs nonzero
        (first (cond (same_row row c.row) c.count (pos 0)) (signed_count row cs) (ap (λ b. cond b c.count (pos 0)) e)
        (subst (λ r. signed_count r cs ≡ pos 0) same others) h))
    by false e rest = rest (later (cond (same_row row c.row) c.count (pos 0)) (signed_count row cs) (ap (λ b. cond b c.count (pos 0)) e) h)

signed_count_push : (row : List Value) (changes : List Signed) (c : Signed) → signed_count row (changes ++ c ∷ [])
    ≡ signed_count row changes +ℤ cond (same_row row c.row) c.count (pos 0)
signed_count_push row [] c = turned (cond (same_row row c.row) c.count (pos 0))
  where
    turned : (a : ℤ) → a +ℤ pos 0 ≡ pos 0 +ℤ a
    turned a = omega (arith, ints)
signed_count_push row (x ∷ xs) c =
    ap (λ z. cond (same_row row x.row) x.count (pos 0) +ℤ z) (signed_count_push row xs c)
    ∙ apart (cond (same_row row x.row) x.count (pos 0)) (signed_count row xs) (cond (same_row row c.row) c.count (pos 0))
  where
    apart : (a b d : ℤ) → a +ℤ (b +ℤ d) ≡ (a +ℤ b) +ℤ d
    apart a b d = omega (arith, ints)

-- A number between -2^64 and 2^64 fits 128 bits.
pub small_fits : (z : ℤ) → neg_ℤ (pos (2 ^ 64)) <ℤ z → z <ℤ pos (2 ^ 64) → FitsSigned w128 z
small_fits z above below = fits_signed_from_abs w128 z (omega (arith, ints))

abbrev IsSmall : ℤ → Type 0
IsSmall z = (neg_ℤ (pos (2 ^ 64)) <ℤ z) × (z <ℤ pos (2 ^ 64))

-- One more change, of a row without one.
net_push : (changes : List Signed) (c : Signed) → IsNet changes → signed_count c.row changes ≡ pos 0 → c.count ≢ pos 0 → IsSmall c.count
    → IsNet (changes ++ c ∷ [])
net_push changes c net none nonzero small = record {
  once = subst (IsDistinct same_row) (sym (map-append (λ change. change.row) changes (c ∷ [])))
      (IsDistinct-push same_row_equiv (rows_in changes) c.row net.once (absent c.row changes net.once net.nonzero none));
  nonzero = All-push (λ change. change.count ≢ pos 0) changes c net.nonzero nonzero;
  small = All-push (λ change. IsSmall change.count) changes c net.small small;
}

module _ (brings : List Value → ℕ → ℤ) where
  -- the change from the entry of a row, and 0 if it has none
  abbrev pub brought : List Value → Entries → ℤ
  brought row es = option_map_or (brings row) (lookup (same_row row) es) (pos 0)

  -- The changes so far are those of the entries so far, and the remaining entries supply the rest.
  pub record Passes (all : List Value → ℤ) (found : List Signed) (left : Entries) : Type 0 where
    pub sum : (row : List Value) → all row ≡ signed_count row found +ℤ brought row left
    pub fresh : (row : List Value) (n : ℕ) → lookup (same_row row) left ≡ Some n → brings row n ≢ pos 0 → signed_count row found ≡ pos 0
    pub once : IsOnce left
    pub net : IsNet found

  module _ (all : List Value → ℤ) (found : List Signed) (e : List Value × ℕ) (left : Entries) (passes : Passes all found (e ∷ left)) where
    none_left : (row : List Value) → same_row row e.0 ≡ true → lookup (same_row row) left ≡ None
    none_left row is = lookup-none (same_row row) left (none_past_head same_row_equiv row e left passes.once is)

    head : (row : List Value) → brought row (e ∷ left) ≡ cond (same_row row e.0) (brings e.0 e.1) (pos 0) +ℤ brought row left
    head row = by (same_row row e.0) refl
      where
        first : (a b : ℤ) → b ≡ pos 0 → a ≡ a +ℤ b
        first a b p = omega (arith, ints)

        later : (b : ℤ) → b ≡ pos 0 +ℤ b
        later b = omega (arith, ints)

        by : (b : Bool) → same_row row e.0 ≡ b → option_map_or (brings row) (cond b (Some e.1) (lookup (same_row row) left)) (pos 0)
            ≡ cond b (brings e.0 e.1) (pos 0) +ℤ brought row left
        by true is =
            ap (λ r. brings r e.1) ((rows_exact row e.0).0 is)
            ∙ first (brings e.0 e.1) (brought row left) (ap (λ o. option_map_or (brings row) o (pos 0)) (none_left row is))
        by false is = later (brought row left)

    other : (row : List Value) (n : ℕ) → lookup (same_row row) left ≡ Some n → same_row row e.0 ≡ false
    other row n h = by (same_row row e.0) refl
      where
        by : (b : Bool) → same_row row e.0 ≡ b → b ≡ false
        by true is = absurd (true≢false (ap is_some (sym h ∙ none_left row is)))
        by false is = refl

    fresh_left : (row : List Value) (n : ℕ) → lookup (same_row row) left ≡ Some n → brings row n ≢ pos 0 → signed_count row found ≡ pos 0
    fresh_left row n h = passes.fresh row n (ap (λ b. cond b (Some e.1) (lookup (same_row row) left)) (other row n h) ∙ h)

    -- An entry whose change is 0 adds nothing.
    pub passes_over : brings e.0 e.1 ≡ pos 0 → Passes all found left
    passes_over nothing = record {
      sum = λ row. passes.sum row ∙ ap (λ z. signed_count row found +ℤ z) (head row)
          ∙ ap (λ z. signed_count row found +ℤ (cond (same_row row e.0) z (pos 0) +ℤ brought row left)) nothing
          ∙ same (same_row row e.0) (signed_count row found) (brought row left);
      fresh = fresh_left;
      once = IsDistinct-tail same_row e.0 (keys_of left) passes.once;
      net = passes.net;
    }
      where
        nothing_more : (a b : ℤ) → a +ℤ (pos 0 +ℤ b) ≡ a +ℤ b
        nothing_more a b = omega (arith, ints)

        same : (t : Bool) (a b : ℤ) → a +ℤ (cond t (pos 0) (pos 0) +ℤ b) ≡ a +ℤ b
        same true a b = nothing_more a b
        same false a b = nothing_more a b

    -- The change from an entry is one more change.
    pub passes_on : brings e.0 e.1 ≢ pos 0 → IsSmall (brings e.0 e.1) → Passes all (found ++ record { row = e.0; count = brings e.0 e.1 } ∷ []) left
    passes_on nonzero small = record {
      sum = λ row. passes.sum row ∙ ap (λ z. signed_count row found +ℤ z) (head row)
          ∙ apart (signed_count row found) (cond (same_row row e.0) (brings e.0 e.1) (pos 0)) (brought row left)
          ∙ ap (λ z. z +ℤ brought row left) (sym (signed_count_push row found change));
      fresh = λ row n h some. signed_count_push row found change
          ∙ none (signed_count row found) (cond (same_row row e.0) (brings e.0 e.1) (pos 0)) (fresh_left row n h some)
          (ap (λ b. cond b (brings e.0 e.1) (pos 0)) (other row n h));
      once = IsDistinct-tail same_row e.0 (keys_of left) passes.once;
      net = net_push found change passes.net (passes.fresh e.0 e.1 (ap (λ b. cond b (Some e.1) (lookup (same_row e.0) left)) (same_row_equiv.refl e.0))
          nonzero) nonzero small;
    }
      where
        change : Signed
        change = record { row = e.0; count = brings e.0 e.1 }

        apart : (a b d : ℤ) → a +ℤ (b +ℤ d) ≡ (a +ℤ b) +ℤ d
        apart a b d = omega (arith, ints)

        none : (a b : ℤ) → a ≡ pos 0 → b ≡ pos 0 → a +ℤ b ≡ pos 0
        none a b p q = omega (arith, ints)

  -- At the end no entry remains.
  pub passed_all : (all : List Value → ℤ) (found : List Signed) → Passes all found [] → (row : List Value) → signed_count row found ≡ all row
  passed_all all found passes row = sym (passes.sum row ∙ more (signed_count row found))
    where
      more : (a : ℤ) → a +ℤ pos 0 ≡ a
      more a = omega (arith, ints)

  -- At the first entry there is no change yet.
  pub passes_none : (es : Entries) → IsOnce es → Passes (λ row. brought row es) [] es
  unfolding IsDistinct
  passes_none es once = record {
    sum = λ row. more (brought row es);
    fresh = λ row n h some. refl;
    once = once;
    net = record { once = tt; nonzero = All-nil (λ change. change.count ≢ pos 0); small = All-nil (λ change. IsSmall change.count) };
  }
    where
      more : (a : ℤ) → a ≡ pos 0 +ℤ a
      more a = omega (arith, ints)

-- The count of an entry minus the other multiset's count of its row.
abbrev pub less_count_in : Entries → List Value → ℕ → ℤ
less_count_in goes row n = pos n -ℤ pos (count_in row goes)

pub brought_is : (comes goes : Entries) (row : List Value)
    → brought (less_count_in goes) row comes ≡ cond (has_entry row comes) (pos (count_in row comes) -ℤ pos (count_in row goes)) (pos 0)
brought_is comes goes row = by (lookup (same_row row) comes)
  where
    by : (o : Option ℕ) → option_map_or (less_count_in goes row) o (pos 0) ≡ cond (is_some o) (pos (unwrap_or o 0) -ℤ pos (count_in row goes)) (pos 0)
    by (Some n) = refl
    by None = refl

-- The negated count of an entry, if the other multiset has no entry of its row.
abbrev pub without_entry_in : Entries → List Value → ℕ → ℤ
without_entry_in comes row n = cond (has_entry row comes) (pos 0) (neg_ℤ (pos n))

module _ (comes goes : Entries) (found : List Signed)
    (counts : (row : List Value) → signed_count row found ≡ cond (has_entry row comes) (pos (count_in row comes) -ℤ pos (count_in row goes)) (pos 0)) where
  -- The changes of the rows of one multiset are complete, and the entries of the other one remain.
  pub passes_half : IsOnce goes → IsNet found → Passes (without_entry_in comes) (λ row. pos (count_in row comes) -ℤ pos (count_in row goes)) found goes
  passes_half once net = record {
    sum = λ row. by (lookup (same_row row) comes) (lookup (same_row row) goes) (signed_count row found) (counts row);
    fresh = λ row n h some. alone (has_entry row comes) n (signed_count row found) _ (counts row) some;
    once = once;
    net = net;
  }
    where
      both : (z a b : ℤ) → z ≡ a -ℤ b → a -ℤ b ≡ z +ℤ pos 0
      both z a b e = omega (arith, ints)

      only : (z b : ℤ) → z ≡ pos 0 → pos 0 -ℤ b ≡ z +ℤ neg_ℤ b
      only z b e = omega (arith, ints)

      none : (z : ℤ) → z ≡ pos 0 → pos 0 -ℤ pos 0 ≡ z +ℤ pos 0
      none z e = omega (arith, ints)

      by : (o p : Option ℕ) (z : ℤ) → z ≡ cond (is_some o) (pos (unwrap_or o 0) -ℤ pos (unwrap_or p 0)) (pos 0)
          → pos (unwrap_or o 0) -ℤ pos (unwrap_or p 0) ≡ z +ℤ option_map_or (λ n. cond (is_some o) (pos 0) (neg_ℤ (pos n))) p (pos 0)
      by (Some m) (Some n) z e = both z (pos m) (pos n) e
      by (Some m) None z e = both z (pos m) (pos 0) e
      by None (Some n) z e = only z (pos n) e
      by None None z e = none z e

      alone : (b : Bool) (n : ℕ) (z d : ℤ) → z ≡ cond b d (pos 0) → cond b (pos 0) (neg_ℤ (pos n)) ≢ pos 0 → z ≡ pos 0
      alone true n z d e some = absurd (some refl)
      alone false n z d e some = e
