-- The counts of a multiset with few rows in a list.
use Rattle.std.proofs.Common.{◌≡◌, ℕ, ◌+◌, ◌<ℤ◌, ℤ, pos, ◌+ℤ◌, ◌⊎◌, inl, inr, List, [], ◌∷◌, ◌++◌, All, Result, Ok, Err, sym, ap, ◌∙◌, subst, arith}
use Rattle.std.proofs.lemmas.Int.{ints}
use Rattle.std.specs.List.{IsDistinct}
use Rattle.std.specs.Prelude.{OnErr, OnOk}
use Rattle.mm_value.specs.Equality.{same_row}
use Rattle.mm_value.specs.declared.values.Value.{Value}
use Rattle.mm_multiset.specs.Counts.{Adds, Entries, count_in, count_of, signed_count}
use Rattle.mm_multiset.specs.Tally.{AreListed, IsSmall, listed, rows_changed, with_change}
use Rattle.mm_multiset.specs.declared.signed.Signed.{Signed}
use Rattle.mm_multiset.proofs.Adding.{all_with, once_with, signed_with}
use Rattle.mm_multiset.proofs.CountUps.{one_up}
use Rattle.std.proofs.lemmas.List.{append-nil}
use Rattle.mm_multiset.proofs.Merging.{count_listed}

nothing_more : (a : ℤ) → a ≡ a +ℤ pos 0
nothing_more a = omega (arith, ints)

nothing_before : (a : ℤ) → a ≡ pos 0 +ℤ a
nothing_before a = omega (arith, ints)

apart_from : (a b d : ℤ) → a +ℤ (b +ℤ d) ≡ (a +ℤ b) +ℤ d
apart_from a b d = omega (arith, ints)

-- The count of a row is the sum of its count by hash and its number in the list.
pub count_tallied : (row : List Value) (few : List Signed) (many : Entries) → AreListed few → (few ≡ []) ⊎ (many ≡ [])
    → pos (count_in row (listed few ++ many)) ≡ pos (count_in row many) +ℤ signed_count row few
count_tallied row few many are (inl none) =
    ap (λ (xs : List Signed). pos (count_in row (listed xs ++ many))) none
    ∙ nothing_more (pos (count_in row many))
    ∙ ap (λ (xs : List Signed). pos (count_in row many) +ℤ signed_count row xs) (sym none)
count_tallied row few many are (inr none) =
    ap (λ (es : Entries). pos (count_in row (listed few ++ es))) none
    ∙ ap (λ (es : Entries). pos (count_in row es)) (append-nil (listed few))
    ∙ count_listed row few are
    ∙ nothing_before (signed_count row few)
    ∙ ap (λ (es : Entries). pos (count_in row es) +ℤ signed_count row few) (sym none)

-- If no row is found by hash, the count of a row is its number in the list.
pub count_few : (row : List Value) (few : List Signed) (many : Entries) → AreListed few → many ≡ []
    → signed_count row few ≡ pos (count_in row (listed few ++ many))
count_few row few many are none =
    nothing_before (signed_count row few)
    ∙ ap (λ (es : Entries). pos (count_in row es) +ℤ signed_count row few) (sym none)
    ∙ sym (count_tallied row few many are (inr none))

-- Moving the counts of the list to the hash table keeps all counts.
pub counts_over : (row : List Value) (few : List Signed) (old new : Entries) → AreListed few → (few ≡ []) ⊎ (old ≡ [])
    → pos (count_in row new) ≡ pos (count_in row old) +ℤ signed_count row few → count_in row new ≡ count_in row (listed few ++ old)
counts_over row few old new are one added = same (count_in row new) (count_in row (listed few ++ old)) (added ∙ sym (count_tallied row few old are one))
  where
    same : (m n : ℕ) → pos m ≡ pos n → m ≡ n
    same m n e = omega (arith, ints, e)

-- A change by one.
abbrev pub one_of : List Value → Signed
one_of row = record { row = row; count = pos 1 }

grows : (a : ℤ) → pos 0 <ℤ a → pos 0 <ℤ (a +ℤ pos 1)
grows a h = omega (arith, ints, h)

some_one : pos 0 <ℤ pos 1
some_one = omega (arith, ints)

-- A list of counts remains one when the count of a row grows by 1.
pub listed_with : (row : List Value) (old new : List Signed) → AreListed old → new ≡ with_change (one_of row) old → All (λ (x : Signed). IsSmall x.count) new
    → AreListed new
listed_with row old new are is small = record {
  are = record {
    once = subst (λ (xs : List Signed). IsDistinct same_row (rows_changed xs)) (sym is) (once_with (one_of row) old are.are.once);
    small = small;
  };
  some = subst (λ (xs : List Signed). All (λ (x : Signed). pos 0 <ℤ x.count) xs) (sym is) (all_with (λ z. pos 0 <ℤ z) (one_of row) old grows some_one are.some);
}

-- It also remains one if counting fails.
pub listed_after : {T E : Type 0} (r : Result T E) (row : List Value) (old new : List Signed) → AreListed old → OnOk r (new ≡ with_change (one_of row) old)
    → OnOk r (All (λ (x : Signed). IsSmall x.count) new) → OnErr r (new ≡ old) → AreListed new
listed_after (Ok x) row old new are is small same = listed_with row old new are is small
listed_after (Err e) row old new are is small same = subst (λ (xs : List Signed). AreListed xs) (sym same) are

-- One more occurrence of a row in the list.
pub counted_few : (row other : List Value) (old new : List Signed) (many : Entries) → many ≡ [] → AreListed old → AreListed new → new
    ≡ with_change (one_of row) old
    → count_in other (listed new ++ many) ≡ count_in other (listed old ++ many) + count_of other (row ∷ [])
counted_few row other old new many none before after is =
    one_up row other (listed old ++ many) (listed new ++ many)
    (count_tallied other new many after (inr none)
    ∙ ap (λ (xs : List Signed). pos (count_in other many) +ℤ signed_count other xs) is
    ∙ ap (λ (z : ℤ). pos (count_in other many) +ℤ z) (signed_with other (one_of row) old)
    ∙ apart_from (pos (count_in other many)) (signed_count other old) (signed_count other (one_of row ∷ []))
    ∙ ap (λ (z : ℤ). z +ℤ signed_count other (one_of row ∷ [])) (sym (count_tallied other old many before (inr none))))

-- One more occurrence by hash, after the list was moved there.
pub counted_many : (row other : List Value) (few : List Signed) (old mid new : Entries) → AreListed few → (few ≡ []) ⊎ (old ≡ [])
    → pos (count_in other mid) ≡ pos (count_in other old) +ℤ signed_count other few → Adds (one_of row) mid new
    → count_in other new ≡ count_in other (listed few ++ old) + count_of other (row ∷ [])
counted_many row other few old mid new are one added adds =
    one_up row other (listed few ++ old) new
    (adds.counts other ∙ ap (λ (z : ℤ). z +ℤ signed_count other (one_of row ∷ [])) (added ∙ sym (count_tallied other few old are one)))

-- The same for a multiset with another name, where counting may fail.
pub counted_row : {T E : Type 0} (r : Result T E) (row : List Value) (old new : List Signed) (many entries : Entries) → many ≡ [] → AreListed old
    → OnOk r (new ≡ with_change (one_of row) old) → OnOk r (All (λ (x : Signed). IsSmall x.count) new) → listed old ++ many ≡ entries
    → OnOk r ((other : List Value) → count_in other (listed new ++ many) ≡ count_in other entries + count_of other (row ∷ []))
counted_row (Ok x) row old new many entries none before is small same = λ other.
    counted_few row other old new many none before (listed_with row old new before is small) is
    ∙ ap (λ (es : Entries). count_in other es + count_of other (row ∷ [])) same
counted_row (Err e) row old new many entries none before is small same = tt
