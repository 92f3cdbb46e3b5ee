-- Adding 1 to the count of a row.
use Rattle.std.proofs.Common.{◌≡◌, ℕ, ◌+◌, pos, ◌+ℤ◌, Bool, true, false, cond, List, [], ◌∷◌, arith}
use Rattle.std.proofs.lemmas.Int.{ints}
use Rattle.mm_value.specs.Equality.{same_row}
use Rattle.mm_value.specs.declared.values.Value.{Value}
use Rattle.mm_multiset.specs.Counts.{Entries, count_in, count_of, signed_count}

plus_one : (b : Bool) (new old : ℕ) → pos new ≡ pos old +ℤ (cond b (pos 1) (pos 0) +ℤ pos 0) → new ≡ old + (0 + cond b 1 0)
plus_one true new old h = omega (arith, ints, h)
plus_one false new old h = omega (arith, ints, h)

pub one_up : (row other : List Value) (old new : Entries)
    → pos (count_in other new) ≡ pos (count_in other old) +ℤ signed_count other (record { row = row; count = pos 1 } ∷ [])
    → count_in other new ≡ count_in other old + count_of other (row ∷ [])
one_up row other old new h = plus_one (same_row other row) (count_in other new) (count_in other old) h
