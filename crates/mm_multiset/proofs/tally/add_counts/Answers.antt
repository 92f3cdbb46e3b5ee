use Rattle.std.proofs.Common.{◌≡◌, ℕ, ◌<◌, ◌^◌, ℤ, pos, ◌+ℤ◌, ◌<ℤ◌, false, sym, ap, ◌∙◌, subst, arith}
use Rattle.std.proofs.lemmas.Int.{fits_signed_from_abs, ints, to_z-of_z}
use lib.Signed.{lt_z}
use mir.Syntax.{w128}
use mir.Val.{of_z, to_z}
use Rattle.mm_multiset.specs.Counts.{Entries, total_of}
use Rattle.mm_multiset.specs.Tally.{IsSmall}
use Rattle.mm_multiset.proofs.Passing.{small_fits}
use Rattle.mm_multiset.proofs.tally.add_counts.Goals as goal

not_past : (z : ℤ) → lt_z (pos 18446744073709551615) z ≡ false → z <ℤ pos (2 ^ 64)
not_past z h = grind (arith, ints)

-- a number of 64 bits
plain : (t : ℕ) → t < 2 ^ 64 → to_z w128 t ≡ pos t
plain t h = omega (arith, ints)

kept_below : (t : ℕ) (z : ℤ) → t < 2 ^ 64 → IsSmall z → lt_z (pos 18446744073709551615) (to_z w128 (of_z w128 (to_z w128 t +ℤ to_z w128 (of_z w128 z)))) ≡ false
    → (pos t +ℤ z) <ℤ pos (2 ^ 64)
kept_below t z most small test =
    let is : to_z w128 t +ℤ to_z w128 (of_z w128 z) ≡ pos t +ℤ z
    = ap (λ (x : ℤ). x +ℤ to_z w128 (of_z w128 z)) (plain t most) ∙ ap (λ (x : ℤ). pos t +ℤ x) (to_z-of_z w128 z (small_fits z small.0 small.1)) in
    let sum : to_z w128 (of_z w128 (to_z w128 t +ℤ to_z w128 (of_z w128 z))) ≡ pos t +ℤ z
    = ap (λ (x : ℤ). to_z w128 (of_z w128 x)) is
    ∙ to_z-of_z w128 (pos t +ℤ z) (fits_signed_from_abs w128 (pos t +ℤ z) (omega (arith, ints, small.0, small.1))) in
    not_past (pos t +ℤ z) (subst (λ (x : ℤ). lt_z (pos 18446744073709551615) x ≡ false) sum test)

pub add-requires-clause-total : goal.add-requires-clause-total
add-requires-clause-total c =
    subst (λ (es : Entries). (pos (total_of es) +ℤ c.args.change.count) <ℤ pos (2 ^ 64)) (sym c.reserve.ensures.entries)
    (subst (λ (t : ℕ). (pos t +ℤ c.args.change.count) <ℤ pos (2 ^ 64)) c.total.ensures
    (kept_below c.total.result c.args.change.count c.total.type_inv c.requires.small c.if-total-change.false))
