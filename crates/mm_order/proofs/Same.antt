-- Equality of references, by the test of the code.
use Rattle.std.proofs.Common.{◌≡◌, Bool, true, false, not, eqb, ap}
use Rattle.std.proofs.lemmas.Bool.{eq-eqb, eqb-true}
use Rattle.mm_value.specs.declared.row_ref.RowRef.{RowRef}

-- the test `!=` of two references
abbrev pub differ : RowRef → RowRef → Bool
differ a b = not (eqb a.slot b.slot)

not_false : (b : Bool) → not b ≡ false → b ≡ true
not_false true e = (cc)
not_false false e = (cc)

pub same_from_differ : (a b : RowRef) → differ a b ≡ false → a ≡ b
same_from_differ a b e = λ i. record { slot = eqb-true a.slot b.slot (not_false _ e) i }

-- equal references pass the test `==`
pub same_refs : (a b : RowRef) → a ≡ b → eqb a.slot b.slot ≡ true
same_refs a b e = eq-eqb a.slot b.slot (ap (λ (r : RowRef). r.slot) e)

pub differ-same : (a b : RowRef) → a ≡ b → differ a b ≡ false
differ-same a b e = ap not (same_refs a b e)
