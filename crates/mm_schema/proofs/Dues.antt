-- The first refusal of concatenated conditions.
use Rattle.std.proofs.Common.{◌≡◌, Bool, true, false, cond, List, [], ◌∷◌, ◌++◌, Option, Some, None, refl}
use Rattle.mm_value.specs.declared.refusal.Refusal.{Refusal}
use Rattle.mm_schema.specs.Refused.{Condition, first_refusal}

-- the same for one condition
one_behind : (b : Bool) (refusal : Refusal) (due all rest : Option Refusal) → cond b (Some refusal) due ≡ None → (due ≡ None → all ≡ rest)
    → cond b (Some refusal) all ≡ rest
one_behind true refusal due all rest h k = cc
one_behind false refusal due all rest h k = k h

one_in_front : (b : Bool) (refusal found : Refusal) (due all : Option Refusal) → cond b (Some refusal) due ≡ Some found → (due ≡ Some found → all ≡ Some found)
    → cond b (Some refusal) all ≡ Some found
one_in_front true refusal found due all h k = h
one_in_front false refusal found due all h k = k h

-- If none of the first conditions holds, the refusal is that of the others.
pub due_behind : (cs ds : List Condition) → first_refusal cs ≡ None → first_refusal (cs ++ ds) ≡ first_refusal ds
due_behind [] ds h = refl
due_behind (c ∷ cs) ds h = one_behind c.holds c.refusal (first_refusal cs) (first_refusal (cs ++ ds)) (first_refusal ds) h (due_behind cs ds)

-- A refusal of the first conditions is that of all.
pub due_in_front : (cs ds : List Condition) (refusal : Refusal) → first_refusal cs ≡ Some refusal → first_refusal (cs ++ ds) ≡ Some refusal
due_in_front [] ds refusal h = cc
due_in_front (c ∷ cs) ds refusal h = one_in_front c.holds c.refusal refusal (first_refusal cs) (first_refusal (cs ++ ds)) h (due_in_front cs ds refusal)

-- If nothing is refused, neither of two conditions holds.
pub neither_due : (a b : Bool) (r s : Refusal) → first_refusal (record { holds = a; refusal = r } ∷ record { holds = b; refusal = s } ∷ []) ≡ None
    → (a ≡ false) × (b ≡ false)
neither_due true b r s h = cc
neither_due false true r s h = cc
neither_due false false r s h = (refl, refl)

pub none_here : (b : Bool) (refusal : Refusal) (rest : Option Refusal) → cond b (Some refusal) rest ≡ None → rest ≡ None
none_here true refusal rest h = cc
none_here false refusal rest h = h

-- If nothing is refused, neither is it by the last conditions.
pub none_due_behind : (cs ds : List Condition) → first_refusal (cs ++ ds) ≡ None → first_refusal ds ≡ None
none_due_behind [] ds h = h
none_due_behind (c ∷ cs) ds h = none_due_behind cs ds (none_here c.holds c.refusal (first_refusal (cs ++ ds)) h)
