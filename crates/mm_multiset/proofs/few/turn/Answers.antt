use Rattle.std.proofs.Common.{◌≡◌, ℕ, ◌<◌, ℤ, pos, neg_ℤ, ◌-ℤ◌, List, All, FitsSigned, get_or, length, map, sym, ap, subst, ◌∙◌, arith}
use Rattle.std.proofs.lemmas.Int.{ints, to_z-of_z}
use mir.Syntax.{w128}
use mir.Val.{of_z, to_z}
use Rattle.mm_multiset.proofs.Turning.{one_more, written_back}
use Rattle.mm_multiset.specs.Tally.{IsSmall, opposite}
use Rattle.mm_multiset.specs.declared.signed.Signed.{Signed}
use Rattle.mm_multiset.proofs.Passing.{small_fits}
use Rattle.mm_multiset.proofs.few.turn.Goals as goal

abbrev turns : Signed → Signed → Type 0
turns x y = y ≡ opposite x

abbrev small : Signed → Type 0
small x = IsSmall x.count

back : (z : ℤ) → IsSmall z → to_z w128 (of_z w128 z) ≡ z
back z s = to_z-of_z w128 z (small_fits z s.0 s.1)

minus : (z : ℤ) → pos 0 -ℤ z ≡ neg_ℤ z
minus z = omega (arith, ints)

small_minus : (z : ℤ) → IsSmall z → IsSmall (pos 0 -ℤ z)
small_minus z s = (omega (arith, ints, s.1), omega (arith, ints, s.0))

minus_fits : (z : ℤ) → IsSmall z → FitsSigned w128 (pos 0 -ℤ to_z w128 (of_z w128 z))
minus_fits z s =
    let m = small_minus z s in
    subst (λ (y : ℤ). FitsSigned w128 (pos 0 -ℤ y)) (sym (back z s)) (small_fits (pos 0 -ℤ z) m.0 m.1)

turned_here : (x : Signed) → small x
    → turns x (record { row = x.row; count = to_z w128 (of_z w128 (pos 0 -ℤ to_z w128 (of_z w128 x.count))) })
turned_here x s =
    ap (λ (z : ℤ). record { row = x.row; count = z })
    (to_z-of_z w128 (pos 0 -ℤ to_z w128 (of_z w128 x.count)) (minus_fits x.count s) ∙ (ap (λ (z : ℤ). pos 0 -ℤ z) (back x.count s) ∙ minus x.count))

small_here : (start now : List Signed) (i : ℕ) (d : Signed) → i < length start → get_or now i d ≡ get_or start i d → All small start → small (get_or now i d)
small_here start now i d within same all = subst (λ (x : Signed). small x) (sym same) (all i d within)

pub overflow_sub-change : goal.overflow_sub-change
overflow_sub-change c =
    let start = c.deref_mut-change-items.result.now in
    let now = c.loop-change.change-items in
    let i = c.loop-change.change-index in
    let d = c.change-item.result in
    minus_fits (get_or now i d).count
    (small_here start now i d c.loop-change-test.true (c.loop-change.invariant.rest i d (omega arith) c.loop-change-test.true)
    (subst (λ (xs : List Signed). All small xs) (sym c.deref_mut-change-items.ensures.value) c.requires))

pub loop-change-preserved : goal.loop-change-preserved
loop-change-preserved c =
    let start = c.deref_mut-change-items.result.now in
    let now = c.loop-change.change-items in
    let i = c.loop-change.change-index in
    let d = c.change-item.result in
    one_more i start now d _ c.loop-change-test.true c.loop-change.invariant
    (turned_here (get_or now i d)
    (small_here start now i d c.loop-change-test.true (c.loop-change.invariant.rest i d (omega arith) c.loop-change-test.true)
    (subst (λ (xs : List Signed). All small xs) (sym c.deref_mut-change-items.ensures.value) c.requires)))

pub returns : goal.returns
returns c =
    let start = c.deref_mut-change-items.result.now in
    let now = c.loop-change.change-items in
    written_back c.loop-change.change-index start now _ c.args.changes.now.len c.loop-change.invariant
    (omega (arith, c.loop-change-test.false, c.loop-change.invariant.size)) (omega (arith, c.deref_mut-change-items.ensures.len))
    ∙ ap (λ (xs : List Signed). map opposite xs) c.deref_mut-change-items.ensures.value
