-- Rows are equal exactly if they have the same length and the same values.
use Rattle.std.proofs.Common.{◌≡◌, ◌≢◌, ℕ, zero, suc, ◌<◌, List, [], ◌∷◌, Some, length, true, false, true≢false, refl, sym, ap, ◌∙◌, ⊎_elim, arith}
use Rattle.std.specs.Prelude.{slice_get}
use Rattle.std.specs.Ordering.{is_eq, is_ne}
use Rattle.std.specs.declared.cmp.Ordering.{Ordering}
use Rattle.std.specs.declared.cmp.Ordering.TheVariants.{Equal, Greater, Less}
use Rattle.std.proofs.lemmas.Bool.{cases_eq}
use Rattle.mm_value.proofs.SameRows.{values_exact}
use Rattle.mm_value.specs.Views.{value_of}
use Rattle.mm_value.specs.declared.values.Value.{Value}
use Rattle.mm_partition.specs.Views.{viewed}
use Rattle.mm_multiset.proofs.bag.finding.is_same.Goals as goal

same_lists : (xs ys : List Value) → length xs ≡ length ys → ((k : ℕ) → k < length xs → slice_get xs k ≡ slice_get ys k) → xs ≡ ys
same_lists [] [] size each = refl
same_lists [] (y ∷ ys) size each = absurd (let no : ⊥ = omega (arith, size) in no)
same_lists (x ∷ xs) [] size each = absurd (let no : ⊥ = omega (arith, size) in no)
same_lists (x ∷ xs) (y ∷ ys) size each =
    let first : Some x ≡ Some y = each zero (omega arith) in
    let head : x ≡ y = cc in
    let rest = same_lists xs ys (omega (arith, size)) (λ k below. each (suc k) (omega (arith, below))) in
    λ i. head i ∷ rest i

not_eq : (o : Ordering) → is_ne o ≡ true → is_eq o ≡ true → ⊥
not_eq Less ne e = cc
not_eq Equal ne e = cc
not_eq Greater ne e = cc

is_equal : (o : Ordering) → is_ne o ≡ false → is_eq o ≡ true
is_equal Less ne = cc
is_equal Equal ne = refl
is_equal Greater ne = cc

pub returns-then-is_ne : goal.returns-then-is_ne
returns-then-is_ne c = (
  λ no. absurd (true≢false (sym no)),
  λ same.
      let a : Value = value_of c.value.result in
      let b : Value = c.value-in-loop-i.result.now in
      let read : Some a ≡ Some b = sym c.value.ensures ∙ (ap (λ r. slice_get r c.loop-i.i) same ∙ c.value-in-loop-i.ensures) in
      let is : a ≡ b = cc in
      absurd (not_eq c.compare.result (sym c.is_ne.ensures ∙ c.if-is_ne.true) (ap is_eq c.compare.ensures ∙ (values_exact a b).1 is)),
)

pub loop-i-preserved : goal.loop-i-preserved
loop-i-preserved c =
    let a : Value = value_of c.value.result in
    let b : Value = c.value-in-loop-i.result.now in
    let is : a ≡ b = (values_exact a b).0 (sym (ap is_eq c.compare.ensures) ∙ is_equal c.compare.result (sym c.is_ne.ensures ∙ c.if-is_ne.false)) in
    λ k below.
    ⊎_elim
    (λ (e : k ≡ c.loop-i.i).
    ap (slice_get (viewed c.args.stored)) e
    ∙ (c.value.ensures ∙ (ap (λ v. Some v) is ∙ (sym c.value-in-loop-i.ensures ∙ ap (slice_get c.args.row.now) (sym e)))))
    (λ (apart : k ≢ c.loop-i.i). c.loop-i.invariant k (omega (arith, below, apart)))
    (cases_eq k c.loop-i.i)

pub returns : goal.returns
returns c =
    let size : length (viewed c.args.stored) ≡ length c.args.row.now = sym c.len.ensures ∙ (c.if-len-width.false ∙ c.len-width.ensures) in (
      λ _. same_lists (viewed c.args.stored) c.args.row.now size
          (λ k below. c.loop-i.invariant k (omega (arith, below, size, c.len-width.ensures, c.loop-i-test.false))),
      λ _. refl,
    )
