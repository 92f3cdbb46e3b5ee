-- Points, and decisions on orders.
use Rattle.std.proofs.Common.{◌≡◌, ℕ, Bool, true, false, ◌&&◌, ◌==◌, ℤ, refl, sym, ap, ◌∙◌, arith}
use Rattle.std.specs.Prelude.{◌<ℤ◌, ◌≤ℤ◌}
use Rattle.std.specs.Ordering.{MatchOrdering}
use Rattle.std.specs.declared.cmp.Ordering.{Ordering}
use Rattle.std.specs.declared.cmp.Ordering.TheVariants.{Less, Equal, Greater}
use Rattle.std.specs.Ordering.{int_cmp, is_eq, is_lt, is_le, is_gt, is_ge}
use Rattle.std.specs.Cmp.{int_ranks}
use Rattle.std.proofs.lemmas.Int.{ints}
use Rattle.std.proofs.Common.{eq-eqb}
use Rattle.std.proofs.lemmas.Bool.{eqb-true}
use Rattle.mm_relevance.specs.declared.term.Point.{Point}
use Rattle.mm_relevance.specs.declared.term.Point.TheVariants.{Zero, Column as At}
use Rattle.mm_relevance.specs.Walks.{point_eq}

pub and_true : (a b : Bool) → (a && b) ≡ true → (a ≡ true) × (b ≡ true)
and_true true true h = (refl, refl)
and_true true false h = cc
and_true false b h = cc

both_true : (a b : Bool) → a ≡ true → b ≡ true → (a && b) ≡ true
both_true true true h k = refl
both_true true false h k = cc
both_true false b h k = cc

pub point_eq_same : (p : Point) → point_eq p p ≡ true
point_eq_same Zero = refl
point_eq_same (At f) = both_true _ _ (eq-eqb f.place f.place refl) (eq-eqb f.column f.column refl)

pub same_number : (a b : ℕ) → (a == b) ≡ true → a ≡ b
same_number a b h = eqb-true a b h

pub point_eq_true : (p q : Point) → point_eq p q ≡ true → p ≡ q
point_eq_true Zero Zero h = refl
point_eq_true Zero (At g) h = cc
point_eq_true (At f) Zero h = cc
point_eq_true (At f) (At g) h =
    let both = and_true (f.place == g.place) (f.column == g.column) h in
    let e : f.place ≡ g.place = same_number f.place g.place both.0 in
    let k : f.column ≡ g.column = same_number f.column g.column both.1 in
    (λ i. At (record { place = e i; column = k i }))

pub point_eq_is : (p q : Point) → p ≡ q → point_eq p q ≡ true
point_eq_is p q h = ap (point_eq p) (sym h) ∙ point_eq_same p

module _ (a b : ℤ) where
  le_of : (o : Ordering) → MatchOrdering o (a <ℤ b) (a ≡ b) (b <ℤ a) → is_le o ≡ true → a ≤ℤ b
  le_of Less m h = omega (arith, ints, m)
  le_of Equal m h = omega (arith, ints, m)
  le_of Greater m h = cc

  lt_of : (o : Ordering) → MatchOrdering o (a <ℤ b) (a ≡ b) (b <ℤ a) → is_lt o ≡ true → a <ℤ b
  lt_of Less m h = m
  lt_of Equal m h = cc
  lt_of Greater m h = cc

  ge_of : (o : Ordering) → MatchOrdering o (a <ℤ b) (a ≡ b) (b <ℤ a) → is_ge o ≡ true → b ≤ℤ a
  ge_of Less m h = cc
  ge_of Equal m h = omega (arith, ints, m)
  ge_of Greater m h = omega (arith, ints, m)

  gt_of : (o : Ordering) → MatchOrdering o (a <ℤ b) (a ≡ b) (b <ℤ a) → is_gt o ≡ true → b <ℤ a
  gt_of Less m h = cc
  gt_of Equal m h = cc
  gt_of Greater m h = m

  eq_of : (o : Ordering) → MatchOrdering o (a <ℤ b) (a ≡ b) (b <ℤ a) → is_eq o ≡ true → a ≡ b
  eq_of Less m h = cc
  eq_of Equal m h = m
  eq_of Greater m h = cc

  pub le_from : is_le (int_cmp a b) ≡ true → a ≤ℤ b
  le_from = le_of (int_cmp a b) (int_ranks a b)

  pub lt_from : is_lt (int_cmp a b) ≡ true → a <ℤ b
  lt_from = lt_of (int_cmp a b) (int_ranks a b)

  pub ge_from : is_ge (int_cmp a b) ≡ true → b ≤ℤ a
  ge_from = ge_of (int_cmp a b) (int_ranks a b)

  pub gt_from : is_gt (int_cmp a b) ≡ true → b <ℤ a
  gt_from = gt_of (int_cmp a b) (int_ranks a b)

  pub eq_from : is_eq (int_cmp a b) ≡ true → a ≡ b
  eq_from = eq_of (int_cmp a b) (int_ranks a b)
