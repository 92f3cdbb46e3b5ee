-- Negating the changes of a list one after another.
use Rattle.std.proofs.Common.{◌≡◌, ℕ, zero, suc, ◌+◌, ◌<◌, ◌≤◌, List, [], ◌∷◌, ◌++◌, get_or, length, map, take, refl, sym, ap, ◌∙◌, arith, ⊎_elim}
use Rattle.std.specs.Prelude.{slice_set}
use Rattle.std.proofs.lemmas.Bool.{cases_lt}
use Rattle.std.proofs.lemmas.List.{get_or-set_same, get_or-set_other, length-set, get_or_default}
use Rattle.std.proofs.Math.Seq.{take-append_seam}
use Rattle.mm_multiset.specs.Tally.{opposite}
use Rattle.mm_multiset.specs.declared.signed.Signed.{Signed}

-- the first i changes are negated, and the others are unchanged
pub record AreTurned (i : ℕ) (start now : List Signed) : Type 0 where
  pub size : length now ≡ length start
  pub done : (k : ℕ) (d : Signed) → k < i → k < length start → get_or now k d ≡ opposite (get_or start k d)
  pub rest : (k : ℕ) (d : Signed) → i ≤ k → k < length start → get_or now k d ≡ get_or start k d

pub one_more : (i : ℕ) (start now : List Signed) (d y : Signed) → i < length start → AreTurned i start now → y ≡ opposite (get_or now i d)
    → AreTurned (i + 1) start (slice_set now i y)
one_more i start now d y within t turned = record {
  size = length-set now i y ∙ t.size;
  done = λ k e below h.
      ⊎_elim
      (λ (before : k < i). get_or-set_other now i k y e (λ (same : k ≡ i). let no : ⊥ = omega arith in no) ∙ t.done k e before h)
      (λ (after : i ≤ k).
      let here : k ≡ i = omega arith in
      let there : i < length now = omega (arith, t.size) in
      let is : get_or (slice_set now i y) k e ≡ y = ap (λ (n : ℕ). get_or (slice_set now i y) n e) here ∙ get_or-set_same now i y e there in
      let was : get_or now i d ≡ get_or start k e = get_or_default now i d e there ∙ (ap (λ (n : ℕ). get_or now n e) (sym here) ∙ t.rest k e after h) in
      is ∙ (turned ∙ ap opposite was))
      (cases_lt k i);
  rest = λ k e above h. get_or-set_other now i k y e (λ (same : k ≡ i). let no : ⊥ = omega arith in no) ∙ t.rest k e (omega arith) h;
}

all_turned : (start now : List Signed) → length now ≡ length start
    → ((k : ℕ) (d : Signed) → k < length start → get_or now k d ≡ opposite (get_or start k d)) → now ≡ map opposite start
all_turned [] [] size each = refl
all_turned [] (y ∷ ys) size each = absurd (let no : ⊥ = omega (arith, size) in no)
all_turned (x ∷ xs) [] size each = absurd (let no : ⊥ = omega (arith, size) in no)
all_turned (x ∷ xs) (y ∷ ys) size each =
    (λ i. each zero x (omega arith) i ∷ all_turned xs ys (omega (arith, size)) (λ k d below. each (suc k) d (omega (arith, below))) i)

-- If all are negated and the whole list is written back, the list is negated.
pub written_back : (i : ℕ) (start now rest : List Signed) (n : ℕ) → AreTurned i start now → length now ≤ i → n ≡ length start
    → take n (now ++ rest) ≡ map opposite start
written_back i start now rest n t past all =
    let whole : n ≡ length now = omega (arith, t.size, all) in
    ap (λ (m : ℕ). take m (now ++ rest)) whole ∙ take-append_seam now rest
    ∙ all_turned start now t.size (λ k d within. t.done k d (omega (arith, t.size, within, past)) within)
