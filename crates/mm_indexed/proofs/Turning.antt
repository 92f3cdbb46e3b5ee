-- A list whose elements change one after another.
use Rattle.std.proofs.Common.{◌≡◌, ℕ, ◌+◌, ◌<◌, ◌≤◌, List, ◌++◌, length, take, get_or, refl, sym, ap, ◌∙◌, subst, arith, ⊎_elim}
use Rattle.std.specs.Prelude.{slice_set}
use Rattle.std.specs.List.{All}
use Rattle.std.proofs.lemmas.Bool.{cases_lt}
use Rattle.std.proofs.lemmas.List.{get_or-set_same, get_or-set_other, length-set, get_or_default}
use Rattle.std.proofs.Math.Seq.{take-append_seam}
use Rattle.mm_indexed.specs.Index.{TurnedTo, EachTurns, SameEntries, Grown}
use Rattle.mm_indexed.specs.declared.indexes.index.Index.{Index}
use Rattle.mm_indexed.specs.declared.indexes.index.Index.TheVariants.{Tree, Hash}

module _ {X : Type 0} (R : X → X → Type 0) where
  pub TurnedTo-more : (i : ℕ) (start now : List X) (d y : X) → i < length start → TurnedTo R i start now → R (get_or now i d) y
      → TurnedTo R (i + 1) start (slice_set now i y)
  TurnedTo-more i start now d y within t turns = record {
    size = length-set now i y ∙ t.size;
    done = λ k e below h.
        ⊎_elim
        (λ (before : k < i). subst (R (get_or start k e)) (sym (get_or-set_other now i k y e (λ (same : k ≡ i). let no : ⊥ = omega arith in no)))
        (t.done k e before h))
        (λ (after : i ≤ k).
        let here : k ≡ i = omega arith in
        let there : i < length now = omega (arith, t.size) in
        let is : get_or (slice_set now i y) k e ≡ y = ap (λ (n : ℕ). get_or (slice_set now i y) n e) here ∙ get_or-set_same now i y e there in
        let was : get_or now i d ≡ get_or start k e = get_or_default now i d e there ∙ (ap (λ (n : ℕ). get_or now n e) (sym here) ∙ t.rest k e after h) in
        subst (R (get_or start k e)) (sym is) (subst (λ (x : X). R x y) was turns))
        (cases_lt k i);
    rest = λ k e above h. get_or-set_other now i k y e (λ (same : k ≡ i). let no : ⊥ = omega arith in no) ∙ t.rest k e (omega arith) h;
  }

  -- each change turns one property into another
  pub All-turned : (P Q : X → Type 0) (start now : List X) → EachTurns R start now → ((x y : X) → P x → R x y → Q y) → All P start → All Q now
  All-turned P Q start now t step all k d within =
      let size : length now ≡ length start = t.size in
      step (get_or start k d) (get_or now k d) (all k d (omega arith)) (t.each k d (omega arith))

-- a vector that is written back whole has the written elements
pub written_back : {X : Type 0} (ys zs : List X) (n : ℕ) → n ≡ length ys → take n (ys ++ zs) ≡ ys
written_back ys zs n e = ap (λ (m : ℕ). take m (ys ++ zs)) e ∙ take-append_seam ys zs

-- a loop over all elements, whose list is written back
pub EachTurns-written_back : {X : Type 0} (R : X → X → Type 0) (i : ℕ) (start now rest : List X) (n : ℕ) → TurnedTo R i start now
    → length now ≤ i → n ≡ length start → EachTurns R start (take n (now ++ rest))
EachTurns-written_back R i start now rest n t past all =
    let turned : EachTurns R start now = record { size = t.size; each = λ k d within. t.done k d (omega (arith, t.size)) within } in
    subst (EachTurns R start) (sym (written_back now rest n (omega (arith, t.size)))) turned

-- a loop that stops early: the element at which it stopped has changed in the weaker way, and the rest stays
pub EachTurns-stopped : {X : Type 0} (R S : X → X → Type 0) → ((x y : X) → R x y → S x y) → ((x : X) → S x x) → (i : ℕ) (start now : List X) (d y : X)
    → i < length start → TurnedTo R i start now → S (get_or now i d) y → EachTurns S start (slice_set now i y)
EachTurns-stopped {X} R S weaker same i start now d y within t turns =
    let weak : TurnedTo S i start now = record
    { size = t.size; done = λ k e below h. weaker (get_or start k e) (get_or now k e) (t.done k e below h); rest = t.rest } in
    let more : TurnedTo S (i + 1) start (slice_set now i y) = TurnedTo-more S i start now d y within weak turns in
    record {
      size = more.size;
      each = λ k e h. ⊎_elim (λ (below : k < i + 1). more.done k e below h)
          (λ (above : i + 1 ≤ k). subst (S (get_or start k e)) (sym (more.rest k e above h)) (same (get_or start k e))) (cases_lt k (i + 1));
    }

pub SameEntries-refl : (x : Index) → SameEntries x x
SameEntries-refl (Tree column refs) = (refl, refl)
SameEntries-refl (Hash column pairs) = (refl, refl)

pub Grown-refl : (x : Index) → Grown x x
Grown-refl x = record { same = SameEntries-refl x; spare = omega arith }

-- a change in one way is a change in a weaker one
pub EachTurns-weaker : {X : Type 0} (R S : X → X → Type 0) → ((x y : X) → R x y → S x y) → (start now : List X) → EachTurns R start now
    → EachTurns S start now
EachTurns-weaker R S weaker start now t = record {
  size = t.size;
  each = λ k d within. weaker (get_or start k d) (get_or now k d) (t.each k d within);
}

-- two changes in sequence
pub EachTurns-twice : {X : Type 0} (R S T : X → X → Type 0) → ((x y z : X) → R x y → S y z → T x z)
    → (start mid now : List X) → EachTurns R start mid → EachTurns S mid now → EachTurns T start now
EachTurns-twice R S T both start mid now first second = record {
  size = second.size ∙ first.size;
  each = λ k d within.
      let there : k < length mid = omega (arith, first.size) in
      both (get_or start k d) (get_or mid k d) (get_or now k d) (first.each k d within) (second.each k d there);
}
