-- There is no slot, no count and no pair.
use Rattle.std.proofs.Common.{◌≡◌, ℕ, List, [], ◌∷◌, length, refl, sym, subst, arith}
use Rattle.std.proofs.lemmas.List.Sorted.{IsPermutation-refl}
use Rattle.std.specs.List.{IsDistinct}
use Rattle.mm_value.specs.declared.row_ref.RowRef.{RowRef}
use Rattle.mm_partition.specs.Places.{Content}
use Rattle.mm_multiset.specs.Slots.{IsKept}
use Rattle.mm_multiset.specs.Counts.{total_of}
use Rattle.mm_multiset.specs.Slots.{IsFed, entries_of}
use Rattle.mm_multiset.proofs.bag.Bag.new.Goals as goal

none_kept : IsKept [] [] []
unfolding IsDistinct
none_kept = record {
  marked = record { size = refl; each = λ i. refl };
  once = tt;
  hashed = IsPermutation-refl [];
}

empty : (slots : List Content) (counts : List ℕ) (pairs : List (ℕ × RowRef)) → slots ≡ [] → counts ≡ [] → pairs ≡ []
    → IsKept slots counts pairs × (0 ≡ total_of (entries_of slots counts))
empty slots counts pairs a b d =
    subst (λ (l : List Content). IsKept l counts pairs × (0 ≡ total_of (entries_of l counts))) (sym a)
    (subst (λ (l : List ℕ). IsKept [] l pairs × (0 ≡ total_of (entries_of [] l))) (sym b)
    (subst (λ (l : List (ℕ × RowRef)). IsKept [] [] l × (0 ≡ total_of (entries_of [] []))) (sym d) (none_kept, refl)))

nothing : {X : Type 0} (xs : List X) → length xs ≡ 0 → xs ≡ []
nothing [] none = refl
nothing (x ∷ xs) none = absurd (let no : ⊥ = omega (arith, none) in no)

pub invariant_of-result : goal.invariant_of-result
invariant_of-result c =
    let kept = empty c.in_ok-new.field-0.slots c.new-2.result.counts c.new-3.result.entries (nothing c.in_ok-new.field-0.slots c.in_ok-new.ensures.extent)
    c.new-2.ensures.counts c.new-3.ensures.entries in
    (kept.0, kept.1, subst (IsFed c.in_ok-new.field-0.slots) (sym c.new-2.ensures.feed) tt)
