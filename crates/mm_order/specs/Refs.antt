-- Ordered lists of references.
use Rattle.std.specs.Prelude.{◌≡◌, ℕ, List, ◌∷◌, ◌++◌, All}
use Rattle.std.specs.declared.cmp.Ordering.{Ordering}
use Rattle.std.specs.declared.cmp.Ordering.TheVariants.{Less}
use Rattle.mm_value.specs.declared.row_ref.RowRef.{RowRef}

-- A collection of references: its list, and the number of further references that fit the capacity.
pub record RefList : Type 0 where
  pub refs : List RowRef
  pub spare : ℕ

-- `more` is `refs` with one more reference, after all lesser ones and before all greater ones.
pub record AddsInOrder (cmp : RowRef → RowRef → Ordering) (refs : List RowRef) (added : RowRef) (more : List RowRef) : Type 0 where
  pub front : List RowRef
  pub back : List RowRef
  pub refs_are : refs ≡ front ++ back
  pub more_are : more ≡ front ++ added ∷ back
  pub above_front : All (λ a. cmp a added ≡ Less) front
  pub below_back : All (λ a. cmp added a ≡ Less) back
