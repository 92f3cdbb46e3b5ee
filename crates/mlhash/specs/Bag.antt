-- The model of a `HashRefs`.
use Rattle.std.specs.Prelude.{◌≡◌, ℕ, ◌-◌, ◌^◌, ◌<◌, ◌==◌, List, ◌++◌, map, filter, IsPermutation}
use Rattle.mm_value.specs.declared.row_ref.RowRef.{RowRef}

-- The pairs of a hash and a reference, with multiplicity and in no specified order, and the capacity for more pairs.
pub record Bag : Type 0 where
  pub entries : List (ℕ × RowRef)
  pub spare : ℕ

-- A reference that is not the greatest, which marks a free node.
abbrev pub IsSmall : RowRef → Type 0
IsSmall r = r.slot < 2 ^ 32 - 1

-- The references of all pairs.
abbrev pub all_refs : List (ℕ × RowRef) → List RowRef
all_refs entries = map (λ e. e.1) entries

-- The references of the pairs with this hash.
abbrev pub refs_of : ℕ → List (ℕ × RowRef) → List RowRef
refs_of hash entries = all_refs (filter (λ e. e.0 == hash) entries)

-- The new list is the old one, followed by the added elements in some order.
pub record AppendsInSomeOrder (old new added : List RowRef) : Type 0 where
  pub behind : List RowRef
  pub appends : new ≡ old ++ behind
  pub same_bag : IsPermutation behind added
