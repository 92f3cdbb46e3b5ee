-- Sets of slots.
use Rattle.std.specs.Prelude.{◌≡◌, ◌≢◌, ℕ, suc, ◌<◌, ◌≤◌, ◌==◌, Bool, true, false, if◌then◌else◌, List}
use Rattle.std.specs.Prelude.{[], ◌∷◌, length, map, slice_index_or, slice_set, ◌⊎◌, IsPermutation}

-- A set of slots: whether each slot below the extent is a member, and the number of further slots that need no allocation.
pub record Flags : Type 0 where
  pub has : List Bool
  pub room : ℕ

-- The indices of the flags that are set, if the first flag has this index.
abbrev pub indices_from : ℕ → List Bool → List ℕ
indices_from i [] = []
indices_from i (flag ∷ flags) = if flag then i ∷ indices_from (suc i) flags else indices_from (suc i) flags

-- The place of a slot that is not a member.
abbrev pub absent : ℕ
absent = 4294967295

-- The place is that of a member.
abbrev pub is_present : ℕ → Bool
is_present place = if place == absent then false else true

-- The members are the slots that have a place, each at its place.
pub record IsPlaced (members places : List ℕ) : Type 0 where
  pub few : length places ≤ absent
  pub order : IsPermutation members (indices_from 0 (map is_present places))
  pub placed : (i : ℕ) → slice_index_or places i absent ≢ absent
      → (slice_index_or places i absent < length members) × (slice_index_or members (slice_index_or places i absent) absent ≡ i)

-- The member that is now at a place, if any, has this place; no other place changes.
abbrev pub IsMoveTold : List ℕ → ℕ → List ℕ → List ℕ → Type 0
IsMoveTold members place old new =
    ((m : ℕ) × (place < length members) × (m ≡ slice_index_or members place absent) × (new ≡ slice_set old m place))
    ⊎ ((length members ≤ place) × (new ≡ old))
