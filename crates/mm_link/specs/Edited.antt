-- Edits of the referring table, made or undone, and the ties that they affect.
use Rattle.std.specs.Prelude.{◌≡◌, ◌⊎◌, ℕ, List, [], ◌∷◌, All, AllPairs}
use Rattle.mm_foreign_key.specs.Ties.{Ties, target_at}
use Rattle.mm_partition.specs.Places.{Content, Free, Live, Hidden}
use Rattle.mm_row_order.specs.Refs.{Slots, HasHidden, HasRow, row_at}
use Rattle.mm_tables.specs.Commands.{after, IsApart, IsCommand, LeavesOut}
use Rattle.mm_tables.specs.Edits.{Stands, step_back}
use Rattle.mm_tables.specs.declared.edit.Edit.{Edit}
use Rattle.mm_tables.specs.declared.edit.Edit.TheVariants.{Stage, Insert, Update, Move, Delete}
use Rattle.mm_value.specs.declared.row_ref.RowRef.{RowRef}
use Rattle.mm_value.specs.declared.values.Value.{Value}
use Rattle.mm_link.specs.Links.{Follows, HasTargetRow, HaveTargets, IsTied}

-- the row that an edit brings into use, or writes to a slot in use, before it is made
abbrev pub coming : Slots → Edit → List (List Value)
coming now (Stage r) = []
coming now (Insert r) = row_at now r ∷ []
coming now (Update a b) = row_at now b ∷ []
coming now (Move a b) = row_at now b ∷ []
coming now (Delete r) = []

-- The slot has no row in use.
abbrev pub IsOut : Content → Type 0
IsOut Free = Unit {0}
IsOut (Live row) = ⊥
IsOut (Hidden row) = Unit {0}

-- A slot gets a row in use, or loses its row.
abbrev pub Switches : Slots → Slots → RowRef → Type 0
Switches was now r = (IsOut (was r) × HasRow now r) ⊎ (HasRow was r × IsOut (now r))

-- The row in use of the first slot moved to the second slot, which is hidden before and after, and another row replaced it.
pub record Exchanges (was now : Slots) (a b : RowRef) : Type 0 where
  pub live : HasRow was a
  pub hidden : HasHidden was b
  pub came : HasRow now a
  pub went : now b ≡ Hidden (row_at was a)

-- An edit was made or undone, and changed the content of its slots.
abbrev pub Turns : Slots → Slots → Edit → Type 0
Turns was now (Stage r) = IsOut (was r) × IsOut (now r)
Turns was now (Insert r) = Switches was now r
Turns was now (Update a b) = Exchanges was now a b
Turns was now (Move a b) = Exchanges was now a b
Turns was now (Delete r) = Switches was now r

-- The edits of a command were made, and the ties are those before it. Each new row has a target.
pub record IsMade (column key own_key : ℕ) (now then : Slots) (edits : List Edit) (ties : Ties) : Type 0 where
  pub was : Slots
  pub command : IsCommand own_key edits was
  pub made : now ≡ after edits was
  pub follows : Follows column key was then ties
  pub targets : All (λ e. All (HasTargetRow column key then) (coming was e)) edits

-- The edit was undone, and the ties are those before its undo. Each row in use has a target.
pub record IsTakenBack (column key own_key : ℕ) (now then : Slots) (edit : Edit) (ties : Ties) : Type 0 where
  pub was : Slots
  pub stands : Stands own_key was edit
  pub back : now ≡ step_back edit was
  pub follows : Follows column key was then ties
  pub targets : HaveTargets column key now then

-- The slots that these edits name, each once, are tied by their old content, and all other slots by their current content.
pub record IsBehind (column key : ℕ) (now then : Slots) (edits : List Edit) (ties : Ties) : Type 0 where
  pub was : Slots
  pub turned : All (Turns was now) edits
  pub apart : AllPairs IsApart edits
  pub pending : (at : RowRef) → (All (λ e. LeavesOut e at) edits → ⊥) → IsTied column key then (was at) (target_at ties at)
  pub done : (at : RowRef) → All (λ e. LeavesOut e at) edits → IsTied column key then (now at) (target_at ties at)
  pub targets : HaveTargets column key now then

-- An edit was made or undone, and its slots are tied by their old content.
pub record IsPending (column key : ℕ) (now then : Slots) (ties : Ties) (e : Edit) : Type 0 where
  pub was : Slots
  pub turned : Turns was now e
  pub tied : (at : RowRef) → (LeavesOut e at → ⊥) → IsTied column key then (was at) (target_at ties at)

-- The slots that an edit names are tied by their content, and every other slot as before.
pub record TiesNamed (column key : ℕ) (now then : Slots) (e : Edit) (old new : Ties) : Type 0 where
  pub named : (at : RowRef) → (LeavesOut e at → ⊥) → IsTied column key then (now at) (target_at new at)
  pub others : (at : RowRef) → LeavesOut e at → target_at new at ≡ target_at old at

-- One slot is tied by its content, and every other slot as before.
pub record TiesSlot (column key : ℕ) (now then : Slots) (at : RowRef) (old new : Ties) : Type 0 where
  pub tied : IsTied column key then (now at) (target_at new at)
  pub others : (other : RowRef) → (other ≡ at → ⊥) → target_at new other ≡ target_at old other
