-- Links whose tables are larger, or have other places.
use Rattle.std.specs.Prelude.{◌≡◌, ℕ, ◌≤◌, length}
use Rattle.mm_foreign_key.specs.Ties.{KeepsTargets}
use Rattle.mm_schema.specs.References.{moved_up}
use Rattle.mm_link.specs.declared.link.Link.{Link}

-- Each slot is tied as before, and no entry or count is dropped.
pub record HasGrown (old new : Link) : Type 0 where
  pub reference : new.reference ≡ old.reference
  pub kept : KeepsTargets old.ties new.ties
  pub referrers : length old.ties.targets ≤ length new.ties.targets
  pub targets : old.ties.extent ≤ new.ties.extent

-- On each side that is this table, there are entries or counts for this number of slots.
pub record HasGrownTo (table extent : ℕ) (new : Link) : Type 0 where
  pub as_source : new.reference.from ≡ table → extent ≤ length new.ties.targets
  pub as_target : new.reference.to ≡ table → extent ≤ new.ties.extent

-- A table was dropped, and the places of later tables decreased by one.
pub record HasMovedUp (gone : ℕ) (old new : Link) : Type 0 where
  pub reference : new.reference ≡ moved_up gone old.reference
  pub ties : new.ties ≡ old.ties
