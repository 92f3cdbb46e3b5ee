-- Writing a dump, piece by piece.
use Rattle.std.specs.Prelude.{◌≡◌, ◌≢◌, ◌⊎◌, ℕ, ◌<◌, ◌≤◌, List, [], length}
use Rattle.mm_value.specs.Refusals.{refusal_number}
use Rattle.mm_value.specs.declared.refusal.Refusal.TheVariants.{Memory}
use Rattle.mm_dump.specs.Places.{IsPiece, dump_rest, dump_start}
use Rattle.mm_dump.specs.declared.place.DumpPlace.{DumpPlace}
use Rattle.mm_session.specs.Session.{SessionState}
use Rattle.mmdb_c.specs.Copying.{CopiesFront}
use Rattle.mmdb_c.specs.Statuses.{done, misuse}
use Rattle.mmdb_c.specs.declared.dumping.DumpCell.{DumpCell}

-- The place in the dump.
abbrev pub place_in : DumpCell → DumpPlace
place_in cell = record { part = cell.part; row = cell.row }

-- A piece of the dump was written, and the place moved after it. The piece has no bytes only at the end of the dump.
pub record GivesPiece (from to : DumpCell) (out_old out_new : List ℕ) (size status : ℕ) (session : SessionState) : Type 0 where
  pub piece : List ℕ
  pub is : IsPiece session.state piece (place_in from) (place_in to)
  pub ends : piece ≡ [] → dump_rest session.state (place_in from) ≡ []
  pub fits : length piece ≤ length out_old
  pub copied : CopiesFront piece out_old out_new
  pub size_is : size ≡ length piece
  pub status_is : status ≡ done

-- No piece was written: there are fewer bytes than a line may have, the dump cannot continue, or an allocation failed.
abbrev pub GivesNone : DumpCell → List ℕ → ℕ → Type 0
GivesNone from out status =
    ((status ≡ misuse) × ((length out < 4097) ⊎ (place_in from ≢ dump_start))) ⊎ (status ≡ refusal_number Memory)

-- The next piece of the dump was written; or none was, and nothing changed.
abbrev pub Dumps : DumpCell → DumpCell → List ℕ → List ℕ → ℕ → ℕ → ℕ → SessionState → SessionState → Type 0
Dumps from to out_old out_new size_old size_new status old new =
    (new ≡ old) × (GivesPiece from to out_old out_new size_new status old
    ⊎ ((to ≡ from) × (out_new ≡ out_old) × (size_new ≡ size_old) × GivesNone from out_old status))
