-- The edits that keep the ties, and what the records of a log guarantee so that the ties can follow their undo.
use Rattle.std.specs.Prelude.{◌≡◌, ◌≢◌, ℕ, ◌<◌, List, All, length, map, slice_index, slice_set}
use Rattle.mm_foreign_key.specs.Ties.{Ties}
use Rattle.mm_indexed.specs.Twins.{AreApart}
use Rattle.mm_partition.specs.Places.{Free, Hidden}
use Rattle.mm_row_order.specs.Refs.{Slots}
use Rattle.mm_schema.specs.declared.reference.Reference.{Reference}
use Rattle.mm_tables.specs.Commands.{after, IsCommand}
use Rattle.mm_tables.specs.Edits.{put}
use Rattle.mm_tables.specs.Log.{StandsBack}
use Rattle.mm_tables.specs.Tables.{back, Holds, logged}
use Rattle.mm_tables.specs.declared.edit.Edit.{Edit}
use Rattle.mm_tables.specs.declared.edit.Edit.TheVariants.{Stage}
use Rattle.mm_tables.specs.declared.log_record.LogRecord.{LogRecord}
use Rattle.mm_value.specs.declared.row_ref.RowRef.{RowRef}
use Rattle.mm_value.specs.declared.values.Value.{Value}
use Rattle.mm_link.specs.Edited.{coming, IsTakenBack}
use Rattle.mm_link.specs.Links.{Follows, HasTargetRow, SameRows}
use Rattle.mm_link.specs.Logged.{KeepsLink, slots_at}
use Rattle.mm_link.specs.Targets.{SparesReferred}

-- The ties of a reference follow the two tables of a state.
abbrev pub FollowsIn : Reference → ℕ → List Slots → Ties → Type 0
FollowsIn reference key s ties = Follows reference.column key (slots_at s reference.from) (slots_at s reference.to) ties

-- Ties follow two tables while these have the same rows in use, so also after a row is staged or released.
abbrev pub KeptBySameRows : ℕ → Ties → Type 0
KeptBySameRows column ties = (key : ℕ) (was now then later : Slots) → SameRows was now → SameRows then later → Follows column key was then ties
    → Follows column key now later ties

-- Ties follow the target table through a command that removes no row that is referred to, and changes no key of such a row.
abbrev pub KeptByCommand : ℕ → Ties → Type 0
KeptByCommand column ties = (key : ℕ) (now then : Slots) (edits : List Edit) → IsCommand key edits then
    → All (SparesReferred column key now then) edits → Follows column key now then ties → Follows column key now (after edits then) ties

-- The records of a command of the referring table keep the link, if each new row has a target.
abbrev pub SourceRecordsKeep : Reference → Ties → Type 0
SourceRecordsKeep reference ties = (key own_key : ℕ) (s : List Slots) (edits : List Edit) → reference.from ≢ reference.to
    → reference.from < length s → IsCommand own_key edits (slots_at s reference.from)
    → All (λ e. All (HasTargetRow reference.column key (slots_at s reference.to)) (coming (slots_at s reference.from) e)) edits
    → FollowsIn reference key s ties
    → StandsBack back (KeepsLink reference key) (map (logged reference.from) edits)
    (slice_set s reference.from (after edits (slots_at s reference.from)))

-- The records of a command of the target table keep the link, if the command removes no row that is referred to, changes no key of such a
-- row, and leaves keys unique.
abbrev pub TargetRecordsKeep : Reference → Ties → Type 0
TargetRecordsKeep reference ties = (key : ℕ) (s : List Slots) (edits : List Edit) → reference.from ≢ reference.to
    → reference.to < length s → IsCommand key edits (slots_at s reference.to)
    → All (SparesReferred reference.column key (slots_at s reference.from) (slots_at s reference.to)) edits
    → FollowsIn reference key s ties → AreApart key (after edits (slots_at s reference.to))
    → StandsBack back (KeepsLink reference key) (map (logged reference.to) edits)
    (slice_set s reference.to (after edits (slots_at s reference.to)))

-- The record of a staged row keeps the link.
abbrev pub StagedRecordKeeps : Reference → Ties → Type 0
StagedRecordKeeps reference ties = (key : ℕ) (s : List Slots) (table : ℕ) (r : RowRef) (row : List Value) → reference.from ≢ reference.to
    → table < length s → slots_at s table r ≡ Free → FollowsIn reference key s ties
    → KeepsLink reference key (slice_set s table (put r (Hidden row) (slots_at s table))) (logged table (Stage r))

-- If the newest record keeps the link, then after its undo the ties can be updated if it is of the referring table, and follow the tables
-- if not.
abbrev pub FollowsUndo : Reference → Ties → Type 0
FollowsUndo reference ties = (key : ℕ) (keys : List ℕ) (s : List Slots) (r : LogRecord) → reference.from ≢ reference.to
    → key ≡ slice_index keys reference.to → Holds keys s r → KeepsLink reference key s r → FollowsIn reference key s ties
    → (r.table ≡ reference.from → IsTakenBack reference.column key (slice_index keys reference.from)
    (slots_at (back r s) reference.from) (slots_at (back r s) reference.to) r.edit ties)
    × (r.table ≢ reference.from → FollowsIn reference key (back r s) ties)
