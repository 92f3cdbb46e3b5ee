-- Foreign keys, with ties that follow the rows.
use Rattle.std.specs.Prelude.{◌≡◌, ◌≢◌, ℕ, ◌+◌, ◌<◌, ◌≤◌, List, [], All, length, map, None, slice_index_or}
use Rattle.mm_foreign_key.specs.Ties.{target_at}
use Rattle.mm_link.specs.Edited.{IsMade, IsTakenBack}
use Rattle.mm_link.specs.Grown.{HasGrown, HasGrownTo}
use Rattle.mm_link.specs.Laws.{FollowsIn}
use Rattle.mm_link.specs.Links.{SameSize}
use Rattle.mm_link.specs.Logged.{KeepsLink}
use Rattle.mm_link.specs.declared.link.Link.{Link}
use Rattle.mm_schema.specs.declared.reference.Reference.{Reference}
use Rattle.mm_tables.specs.Log.{StandsBack}
use Rattle.mm_tables.specs.Tables.{Shape, back, extent_in, key_in, shape_of, slots_in, state_of}
use Rattle.mm_tables.specs.declared.edit.Edit.{Edit}
use Rattle.mm_tables.specs.declared.log_record.LogRecord.{LogRecord}
use Rattle.mm_tables.specs.declared.logged_table.LoggedTable.{LoggedTable}
use Rattle.mm_value.specs.declared.col_type.ColType.{ColType}
use Rattle.mm_value.specs.declared.row_ref.RowRef.{RowRef}

-- the types of the columns of a table
abbrev pub types_at : List Shape → ℕ → List ColType
types_at shapes table = slice_index_or (map (λ (x : Shape). x.types) shapes) table []

-- The reference is of a column of a table, to a table that was created before it.
pub record IsBetween (shapes : List Shape) (reference : Reference) : Type 0 where
  pub from : reference.from < length shapes
  pub column : reference.column < length (types_at shapes reference.from)
  pub to : reference.to < reference.from

-- There is an entry for each slot of the referring table, and a count for each slot of the target table.
pub record HasEntries (tables : List LoggedTable) (link : Link) : Type 0 where
  pub referrers : extent_in tables link.reference.from ≤ length link.ties.targets
  pub targets : extent_in tables link.reference.to ≤ link.ties.extent

-- The ties of the link follow the rows of both tables.
abbrev pub FollowsRows : List LoggedTable → Link → Type 0
FollowsRows tables link = FollowsIn link.reference (key_in tables link.reference.to) (state_of tables) link.ties

-- Each record of the log keeps the link.
abbrev pub LogKeeps : List LoggedTable → List LogRecord → Link → Type 0
LogKeeps tables log link = StandsBack back (KeepsLink link.reference (key_in tables link.reference.to)) log (state_of tables)

-- The link is between two tables, its ties follow their rows, and can follow the undo of the log.
pub record IsJoined (tables : List LoggedTable) (log : List LogRecord) (link : Link) : Type 0 where
  pub between : IsBetween (map shape_of tables) link.reference
  pub entries : HasEntries tables link
  pub follows : FollowsRows tables link
  pub logged : LogKeeps tables log link

-- The link is between two tables, but its ties may not yet follow a change of one table: if this is the referring table, they are as
-- before.
pub record IsBehindIn (Behind : Link → Type 0) (table : ℕ) (tables : List LoggedTable) (log : List LogRecord) (link : Link) : Type 0 where
  pub between : IsBetween (map shape_of tables) link.reference
  pub entries : HasEntries tables link
  pub source : link.reference.from ≡ table → Behind link
  pub others : link.reference.from ≢ table → FollowsRows tables link
  pub logged : LogKeeps tables log link

-- The ties are those before the edits of a command in the referring table.
abbrev pub BehindEdits : List LoggedTable → List Edit → Link → Type 0
BehindEdits tables edits link =
    IsMade link.reference.column (key_in tables link.reference.to) (key_in tables link.reference.from) (slots_in tables link.reference.from)
    (slots_in tables link.reference.to) edits link.ties

-- The ties are those before the undo of an edit in the referring table.
abbrev pub BehindUndo : List LoggedTable → Edit → Link → Type 0
BehindUndo tables edit link =
    IsTakenBack link.reference.column (key_in tables link.reference.to) (key_in tables link.reference.from) (slots_in tables link.reference.from)
    (slots_in tables link.reference.to) edit link.ties

-- The link has the same reference, and as many entries and counts.
pub record KeepsSize (old new : Link) : Type 0 where
  pub reference : new.reference ≡ old.reference
  pub size : SameSize old.ties new.ties

-- The link was updated: its ties follow the rows, and it has as many entries and counts as before.
pub record HasFollowed (tables : List LoggedTable) (log : List LogRecord) (old new : Link) : Type 0 where
  pub kept : KeepsSize old new
  pub joined : IsJoined tables log new

-- Each slot is tied as before, and there are entries or counts for `extent` slots of a table.
pub record GrownTo (table extent : ℕ) (old new : Link) : Type 0 where
  pub grown : HasGrown old new
  pub to : HasGrownTo table extent new

-- A new link: no slot is tied, and there is a count for each slot of the target table.
pub record IsReady (tables : List LoggedTable) (link : Link) : Type 0 where
  pub untied : (at : RowRef) → target_at link.ties at ≡ None
  pub targets : extent_in tables link.reference.to ≤ link.ties.extent

-- Each link of a table has entries or counts for this number of new rows of the table.
abbrev pub HaveEntriesFor : ℕ → ℕ → List LoggedTable → List Link → Type 0
HaveEntriesFor n table tables links = All (HasGrownTo table (extent_in tables table + n)) links
