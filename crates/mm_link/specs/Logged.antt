-- What the records of a log guarantee for a link, so that they can be undone one after the other.
use Rattle.std.specs.Prelude.{◌≡◌, ℕ, slice_index_or}
use Rattle.std.specs.Prelude.{List}
use Rattle.mm_row_order.specs.Refs.{Slots}
use Rattle.mm_schema.specs.declared.reference.Reference.{Reference}
use Rattle.mm_tables.specs.Edits.{step_back}
use Rattle.mm_tables.specs.Tables.{no_slots}
use Rattle.mm_tables.specs.declared.log_record.LogRecord.{LogRecord}
use Rattle.mm_link.specs.Links.{HaveTargets}
use Rattle.mm_link.specs.Targets.{BringsUnreferred}

-- the slots of a table in a state
abbrev pub slots_at : List Slots → ℕ → Slots
slots_at state table = slice_index_or state table no_slots

-- The undo of the record keeps the link: each row in use of the referring table has a target before an edit of that table, and an edit of
-- the target table brought no row that is referred to.
pub record KeepsLink (reference : Reference) (key : ℕ) (state : List Slots) (r : LogRecord) : Type 0 where
  pub as_source : r.table ≡ reference.from
      → HaveTargets reference.column key (step_back r.edit (slots_at state reference.from)) (slots_at state reference.to)
  pub as_target : r.table ≡ reference.to
      → BringsUnreferred reference.column key (slots_at state reference.from) (slots_at state reference.to) r.edit
