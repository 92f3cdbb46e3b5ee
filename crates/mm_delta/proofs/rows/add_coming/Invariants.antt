use Rattle.std.proofs.Common.{◌≡◌, ◌++◌, map, take}
use Rattle.std.specs.List.{filter_map}
use Rattle.mm_indexed.specs.Kept.{StoredRows}
use Rattle.mm_partition.specs.Places.{slot_at}
use Rattle.mm_partition.specs.Views.{viewed}
use Rattle.mm_store.specs.Tables.{IsAt}
use Rattle.mm_delta.specs.Steps.{asked, coming as coming_lem}
use Rattle.mm_delta.proofs.rows.add_coming.Given as goal

abbrev pub invariant-loop-edit : goal.invariant-loop-edit
invariant-loop-edit l =
    (stored : StoredRows) → IsAt l.view.store l.table stored → map viewed l.rows.items
    ≡ map viewed l.initial.rows.items ++ filter_map (coming_lem (asked l.look_up) (slot_at stored.places)) (take l.edit-index l.edits)
