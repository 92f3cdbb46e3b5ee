-- If no value is required, all new rows are read.
use Rattle.std.proofs.Common.{None, ◌++◌, map, ap, ◌∙◌}
use Rattle.mm_partition.specs.Places.{slot_at}
use Rattle.mm_partition.specs.Views.{viewed}
use Rattle.mm_store.specs.Edits.{rows_come}
use Rattle.mm_delta.specs.Candidates.{having}
use Rattle.mm_delta.proofs.Refs.{filter_everything}
use Rattle.mm_delta.proofs.edit_index.EditIndex.new.Goals as goal

pub returns-clause-come : goal.returns-clause-come
returns-clause-come c = λ stored at.
    c.in_ok-add_coming.ensures stored at
    ∙ ap (λ l. map viewed l ++ having None (rows_come (slot_at stored.places) c.args.edits.now)) c.new-come.ensures.items
    ∙ filter_everything (rows_come (slot_at stored.places) c.args.edits.now)
