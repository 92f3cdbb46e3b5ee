use Rattle.std.proofs.Common.{◌<◌, length, sym, subst}
use Rattle.mm_indexed.proofs.Typed.{HasTypes-length}
use Rattle.mm_partition.specs.Views.{viewed}
use Rattle.mm_query.specs.Binding.{AssignmentsWithin}
use Rattle.mm_store.proofs.Joining.{some_at}
use Rattle.mm_store.specs.Tables.{IsAt, Tables}
use Rattle.mm_txn.proofs.row_edits.row_for.Goals as goal

pub updated_row-requires : goal.updated_row-requires
updated_row-requires c =
    let there = some_at c.args.store.now.tables c.args.table c.requires.there in
    let typed = c.row-row.ensures.typed there.0 (subst (λ (s : Tables). IsAt s c.args.table there.0) (sym c.view-view.ensures.store) there.1) in
    subst (λ n. AssignmentsWithin n c.args.assignments.now) (sym (HasTypes-length there.0.places.types (viewed c.row-row.result) typed))
    (c.requires.assignments there.0 there.1)
