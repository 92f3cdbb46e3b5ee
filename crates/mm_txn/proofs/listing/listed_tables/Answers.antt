-- Each table of the catalog is found by its name.
use Rattle.std.proofs.Common.{◌<◌, length, slice_index_or, ap, subst, ◌∙◌}
use Rattle.mm_txn.proofs.Placed.{there_at}
use Rattle.mm_txn.proofs.listing.listed_tables.Goals as goal

pub listed_table-requires-clause-there : goal.listed_table-requires-clause-there
listed_table-requires-clause-there c =
    there_at c.args.catalog.now.tables c.loop-table.table-index c.table-item.result c.table-item.result
    (subst (λ ts. c.loop-table.table-index < length ts) c.tables-table-items.ensures.value c.loop-table-test.true)
    (c.table-item.is ∙ ap (λ ts. slice_index_or ts c.loop-table.table-index c.table-item.result) c.tables-table-items.ensures.value)
