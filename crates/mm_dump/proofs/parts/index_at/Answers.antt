use Rattle.std.proofs.Common.{◌+◌, ◌++◌, ap, drop, sym, ◌∙◌}
use Rattle.mm_schema.specs.Indexes.{indexes_of}
use Rattle.mm_schema.specs.declared.table.Table.{Table}
use Rattle.mm_dump.proofs.PartLists.{found_left, items_left, left_more}
use Rattle.mm_dump.proofs.parts.index_at.Goals as goal

pub returns-then-left-indexes : goal.returns-then-left-indexes
returns-then-left-indexes c =
    let tables = c.args.tables.now in
    let i = c.loop-table.table-index in
    let own = c.as_slice-indexes.result.now in
    let rest = indexes_of (drop (i + 1) tables) in
    let split = items_left (λ (table : Table). table.indexes) tables i c.table-item.result c.loop-table-test.true c.table-item.is
    ∙ ap (λ l. l ++ rest) (sym c.as_slice-indexes.ensures) in
    found_left (indexes_of tables) c.args.number own rest (indexes_of (drop i tables)) c.loop-table.left c.index-indexes-left.result split
    c.if-left-indexes.true c.index-indexes-left.is c.loop-table.invariant

pub loop-table-preserved : goal.loop-table-preserved
loop-table-preserved c =
    let tables = c.args.tables.now in
    let i = c.loop-table.table-index in
    let own = c.as_slice-indexes.result.now in
    let rest = indexes_of (drop (i + 1) tables) in
    let split = items_left (λ (table : Table). table.indexes) tables i c.table-item.result c.loop-table-test.true c.table-item.is
    ∙ ap (λ l. l ++ rest) (sym c.as_slice-indexes.ensures) in
    left_more (indexes_of tables) c.args.number own rest (indexes_of (drop i tables)) c.loop-table.left split c.if-left-indexes.false c.loop-table.invariant
