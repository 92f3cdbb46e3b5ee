use Rattle.std.proofs.Common.{arith}
use Rattle.mmdb_c.specs.Columns.{column_cell}
use Rattle.mmdb_c.proofs.ColumnLemmas.{written_more}
use Rattle.mmdb_c.proofs.column.set_columns.Goals as goal

pub loop-i-preserved : goal.loop-i-preserved
loop-i-preserved c =
    let columns = c.args.columns.now in let i = c.loop-i.i in
    written_more (λ column. column_cell column.now) columns c.args.cells.now c.loop-i.cells i c.index-columns-i.result c.of.result
    (omega (arith, c.loop-i-test.true, c.min-i-end.ensures)) (omega (arith, c.loop-i-test.true, c.min-i-end.ensures)) c.loop-i.invariant
    c.index-columns-i.is c.of.ensures
