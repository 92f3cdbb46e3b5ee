use Rattle.std.proofs.Common.{Bor, length, sym}
use Rattle.std.proofs.lemmas.List.{length-map}
use Rattle.mm_schema.specs.declared.column.Column.{Column}
use Rattle.mmdb_c.specs.Columns.{column_cell}
use Rattle.mmdb_c.proofs.ColumnLemmas.{written_of_lent}
use Rattle.mmdb_c.proofs.column.write_columns.Goals as goal

pub returns : goal.returns
returns c =
    let lent : Bor Column → Column = λ column. column.now in
    let columns = c.args.columns.now in
    record {
      written = written_of_lent column_cell lent columns c.args.cells.now c.set_columns.new.cells c.set_columns.ensures;
      count_is = sym (length-map columns lent);
    }
