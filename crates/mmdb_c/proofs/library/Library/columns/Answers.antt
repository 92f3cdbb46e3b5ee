use Rattle.std.proofs.Common.{List, Bor, inl, map, refl, subst}
use Rattle.mm_session.specs.Columns.{AreColumnsOf}
use Rattle.mm_schema.specs.declared.column.Column.{Column}
use Rattle.mmdb_c.specs.Columns.{WritesColumns}
use Rattle.mmdb_c.proofs.library.Library.columns.Goals as goal

pub returns : goal.returns
returns c =
    let lent : Bor Column → Column = λ column. column.now in let found = c.in-Ok.columns.items in
    let tells = subst (λ (columns : List (Bor Column)). WritesColumns (map lent columns) c.args.cells.now c.write_columns.new.cells c.write_columns.new.count)
    c.as_slice.ensures.value c.write_columns.ensures in
    let are = subst (λ session. AreColumnsOf c.args.line.now session.state (map lent found)) c.self.view_is (c.in-Ok.ensures).ok in
    (refl, inl (map lent found, are, tells, refl))
