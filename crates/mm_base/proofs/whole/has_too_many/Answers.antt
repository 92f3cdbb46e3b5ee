use Rattle.std.proofs.Common.{◌≡◌, List, length, get_or, sym, ap, ◌∙◌, subst}
use Rattle.std.specs.Prelude.{nat_lt}
use Rattle.std.proofs.lemmas.List.{length-map}
use Rattle.mm_value.specs.declared.values.Value.{Value}
use Rattle.mm_schema.specs.Rows.{most_rows}
use Rattle.mm_partition.specs.Places.{slot_at}
use Rattle.mm_indexed.specs.RowLists.{rows_of}
use Rattle.mm_row_order.specs.Refs.{row_at}
use Rattle.mm_tables.specs.declared.logged_table.LoggedTable.{LoggedTable}
use Rattle.mm_base.specs.Bases.{IsWhole}
use Rattle.mm_base.proofs.InBases.{rows_at}
use Rattle.mm_base.proofs.whole.has_too_many.Goals as goal

pub returns : goal.returns
returns c =
    let tables : List LoggedTable = c.args.tables.now.tables in
    let d : LoggedTable = record { rows = c.table-rows.result.now; owed = record { key = 0; indexes = 0 } } in
    let is : c.table-rows.result.now ≡ (get_or tables c.args.table d).rows = c.table-rows.ensures d in
    ap (nat_lt most_rows)
    (c.len.ensures
    ∙ (sym (length-map c.table-rows.result.now.refs (row_at (slot_at c.table-rows.result.now.places)))
    ∙ ap (λ (rows : List (List Value)). length rows)
    (ap rows_of is ∙ rows_at tables c.args.table d c.requires.within (subst IsWhole is c.is_whole.ensures) c.requires.apart)))
