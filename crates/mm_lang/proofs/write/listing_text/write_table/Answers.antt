use Rattle.std.proofs.Common.{◌++◌, refl, sym, ap}
use Rattle.std.specs.List.{flat_map}
use Rattle.std.proofs.lemmas.Result.{err_from_is_err_and}
use Rattle.mm_value.proofs.Writing.{Writes-then, Writes-stops}
use Rattle.mm_lang.specs.ReplyText.{index_line, table_line}
use Rattle.mm_lang.proofs.write.listing_text.write_table.Goals as goal

pub returns-in_err-write_table_line : goal.returns-in_err-write_table_line
returns-in_err-write_table_line g c =
    let p = err_from_is_err_and c.from_residual.result c.from_residual.ensures.1 in
    Writes-stops (flat_map index_line c.args.listed.now.table.indexes) refl p.1 c.in_err-write_table_line.ensures

pub returns : goal.returns
returns g c =
    Writes-then (ap (λ l. table_line c.args.listed.now ++ flat_map index_line l) (sym c.as_slice.ensures)) c.in_ok-write_table_line.ensures
    c.write_indexes.ensures
