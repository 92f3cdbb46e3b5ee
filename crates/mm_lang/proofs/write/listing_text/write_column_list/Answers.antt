use Rattle.std.proofs.Common.{Err, ◌+◌, drop, refl}
use Rattle.std.specs.List.{flat_map}
use Rattle.std.proofs.lemmas.Result.{err_from_is_err_and}
use Rattle.mm_value.proofs.Writing.{Writes-then, Writes-stops}
use Rattle.mm_lang.proofs.ListingTexts.{columns_text_all, columns_text_at, next_column}
use Rattle.mm_lang.proofs.write.listing_text.write_column_list.Goals as goal

pub returns-in_err-write_next_column : goal.returns-in_err-write_next_column
returns-in_err-write_next_column g c =
    let p = err_from_is_err_and c.from_residual-in_err-write_next_column.result c.from_residual-in_err-write_next_column.ensures.1 in
    let others = c.in-Some.others.now in
    let i = c.loop-column.column-index in
    let e = columns_text_at c.args.columns.now c.in-Some.first.now others i c.column-item.result c.in-Some.ensures.cases.0 c.loop-column-test.true
    c.column-item.is in
    Writes-stops (flat_map next_column (drop (i + 1) others)) e p.1
    (Writes-then {result = Err c.in_err-write_next_column.field-0.0} refl (Writes-then refl c.in_ok-write_column.ensures c.loop-column.invariant)
    c.in_err-write_next_column.ensures)

pub returns : goal.returns
returns g c =
    Writes-then (columns_text_all c.args.columns.now c.in-Some.first.now c.in-Some.others.now c.loop-column.column-index c.in-Some.ensures.cases.0
    c.loop-column-test.false)
    c.in_ok-write_column.ensures c.loop-column.invariant
