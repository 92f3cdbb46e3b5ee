use Rattle.std.proofs.Common.{◌++◌, codes, sym, ap}
use Rattle.std.proofs.lemmas.Result.{err_from_is_err_and}
use Rattle.mm_value.proofs.Writing.{Writes-then, Writes-stops}
use Rattle.mm_lang.specs.ReplyText.{columns_text}
use Rattle.mm_lang.proofs.write.listing_text.write_table_definition.Goals as goal

pub returns-in_err-write_two : goal.returns-in_err-write_two
returns-in_err-write_two g c =
    let p = err_from_is_err_and c.from_residual.result c.from_residual.ensures.1 in
    let columns = codes " (" ++ columns_text c.args.definition.now.columns ++ codes ")" in
    Writes-stops columns (ap (λ name. codes "TABLE " ++ name ++ columns) (sym c.bytes.ensures.value)) p.1 c.in_err-write_two.ensures

pub returns : goal.returns
returns g c =
    Writes-then (λ i. codes "TABLE " ++ sym c.bytes.ensures.value i ++ (codes " (" ++ columns_text (sym c.as_slice.ensures.value i) ++ codes ")"))
    c.in_ok-write_two.ensures c.write_columns.ensures
