use Rattle.std.proofs.Common.{◌++◌, codes, sym, ap}
use Rattle.std.proofs.lemmas.Result.{err_from_is_err_and}
use Rattle.mm_value.proofs.Writing.{Writes-then, Writes-stops}
use Rattle.mm_lang.specs.ReplyText.{rows_listed}
use Rattle.mm_lang.proofs.write.listing_text.write_query.Goals as goal

pub returns-in_err-write_two : goal.returns-in_err-write_two
returns-in_err-write_two g c =
    let p = err_from_is_err_and c.from_residual.result c.from_residual.ensures.1 in
    Writes-stops (rows_listed c.args.listed.now.rows) (ap (λ n. codes "WATCH " ++ n ++ rows_listed c.args.listed.now.rows) (sym c.bytes.ensures.value)) p.1
    c.in_err-write_two.ensures

pub returns : goal.returns
returns g c =
    Writes-then (ap (λ n. codes "WATCH " ++ n ++ rows_listed c.args.listed.now.rows) (sym c.bytes.ensures.value)) c.in_ok-write_two.ensures
    c.write_count.ensures
