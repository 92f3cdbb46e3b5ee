use Rattle.std.proofs.Common.{Err, ◌+◌, drop, refl}
use Rattle.std.specs.List.{flat_map}
use Rattle.std.proofs.lemmas.Result.{err_from_is_err_and}
use Rattle.mm_value.proofs.Writing.{Writes-then, Writes-stops}
use Rattle.mm_lang.specs.ReplyText.{query_line}
use Rattle.mm_lang.proofs.ListingTexts.{Writes-as, texts_all, texts_at}
use Rattle.mm_lang.proofs.write.listing_text.write_queries.Goals as goal

pub returns-in_err-write_query : goal.returns-in_err-write_query
returns-in_err-write_query g c =
    let p = err_from_is_err_and c.from_residual.result c.from_residual.ensures.1 in
    let queries = c.args.queries.now in
    let i = c.loop-query.query-index in
    Writes-stops (flat_map query_line (drop (i + 1) queries))
    (texts_at query_line queries i c.query-item.result c.loop-query-test.true c.query-item.is) p.1
    (Writes-then {result = Err c.in_err-write_query.field-0.0} refl c.loop-query.invariant c.in_err-write_query.ensures)

pub returns : goal.returns
returns g c = Writes-as (texts_all query_line c.args.queries.now c.loop-query.query-index c.loop-query-test.false) c.loop-query.invariant
