use Rattle.std.proofs.Common.{◌+◌, ◌++◌, codes, map, refl}
use Rattle.std.proofs.lemmas.Result.{err_from_is_err_and}
use Rattle.mm_value.proofs.Writing.{Writes-then, Writes-stops}
use Rattle.mm_lang.specs.QueryText.{from_text, order_text, separated}
use Rattle.mm_lang.proofs.QueryTexts.{after_fields, after_tables, query_parts}
use Rattle.mm_lang.proofs.write.query_text.write_query.Goals as goal

pub returns-in_err-write_items : goal.returns-in_err-write_items
returns-in_err-write_items g c =
    let p = err_from_is_err_and c.from_residual-in_err-write_items.result c.from_residual-in_err-write_items.ensures.1 in
    let schema = c.args.catalog.now in
    let query = c.args.query.now in
    let from = c.as_slice-from.result.now in
    let tests = c.as_slice-tests.result.now in
    Writes-then
    (query_parts schema query c.distinct_bytes.result.now c.as_slice.result.now from tests query.order c.distinct_bytes.ensures c.as_slice.ensures
    c.as_slice-from.ensures c.as_slice-tests.ensures refl)
    c.in_ok-put_all.ensures
    (Writes-stops (after_fields schema from tests query.order) refl p.1 c.in_err-write_items.ensures)

pub returns-in_err-put_all-2 : goal.returns-in_err-put_all-2
returns-in_err-put_all-2 g c =
    let p = err_from_is_err_and c.from_residual-in_err-put_all-2.result c.from_residual-in_err-put_all-2.ensures.1 in
    let schema = c.args.catalog.now in
    let query = c.args.query.now in
    let from = c.as_slice-from.result.now in
    let tests = c.as_slice-tests.result.now in
    Writes-then
    (query_parts schema query c.distinct_bytes.result.now c.as_slice.result.now from tests query.order c.distinct_bytes.ensures c.as_slice.ensures
    c.as_slice-from.ensures c.as_slice-tests.ensures refl)
    c.in_ok-put_all.ensures
    (Writes-then refl c.in_ok-write_items.ensures
    (Writes-stops (separated (codes ",") from_text from ++ after_tables schema from tests query.order) refl p.1 c.in_err-put_all-2.ensures))

pub returns-in_err-write_items-2 : goal.returns-in_err-write_items-2
returns-in_err-write_items-2 g c =
    let p = err_from_is_err_and c.from_residual-in_err-write_items-2.result c.from_residual-in_err-write_items-2.ensures.1 in
    let schema = c.args.catalog.now in
    let query = c.args.query.now in
    let from = c.as_slice-from.result.now in
    let tests = c.as_slice-tests.result.now in
    Writes-then
    (query_parts schema query c.distinct_bytes.result.now c.as_slice.result.now from tests query.order c.distinct_bytes.ensures c.as_slice.ensures
    c.as_slice-from.ensures c.as_slice-tests.ensures refl)
    c.in_ok-put_all.ensures
    (Writes-then refl c.in_ok-write_items.ensures
    (Writes-then refl c.in_ok-put_all-2.ensures (Writes-stops (after_tables schema from tests query.order) refl p.1 c.in_err-write_items-2.ensures)))

pub returns-in_err-write_tests : goal.returns-in_err-write_tests
returns-in_err-write_tests g c =
    let p = err_from_is_err_and c.from_residual-in_err-write_tests.result c.from_residual-in_err-write_tests.ensures.1 in
    let schema = c.args.catalog.now in
    let query = c.args.query.now in
    let from = c.as_slice-from.result.now in
    let tests = c.as_slice-tests.result.now in
    Writes-then
    (query_parts schema query c.distinct_bytes.result.now c.as_slice.result.now from tests query.order c.distinct_bytes.ensures c.as_slice.ensures
    c.as_slice-from.ensures c.as_slice-tests.ensures refl)
    c.in_ok-put_all.ensures
    (Writes-then refl c.in_ok-write_items.ensures
    (Writes-then refl c.in_ok-put_all-2.ensures
    (Writes-then refl c.in_ok-write_items-2.ensures
    (Writes-stops (order_text tests (map (λ column. column + 1) query.order)) refl p.1 c.in_err-write_tests.ensures))))

pub returns : goal.returns
returns g c =
    let schema = c.args.catalog.now in
    let query = c.args.query.now in
    let from = c.as_slice-from.result.now in
    let tests = c.as_slice-tests.result.now in
    Writes-then
    (query_parts schema query c.distinct_bytes.result.now c.as_slice.result.now from tests c.as_slice-2.result.now c.distinct_bytes.ensures
    c.as_slice.ensures c.as_slice-from.ensures c.as_slice-tests.ensures c.as_slice-2.ensures)
    c.in_ok-put_all.ensures
    (Writes-then refl c.in_ok-write_items.ensures
    (Writes-then refl c.in_ok-put_all-2.ensures
    (Writes-then refl c.in_ok-write_items-2.ensures (Writes-then refl c.in_ok-write_tests.ensures c.write_order.ensures))))
