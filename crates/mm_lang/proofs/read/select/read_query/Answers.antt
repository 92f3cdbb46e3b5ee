use Rattle.std.proofs.Common.{Err, Ok}
use Rattle.std.proofs.lemmas.Result.{err_from_is_err_and}
use Rattle.mm_lang.proofs.SelectReadings.{query_distinct, query_fields, query_from, query_tables, query_no_fields, query_no_from, query_no_tables}
use Rattle.mm_lang.proofs.SelectReadings.{query_no_tests, query_no_order, query_given}
use Rattle.mm_lang.proofs.read.select.read_query.Goals as goal

pub returns-in_err-fields : goal.returns-in_err-fields
returns-in_err-fields c =
    let p = err_from_is_err_and c.from_residual.result c.from_residual.ensures.1 in
    let old = c.args.reader.now in
    let first = c.skip_keyword-distinct.new.self in
    let distinct = c.skip_keyword-distinct.result in
    rw (p.1, p.2)
    (query_distinct old first first (Err _) distinct c.skip_keyword-distinct.ensures (query_no_fields first _ distinct c.in_err-fields.ensures))

pub returns-in_err-expect_keyword : goal.returns-in_err-expect_keyword
returns-in_err-expect_keyword c =
    let p = err_from_is_err_and c.from_residual-in_err-expect_keyword.result c.from_residual-in_err-expect_keyword.ensures.1 in
    let old = c.args.reader.now in
    let first = c.skip_keyword-distinct.new.self in
    let distinct = c.skip_keyword-distinct.result in
    let second = c.read_items.new.reader in
    let fields = c.in_ok-fields.fields in
    rw (p.1, p.2)
    (query_distinct old first second (Err _) distinct c.skip_keyword-distinct.ensures
    (query_fields first second second (Err _) distinct fields c.in_ok-fields.ensures
    (query_no_from second _ distinct fields c.in_err-expect_keyword.ensures)))

pub returns-in_err-from : goal.returns-in_err-from
returns-in_err-from c =
    let p = err_from_is_err_and c.from_residual-in_err-from.result c.from_residual-in_err-from.ensures.1 in
    let old = c.args.reader.now in
    let first = c.skip_keyword-distinct.new.self in
    let distinct = c.skip_keyword-distinct.result in
    let second = c.read_items.new.reader in
    let fields = c.in_ok-fields.fields in
    let third = c.expect_keyword.new.self in
    rw (p.1, p.2)
    (query_distinct old first third (Err _) distinct c.skip_keyword-distinct.ensures
    (query_fields first second third (Err _) distinct fields c.in_ok-fields.ensures
    (query_from second third third (Err _) distinct fields c.in_ok-expect_keyword.ensures
    (query_no_tables third _ distinct fields c.in_err-from.ensures))))

pub returns-in_err-atoms : goal.returns-in_err-atoms
returns-in_err-atoms c =
    let p = err_from_is_err_and c.from_residual-in_err-atoms.result c.from_residual-in_err-atoms.ensures.1 in
    let old = c.args.reader.now in
    let first = c.skip_keyword-distinct.new.self in
    let distinct = c.skip_keyword-distinct.result in
    let second = c.read_items.new.reader in
    let fields = c.in_ok-fields.fields in
    let third = c.expect_keyword.new.self in
    let fourth = c.read_items-2.new.reader in
    let from = c.in_ok-from.from in
    rw (p.1, p.2)
    (query_distinct old first fourth (Err _) distinct c.skip_keyword-distinct.ensures
    (query_fields first second fourth (Err _) distinct fields c.in_ok-fields.ensures
    (query_from second third fourth (Err _) distinct fields c.in_ok-expect_keyword.ensures
    (query_tables third fourth fourth (Err _) distinct fields from c.in_ok-from.ensures
    (query_no_tests fourth _ distinct fields from c.in_err-atoms.ensures)))))

pub returns-in_err-order : goal.returns-in_err-order
returns-in_err-order c =
    let p = err_from_is_err_and c.from_residual-in_err-order.result c.from_residual-in_err-order.ensures.1 in
    let old = c.args.reader.now in
    let first = c.skip_keyword-distinct.new.self in
    let distinct = c.skip_keyword-distinct.result in
    let second = c.read_items.new.reader in
    let fields = c.in_ok-fields.fields in
    let third = c.expect_keyword.new.self in
    let fourth = c.read_items-2.new.reader in
    let from = c.in_ok-from.from in
    let fifth = c.read_tests.new.reader in
    rw (p.1, p.2)
    (query_distinct old first fifth (Err _) distinct c.skip_keyword-distinct.ensures
    (query_fields first second fifth (Err _) distinct fields c.in_ok-fields.ensures
    (query_from second third fifth (Err _) distinct fields c.in_ok-expect_keyword.ensures
    (query_tables third fourth fifth (Err _) distinct fields from c.in_ok-from.ensures
    (query_no_order fourth fifth distinct fields from c.in_ok-atoms.atoms c.in_ok-atoms.ensures _ c.in_err-order.ensures)))))

pub returns : goal.returns
returns c =
    let old = c.args.reader.now in
    let first = c.skip_keyword-distinct.new.self in
    let distinct = c.skip_keyword-distinct.result in
    let second = c.read_items.new.reader in
    let fields = c.in_ok-fields.fields in
    let third = c.expect_keyword.new.self in
    let fourth = c.read_items-2.new.reader in
    let from = c.in_ok-from.from in
    let fifth = c.read_tests.new.reader in
    let last = c.read_clause.new.reader in
    query_distinct old first last (Ok _) distinct c.skip_keyword-distinct.ensures
    (query_fields first second last (Ok _) distinct fields c.in_ok-fields.ensures
    (query_from second third last (Ok _) distinct fields c.in_ok-expect_keyword.ensures
    (query_tables third fourth last (Ok _) distinct fields from c.in_ok-from.ensures
    (query_given fourth fifth distinct fields from c.in_ok-atoms.atoms c.in_ok-atoms.ensures last c.in_ok-order.order c.in_ok-order.ensures))))
