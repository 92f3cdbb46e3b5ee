use Rattle.std.proofs.Common.{inl}
use Rattle.std.proofs.lemmas.Result.{err_from_is_err_and}
use Rattle.mm_lang.proofs.CommandReadings.{index_no_name, index_no_on, index_no_table, index_no_column, index_no_kind, index_given}
use Rattle.mm_lang.proofs.read.reading.read_index.Goals as goal

pub returns-in_err-name : goal.returns-in_err-name
returns-in_err-name c =
    let p = err_from_is_err_and c.from_residual.result c.from_residual.ensures.1 in
    rw (p.1, p.2) (index_no_name c.args.reader.now _ (inl c.in_err-name.ensures))

pub returns-in_err-expect_keyword : goal.returns-in_err-expect_keyword
returns-in_err-expect_keyword c =
    let p = err_from_is_err_and c.from_residual-in_err-expect_keyword.result c.from_residual-in_err-expect_keyword.ensures.1 in
    rw (p.1, p.2) (index_no_on c.args.reader.now c.name.new.self c.in_ok-name.name c.in_ok-name.ensures _ c.in_err-expect_keyword.ensures)

pub returns-in_err-table : goal.returns-in_err-table
returns-in_err-table c =
    let p = err_from_is_err_and c.from_residual-in_err-table.result c.from_residual-in_err-table.ensures.1 in
    rw (p.1, p.2)
    (index_no_table c.args.reader.now c.name.new.self c.in_ok-name.name c.in_ok-name.ensures c.expect_keyword.new.self c.in_ok-expect_keyword.ensures _
    (inl c.in_err-table.ensures))

pub returns-in_err-column : goal.returns-in_err-column
returns-in_err-column c =
    let p = err_from_is_err_and c.from_residual-in_err-column.result c.from_residual-in_err-column.ensures.1 in
    rw (p.1, p.2)
    (index_no_column c.args.reader.now c.name.new.self c.in_ok-name.name c.in_ok-name.ensures c.expect_keyword.new.self c.in_ok-expect_keyword.ensures
    c.name-2.new.self c.in_ok-table.table c.in_ok-table.ensures _ c.in_err-column.ensures)

pub returns-in_err-kind : goal.returns-in_err-kind
returns-in_err-kind c =
    let p = err_from_is_err_and c.from_residual-in_err-kind.result c.from_residual-in_err-kind.ensures.1 in
    rw (p.1, p.2)
    (index_no_kind c.args.reader.now c.name.new.self c.in_ok-name.name c.in_ok-name.ensures c.expect_keyword.new.self c.in_ok-expect_keyword.ensures
    c.name-2.new.self c.in_ok-table.table c.in_ok-table.ensures c.name_in_parentheses.new.self c.in_ok-column.column c.in_ok-column.ensures _
    c.in_err-kind.ensures)

pub returns : goal.returns
returns c =
    index_given c.args.reader.now c.name.new.self c.in_ok-name.name c.in_ok-name.ensures c.expect_keyword.new.self c.in_ok-expect_keyword.ensures
    c.name-2.new.self c.in_ok-table.table c.in_ok-table.ensures c.name_in_parentheses.new.self c.in_ok-column.column c.in_ok-column.ensures
    c.index_kind.new.self c.in_ok-kind.kind c.in_ok-kind.ensures
