use Rattle.std.proofs.Common.{inl}
use Rattle.std.proofs.lemmas.Result.{err_from_is_err_and}
use Rattle.mm_lang.proofs.Readings.{column_no_name, column_no_type, column_no_role, column_given}
use Rattle.mm_lang.proofs.read.columns.ColumnPhrasePhrase.read.Goals as goal

pub returns-in_err-name : goal.returns-in_err-name
returns-in_err-name c =
    let p = err_from_is_err_and c.from_residual.result c.from_residual.ensures.1 in
    rw (p.1, p.2) (column_no_name c.args.reader.now _ (inl c.in_err-name.ensures))

pub returns-in_err-col_type : goal.returns-in_err-col_type
returns-in_err-col_type c =
    let p = err_from_is_err_and c.from_residual-in_err-col_type.result c.from_residual-in_err-col_type.ensures.1 in
    rw (p.1, p.2) (column_no_type c.args.reader.now c.name.new.self c.in_ok-name.name _ c.in_ok-name.ensures c.in_err-col_type.ensures)

pub returns-in_err-role : goal.returns-in_err-role
returns-in_err-role c =
    let p = err_from_is_err_and c.from_residual-in_err-role.result c.from_residual-in_err-role.ensures.1 in
    rw (p.1, p.2)
    (column_no_role c.args.reader.now c.name.new.self c.col_type.new.self c.in_ok-name.name c.in_ok-col_type.col_type _ c.in_ok-name.ensures
    c.in_ok-col_type.ensures c.in_err-role.ensures)

pub returns : goal.returns
returns c =
    column_given c.args.reader.now c.name.new.self c.col_type.new.self c.read_role.new.reader c.in_ok-name.name c.in_ok-col_type.col_type c.in_ok-role.role
    c.in_ok-name.ensures c.in_ok-col_type.ensures c.in_ok-role.ensures
