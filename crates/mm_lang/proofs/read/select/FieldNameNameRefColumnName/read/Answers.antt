use Rattle.std.proofs.Common.{inl}
use Rattle.std.proofs.lemmas.Result.{err_from_is_err_and}
use Rattle.mm_lang.proofs.SelectReadings.{field_no_alias, field_no_dot, field_no_column, field_given}
use Rattle.mm_lang.proofs.read.select.FieldNameNameRefColumnName.read.Goals as goal

pub returns-in_err-alias : goal.returns-in_err-alias
returns-in_err-alias c =
    let p = err_from_is_err_and c.from_residual.result c.from_residual.ensures.1 in
    rw (p.1, p.2) (field_no_alias c.args.reader.now _ (inl c.in_err-alias.ensures))

pub returns-in_err-symbol : goal.returns-in_err-symbol
returns-in_err-symbol c =
    let p = err_from_is_err_and c.from_residual-in_err-symbol.result c.from_residual-in_err-symbol.ensures.1 in
    rw (p.1, p.2) (field_no_dot c.args.reader.now c.name_ref.new.self c.in_ok-alias.alias c.in_ok-alias.ensures _ c.in_err-symbol.ensures)

pub returns-in_err-column : goal.returns-in_err-column
returns-in_err-column c =
    let p = err_from_is_err_and c.from_residual-in_err-column.result c.from_residual-in_err-column.ensures.1 in
    rw (p.1, p.2)
    (field_no_column c.args.reader.now c.name_ref.new.self c.in_ok-alias.alias c.in_ok-alias.ensures c.symbol.new.self c.in_ok-symbol.ensures _
    (inl c.in_err-column.ensures))

pub returns : goal.returns
returns c =
    field_given c.args.reader.now c.name_ref.new.self c.in_ok-alias.alias c.in_ok-alias.ensures c.symbol.new.self c.in_ok-symbol.ensures c.name_ref-2.new.self
    c.in_ok-column.column c.in_ok-column.ensures
