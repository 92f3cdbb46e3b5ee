use Rattle.std.proofs.lemmas.Result.{err_from_is_err_and}
use Rattle.mm_lang.proofs.Operands.{operand_literal, operand_no_column, operand_no_shift, operand_column}
use Rattle.mm_lang.proofs.read.atoms.read_operand.Goals as goal

pub returns-in-Some : goal.returns-in-Some
returns-in-Some g c =
    operand_literal g.C.ColumnName.column c.args.reader.now c.skip_literal.new.self c.in-Some.value (rw c.in-Some.is at c.in_ok-value.ensures)

pub returns-in_err-column-in-None : goal.returns-in_err-column-in-None
returns-in_err-column-in-None g c =
    let p = err_from_is_err_and c.from_residual-in_err-column-in-None.result c.from_residual-in_err-column-in-None.ensures.1 in
    let none = rw c.in-None.is at c.in_ok-value.ensures in
    rw (p.1, p.2)
    (operand_no_column g.C.ColumnName.column c.args.reader.now c.skip_literal.new.self none.0 none.1 _ c.in_err-column-in-None.ensures)

pub returns-in_err-shift-in-None : goal.returns-in_err-shift-in-None
returns-in_err-shift-in-None g c =
    let p = err_from_is_err_and c.from_residual-in_err-shift-in-None.result c.from_residual-in_err-shift-in-None.ensures.1 in
    let none = rw c.in-None.is at c.in_ok-value.ensures in
    rw (p.1, p.2)
    (operand_no_shift g.C.ColumnName.column c.args.reader.now c.skip_literal.new.self none.0 none.1 c.read.new.reader c.in_ok-column-in-None.column
    c.in_ok-column-in-None.ensures _ c.in_err-shift-in-None.ensures)

pub returns-in_ok-shift-in-None : goal.returns-in_ok-shift-in-None
returns-in_ok-shift-in-None g c =
    let none = rw c.in-None.is at c.in_ok-value.ensures in
    operand_column g.C.ColumnName.column c.args.reader.now c.skip_literal.new.self none.0 none.1 c.read.new.reader c.in_ok-column-in-None.column
    c.in_ok-column-in-None.ensures c.shift.new.self c.in_ok-shift-in-None.shift c.with_shift.result c.in_ok-shift-in-None.ensures c.with_shift.ensures
