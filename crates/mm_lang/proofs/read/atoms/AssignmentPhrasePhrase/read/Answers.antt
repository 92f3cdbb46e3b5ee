use Rattle.std.proofs.Common.{inl}
use Rattle.std.proofs.lemmas.Result.{err_from_is_err_and}
use Rattle.mm_lang.proofs.Operands.{assignment_no_name, assignment_no_equal, assignment_no_operand, assignment_given}
use Rattle.mm_lang.proofs.read.atoms.AssignmentPhrasePhrase.read.Goals as goal

pub returns-in_err-column : goal.returns-in_err-column
returns-in_err-column c =
    let p = err_from_is_err_and c.from_residual.result c.from_residual.ensures.1 in
    rw (p.1, p.2) (assignment_no_name c.args.reader.now _ (inl c.in_err-column.ensures))

pub returns-in_err-symbol : goal.returns-in_err-symbol
returns-in_err-symbol c =
    let p = err_from_is_err_and c.from_residual-in_err-symbol.result c.from_residual-in_err-symbol.ensures.1 in
    rw (p.1, p.2) (assignment_no_equal c.args.reader.now c.name_ref.new.self c.in_ok-column.column c.in_ok-column.ensures _ c.in_err-symbol.ensures)

pub returns-in_err-source : goal.returns-in_err-source
returns-in_err-source c =
    let p = err_from_is_err_and c.from_residual-in_err-source.result c.from_residual-in_err-source.ensures.1 in
    rw (p.1, p.2)
    (assignment_no_operand c.args.reader.now c.name_ref.new.self c.in_ok-column.column c.in_ok-column.ensures c.symbol.new.self c.in_ok-symbol.ensures _
    c.in_err-source.ensures)

pub returns : goal.returns
returns c =
    assignment_given c.args.reader.now c.name_ref.new.self c.in_ok-column.column c.in_ok-column.ensures c.symbol.new.self c.in_ok-symbol.ensures
    c.read_operand.new.reader c.in_ok-source.source c.in_ok-source.ensures
