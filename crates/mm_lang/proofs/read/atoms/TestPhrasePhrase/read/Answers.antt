use Rattle.std.proofs.lemmas.Result.{err_from_is_err_and}
use Rattle.mm_lang.proofs.Operands.{test_no_column, test_no_comparison, test_no_operand, test_given}
use Rattle.mm_lang.proofs.read.atoms.TestPhrasePhrase.read.Goals as goal

pub returns-in_err-left : goal.returns-in_err-left
returns-in_err-left g c =
    let p = err_from_is_err_and c.from_residual.result c.from_residual.ensures.1 in
    rw (p.1, p.2) (test_no_column g.C.ColumnName.column c.args.reader.now _ c.in_err-left.ensures)

pub returns-in_err-comparison : goal.returns-in_err-comparison
returns-in_err-comparison g c =
    let p = err_from_is_err_and c.from_residual-in_err-comparison.result c.from_residual-in_err-comparison.ensures.1 in
    rw (p.1, p.2)
    (test_no_comparison g.C.ColumnName.column c.args.reader.now c.read.new.reader c.in_ok-left.left c.in_ok-left.ensures _ c.in_err-comparison.ensures)

pub returns-in_err-right : goal.returns-in_err-right
returns-in_err-right g c =
    let p = err_from_is_err_and c.from_residual-in_err-right.result c.from_residual-in_err-right.ensures.1 in
    rw (p.1, p.2)
    (test_no_operand g.C.ColumnName.column c.args.reader.now c.read.new.reader c.in_ok-left.left c.in_ok-left.ensures c.comparison.new.self
    c.in_ok-comparison.comparison c.in_ok-comparison.ensures _ c.in_err-right.ensures)

pub returns : goal.returns
returns g c =
    test_given g.C.ColumnName.column c.args.reader.now c.read.new.reader c.in_ok-left.left c.in_ok-left.ensures c.comparison.new.self
    c.in_ok-comparison.comparison c.in_ok-comparison.ensures c.read_operand.new.reader c.in_ok-right.right c.in_ok-right.ensures
