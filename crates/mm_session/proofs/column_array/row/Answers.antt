use Rattle.std.proofs.Common.{◌+◌, ◌≡◌, List, Ok, map, subst, sym, take}
use Rattle.std.proofs.lemmas.Result.{err_from_is_err_and}
use Rattle.mm_value.specs.declared.values.Value.{Value}
use Rattle.mm_session.specs.ColumnArrays.{all_of, value_at}
use Rattle.mm_session.specs.declared.column_array.ColumnArray.{ColumnArray}
use Rattle.mm_session.proofs.ColumnArrays.{read_fails, read_next}
use Rattle.mm_session.proofs.column_array.row.Goals as goal

pub returns-in_err-value-clause-err : goal.returns-in_err-value-clause-err
returns-in_err-value-clause-err c =
    read_fails (λ (column : ColumnArray). value_at column c.args.at) c.args.columns.now c.loop-column.column-index _ c.loop-column.row
    c.loop-column-test.true c.loop-column.invariant c.from_residual-in_err-value.result c.in_err-value.field-0.0
    (err_from_is_err_and c.from_residual-in_err-value.result c.from_residual-in_err-value.ensures.1) c.in_err-value.ensures.err

pub loop-column-preserved : goal.loop-column-preserved
loop-column-preserved c =
    let columns = c.args.columns.now in
    let at = c.args.at in
    let i = c.loop-column.column-index in
    subst
    (λ (row : List Value). all_of (take (i + 1) (map (λ (column : ColumnArray). value_at column at) columns)) ≡ Ok row)
    (sym c.in_ok-push.ensures.ok)
    (read_next (λ (column : ColumnArray). value_at column at) columns i _ c.loop-column.row c.loop-column-test.true c.loop-column.invariant
    c.in_ok-value.field-0 c.in_ok-value.ensures.ok)
