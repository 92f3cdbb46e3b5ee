use Rattle.std.proofs.Common.{◌+◌, ◌≡◌, List, Ok, map, rules, subst, sym, take}
use Rattle.std.proofs.lemmas.Result.{err_from_is_err_and}
use Rattle.std.specs.List.{range_with_len}
use Rattle.mm_value.specs.declared.values.Value.{Value}
use Rattle.mm_session.specs.ColumnArrays.{all_of, row_at, row_count}
use Rattle.mm_session.proofs.ColumnArrays.{count_ends, count_fails, count_next}
use Rattle.mm_session.proofs.column_array.rows.Goals as goal

pub returns-in_err-row-clause-err : goal.returns-in_err-row-clause-err
returns-in_err-row-clause-err c =
    count_fails (row_at c.args.columns.now) (row_count c.args.columns.now) c.loop-at.at c.loop-at.rows c.loop-at.invariant (search rules)
    c.from_residual-in_err-row.result c.in_err-row.field-0.0
    (err_from_is_err_and c.from_residual-in_err-row.result c.from_residual-in_err-row.ensures.1) c.in_err-row.ensures.err

pub loop-at-preserved : goal.loop-at-preserved
loop-at-preserved c =
    let columns = c.args.columns.now in
    subst (λ (rows : List (List Value)). all_of (take (c.loop-at.at + 1) (map (row_at columns) (range_with_len 0 (row_count columns)))) ≡ Ok rows)
    (sym c.in_ok-push.ensures.ok)
    (count_next (row_at columns) (row_count columns) c.loop-at.at c.loop-at.rows c.loop-at.invariant (search rules) c.in_ok-row.field-0 c.in_ok-row.ensures.ok)

pub returns-clause-ok : goal.returns-clause-ok
returns-clause-ok c =
    count_ends (row_at c.args.columns.now) (row_count c.args.columns.now) c.loop-at.at c.loop-at.rows c.loop-at.invariant (search rules)
