use Rattle.std.proofs.Common.{◌+◌, ◌∷◌, ◌++◌, [], subst, sym, take}
use Rattle.std.proofs.lemmas.Result.{err_from_is_err_and}
use Rattle.mmdb_c.specs.Cells.{StandFor}
use Rattle.mmdb_c.specs.declared.cell.CellError.TheVariants.{Memory, NoValue}
use Rattle.mmdb_c.proofs.CellLemmas.{same_error, stand_next, stands_at}
use Rattle.mmdb_c.proofs.cell.read_cells.Goals as goal

pub returns-in_err-value-clause-none : goal.returns-in_err-value-clause-none
returns-in_err-value-clause-none c = λ is values stand.
    let p = err_from_is_err_and c.from_residual.result c.from_residual.ensures.1 in
    let v = stands_at c.args.cells.now values c.loop-cell.cell-index _ c.loop-cell-test.true stand in
    c.in_err-value.ensures.none (same_error c.from_residual.result p.0 NoValue c.in_err-value.field-0.0 p.1 is p.2) v.0 v.1

pub returns-in_err-value-clause-memory : goal.returns-in_err-value-clause-memory
returns-in_err-value-clause-memory c = λ is.
    let p = err_from_is_err_and c.from_residual.result c.from_residual.ensures.1 in
    let v = c.in_err-value.ensures.memory (same_error c.from_residual.result p.0 Memory c.in_err-value.field-0.0 p.1 is p.2) in
    let values = c.loop-cell.values.items in (
      c.loop-cell.cell-index,
      (
        c.loop-cell-test.true,
        (
          values ++ v.0 ∷ [],
          stand_next c.args.cells.now c.loop-cell.cell-index _ values v.0 c.loop-cell-test.true c.loop-cell.invariant v.1,
        ),
      ),
    )

pub returns-in_err-push-clause-memory : goal.returns-in_err-push-clause-memory
returns-in_err-push-clause-memory c = λ is.
    let values = c.loop-cell.values.items in
    let value = c.in_ok-value.field-0 in (
      c.loop-cell.cell-index,
      (
        c.loop-cell-test.true,
        (
          values ++ value ∷ [],
          stand_next c.args.cells.now c.loop-cell.cell-index _ values value c.loop-cell-test.true c.loop-cell.invariant c.in_ok-value.ensures.ok,
        ),
      ),
    )

pub loop-cell-preserved : goal.loop-cell-preserved
loop-cell-preserved c =
    subst (λ vs. StandFor (take (c.loop-cell.cell-index + 1) c.args.cells.now) vs) (sym c.in_ok-push.ensures.items)
    (stand_next c.args.cells.now c.loop-cell.cell-index _ c.loop-cell.values.items c.in_ok-value.field-0 c.loop-cell-test.true c.loop-cell.invariant
    c.in_ok-value.ensures.ok)
