use Rattle.std.proofs.Common.{◌++◌, [], ◌∷◌, length, map, take, refl, sym, ap, ◌∙◌, append_assoc, arith}
use Rattle.std.proofs.lemmas.List.{append-nil, take_at}
use Rattle.std.proofs.lemmas.Result.{err_from_is_err_and}
use Rattle.mm_partition.specs.Views.{viewed}
use Rattle.mm_value.specs.Views.{value_of}
use Rattle.mm_txn.proofs.rows.copy_stored.Goals as goal

pub loop-row-init : goal.loop-row-init
loop-row-init c = ([], refl, sym (append-nil c.args.buffer.now))

pub loop-row-smaller : goal.loop-row-smaller
loop-row-smaller c = omega (arith, ap length c.in-Some.ensures)

pub loop-row-preserved : goal.loop-row-preserved
loop-row-preserved c =
    let (read, left, copied) = c.loop-row.invariant in
    let row = viewed c.in-Some.row in (
      read ++ row ∷ [],
      left ∙ (ap (λ rows. read ++ rows) c.in-Some.ensures ∙ sym (append_assoc read (row ∷ []) c.next.new.self)),
      c.in_ok-push.ensures.ok
          ∙ ((λ i. copied i ++ (ap (map value_of) c.as_slice.ensures.value ∙ c.in_ok-read_values.ensures) i ∷ [])
          ∙ append_assoc c.args.buffer.now read (row ∷ [])),
    )

pub returns-clause-ok : goal.returns-clause-ok
returns-clause-ok c =
    let (read, left, copied) = c.loop-row.invariant in
    copied ∙ ap (λ rows. c.args.buffer.now ++ rows) (sym (left ∙ (ap (λ rows. read ++ rows) c.in_default.ensures ∙ append-nil read)))

pub returns-in_err-push-clause-err : goal.returns-in_err-push-clause-err
returns-in_err-push-clause-err c =
    let (read, left, copied) = c.loop-row.invariant in
    let p = err_from_is_err_and c.from_residual-in_err-push.result c.from_residual-in_err-push.ensures.1 in
    rw p.1
    (ap (take (length c.args.buffer.now)) (c.in_err-push.ensures.err ∙ copied) ∙ take_at c.args.buffer.now read (length c.args.buffer.now) refl)

pub returns-in_err-read_values-clause-err : goal.returns-in_err-read_values-clause-err
returns-in_err-read_values-clause-err c =
    let (read, left, copied) = c.loop-row.invariant in
    let p = err_from_is_err_and c.from_residual.result c.from_residual.ensures.1 in
    rw p.1
    (ap (take (length c.args.buffer.now)) copied ∙ take_at c.args.buffer.now read (length c.args.buffer.now) refl)
