use Rattle.std.proofs.Common.{sym, subst, ◌∙◌, arith}
use Rattle.mm_partition.specs.Cells.{Fits}
use Rattle.mm_partition.proofs.CellLemmas.{types_of-set, row_of-set, Fits-set, Done-more, same_width}
use Rattle.mm_partition.proofs.sweeps.reserve_each.Goals as goal

pub returns-in_err-reserve-clause-types : goal.returns-in_err-reserve-clause-types
returns-in_err-reserve-clause-types c =
    types_of-set c.loop-i.columns.items c.loop-i.i c.index_mut.result.now c.reserve.new.self c.index_mut.ensures.value c.reserve.ensures.typed
    ∙ c.loop-i.invariant.types

pub returns-in_err-reserve-clause-rows : goal.returns-in_err-reserve-clause-rows
returns-in_err-reserve-clause-rows c k =
    row_of-set c.loop-i.columns.items c.loop-i.i k c.index_mut.result.now c.reserve.new.self c.index_mut.ensures.value (c.reserve.ensures.cells k)
    ∙ c.loop-i.invariant.rows k

pub returns-in_err-reserve-clause-stays : goal.returns-in_err-reserve-clause-stays
returns-in_err-reserve-clause-stays c slots spare all =
    Fits-set slots spare c.loop-i.columns.items c.loop-i.i c.index_mut.result.now c.reserve.new.self
    (omega (arith, same_width c.loop-i.columns.items c.args.columns.now.items c.loop-i.invariant.types)) c.index_mut.ensures.value
    c.reserve.ensures.size c.reserve.ensures.room (c.loop-i.invariant.stays slots spare all)

pub loop-i-preserved : goal.loop-i-preserved
loop-i-preserved c =
    let cs = c.loop-i.columns.items in
    let i = c.loop-i.i in
    let so_far = c.loop-i.invariant in
    let read = c.index_mut.ensures.value in
    let width = same_width cs c.args.columns.now.items so_far.types in
    record {
      types = types_of-set cs i c.index_mut.result.now c.reserve.new.self read c.reserve.ensures.typed ∙ so_far.types;
      rows = λ k. row_of-set cs i k c.index_mut.result.now c.reserve.new.self read (c.reserve.ensures.cells k) ∙ so_far.rows k;
      stays = λ slots spare all. Fits-set slots spare cs i c.index_mut.result.now c.reserve.new.self (omega (arith, width)) read
          c.reserve.ensures.size c.reserve.ensures.room (so_far.stays slots spare all);
      room = λ slots spare all.
          let old : Fits slots spare c.index_mut.result.now = subst (Fits slots spare) (sym read)
          (so_far.stays slots spare all i c.index_mut.result.now (omega (arith, width))) in
          Done-more (Fits slots c.args.n) i cs c.reserve.new.self (omega (arith, width))
          (record { size = c.reserve.ensures.size ∙ old.size; room = omega (arith, c.in_ok-reserve.ensures.ok, c.reserve.ensures.size, old.size) })
          (so_far.room slots spare all);
    }

pub returns-clause-room : goal.returns-clause-room
returns-clause-room c slots spare all k d h = c.loop-i.invariant.room slots spare all k d
    (omega (arith, same_width c.loop-i.columns.items c.args.columns.now.items c.loop-i.invariant.types)) h
