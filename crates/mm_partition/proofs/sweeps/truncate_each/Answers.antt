use Rattle.std.proofs.Common.{sym, subst, ◌∙◌, arith, ◌<◌, ◌≤◌, length}
use Rattle.mm_partition.specs.Cells.{Fits, size_of}
use Rattle.mm_partition.proofs.CellLemmas.{Done-more, same_width, types_of-set, row_of-set, Rest-more}
use Rattle.mm_partition.proofs.sweeps.truncate_each.Goals as goal

pub truncate-requires : goal.truncate-requires
truncate-requires c =
    let read = c.index_mut.ensures.value ∙ c.loop-i.invariant.columns_rest c.loop-i.i _ (omega arith) in
    subst (λ x. c.args.n ≤ size_of x) (sym read) (c.requires c.loop-i.i c.index_mut.result.now (omega arith))

pub loop-i-preserved : goal.loop-i-preserved
loop-i-preserved c =
    let cs = c.loop-i.columns.items in
    let cs0 = c.args.columns.now.items in
    let i = c.loop-i.i in
    let so_far = c.loop-i.invariant in
    let read = c.index_mut.ensures.value in
    let within : i < length cs = omega (arith, same_width cs cs0 so_far.types) in
    record {
      types = types_of-set cs i c.index_mut.result.now c.truncate.new.self read c.truncate.ensures.typed ∙ so_far.types;
      rows = λ k below. row_of-set cs i k c.index_mut.result.now c.truncate.new.self read (c.truncate.ensures.cells k below) ∙ so_far.rows k below;
      fits = Done-more (Fits c.args.n 0) i cs c.truncate.new.self within
          (record { size = c.truncate.ensures.size; room = omega (arith, c.truncate.ensures.size, c.truncate.ensures.room) }) so_far.fits;
      columns_rest = Rest-more i cs cs0 c.truncate.new.self so_far.columns_rest;
    }

pub returns-clause-fits : goal.returns-clause-fits
returns-clause-fits c k d h = c.loop-i.invariant.fits k d
    (omega (arith, same_width c.loop-i.columns.items c.args.columns.now.items c.loop-i.invariant.types)) h
