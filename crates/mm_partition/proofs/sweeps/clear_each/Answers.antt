use Rattle.std.proofs.Common.{sym, subst, ◌∙◌, arith, ◌<◌, length}
use Rattle.mm_partition.specs.Cells.{IsEmptied, size_of}
use Rattle.mm_partition.specs.declared.columns.Column.{Column}
use Rattle.mm_partition.proofs.CellLemmas.{Done-more, same_width, types_of-set, row_of-set, Fits-set, Rest-more}
use Rattle.mm_partition.proofs.sweeps.clear_each.Goals as goal

pub clear-requires : goal.clear-requires
clear-requires c =
    let read = c.index_mut.ensures.value ∙ c.loop-i.invariant.columns_rest c.loop-i.i _ (omega arith) in
    subst (λ x. c.args.index < size_of x) (sym read) (c.requires c.loop-i.i c.index_mut.result.now (omega arith))

pub loop-i-preserved : goal.loop-i-preserved
loop-i-preserved c =
    let cs = c.loop-i.columns.items in
    let cs0 = c.args.columns.now.items in
    let i = c.loop-i.i in
    let so_far = c.loop-i.invariant in
    let read = c.index_mut.ensures.value in
    let within : i < length cs = omega (arith, same_width cs cs0 so_far.types) in
    record {
      types = types_of-set cs i c.index_mut.result.now c.clear.new.self read c.clear.ensures.typed ∙ so_far.types;
      emptied = Done-more (λ (x : Column). IsEmptied x c.args.index) i cs c.clear.new.self within c.clear.ensures.emptied so_far.emptied;
      others = λ k apart. row_of-set cs i k c.index_mut.result.now c.clear.new.self read (c.clear.ensures.cells k apart) ∙ so_far.others k apart;
      fits = λ slots spare all. Fits-set slots spare cs i c.index_mut.result.now c.clear.new.self within read
          c.clear.ensures.size
          (omega arith) (so_far.fits slots spare all);
      columns_rest = Rest-more i cs cs0 c.clear.new.self so_far.columns_rest;
    }
