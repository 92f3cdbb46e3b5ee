use Rattle.std.proofs.Common.{◌≡◌, length, set, sym, subst, ap, ◌∙◌, arith, ◌<◌}
use Rattle.mm_value.specs.Types.{type_of}
use Rattle.mm_partition.specs.Cells.{row_of, size_of}
use Rattle.mm_partition.proofs.CellLemmas.{type_at, length-typed, same_width, length-row_of, types_of-set, row_of-set, here-more, cell_at, seam-more}
use Rattle.mm_partition.proofs.CellLemmas.{seam-all, Fits-set, Rest-more}
use Rattle.mm_partition.proofs.sweeps.swap_each.Goals as goal

pub swap-requires-clause-within : goal.swap-requires-clause-within
swap-requires-clause-within c =
    let so_far = c.loop-i.invariant in
    let read = c.index_mut.ensures.value ∙ so_far.columns_rest c.loop-i.i _ (omega arith) in
    subst (λ x. c.args.index < size_of x) (sym read) (c.requires.within c.loop-i.i c.index_mut.result.now (omega arith))

pub swap-requires-clause-typed : goal.swap-requires-clause-typed
swap-requires-clause-typed c =
    let so_far = c.loop-i.invariant in
    ap type_of (sym c.index-values-i.is)
    ∙ type_at c.args.columns.now.items c.args.values.now c.loop-i.i c.index_mut.result.now c.index-values-i.result c.requires.typed (omega arith)
    (c.index_mut.ensures.value ∙ so_far.columns_rest c.loop-i.i _ (omega arith))
    (c.index-values-i.is ∙ so_far.values_rest c.loop-i.i _ (omega arith))

pub loop-i-preserved : goal.loop-i-preserved
loop-i-preserved c =
    let cs = c.loop-i.columns.items in
    let cs0 = c.args.columns.now.items in
    let vs = c.args.values.now in
    let i = c.loop-i.i in
    let so_far = c.loop-i.invariant in
    let size : length vs ≡ length cs0 = length-typed cs0 vs c.requires.typed in
    let read = c.index_mut.ensures.value in
    let column = read ∙ so_far.columns_rest i _ (omega arith) in
    let value = c.index-values-i.is ∙ so_far.values_rest i _ (omega arith) in
    record {
      types = types_of-set cs i c.index_mut.result.now c.swap.new.self read c.swap.ensures.typed ∙ so_far.types;
      here = here-more cs cs0 vs i c.args.index c.swap.new.self c.index-values-i.result so_far.here (omega arith) size value
          (c.swap.ensures.cells.here ∙ sym c.index-values-i.is);
      values =
          ap (λ xs. set xs i c.swap.new.value) so_far.values
          ∙ seam-more i (row_of cs0 c.args.index) vs c.swap.new.value _ (omega (arith, length-row_of cs0 c.args.index))
          (size ∙ sym (length-row_of cs0 c.args.index))
          (c.swap.ensures.value ∙ cell_at cs0 i c.args.index c.index_mut.result.now (omega arith) column);
      others = λ k apart. row_of-set cs i k c.index_mut.result.now c.swap.new.self read (c.swap.ensures.cells.others k apart) ∙ so_far.others k apart;
      fits = λ slots spare all. Fits-set slots spare cs i c.index_mut.result.now c.swap.new.self (omega (arith, same_width cs cs0 so_far.types)) read
          c.swap.ensures.size (omega arith) (so_far.fits slots spare all);
      columns_rest = Rest-more i cs cs0 c.swap.new.self so_far.columns_rest;
      values_rest = Rest-more i c.loop-i.values vs c.swap.new.value so_far.values_rest;
    }

pub returns-clause-here : goal.returns-clause-here
returns-clause-here c =
    let cs0 = c.args.columns.now.items in
    let vs = c.args.values.now in
    let size : length vs ≡ length cs0 = length-typed cs0 vs c.requires.typed in
    c.loop-i.invariant.here ∙ seam-all c.loop-i.i vs (row_of cs0 c.args.index) (omega (arith, size)) (length-row_of cs0 c.args.index ∙ sym size)

pub returns-clause-values : goal.returns-clause-values
returns-clause-values c =
    let cs0 = c.args.columns.now.items in
    let vs = c.args.values.now in
    let size : length vs ≡ length cs0 = length-typed cs0 vs c.requires.typed in
    c.loop-i.invariant.values ∙ seam-all c.loop-i.i (row_of cs0 c.args.index) vs (omega (arith, length-row_of cs0 c.args.index))
    (size ∙ sym (length-row_of cs0 c.args.index))
