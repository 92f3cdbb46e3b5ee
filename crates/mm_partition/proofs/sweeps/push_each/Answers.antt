use Rattle.std.proofs.Common.{◌≡◌, length, sym, subst, ap, ◌∙◌, arith, ◌+◌}
use Rattle.mm_value.specs.Types.{type_of}
use Rattle.mm_partition.specs.Cells.{row_of, Fits, cell}
use Rattle.mm_partition.proofs.CellLemmas.{type_at, length-typed, same_width, length-row_of, types_of-set, row_of-set, here-more, seam-all, Done-more}
use Rattle.mm_partition.proofs.CellLemmas.{Rest-more}
use Rattle.mm_partition.proofs.sweeps.push_each.Goals as goal

pub push-requires-clause-room : goal.push-requires-clause-room
push-requires-clause-room c =
    let read = c.index_mut.ensures.value ∙ c.loop-i.invariant.columns_rest c.loop-i.i _ (omega arith) in
    let fits = subst (Fits c.args.index 1) (sym read) (c.requires.room c.loop-i.i c.index_mut.result.now (omega arith)) in
    omega (arith, fits.size, fits.room)

pub push-requires-clause-typed : goal.push-requires-clause-typed
push-requires-clause-typed c =
    let so_far = c.loop-i.invariant in
    ap type_of (sym c.index-values-i.is)
    ∙ type_at c.args.columns.now.items c.args.values.now c.loop-i.i c.index_mut.result.now c.index-values-i.result c.requires.typed (omega arith)
    (c.index_mut.ensures.value ∙ so_far.columns_rest c.loop-i.i _ (omega arith))
    (c.index-values-i.is ∙ so_far.values_rest c.loop-i.i _ (omega arith))

pub loop-i-preserved : goal.loop-i-preserved
loop-i-preserved c =
    let cs = c.loop-i.columns.items in
    let cs0 = c.args.columns.now.items in
    let vs = c.args.values.now in
    let i = c.loop-i.i in
    let so_far = c.loop-i.invariant in
    let size : length vs ≡ length cs0 = length-typed cs0 vs c.requires.typed in
    let read = c.index_mut.ensures.value in
    let column = read ∙ so_far.columns_rest i _ (omega arith) in
    let value = c.index-values-i.is ∙ so_far.values_rest i _ (omega arith) in
    let was : Fits c.args.index 1 c.index_mut.result.now = subst (Fits c.args.index 1) (sym column) (c.requires.room i c.index_mut.result.now (omega arith)) in
    let place = was.size in
    let written : cell c.push.new.self c.args.index ≡ c.index-values-i.result = ap (λ n. cell c.push.new.self n) (sym place)
    ∙ (c.push.ensures.cells.here ∙ sym c.index-values-i.is) in
    record {
      types = types_of-set cs i c.index_mut.result.now c.push.new.self read c.push.ensures.typed ∙ so_far.types;
      here = here-more cs cs0 vs i c.args.index c.push.new.self c.index-values-i.result so_far.here (omega arith) size value written;
      others = λ k apart.
          row_of-set cs i k c.index_mut.result.now c.push.new.self read (c.push.ensures.cells.others k (λ same. apart (same ∙ place)))
          ∙ so_far.others k apart;
      fits = λ spare all.
          let old : Fits c.args.index (spare + 1) c.index_mut.result.now = subst (Fits c.args.index (spare + 1)) (sym column)
          (all i c.index_mut.result.now (omega arith)) in
          Done-more (Fits (c.args.index + 1) spare) i cs c.push.new.self (omega (arith, same_width cs cs0 so_far.types))
          (record { size = omega (arith, c.push.ensures.size, old.size); room = omega (arith, c.push.ensures.room, old.room) }) (so_far.fits spare all);
      columns_rest = Rest-more i cs cs0 c.push.new.self so_far.columns_rest;
      values_rest = Rest-more i c.loop-i.values vs c.push.new.value so_far.values_rest;
    }

pub returns-clause-here : goal.returns-clause-here
returns-clause-here c =
    let cs0 = c.args.columns.now.items in
    let vs = c.args.values.now in
    let size : length vs ≡ length cs0 = length-typed cs0 vs c.requires.typed in
    c.loop-i.invariant.here ∙ seam-all c.loop-i.i vs (row_of cs0 c.args.index) (omega (arith, size)) (length-row_of cs0 c.args.index ∙ sym size)

pub returns-clause-fits : goal.returns-clause-fits
returns-clause-fits c spare all k d h = c.loop-i.invariant.fits spare all k d
    (omega (arith, same_width c.loop-i.columns.items c.args.columns.now.items c.loop-i.invariant.types)) h
