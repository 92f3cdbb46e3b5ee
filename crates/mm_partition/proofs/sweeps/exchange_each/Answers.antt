use Rattle.std.proofs.Common.{◌≡◌, length, sym, subst, ◌∙◌, arith, ◌<◌}
use Rattle.mm_partition.specs.Cells.{row_of, size_of}
use Rattle.mm_partition.proofs.CellLemmas.{same_width, length-row_of, types_of-set, row_of-set, seam-all, Fits-set, Rest-more}
use Rattle.mm_partition.proofs.ExchangeLemmas.{taken-more}
use Rattle.mm_partition.proofs.sweeps.exchange_each.Goals as goal

pub exchange-requires-clause-a : goal.exchange-requires-clause-a
exchange-requires-clause-a c =
    let read = c.index_mut.ensures.value ∙ c.loop-i.invariant.columns_rest c.loop-i.i _ (omega arith) in
    subst (λ x. c.args.a < size_of x) (sym read) (c.requires.a c.loop-i.i c.index_mut.result.now (omega arith))

pub exchange-requires-clause-b : goal.exchange-requires-clause-b
exchange-requires-clause-b c =
    let read = c.index_mut.ensures.value ∙ c.loop-i.invariant.columns_rest c.loop-i.i _ (omega arith) in
    subst (λ x. c.args.b < size_of x) (sym read) (c.requires.b c.loop-i.i c.index_mut.result.now (omega arith))

pub loop-i-preserved : goal.loop-i-preserved
loop-i-preserved c =
    let cs = c.loop-i.columns.items in
    let cs0 = c.args.columns.now.items in
    let i = c.loop-i.i in
    let so_far = c.loop-i.invariant in
    let read = c.index_mut.ensures.value in
    let column = read ∙ so_far.columns_rest i _ (omega arith) in
    let new = c.exchange.new.self in
    record {
      types = types_of-set cs i c.index_mut.result.now new read c.exchange.ensures.typed ∙ so_far.types;
      first = taken-more cs cs0 i c.args.a c.args.b c.index_mut.result.now new so_far.first (omega arith) column c.exchange.ensures.cells.first;
      second = taken-more cs cs0 i c.args.b c.args.a c.index_mut.result.now new so_far.second (omega arith) column c.exchange.ensures.cells.second;
      others = λ k not_a not_b. row_of-set cs i k c.index_mut.result.now new read (c.exchange.ensures.cells.others k not_a not_b)
          ∙ so_far.others k not_a not_b;
      fits = λ slots spare all. Fits-set slots spare cs i c.index_mut.result.now new (omega (arith, same_width cs cs0 so_far.types)) read
          c.exchange.ensures.size (omega arith) (so_far.fits slots spare all);
      columns_rest = Rest-more i cs cs0 new so_far.columns_rest;
    }

pub returns-clause-cells : goal.returns-clause-cells
returns-clause-cells c =
    let cs0 = c.args.columns.now.items in
    let same : length (row_of cs0 c.args.a) ≡ length (row_of cs0 c.args.b) = length-row_of cs0 c.args.a ∙ sym (length-row_of cs0 c.args.b) in
    record {
      first = c.loop-i.invariant.first ∙ seam-all c.loop-i.i (row_of cs0 c.args.b) (row_of cs0 c.args.a) (omega (arith, length-row_of cs0 c.args.b)) same;
      second = c.loop-i.invariant.second
          ∙ seam-all c.loop-i.i (row_of cs0 c.args.a) (row_of cs0 c.args.b) (omega (arith, length-row_of cs0 c.args.a)) (sym same);
      others = c.loop-i.invariant.others;
    }
