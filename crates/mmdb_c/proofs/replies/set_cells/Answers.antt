use Rattle.std.proofs.Common.{◌≡◌, ◌+◌, ◌++◌, [], ◌∷◌, arith, ap, slice_set, subst, sym, take, ◌∙◌}
use Rattle.std.proofs.lemmas.List.{take_more, length-take-le}
use Rattle.mmdb_c.specs.steps.Reading.{WritesCells}
use Rattle.mmdb_c.proofs.CellLemmas.{set_more}
use Rattle.mmdb_c.proofs.replies.set_cells.Goals as goal

pub loop-i-preserved : goal.loop-i-preserved
loop-i-preserved c =
    let row = c.args.row.now in let i = c.loop-i.i in let value = c.index-row-i.result in
    let after = slice_set c.loop-i.cells (c.args.place + i) c.set.new.self in
    let more : take (i + 1) row ≡ take i row ++ value ∷ [] = take_more row i value c.loop-i-test.true ∙ ap (λ v. take i row ++ v ∷ []) (sym c.index-row-i.is) in
    subst (λ values. WritesCells c.args.place values c.args.cells.now after) (sym more)
    (set_more c.args.cells.now c.loop-i.cells c.args.place i (take i row) c.set.new.self value
    (sym (length-take-le i row (omega (arith, c.loop-i-test.true)))) (omega (arith, c.requires, c.loop-i-test.true, c.loop-i.auto.cells))
    c.loop-i.invariant c.set.ensures)
