use Rattle.std.proofs.Common.{◌++◌, ◌∷◌, [], sym, ◌∙◌}
use Rattle.mm_templist.specs.Runs.{referred}
use Rattle.mm_templist.proofs.Live.{next_of}
use Rattle.mm_templist.proofs.results.copy_rows.Goals as goal

pub loop-i-preserved : goal.loop-i-preserved
loop-i-preserved c =
    c.in_ok-push.ensures.items
    ∙ ((λ k. c.loop-i.invariant k ++ c.in_ok-copy_row.ensures k ∷ [])
    ∙ sym (next_of c.args.shown.now c.loop-i.i (referred c.row.result.now) c.row.ensures))
