use Rattle.std.proofs.Common.{◌∷◌, ◌++◌, [], map, take, sym, ap, ◌∙◌, append_assoc}
use Rattle.mm_value.specs.Views.{value_of}
use Rattle.mm_templist.proofs.Live.{next_of}
use Rattle.mm_templist.proofs.shown.ShownRows.copy_into.Goals as goal

pub loop-i-preserved : goal.loop-i-preserved
loop-i-preserved c =
    let row = map value_of c.row.result.now in
    c.in_ok-push.ensures.ok
    ∙ (ap (λ rows. rows ++ row ∷ []) c.loop-i.invariant
    ∙ (append_assoc c.args.buffer.now (take c.loop-i.i c.args.self.now) (row ∷ [])
    ∙ ap (λ rows. c.args.buffer.now ++ rows) (sym (next_of c.args.self.now c.loop-i.i row c.row.ensures))))
