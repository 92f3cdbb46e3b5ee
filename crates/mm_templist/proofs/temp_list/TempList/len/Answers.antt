use Rattle.std.proofs.Common.{length, sym, ap, ◌∙◌}
use Rattle.mm_templist.specs.Combos.{Combos}
use Rattle.mm_templist.proofs.Pieces.{length-pieces}
use Rattle.mm_templist.proofs.temp_list.TempList.len.Goals as goal

pub returns : goal.returns
returns c =
    sym (length-pieces (length c.self.inside.descriptor.tables.now) c.self.inside.len c.self.inside.refs.items)
    ∙ ap (λ (list : Combos). length list.combos) c.self.view_is
