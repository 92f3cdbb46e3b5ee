use Rattle.std.proofs.Common.{◌≡◌, ◌∷◌, [], length, map, ◌∙◌}
use Rattle.mm_templist.specs.Pieces.{pieces}
use Rattle.mm_templist.proofs.Pieces.{single_pieces}
use Rattle.mm_templist.proofs.temp_list.TempList.of_refs.Goals as goal

pub returns : goal.returns
returns c =
    let refs = c.args.refs.items in
    let combos : pieces (length c.args.descriptor.tables.now) c.len-len.result refs ≡ map (λ at. at ∷ []) refs =
    (λ i. pieces (c.requires i) (c.len-len.ensures.value i) refs) ∙ single_pieces refs in
    λ i. record { tables = c.args.descriptor.tables.now; fields = c.args.descriptor.fields.now; combos = combos i }
