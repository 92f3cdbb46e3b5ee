use Rattle.std.proofs.Common.{◌≡◌, ◌++◌, ◌∷◌, [], length, map, sym, ap, ◌∙◌}
use Rattle.std.proofs.lemmas.List.{length-map}
use Rattle.mm_query.specs.Buffers.{part}
use Rattle.mm_query.proofs.Buffers.{parts-push}
use Rattle.mm_query.proofs.row_buffer.RowBuffer.push.Goals as goal

pub returns-in-Ok-clause-ok : goal.returns-in-Ok-clause-ok
returns-in-Ok-clause-ok g c =
    let values = c.self.inside.values.items in
    let spans = c.self.inside.spans.items in
    let row = map g.V.AsValue.value c.args.row.now in
    let span : record { start = c.len-start.result; len = length c.args.row.now } ≡ record { start = length values; len = length row } =
    λ i. record { start = (c.len-start.ensures ∙ c.self.inside.values.ok.0) i; len = sym (length-map c.args.row.now g.V.AsValue.value) i } in
    let placed : c.push_reserved.new.self.items ≡ spans ++ record { start = length values; len = length row } ∷ [] =
    c.push_reserved.ensures.items ∙ (λ i. c.reserve.ensures.items i ++ span i ∷ []) in
    (λ i. map (part (c.in-Ok.ensures.ok i)) (placed i))
    ∙ (parts-push values row spans c.self.invariant ∙ ap (λ rows. rows ++ row ∷ []) c.self.view_is)
