-- All fields were read.
use Rattle.std.proofs.Common.{◌≡◌, Some, map, sym, ap, ◌∙◌}
use Rattle.std.proofs.lemmas.List.{take_all}
use Rattle.mm_query.specs.Queries.{values_of}
use Rattle.mm_templist.specs.Combos.{rows_of_combo}
use Rattle.mm_standing.proofs.Found.{projected_at}
use Rattle.mm_standing.proofs.watching.row_read.Goals as goal

pub returns-clause-row : goal.returns-clause-row
returns-clause-row c =
    let store = c.args.view.now.store in
    let combo = c.combo-combo.result.now in
    let descriptor = c.descriptor.ensures in
    let all = take_all c.loop-field.field-index c.descriptor.result.fields.now c.loop-field-test.false ∙ descriptor.fields in
    projected_at store c.args.list.now c.args.i combo c.combo-combo.ensures
    ∙ ap Some (sym (c.new.ensures
    ∙ (c.loop-field.invariant.values ∙ (λ k. values_of (all k) (map Some (rows_of_combo store (descriptor.tables k) combo))))))
