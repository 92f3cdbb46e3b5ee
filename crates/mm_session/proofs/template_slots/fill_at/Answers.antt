use Rattle.std.proofs.Common.{sym, ap, ◌∙◌, arith}
use Rattle.mm_session.proofs.FilledForms.{filled_there}
use Rattle.mm_session.proofs.SlotLemmas.{line_of_slot}
use Rattle.mm_session.specs.steps.Places.{line_in}
use Rattle.mm_session.proofs.template_slots.fill_at.Goals as goal

pub returns-clause-filled : goal.returns-clause-filled
returns-clause-filled c done template at =
    let items = c.args.slots.now.items in
    let old = c.index_mut.result.now in
    filled_there c.args.database.now.schema template c.args.values.now items c.args.number c.fill_slot.new.slot (omega arith)
    (c.fill_slot.ensures.filled done template
    (sym (line_of_slot items c.args.number old (omega arith) ∙ ap line_in (sym c.index_mut.ensures.value)) ∙ at))
