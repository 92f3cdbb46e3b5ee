use Rattle.std.proofs.Common.{arith, ◌∙◌}
use Rattle.std.proofs.lemmas.List.{with_items_is}
use Rattle.mm_session.proofs.SlotLemmas.{turned_all, turned_more, turned_none}
use Rattle.mm_session.specs.steps.Places.{forgotten}
use Rattle.mm_session.proofs.slots.forget_bound_forms.Goals as goal

pub loop-slot-init : goal.loop-slot-init
loop-slot-init c = turned_none forgotten c.args.statements.now.items _ c.deref_mut-slot-items.ensures.value

pub loop-slot-preserved : goal.loop-slot-preserved
loop-slot-preserved c =
    turned_more forgotten c.args.statements.now.items c.loop-slot.slot-items c.loop-slot.slot-index c.slot-item.result c.forget_bound_form.new.slot
    (omega arith) c.forget_bound_form.ensures c.loop-slot.invariant

pub returns : goal.returns
returns c =
    with_items_is c.args.statements.now c.loop-slot.slot-items (omega (arith, c.deref_mut-slot-items.ensures.len, c.loop-slot.auto.slot-items))
    ∙ turned_all forgotten c.args.statements.now.items c.loop-slot.slot-items c.loop-slot.slot-index (omega arith) c.loop-slot.invariant
