use Rattle.mm_session.proofs.SlotLemmas.{Turned}
use Rattle.mm_session.specs.steps.Places.{forgotten}
use Rattle.mm_session.proofs.slots.forget_bound_forms.Given as goal

-- the statements so far have forgotten theirs
abbrev pub invariant-loop-slot : goal.invariant-loop-slot
invariant-loop-slot l = Turned forgotten l.fn.statements.items l.slot-items l.slot-index
