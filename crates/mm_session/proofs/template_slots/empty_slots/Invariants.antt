use Rattle.std.specs.List.{All}
use Rattle.mm_schema.specs.Schema.{Schema}
use Rattle.mm_session.specs.steps.Forms.{IsReady}
use Rattle.mm_session.proofs.template_slots.empty_slots.Given as goal

-- the slots so far are ready
abbrev pub invariant-loop : goal.invariant-loop
invariant-loop l = (schema : Schema) → All (IsReady schema) l.slots.items
