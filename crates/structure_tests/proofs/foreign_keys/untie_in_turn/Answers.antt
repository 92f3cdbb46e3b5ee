use Rattle.std.proofs.Common.{arith}
use Rattle.mm_value.specs.declared.row_ref.RowRef.{RowRef}
use Rattle.structure_tests.proofs.Targets.{stays}
use Rattle.structure_tests.proofs.foreign_keys.untie_in_turn.Goals as goal

pub tie-requires-clause-untied : goal.tie-requires-clause-untied
tie-requires-clause-untied g c = c.requires.untied (record { slot = 5 })

pub tie-requires-2-clause-untied : goal.tie-requires-2-clause-untied
tie-requires-2-clause-untied g c =
    let two : RowRef = record { slot = 69 } in
    stays c.tie.ensures.tied two (omega arith) (c.requires.untied two)

pub tie-requires-3-clause-untied : goal.tie-requires-3-clause-untied
tie-requires-3-clause-untied g c =
    let three : RowRef = record { slot = 6 } in
    stays c.tie-2.ensures.tied three (omega arith) (stays c.tie.ensures.tied three (omega arith) (c.requires.untied three))

pub untie-requires : goal.untie-requires
untie-requires g c =
    let one : RowRef = record { slot = 5 } in
    let to : RowRef = record { slot = 1 } in
    (to, stays c.tie-3.ensures.tied one (omega arith) (stays c.tie-2.ensures.tied one (omega arith) c.tie.ensures.tied.changed))

pub untie-requires-2 : goal.untie-requires-2
untie-requires-2 g c =
    let two : RowRef = record { slot = 69 } in
    let to : RowRef = record { slot = 1 } in
    (to, stays c.untie.ensures.untied two (omega arith) (stays c.tie-3.ensures.tied two (omega arith) c.tie-2.ensures.tied.changed))
