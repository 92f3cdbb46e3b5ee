use Rattle.std.proofs.Common.{arith, ◌∙◌}
use Rattle.mm_value.specs.declared.row_ref.RowRef.{RowRef}
use Rattle.structure_tests.proofs.Targets.{stays}
use Rattle.structure_tests.proofs.foreign_keys.tie_and_grow.Goals as goal

pub tie-requires-clause-untied : goal.tie-requires-clause-untied
tie-requires-clause-untied g c = c.requires.untied (record { slot = 0 })

pub tie-requires-2-clause-untied : goal.tie-requires-2-clause-untied
tie-requires-2-clause-untied g c =
    let from : RowRef = record { slot = 999 } in
    c.grow.ensures.targets from ∙ stays c.tie.ensures.tied from (omega arith) (c.requires.untied from)
