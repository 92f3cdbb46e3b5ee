use Rattle.std.proofs.Common.{ℕ, length, sym}
use Rattle.mm_query.specs.Atoms.{IsWithin}
use Rattle.mm_query.specs.declared.atom.Assignment.{Assignment}
use Rattle.mm_query.proofs.Updates.{found_holds}
use Rattle.mm_query.proofs.update.updated_value.Goals as goal

pub value_for-requires : goal.value_for-requires
value_for-requires g c =
    found_holds (λ (a : Assignment ℕ). IsWithin (length (g.R.AsRow.row c.args.row.now)) a.source) _ c.args.assignments.now c.in-Some.assignment.now c.requires
    (sym c.in-Some.ensures)
