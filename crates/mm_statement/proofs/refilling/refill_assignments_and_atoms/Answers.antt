use Rattle.mm_statement.proofs.Refillers.{then_done, update_refilled}
use Rattle.mm_statement.proofs.refilling.refill_assignments_and_atoms.Goals as goal

pub returns : goal.returns
returns c =
    then_done c.finish.result
    (λ spent. λ table. update_refilled c.args.holes.now c.args.values.now c.new-refiller.result c.put_into_atoms.new.refiller c.new-refiller.ensures.holes
    c.new-refiller.ensures.minus_ones c.new-refiller.ensures.values spent c.put_into_assignments.new.refiller table c.args.assignments.now
    c.put_into_assignments.new.assignments c.args.atoms.now c.put_into_atoms.new.atoms c.in_ok-put_into_assignments.ensures
    c.in_ok-put_into_atoms.ensures) c.finish.ensures
