use Rattle.std.proofs.Common.{map}
use Rattle.std.specs.List.{flat_map}
use Rattle.mm_lang.specs.Reading.{test_literals}
use Rattle.mm_statement.specs.Filling.{blank_atom}
use Rattle.mm_statement.proofs.Refillers.{then_done, whole_refilled}
use Rattle.mm_statement.proofs.refilling.refill_atoms.Goals as goal

pub returns : goal.returns
returns c =
    then_done c.finish.result
    (λ spent. whole_refilled c.args.holes.now c.args.values.now c.new-refiller.result c.put_into_atoms.new.refiller c.new-refiller.ensures.holes
    c.new-refiller.ensures.minus_ones c.new-refiller.ensures.values spent (map blank_atom) (flat_map test_literals) c.args.atoms.now
    c.put_into_atoms.new.atoms c.in_ok-put_into_atoms.ensures) c.finish.ensures
