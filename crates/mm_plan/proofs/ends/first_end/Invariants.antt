use Rattle.std.proofs.Common.{◌≡◌, drop}
use Rattle.mm_plan.specs.Steps.{end_of}
use Rattle.mm_query.specs.Choosing.{first_given}
use Rattle.mm_plan.proofs.ends.first_end.Given as goal

-- the first bound of the remaining atoms is the first bound of all atoms
abbrev pub invariant-loop-atom : goal.invariant-loop-atom
invariant-loop-atom l =
    first_given (end_of l.beyond l.column) (drop l.atom-index l.atoms) ≡ first_given (end_of l.beyond l.column) l.atoms
