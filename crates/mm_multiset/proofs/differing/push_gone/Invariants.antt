use Rattle.std.proofs.Common.{pos, ◌-ℤ◌}
use Rattle.mm_multiset.specs.Counts.{count_in}
use Rattle.mm_multiset.proofs.Passing.{Passes, without_entry_in}
use Rattle.mm_multiset.proofs.differing.push_gone.Given as goal

-- the changes so far, and those of the remaining entries
abbrev pub invariant-loop-row : goal.invariant-loop-row
invariant-loop-row l = Passes (without_entry_in l.comes.entries) (λ row. pos (count_in row l.comes.entries) -ℤ pos (count_in row l.fn.goes.entries))
    l.found.items l.row-iterator
