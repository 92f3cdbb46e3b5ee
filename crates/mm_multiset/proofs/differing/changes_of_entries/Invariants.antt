use Rattle.mm_multiset.proofs.Passing.{Passes, brought, less_count_in}
use Rattle.mm_multiset.proofs.differing.changes_of_entries.Given as goal

-- the changes of the entries so far, and of the remaining entries
abbrev pub invariant-loop-row : goal.invariant-loop-row
invariant-loop-row l = Passes (less_count_in l.goes.entries) (λ row. brought (less_count_in l.goes.entries) row l.comes.entries) l.found.items l.row-iterator
