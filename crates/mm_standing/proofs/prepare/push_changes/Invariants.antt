use Rattle.std.proofs.Common.{◌≡◌, ◌++◌, map}
use Rattle.mm_multiset.specs.declared.signed.Signed.{Signed}
use Rattle.mm_standing.proofs.prepare.push_changes.Given as goal

-- the changes so far are at the end
abbrev pub invariant-loop-change : goal.invariant-loop-change
invariant-loop-change l = l.found.items ≡ l.fn.found.items ++ map (λ (change : Signed). record { list = l.list; change = change }) l.yielded
