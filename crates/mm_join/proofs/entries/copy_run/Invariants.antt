use Rattle.std.proofs.Common.{◌≡◌, ◌==◌, filter, map, take}
use Rattle.mm_join.proofs.entries.copy_run.Given as goal

-- the entries so far that have the prefix were found
abbrev pub invariant-loop-entry : goal.invariant-loop-entry
invariant-loop-entry l = l.found.items ≡ map (λ entry. entry.at) (filter (λ entry. entry.prefix == l.prefix) (take l.entry-index l.entries))
