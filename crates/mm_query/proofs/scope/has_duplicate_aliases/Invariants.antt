use Rattle.std.proofs.Common.{◌≡◌, drop}
use Rattle.mm_query.specs.Resolving.{has_duplicate_aliases}
use Rattle.mm_query.proofs.scope.has_duplicate_aliases.Given as goal

-- The remaining items have duplicates if and only if all of them do.
abbrev pub invariant-loop-i : goal.invariant-loop-i
invariant-loop-i l = has_duplicate_aliases (drop l.i l.from) ≡ has_duplicate_aliases l.from
