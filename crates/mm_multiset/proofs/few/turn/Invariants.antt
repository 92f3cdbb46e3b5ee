use Rattle.mm_multiset.proofs.Turning.{AreTurned}
use Rattle.mm_multiset.proofs.few.turn.Given as goal

-- the changes so far are negated, and the others are unchanged
abbrev pub invariant-loop-change : goal.invariant-loop-change
invariant-loop-change l = AreTurned l.change-index l.initial.change-items l.change-items
