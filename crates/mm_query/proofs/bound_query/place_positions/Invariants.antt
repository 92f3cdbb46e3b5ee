use Rattle.std.proofs.Common.{◌≡◌, ◌-◌, map, take}
use Rattle.mm_query.proofs.bound_query.place_positions.Given as goal

abbrev pub invariant-loop-position : goal.invariant-loop-position
invariant-loop-position l = l.columns ≡ map (λ position. position - 1) (take l.position-index l.positions)
