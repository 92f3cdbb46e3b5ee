use Rattle.std.proofs.Common.{◌≡◌, ◌≤◌}
use Rattle.arrayvec.specs.ArrayVec.{array_vec_len}
use Rattle.mm_delta.specs.Walk.{other_places as other_places_lem}
use Rattle.mm_delta.proofs.walk.other_places.Given as goal

-- the places so far except the one, whose number is within the bound
abbrev pub invariant-loop-j : goal.invariant-loop-j
invariant-loop-j l = (l.others.items ≡ other_places_lem l.j l.place) × (array_vec_len l.others ≤ l.j)
