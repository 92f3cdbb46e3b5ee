use Rattle.std.proofs.Common.{◌≡◌, drop, map}
use Rattle.mm_txn.specs.PlacedEdits.{edits_at, placed}
use Rattle.mm_txn.proofs.cascades.removals_of.Given as goal

-- none of the tables so far is at the place
abbrev pub invariant-loop-removals : goal.invariant-loop-removals
invariant-loop-removals l = edits_at (map placed (drop l.removals-index l.cascaded)) l.place ≡ edits_at (map placed l.cascaded) l.place
