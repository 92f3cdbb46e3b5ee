use Rattle.std.proofs.Common.{◌≤◌, drop, length}
use Rattle.mm_dump.specs.Places.{IsPiece, parts_of}
use Rattle.mm_dump.proofs.pieces.add_piece.Given as goal

-- the bytes so far lead to the place
abbrev pub invariant-loop-part : goal.invariant-loop-part
invariant-loop-part g l = record {
  piece : IsPiece (g.S.DumpSource.state l.source) l.bytes.items l.fn.from l.place;
  fits : length l.bytes.items ≤ l.room;
}

abbrev pub decreases-loop-part : goal.decreases-loop-part
decreases-loop-part g l = length (drop l.place.part (parts_of l.catalog))
