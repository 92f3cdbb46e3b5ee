use Rattle.std.proofs.Common.{◌≡◌, ◌≤◌, drop, length}
use Rattle.std.specs.List.{prefix_len}
use Rattle.mm_template.specs.steps.Pieces.{is_passed}
use Rattle.mm_template.proofs.piece.skip_kept.Given as goal

abbrev pub invariant-loop-rest : goal.invariant-loop-rest
invariant-loop-rest l = record {
  same : drop (prefix_len (is_passed l.is_insert) l.rest) l.rest ≡ drop (prefix_len (is_passed l.is_insert) l.bytes) l.bytes;
  shorter : length l.rest ≤ length l.bytes;
}

abbrev pub decreases-loop-rest : goal.decreases-loop-rest
decreases-loop-rest l = length l.rest
