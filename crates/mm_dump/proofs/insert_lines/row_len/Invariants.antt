use Rattle.std.proofs.Common.{◌≡◌, min, take}
use Rattle.std.specs.List.{sum_by}
use Rattle.mm_dump.proofs.Lengths.{spaced_len}
use Rattle.mm_dump.proofs.insert_lines.row_len.Given as goal

-- the bytes of the values so far, and of their separators
abbrev pub invariant-loop-i : goal.invariant-loop-i
invariant-loop-i g l = l.len ≡ min (sum_by spaced_len (take l.i (g.R.AsRow.row l.row))) 4097
