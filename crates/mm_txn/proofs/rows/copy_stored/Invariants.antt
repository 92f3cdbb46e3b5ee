use Rattle.std.proofs.Common.{◌≡◌, ◌++◌, List, length}
use Rattle.mm_value.specs.declared.values.Value.{Value}
use Rattle.mm_txn.proofs.rows.copy_stored.Given as goal

-- the rows read so far are after those of the buffer
abbrev pub invariant-loop-row : goal.invariant-loop-row
invariant-loop-row l = (read : List (List Value)) × (l.fn.rows ≡ read ++ l.rows) × (l.buffer ≡ l.fn.buffer ++ read)

abbrev pub decreases-loop-row : goal.decreases-loop-row
decreases-loop-row l = length l.rows
