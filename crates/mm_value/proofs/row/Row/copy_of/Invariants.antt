use Rattle.std.proofs.Common.{◌≡◌, take}
use Rattle.mm_value.proofs.row.Row.copy_of.Given as goal

-- the copies so far are the values so far
abbrev pub invariant-loop-value : goal.invariant-loop-value
invariant-loop-value l = l.copies.items ≡ take l.value-index l.values
