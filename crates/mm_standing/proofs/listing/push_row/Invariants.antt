use Rattle.std.proofs.Common.{◌≡◌, ◌++◌, take}
use Rattle.mm_partition.specs.Views.{viewed}
use Rattle.mm_templist.specs.Runs.{referred}
use Rattle.mm_standing.proofs.listing.push_row.Given as goal

-- the values so far are at the end
abbrev pub invariant-loop-i : goal.invariant-loop-i
invariant-loop-i l = referred l.values.items ≡ referred l.fn.values.items ++ take l.i (viewed l.row)
