use Rattle.std.proofs.Common.{◌≡◌, take}
use Rattle.mm_templist.specs.Runs.{referred}
use Rattle.mm_templist.proofs.results.copy_row.Given as goal

abbrev pub invariant-loop-value : goal.invariant-loop-value
invariant-loop-value l = l.row.items ≡ referred (take l.value-index l.values)
