use Rattle.std.proofs.Common.{◌≡◌, take}
use Rattle.mm_templist.proofs.results.copy_rows.Given as goal

abbrev pub invariant-loop-i : goal.invariant-loop-i
invariant-loop-i l = l.rows.items ≡ take l.i l.shown
