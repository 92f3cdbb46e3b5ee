use Rattle.std.proofs.Common.{◌≡◌, ◌++◌, take}
use Rattle.mm_templist.proofs.shown.ShownRows.copy_into.Given as goal

abbrev pub invariant-loop-i : goal.invariant-loop-i
invariant-loop-i l = l.buffer ≡ l.fn.buffer ++ take l.i l.self
