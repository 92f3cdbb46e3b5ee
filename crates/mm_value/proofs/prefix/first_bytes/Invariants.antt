use Rattle.mm_value.proofs.Prefixes.{Spelled}
use Rattle.mm_value.proofs.prefix.first_bytes.Given as goal

abbrev pub invariant-loop-i : goal.invariant-loop-i
invariant-loop-i l = Spelled l.bytes l.i l.number
