use Rattle.std.proofs.Common.{ℕ, List, Option}
use Rattle.std.specs.Io.{WritesAtMost}
use Rattle.std.specs.Io.KnownBytes.{WriteAppends}
use Rattle.mm_value.specs.Watched.{inner_of}
use Rattle.mm_value.proofs.device.Watched.write_again.Given as goal

-- the calls so far had the effect of the last one
abbrev pub invariant-loop-outcome : goal.invariant-loop-outcome
invariant-loop-outcome g l = record {
  bound : WritesAtMost l.outcome l.buf;
  bytes : (before : Option (List ℕ)) → WriteAppends before (g.W.Write.contents (inner_of l.fn.self)) l.fn.first l.buf
      → WriteAppends before (g.W.Write.contents (inner_of l.self)) l.outcome l.buf;
}

abbrev pub decreases-loop-outcome : goal.decreases-loop-outcome
decreases-loop-outcome g l = l.retries.left
