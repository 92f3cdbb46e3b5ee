use Rattle.std.specs.Io.{ReadsAtMost}
use Rattle.std.specs.Io.KnownBytes.{ReadConsumes}
use Rattle.mm_value.specs.Watched.{inner_of}
use Rattle.mm_value.proofs.device.WatchedRead.read.Given as goal

-- the calls so far had the effect of the last one
abbrev pub invariant-loop-given : goal.invariant-loop-given
invariant-loop-given g l = record {
  bound : ReadsAtMost l.given l.buf;
  bytes : ReadConsumes (g.R.Read.remaining (inner_of l.fn.self)) (g.R.Read.remaining (inner_of l.self)) l.given l.buf;
}

abbrev pub decreases-loop-given : goal.decreases-loop-given
decreases-loop-given g l = l.retries.left
