use Rattle.std.specs.Io.KnownBytes.{Keeps}
use Rattle.mm_value.specs.Watched.{inner_of}
use Rattle.mm_value.proofs.device.WatchedWrite.flush.Given as goal

abbrev pub invariant-loop-flushed : goal.invariant-loop-flushed
invariant-loop-flushed g l = Keeps (g.W.Write.contents (inner_of l.fn.self)) (g.W.Write.contents (inner_of l.self))

abbrev pub decreases-loop-flushed : goal.decreases-loop-flushed
decreases-loop-flushed g l = l.retries.left
