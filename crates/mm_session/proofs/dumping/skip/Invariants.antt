use Rattle.std.proofs.Common.{◌≡◌, drop}
use Rattle.mm_session.proofs.dumping.skip.Given as goal

-- this many rows were skipped
abbrev pub invariant-loop : goal.invariant-loop
invariant-loop l = l.rows ≡ drop l.counter l.fn.rows
