use Rattle.std.proofs.Common.{◌<◌, length}
use Rattle.bench_structures.proofs.in_rows.ask.Given as goal

-- the next number is one of a row, if there is any
abbrev pub invariant-loop : goal.invariant-loop
invariant-loop l = 0 < length l.refs → l.number < length l.refs
