use Rattle.std.proofs.Common.{◌+◌, ◌<◌, ◌≤◌, All}
use Rattle.structure_tests.specs.Orders.{IsByPlace}
use Rattle.structure_tests.proofs.orders.put_17.Given as goal

-- the references below n are in the list, in order, and there is capacity for the others
abbrev pub invariant-loop-n : goal.invariant-loop-n
invariant-loop-n g l = record {
  room : 18 ≤ l.n + l.refs.spare;
  ordered : IsByPlace l.refs.refs;
  earlier : All (λ a. a.slot < l.n) l.refs.refs;
}
