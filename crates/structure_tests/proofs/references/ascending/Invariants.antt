use Rattle.std.proofs.Common.{◌≡◌, ◌<◌, length, All}
use Rattle.structure_tests.specs.Orders.{IsByPlace}
use Rattle.structure_tests.proofs.references.ascending.Given as goal

-- the references of the numbers so far are in the list, in order
abbrev pub invariant-loop-number : goal.invariant-loop-number
invariant-loop-number l = record {
  count : length l.refs.items ≡ l.number;
  ordered : IsByPlace l.refs.items;
  earlier : All (λ a. a.slot < l.number) l.refs.items;
}
