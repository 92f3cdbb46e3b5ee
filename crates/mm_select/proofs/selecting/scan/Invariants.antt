use Rattle.std.proofs.Common.{◌≡◌, ◌≤◌, ◌+◌, false, [], ◌++◌, length}
use Rattle.std.specs.List.{list_any}
use Rattle.mm_select.specs.Accesses.{asks_along}
use Rattle.mm_select.specs.Matches.{matching}
use Rattle.mm_select.specs.declared.access.Access.TheVariants as access
use Rattle.mm_select.proofs.selecting.scan.Given as goal

-- the references so far whose rows fit were found, and each was read at most once
abbrev pub invariant-loop-at : goal.invariant-loop-at
invariant-loop-at l = record {
  same : l.view.store ≡ l.fn.view.store;
  split : l.initial.at-iterator ≡ l.yielded ++ l.at-iterator;
  found : l.found.items ≡ matching l.fn.view.store l.table l.atoms [] l.yielded;
  reads : l.view.reads ≤ l.fn.view.reads + length l.yielded;
  unread : list_any (asks_along access.Scan) l.atoms ≡ false → l.view.reads ≡ l.fn.view.reads;
}
