use Rattle.std.proofs.Common.{◌≡◌, ◌++◌, take}
use Rattle.mm_order.specs.Probe.{entries_between}
use Rattle.ttree.proofs.ranges.copy_fitting.Given as goal

abbrev pub invariant-loop-i : goal.invariant-loop-i
invariant-loop-i g l =
    l.out.items ≡ l.initial.out.items ++ entries_between (g.L.Probe.place_of l.low) (g.H.Probe.place_of l.high) (take l.i l.entries)
