use Rattle.std.proofs.Common.{◌≡◌, ◌++◌, map, take}
use Rattle.mm_partition.specs.Views.{viewed}
use Rattle.mm_delta.specs.Candidates.{having}
use Rattle.mm_delta.specs.Steps.{asked}
use Rattle.mm_delta.proofs.rows.add_fitting.Given as goal

abbrev pub invariant-loop-row : goal.invariant-loop-row
invariant-loop-row l =
    map viewed l.rows.items ≡ map viewed l.initial.rows.items ++ having (asked l.look_up) (map viewed (take l.row-index l.from))
