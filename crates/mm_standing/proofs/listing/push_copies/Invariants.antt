use Rattle.std.proofs.Common.{◌≡◌, ◌++◌, replicate}
use Rattle.mm_partition.specs.Views.{viewed}
use Rattle.mm_templist.specs.Runs.{referred}
use Rattle.mm_standing.specs.Showing.{values_in_turn}
use Rattle.mm_standing.proofs.listing.push_copies.Given as goal

-- the copies so far are at the end
abbrev pub invariant-loop : goal.invariant-loop
invariant-loop l =
    referred l.values.items ≡ referred l.fn.values.items ++ values_in_turn (replicate l.counter (viewed l.row))
