use Rattle.std.proofs.Common.{◌≡◌, ◌++◌, length}
use Rattle.mm_templist.specs.Runs.{referred}
use Rattle.mm_standing.specs.Showing.{rows_shown, values_in_turn}
use Rattle.mm_standing.proofs.listing.push_entries.Given as goal

-- with the values of the remaining entries, all values are at the end
abbrev pub invariant-loop-row : goal.invariant-loop-row
invariant-loop-row l =
    referred l.values.items ++ values_in_turn (rows_shown l.distinct l.entries)
    ≡ referred l.fn.values.items ++ values_in_turn (rows_shown l.distinct l.fn.entries)

abbrev pub decreases-loop-row : goal.decreases-loop-row
decreases-loop-row l = length l.entries
