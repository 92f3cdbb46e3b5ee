-- The savepoints of a transaction: each with the lengths of the logs when it was set.
use Rattle.std.specs.Prelude.{ℕ, ◌≤◌, List, [], ◌∷◌}
use Rattle.mm_txn.specs.declared.savepoints.Mark.{Mark}

-- The marks are in the order in which they were set, between two pairs of lengths of the logs.
abbrev pub Ascend : ℕ → ℕ → List Mark → ℕ → ℕ → Type 0
Ascend commands changes [] most_commands most_changes = (commands ≤ most_commands) × (changes ≤ most_changes)
Ascend commands changes (mark ∷ marks) most_commands most_changes =
    (commands ≤ mark.commands) × (changes ≤ mark.changes) × Ascend mark.commands mark.changes marks most_commands most_changes
