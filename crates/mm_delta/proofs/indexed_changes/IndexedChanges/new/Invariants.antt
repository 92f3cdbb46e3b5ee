use Rattle.std.proofs.Common.{◌≡◌, All}
use Rattle.mm_delta.specs.Changes.{IsCome}
use Rattle.mm_delta.specs.Edited.{edits_at}
use Rattle.mm_delta.proofs.indexed_changes.IndexedChanges.new.Given as goal

-- The indexes are of the edits of their tables, and have the new rows of these.
abbrev pub invariant-loop-place : goal.invariant-loop-place
invariant-loop-place l =
    All (λ found. found.index.edits ≡ edits_at l.changes found.table) l.indexes.items
    × All (λ found. IsCome l.view.store l.changes found.table found.index.come) l.indexes.items
