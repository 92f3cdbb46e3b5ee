use Rattle.std.proofs.Common.{drop}
use Rattle.mm_schema.specs.Indexes.{indexes_of}
use Rattle.mm_dump.proofs.PartLists.{IsLeft}
use Rattle.mm_dump.proofs.parts.index_at.Given as goal

-- the index is sought among those of the tables that are left
abbrev pub invariant-loop-table : goal.invariant-loop-table
invariant-loop-table l = IsLeft (indexes_of l.tables) l.number (indexes_of (drop l.table-index l.tables)) l.left
