use Rattle.std.proofs.Common.{◌≡◌, map, take}
use Rattle.mm_txn.specs.Kept.{state_of}
use Rattle.mm_txn.specs.Rest.{table_listed}
use Rattle.mm_txn.proofs.listing.listed_tables.Given as goal

-- the tables so far were listed
abbrev pub invariant-loop-table : goal.invariant-loop-table
invariant-loop-table l = l.listed.items ≡ map (table_listed (state_of l.catalog l.store.tables)) (take l.table-index l.catalog.tables)
