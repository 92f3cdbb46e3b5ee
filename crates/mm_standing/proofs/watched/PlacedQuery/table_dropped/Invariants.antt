use Rattle.std.proofs.Common.{◌≡◌}
use Rattle.mm_schema.specs.References.{above}
use Rattle.mm_standing.proofs.InPlace.{changed_to}
use Rattle.mm_standing.proofs.watched.PlacedQuery.table_dropped.Given as goal

abbrev pub invariant-loop-table : goal.invariant-loop-table
invariant-loop-table l = l.table-items ≡ changed_to (above l.gone) l.table-index l.fn.self.tables
