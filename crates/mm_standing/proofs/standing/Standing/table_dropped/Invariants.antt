use Rattle.std.proofs.Common.{◌≡◌, map}
use Rattle.mm_schema.specs.References.{above}
use Rattle.mm_standing.specs.Queries.{StandingQuery}
use Rattle.mm_standing.proofs.InPlace.{changed_to}
use Rattle.mm_standing.proofs.standing.Standing.table_dropped.Given as goal

abbrev pub invariant-loop-watched : goal.invariant-loop-watched
invariant-loop-watched l =
    l.watched-items ≡ changed_to (λ (s : StandingQuery). record s { tables = map (above l.table) s.tables }) l.watched-index l.fn.self.queries
