-- One more table has its new place.
use Rattle.std.proofs.Common.{◌<◌, length, ap, arith}
use Rattle.mm_schema.specs.References.{above}
use Rattle.mm_standing.proofs.InPlace.{changed_more, length_changed}
use Rattle.mm_standing.proofs.watched.PlacedQuery.table_dropped.Goals as goal

pub loop-table-preserved : goal.loop-table-preserved
loop-table-preserved c =
    let tables = c.args.self.now.tables in
    let now = c.loop-table.table-items in
    let i = c.loop-table.table-index in
    let long = length_changed (above c.args.gone) tables i in
    let so_far = ap length c.loop-table.invariant in
    let within : i < length tables = omega (arith, long, so_far, c.loop-table-test.true, c.loop-table.auto.table-items) in
    changed_more (above c.args.gone) tables now i c.above.result 0 c.loop-table.invariant within c.above.ensures
