use Rattle.std.proofs.Common.{map}
use Rattle.mm_delta.specs.Edited.{before_at}
use Rattle.standing_tests.proofs.CaseSteps.{list_is_bag}
use Rattle.standing_tests.proofs.case.Case.shows.Goals as goal

pub list-requires-clause-fits : goal.list-requires-clause-fits
list-requires-clause-fits c = λ standing at. (
  map (before_at c.self.inside.store) standing.tables,
  list_is_bag c.self.inside.store c.self.inside.standing c.self.invariant.case c.args.place standing at,
)
