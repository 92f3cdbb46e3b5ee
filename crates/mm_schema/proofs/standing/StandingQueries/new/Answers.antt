use Rattle.std.proofs.Common.{sym, subst}
use Rattle.std.specs.List.{IsDistinct}
use Rattle.mm_schema.specs.Name.{same_name}
use Rattle.mm_schema.proofs.StandingLemmas.{names_of, none_distinct}
use Rattle.mm_schema.proofs.standing.StandingQueries.new.Goals as goal

pub invariant_of-result : goal.invariant_of-result
invariant_of-result c = subst (λ qs. IsDistinct same_name (names_of qs)) (sym c.new.ensures.items) none_distinct
