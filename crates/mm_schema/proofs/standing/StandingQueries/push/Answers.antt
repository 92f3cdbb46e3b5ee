use Rattle.std.proofs.Common.{find, sym, ap, ◌∙◌, subst}
use Rattle.std.specs.List.{IsDistinct}
use Rattle.mm_schema.specs.Name.{same_name}
use Rattle.mm_schema.specs.declared.standing.StandingDef.{StandingDef}
use Rattle.mm_schema.proofs.StandingLemmas.{distinct_behind, names_of}
use Rattle.mm_schema.proofs.standing.StandingQueries.push.Goals as goal

pub invariant_of-self-2 : goal.invariant_of-self-2
invariant_of-self-2 c =
    subst (λ qs. IsDistinct same_name (names_of qs)) (sym c.in_ok-push.ensures.items)
    (distinct_behind c.args.query c.self.inside.items.items
    (ap (find (λ (other : StandingDef). same_name c.args.query.name other.name)) c.self.view_is ∙ c.requires) c.self.invariant)
