use Rattle.std.proofs.Common.{rules, not, filter, sym, ap, ◌∙◌, subst}
use Rattle.std.specs.List.{IsDistinct}
use Rattle.std.proofs.lemmas.Fn.{filter_same}
use Rattle.mm_schema.specs.Name.{same_name}
use Rattle.mm_schema.specs.declared.standing.StandingDef.{StandingDef}
use Rattle.mm_schema.proofs.StandingLemmas.{distinct_among, names_of}
use Rattle.mm_schema.proofs.standing.StandingQueries.remove.Goals as goal

pub returns : goal.returns
returns c =
    filter_same _ (λ (query : StandingDef). not (same_name c.args.name.now query.name)) _ (λ x b f k. search rules) _ _ c.retain.ensures.filtered
    ∙ ap (filter (λ (query : StandingDef). not (same_name c.args.name.now query.name))) c.self.view_is

pub invariant_of-self : goal.invariant_of-self
invariant_of-self c =
    subst (λ qs. IsDistinct same_name (names_of qs))
    (sym
    (filter_same _ (λ (query : StandingDef). not (same_name c.args.name.now query.name)) _ (λ x b f k. search rules) _ _ c.retain.ensures.filtered))
    (distinct_among (λ query. not (same_name c.args.name.now query.name)) c.self.inside.items.items c.self.invariant)
