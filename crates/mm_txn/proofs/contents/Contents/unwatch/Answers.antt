-- The query and the list at the place of the name are dropped.
use Rattle.std.proofs.Common.{◌≡◌, Some, None, inl, sym, ap, subst, ◌∙◌, arith}
use Rattle.std.proofs.lemmas.Result.{err_from_is_err_and}
use Rattle.mm_schema.specs.Refused.{first_refusal}
use Rattle.mm_schema.specs.Schema.{Schema}
use Rattle.mm_schema.specs.Standing.{drop_standing_conditions, without_standing}
use Rattle.mm_value.specs.declared.refusal.Refusal.{Refusal}
use Rattle.mm_value.specs.declared.refusal.Refusal.TheVariants.{NoSuchStandingQuery}
use Rattle.mm_query.specs.Standing.{after_unwatch}
use Rattle.mm_standing.specs.State.{Lists}
use Rattle.mm_txn.specs.Contents.{Holdings, state_held}
use Rattle.mm_plan.specs.Kept.{instance_of}
use Rattle.mm_txn.specs.Rest.{AreAtRest}
use Rattle.mm_txn.specs.Listed.{queries_of}
use Rattle.mm_txn.proofs.WatchSteps.{place_of_list, queries_left, rest_left, standing_missing}
use Rattle.mm_txn.proofs.contents.Contents.unwatch.Goals as goal

pub returns-in_err-place-clause-due : goal.returns-in_err-place-clause-due
returns-in_err-place-clause-due c =
    let p = err_from_is_err_and c.from_residual.result c.from_residual.ensures.1 in
    let told : NoSuchStandingQuery ≡ c.in_err-place.field-0.0 = grind arith in
    let seen = ap (λ (h : Holdings). first_refusal (drop_standing_conditions c.args.name.now h.schema)) c.self.view_is in
    rw (p.1, p.2) (inl (sym seen ∙ (standing_missing c.args.name.now c.self.inside.catalog
    (sym c.standing_place_of.ensures.place ∙ c.in_err-place.ensures.ok_part)
    ∙ ap (λ (r : Refusal). Some r) told)))

pub unwatch-requires-clause-place : goal.unwatch-requires-clause-place
unwatch-requires-clause-place c =
    place_of_list c.args.name.now c.self.inside.catalog c.self.inside.standing c.self.invariant.placed c.in_ok-place.place
    (sym c.standing_place_of.ensures.place ∙ c.in_ok-place.ensures.ok_part)

pub invariant_of-self-2 : goal.invariant_of-self-2
invariant_of-self-2 c =
    subst (λ (s : Schema). AreAtRest s c.self.inside.store c.unwatch.new.self) (sym c.in_ok-drop_standing.ensures.ok)
    (subst (AreAtRest (without_standing c.args.name.now c.self.inside.catalog) c.self.inside.store) (sym c.unwatch.ensures)
    (rest_left c.args.name.now c.self.inside.catalog c.self.inside.store c.self.inside.standing c.self.invariant c.in_ok-place.place
    (sym c.standing_place_of.ensures.place ∙ c.in_ok-place.ensures.ok_part) c.standing_place_of.ensures.distinct c.in_ok-drop_standing.ensures.due))

pub returns-clause-ok : goal.returns-clause-ok
returns-clause-ok c =
    let store = c.self.inside.store in
    let queries = ap (λ (l : Lists). queries_of l.queries) c.unwatch.ensures
    ∙ queries_left c.args.name.now c.self.inside.catalog c.self.inside.standing c.self.invariant.placed c.in_ok-place.place
    (sym c.standing_place_of.ensures.place ∙ c.in_ok-place.ensures.ok_part) c.standing_place_of.ensures.distinct in
    (λ i. record { schema = c.in_ok-drop_standing.ensures.ok i; rows = instance_of store.tables; queries = queries i; saved = None })
    ∙ ap (λ (h : Holdings). after_unwatch c.args.name.now (state_held h)) c.self.view_is
