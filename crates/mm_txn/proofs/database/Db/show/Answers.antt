-- The list at the place of the name is that of its query.
use Rattle.std.proofs.Common.{◌≡◌, Some, inl, sym, ap, subst, ◌∙◌, arith}
use Rattle.std.proofs.lemmas.Result.{err_from_is_err_and}
use Rattle.mm_schema.specs.Refused.{first_refusal}
use Rattle.mm_schema.specs.Standing.{drop_standing_conditions}
use Rattle.mm_value.specs.declared.refusal.Refusal.{Refusal}
use Rattle.mm_value.specs.declared.refusal.Refusal.TheVariants.{NoSuchStandingQuery}
use Rattle.mm_query.specs.Standing.{shown_rows}
use Rattle.mm_query.specs.State.{State}
use Rattle.mm_plan.specs.Kept.{instance_of}
use Rattle.mm_txn.specs.Saved.{saved_rows}
use Rattle.mm_txn.proofs.Showing.{list_is_some_bag, shown_by_name}
use Rattle.mm_txn.proofs.WatchSteps.{place_of_list, standing_found, standing_missing}
use Rattle.mm_txn.specs.Contents.{Holdings}
use Rattle.mm_txn.specs.Saved.{kept_state}
use Rattle.mm_txn.proofs.database.Db.show.Goals as goal

pub returns-in_err-place-clause-due : goal.returns-in_err-place-clause-due
returns-in_err-place-clause-due c =
    let seen = ap (λ (h : Holdings). kept_state h c.self.inside.is_open c.self.inside.marks.items) c.contents.view_is ∙ c.self.view_is in
    let p = err_from_is_err_and c.from_residual.result c.from_residual.ensures.1 in
    let told : NoSuchStandingQuery ≡ c.in_err-place.field-0.0 = grind arith in
    let missing = standing_missing c.args.name.now c.contents.inside.catalog (sym c.standing_place_of.ensures.place ∙ c.in_err-place.ensures.ok_part) in
    rw (p.1, p.2) (inl (sym (ap (λ (s : State). first_refusal (drop_standing_conditions c.args.name.now s.schema)) seen)
    ∙ missing ∙ ap (λ (r : Refusal). Some r) told))

pub list-requires-clause-place : goal.list-requires-clause-place
list-requires-clause-place c =
    place_of_list c.args.name.now c.contents.inside.catalog c.contents.inside.standing c.contents.invariant.placed c.in_ok-place.place
    (sym c.standing_place_of.ensures.place ∙ c.in_ok-place.ensures.ok_part)

pub list-requires-clause-fits : goal.list-requires-clause-fits
list-requires-clause-fits c =
    list_is_some_bag c.contents.inside.catalog c.contents.inside.standing c.contents.invariant.placed (instance_of c.contents.inside.store.tables)
    c.contents.invariant.listed
    c.in_ok-place.place

pub returns-clause-due : goal.returns-clause-due
returns-clause-due c =
    let seen = ap (λ (h : Holdings). kept_state h c.self.inside.is_open c.self.inside.marks.items) c.contents.view_is ∙ c.self.view_is in
    sym (ap (λ (s : State). first_refusal (drop_standing_conditions c.args.name.now s.schema)) seen)
    ∙ standing_found c.args.name.now c.contents.inside.catalog c.in_ok-place.place (sym c.standing_place_of.ensures.place ∙ c.in_ok-place.ensures.ok_part)

pub returns-clause-rows : goal.returns-clause-rows
returns-clause-rows c =
    let seen = ap (λ (h : Holdings). kept_state h c.self.inside.is_open c.self.inside.marks.items) c.contents.view_is ∙ c.self.view_is in
    subst (λ (s : State). c.in_ok-list.field-0 ≡ shown_rows c.args.name.now s) seen
    (shown_by_name c.contents.inside.catalog c.contents.inside.standing c.contents.invariant.placed (instance_of c.contents.inside.store.tables)
    c.contents.invariant.listed
    (saved_rows c.self.inside.is_open c.contents.inside.store c.self.inside.marks.items) c.args.name.now c.in_ok-place.place
    (sym c.standing_place_of.ensures.place ∙ c.in_ok-place.ensures.ok_part) c.in_ok-list.field-0 c.in_ok-list.ensures)
