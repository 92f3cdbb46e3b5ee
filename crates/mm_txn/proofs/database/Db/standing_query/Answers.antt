-- The query at the place of the name is that of the name.
use Rattle.std.proofs.Common.{◌≡◌, ◌<◌, length, Some, None, sym, ap, subst, ◌∙◌}
use Rattle.std.specs.Option.{option_copied}
use Rattle.std.specs.Prelude.{slice_get}
use Rattle.mm_schema.specs.Name.{same_name}
use Rattle.mm_schema.specs.Standing.{standing_place}
use Rattle.mm_schema.specs.declared.standing.StandingDef.{StandingDef}
use Rattle.mm_schema.proofs.Places.{find_nowhere, place_from_some, within_from_some}
use Rattle.mm_query.specs.Standing.{query_named}
use Rattle.mm_query.specs.State.{State}
use Rattle.mm_txn.specs.Contents.{Holdings}
use Rattle.mm_txn.specs.Listed.{queries_of}
use Rattle.mm_txn.specs.Saved.{kept_state}
use Rattle.mm_txn.proofs.Showing.{query_at, query_nowhere}
use Rattle.mm_txn.proofs.WatchSteps.{place_of_list}
use Rattle.mm_txn.proofs.database.Db.standing_query.Goals as goal

pub returns-in_err-place : goal.returns-in_err-place
returns-in_err-place c =
    let name = c.args.name.now in
    let schema = c.contents.inside.catalog in
    let seen = ap (λ (h : Holdings). kept_state h c.self.inside.is_open c.self.inside.marks.items) c.contents.view_is ∙ c.self.view_is in
    let nowhere : standing_place name schema ≡ None = sym c.standing_place_of.ensures.place ∙ c.in_err-place.was in
    let none = query_nowhere name schema.standing (queries_of c.contents.inside.standing.queries)
    (find_nowhere (λ (query : StandingDef). same_name name query.name) schema.standing nowhere) in
    ap option_copied c.from_residual.ensures ∙ (sym none ∙ ap (λ (s : State). query_named name s.schema.standing s.queries) seen)

pub query-requires : goal.query-requires
query-requires c =
    place_of_list c.args.name.now c.contents.inside.catalog c.contents.inside.standing c.contents.invariant.placed c.in_ok-place.place
    (sym c.standing_place_of.ensures.place ∙ c.in_ok-place.was)

pub returns : goal.returns
returns c =
    let name = c.args.name.now in
    let schema = c.contents.inside.catalog in
    let place = c.in_ok-place.place in
    let queries = queries_of c.contents.inside.standing.queries in
    let seen = ap (λ (h : Holdings). kept_state h c.self.inside.is_open c.self.inside.marks.items) c.contents.view_is ∙ c.self.view_is in
    let found : standing_place name schema ≡ Some place = sym c.standing_place_of.ensures.place ∙ c.in_ok-place.was in
    let named = λ (query : StandingDef). same_name name query.name in
    let first = place_from_some named schema.standing place found in
    subst (λ (s : State). Some c.query.result.now ≡ query_named name s.schema.standing s.queries) seen
    (sym (query_at name schema.standing queries c.contents.invariant.placed.beside
    (subst (λ i. i < length schema.standing) first (within_from_some named schema.standing place found)) c.query.result.now
    (subst (λ i. slice_get queries i ≡ Some c.query.result.now) first c.query.ensures)))
