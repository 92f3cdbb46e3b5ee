-- The list at the place of a standing query is its own.
use Rattle.std.proofs.Common.{◌≡◌, ◌<◌, ◌≤◌, [], ◌∷◌, ◌++◌, Some, None, length, map, slice_get, slice_index_or, refl, ap, subst, ◌∙◌}
use Rattle.std.proofs.lemmas.Option.{slice_get_read}
use Rattle.mm_txn.specs.Rest.{listed_state, query_listed}
use Rattle.mm_txn.proofs.Showing.{counted_by_place, list_there, next_told, take_whole}
use Rattle.mm_txn.proofs.listing.listed_queries.Goals as goal

pub count-requires : goal.count-requires
count-requires c = record {
  place = list_there c.args.catalog.now c.args.standing.now c.requires c.loop-place.place
      (subst (λ ss. c.loop-place.place < length ss) c.standing-query-items.ensures.value c.loop-place-test.true);
}

pub loop-place-preserved : goal.loop-place-preserved
loop-place-preserved c = λ rows are.
    let schema = c.args.catalog.now in
    let lists = c.args.standing.now in
    let d = c.query-item.result in
    let within : c.loop-place.place < length schema.standing =
    subst (λ ss. c.loop-place.place < length ss) c.standing-query-items.ensures.value c.loop-place-test.true in
    let at : slice_get schema.standing c.loop-place.place ≡ Some d =
    slice_get_read schema.standing (length schema.standing) c.loop-place.place d refl within
    (c.query-item.is ∙ ap (λ ss. slice_index_or ss c.loop-place.place d) c.standing-query-items.ensures.value) in
    let count = counted_by_place schema lists c.requires rows are None c.standing.ensures.distinct c.loop-place.place d at within c.count.result
    c.count.ensures in
    c.in_ok-push.ensures.items
    ∙ (λ i. c.loop-place.invariant rows are i ++ record { name = c.copy.ensures i; rows = count i } ∷ [])
    ∙ next_told (query_listed (listed_state schema rows lists)) schema.standing c.loop-place.place d at

pub returns : goal.returns
returns c = λ rows are.
    let all : length c.args.catalog.now.standing ≤ c.loop-place.place =
    subst (λ ss. length ss ≤ c.loop-place.place) c.standing-query-items.ensures.value c.loop-place-test.false in
    c.loop-place.invariant rows are
    ∙ ap (map (query_listed (listed_state c.args.catalog.now rows c.args.standing.now))) (take_whole c.args.catalog.now.standing c.loop-place.place all)
