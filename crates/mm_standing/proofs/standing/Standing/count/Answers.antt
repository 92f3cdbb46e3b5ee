-- The bag and its query are at the place.
use Rattle.std.proofs.Common.{◌≡◌, ◌<◌, Some, length, sym, ap, ◌∙◌, subst, arith}
use Rattle.std.specs.Prelude.{slice_get}
use Rattle.std.proofs.lemmas.Option.{get_or_from_slice_get}
use Rattle.mm_query.specs.declared.bound_query.BoundQuery.{BoundQuery}
use Rattle.mm_multiset.specs.Counts.{count_in}
use Rattle.mm_standing.specs.Bags.{entries_at}
use Rattle.mm_standing.specs.Queries.{IsBagOf, StandingQuery}
use Rattle.mm_standing.specs.Showing.{rows_shown}
use Rattle.mm_standing.specs.State.{Lists}
use Rattle.mm_standing.proofs.Adding.{entries_here}
use Rattle.mm_standing.proofs.Totals.{length_of_shown}
use Rattle.mm_standing.proofs.standing.Standing.count.Goals as goal

pub returns : goal.returns
returns c = λ standing at rows bag.
    let inside = c.self.inside in
    let place = c.args.place in
    let b = c.index-2.result.now in
    let there : place < length inside.queries.items = subst (λ (v : Lists). place < length v.queries) (sym c.self.view_is) c.requires.place in
    let within : place < length inside.bags.items = omega (arith, there, c.self.invariant.2) in
    let here : entries_at inside.bags.items place ≡ b.entries = entries_here inside.bags.items place b b within c.index-2.ensures in
    let found : slice_get inside.queries.items place ≡ Some standing =
    subst (λ (v : Lists). slice_get v.queries place ≡ Some standing) (sym c.self.view_is) at in
    let query_is : c.behind-self.inside.query ≡ standing.query =
    ap (λ (s : StandingQuery). s.query)
    (c.behind-self.view_is ∙ c.index.ensures ∙ get_or_from_slice_get inside.queries.items place standing c.index.result.now found) in
    let counts : IsBagOf (entries_at inside.bags.items place) rows =
    subst (λ (v : Lists). IsBagOf (entries_at v.bags place) rows) (sym c.self.view_is) bag in
    let counts_here : IsBagOf b.entries rows = λ row. ap (count_in row) (sym here) ∙ counts row in
    c.count_shown.ensures.count
    ∙ ap (λ (query : BoundQuery). length (rows_shown query.distinct b.entries)) query_is
    ∙ length_of_shown b.entries rows c.count_shown.ensures.once counts_here standing.query
