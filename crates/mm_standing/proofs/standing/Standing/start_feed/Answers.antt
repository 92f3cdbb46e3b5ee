-- The feed is that of the query, and the lists are unchanged.
use Rattle.std.proofs.Common.{◌≡◌, Err, Ok, Result, Some, sym, ap, ◌∙◌, subst}
use Rattle.std.specs.Prelude.{OnOk, slice_get}
use Rattle.std.proofs.lemmas.Option.{get_or_from_slice_get}
use Rattle.mm_multiset.specs.Counts.{IsStarted}
use Rattle.mm_query.specs.declared.bound_query.BoundQuery.{BoundQuery}
use Rattle.mm_standing.specs.Bags.{feed_at}
use Rattle.mm_standing.specs.Queries.{StandingQuery}
use Rattle.mm_standing.specs.State.{Lists}
use Rattle.mm_standing.proofs.Dropping.{sound_same}
use Rattle.mm_standing.proofs.standing.Standing.start_feed.Goals as goal

pub invariant_of-self : goal.invariant_of-self
invariant_of-self c =
    let old = c.self.inside in
    let same = c.start_feed.ensures.same in (
      sound_same old.bags.items c.start_feed.new.bags.items same old.prepared.items old.log.items c.self.invariant.0,
      c.self.invariant.1,
      c.self.invariant.2 ∙ sym same.size,
      same.types ∙ c.self.invariant.3,
    )

ok_then : {A E P Q : Type 0} → (P → Q) → (r : Result A E) → OnOk r P → OnOk r Q
ok_then f (Ok a) h = f h
ok_then f (Err e) h = tt

pub returns-clause-started : goal.returns-clause-started
returns-clause-started c =
    let inside = c.self.inside in
    let place = c.args.place in
    let new = c.start_feed.new.bags.items in
    ok_then
    (λ is standing at.
    let found : slice_get inside.queries.items place ≡ Some standing =
    subst (λ (v : Lists). slice_get v.queries place ≡ Some standing) (sym c.self.view_is) at in
    let query_is : c.behind-self.inside.query ≡ standing.query =
    ap (λ (s : StandingQuery). s.query)
    (c.behind-self.view_is ∙ c.index.ensures ∙ get_or_from_slice_get inside.queries.items place standing c.index.result.now found) in
    subst (λ (v : Lists). IsStarted standing.query.distinct (feed_at v.bags place) (feed_at new place)) c.self.view_is
    (subst (λ (query : BoundQuery). IsStarted query.distinct (feed_at inside.bags.items place) (feed_at new place)) query_is is))
    c.start_feed.result c.start_feed.ensures.started
