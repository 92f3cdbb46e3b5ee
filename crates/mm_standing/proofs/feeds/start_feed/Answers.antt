-- The feed of the list's bag is started, and the other bags are unchanged.
use Rattle.std.proofs.Common.{◌≡◌, Result, Ok, Err, Option, sym, ap, ◌∙◌, subst}
use Rattle.std.specs.Prelude.{OnErr, OnOk}
use Rattle.mm_multiset.specs.Counts.{Feed, IsStarted}
use Rattle.mm_standing.specs.Bags.{feed_at}
use Rattle.mm_standing.proofs.Adding.{feed_here, new_feed, other_feeds, same_bags}
use Rattle.mm_standing.proofs.feeds.start_feed.Goals as goal

ok_then : {A E P Q : Type 0} → (P → Q) → (r : Result A E) → OnOk r P → OnOk r Q
ok_then f (Ok a) h = f h
ok_then f (Err e) h = tt

err_then : {A E P Q : Type 0} → (P → Q) → (r : Result A E) → OnErr r P → OnErr r Q
err_then f (Ok a) h = tt
err_then f (Err e) h = f h

pub returns-clause-started : goal.returns-clause-started
returns-clause-started c =
    let bags = c.args.bags.now.items in
    let list = c.args.list in
    let bag = c.index_mut.result.now in
    let new = c.start_feed.new.self in
    ok_then
    (λ is.
    subst (IsStarted c.args.distinct (feed_at bags list)) (sym (new_feed bags list bag new c.requires c.index_mut.ensures.value))
    (subst (λ (f : Option Feed). IsStarted c.args.distinct f new.feed) (sym (feed_here bags list bag new c.requires c.index_mut.ensures.value)) is))
    c.start_feed.result c.start_feed.ensures.started

pub returns-clause-refused : goal.returns-clause-refused
returns-clause-refused c =
    let bags = c.args.bags.now.items in
    let list = c.args.list in
    let bag = c.index_mut.result.now in
    let new = c.start_feed.new.self in
    err_then
    (λ is. new_feed bags list bag new c.requires c.index_mut.ensures.value ∙ is
    ∙ sym (feed_here bags list bag new c.requires c.index_mut.ensures.value))
    c.start_feed.result c.start_feed.ensures.refused

pub returns-clause-others : goal.returns-clause-others
returns-clause-others c =
    other_feeds c.args.bags.now.items c.args.list c.index_mut.result.now c.start_feed.new.self c.requires c.index_mut.ensures.value

pub returns-clause-same : goal.returns-clause-same
returns-clause-same c =
    let e = c.start_feed.ensures in
    same_bags c.args.bags.now.items c.args.list c.index_mut.result.now c.start_feed.new.self c.requires c.index_mut.ensures.value
    e.entries e.slots e.types
