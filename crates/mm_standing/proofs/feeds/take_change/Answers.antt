-- A change of the list's bag is told, and the other bags are unchanged.
use Rattle.std.proofs.Common.{◌≡◌, List, Option, Some, None, sym, ap, ◌∙◌, subst}
use Rattle.std.specs.Option.{IfNone, IfSome}
use Rattle.mm_multiset.specs.Counts.{Entries, Feed, IsTold, IsUpToDate}
use Rattle.mm_multiset.specs.declared.bag.taken.Taken.{Taken}
use Rattle.mm_partition.specs.Places.{Content}
use Rattle.mm_standing.specs.Bags.{entries_at, feed_at}
use Rattle.mm_standing.proofs.Adding.{entries_here, feed_here, new_feed, new_held, other_feeds, same_bags}
use Rattle.mm_standing.proofs.feeds.take_change.Goals as goal

none_then : {A P Q : Type 0} → (P → Q) → (o : Option A) → IfNone o P → IfNone o Q
none_then f None h = f h
none_then f (Some a) h = tt

told : (held held' : List Content) (before before' after after' : Option Feed) → held' ≡ held → before' ≡ before → after' ≡ after
    → (found : Option Taken) → IfSome found (λ t. IsTold held t.at t.by before after) → IfSome found (λ t. IsTold held' t.at t.by before' after')
told held held' before before' after after' h b a None is = tt
told held held' before before' after after' h b a (Some t) is =
    subst (λ (l : List Content). IsTold l t.at t.by before' after') (sym h)
    (subst (λ (f : Option Feed). IsTold held t.at t.by f after') (sym b) (subst (IsTold held t.at t.by before) (sym a) is))

pub returns-clause-told : goal.returns-clause-told
returns-clause-told c =
    let bags = c.args.bags.now.items in
    let list = c.args.list in
    let bag = c.index_mut.result.now in
    let new = c.take_change.new.self in
    let there = c.index_mut.ensures.value in
    told new.held _ bag.feed (feed_at bags list) new.feed _ (new_held bags list bag new c.requires there) (feed_here bags list bag new c.requires there)
    (new_feed bags list bag new c.requires there) c.take_change.result c.take_change.ensures.told

pub returns-clause-none : goal.returns-clause-none
returns-clause-none c =
    let bags = c.args.bags.now.items in
    let list = c.args.list in
    let bag = c.index_mut.result.now in
    let new = c.take_change.new.self in
    let there = c.index_mut.ensures.value in
    none_then
    (λ is.
    subst (λ (f : Option Feed). IsUpToDate f (entries_at bags list)) (sym (feed_here bags list bag new c.requires there))
    (subst (IsUpToDate bag.feed) (sym (entries_here bags list bag new c.requires there)) is))
    c.take_change.result c.take_change.ensures.none

pub returns-clause-kept : goal.returns-clause-kept
returns-clause-kept c =
    let bags = c.args.bags.now.items in
    let list = c.args.list in
    let bag = c.index_mut.result.now in
    let new = c.take_change.new.self in
    let there = c.index_mut.ensures.value in
    none_then
    (λ is. new_feed bags list bag new c.requires there ∙ is ∙ sym (feed_here bags list bag new c.requires there))
    c.take_change.result c.take_change.ensures.kept

pub returns-clause-others : goal.returns-clause-others
returns-clause-others c =
    other_feeds c.args.bags.now.items c.args.list c.index_mut.result.now c.take_change.new.self c.requires c.index_mut.ensures.value

pub returns-clause-same : goal.returns-clause-same
returns-clause-same c =
    let e = c.take_change.ensures in
    same_bags c.args.bags.now.items c.args.list c.index_mut.result.now c.take_change.new.self c.requires c.index_mut.ensures.value
    e.entries e.slots e.types
