-- The feed of the list's bag is ended, and the other bags are unchanged.
use Rattle.std.proofs.Common.{◌∙◌}
use Rattle.mm_standing.proofs.Adding.{new_feed, other_feeds, same_bags}
use Rattle.mm_standing.proofs.feeds.stop_feed.Goals as goal

pub returns-clause-feed : goal.returns-clause-feed
returns-clause-feed c =
    new_feed c.args.bags.now.items c.args.list c.index_mut.result.now c.stop_feed.new.self c.requires c.index_mut.ensures.value
    ∙ c.stop_feed.ensures.feed

pub returns-clause-others : goal.returns-clause-others
returns-clause-others c =
    other_feeds c.args.bags.now.items c.args.list c.index_mut.result.now c.stop_feed.new.self c.requires c.index_mut.ensures.value

pub returns-clause-same : goal.returns-clause-same
returns-clause-same c =
    let e = c.stop_feed.ensures in
    same_bags c.args.bags.now.items c.args.list c.index_mut.result.now c.stop_feed.new.self c.requires c.index_mut.ensures.value
    e.entries e.slots e.types
