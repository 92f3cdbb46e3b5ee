-- The row has its entry in the bag of its list, and the others are unchanged.
use Rattle.std.proofs.Common.{Result, Ok, Err, ◌∙◌}
use Rattle.std.specs.Prelude.{OnErr}
use Rattle.mm_standing.proofs.Adding.{feeds_kept, puts, same_bags, types_here}
use Rattle.mm_standing.proofs.bags.prepare_one.Goals as goal

pub entry_or_insert-requires : goal.entry_or_insert-requires
entry_or_insert-requires c =
    let bag = c.index_mut.result.now in
    record { typed = c.requires.typed ∙ types_here c.args.bags.now.items c.args.change.list bag bag c.requires.there c.index_mut.ensures.value }

pub returns-clause-puts : goal.returns-clause-puts
returns-clause-puts c =
    let e = c.in_ok-entry.ensures in
    puts c.args.bags.now.items c.args.change c.index_mut.result.now c.entry_or_insert.new.self c.requires.there c.index_mut.ensures.value
    c.in_ok-entry.entry c.in_ok-entry.is_new e.counts e.total e.entry e.is_new e.entries e.kept e.types e.feed

anyway : {T E P : Type 0} (r : Result T E) → P → OnErr r P
anyway (Ok x) p = tt
anyway (Err e) p = p

pub returns-in_err-entry-clause-err : goal.returns-in_err-entry-clause-err
returns-in_err-entry-clause-err c =
    let e = c.in_err-entry.ensures in
    anyway c.from_residual.result
    (same_bags c.args.bags.now.items c.args.change.list c.index_mut.result.now c.entry_or_insert.new.self c.requires.there c.index_mut.ensures.value
    e.unchanged e.same e.types)

pub returns-in_err-entry-clause-feeds : goal.returns-in_err-entry-clause-feeds
returns-in_err-entry-clause-feeds c =
    feeds_kept c.args.bags.now.items c.args.change.list c.index_mut.result.now c.entry_or_insert.new.self c.requires.there c.index_mut.ensures.value
    c.entry_or_insert.ensures.feed

pub returns-clause-feeds : goal.returns-clause-feeds
returns-clause-feeds c =
    feeds_kept c.args.bags.now.items c.args.change.list c.index_mut.result.now c.entry_or_insert.new.self c.requires.there c.index_mut.ensures.value
    c.entry_or_insert.ensures.feed
