use Rattle.std.proofs.Common.{◌≡◌, ◌++◌, length, map, sym, ap, ◌∙◌, subst, arith}
use Rattle.mm_partition.specs.Places.{IsLive, slot_at}
use Rattle.mm_select.proofs.Walks.{holds_next, split_all}
use Rattle.mm_store.proofs.Joining.{some_at}
use Rattle.mm_store.specs.Tables.{IsAt, Tables}
use Rattle.mm_join.proofs.Prefixed.{walk_rises}
use Rattle.mm_join.proofs.Walked.{done_within, walk_length}
use Rattle.mm_join.specs.Entries.{AreRising, entry_of}
use Rattle.mm_join.proofs.cursor.Cursor.new.Goals as goal

pub walk-at-items-requires-clause-tree : goal.walk-at-items-requires-clause-tree
walk-at-items-requires-clause-tree c = λ stored here. (c.args.column, (c.requires.tree stored here).0, (c.requires.tree stored here).1)

pub prefix_there-prefix-requires-clause-live : goal.prefix_there-prefix-requires-clause-live
prefix_there-prefix-requires-clause-live c = λ stored here.
    holds_next (IsLive stored.places) c.walk-at-items.result c.loop-at.yielded c.next.new.self c.in-Some.at
    (sym c.into_iter-at-iterator.ensures.into_iter_gives ∙ (c.loop-at.invariant.split ∙ ap (λ l. c.loop-at.yielded ++ l) c.in-Some.ensures.steps))
    (c.walk-at-items.ensures.live stored (subst (λ (s : Tables). IsAt s c.args.table stored) c.loop-at.invariant.same here))

pub returns-in_err-push-clause-reads : goal.returns-in_err-push-clause-reads
returns-in_err-push-clause-reads c =
    let store = c.args.view.now.store in
    let (stored, here) = some_at store.tables c.args.table c.requires.there in
    let is_walk = c.walk-at-items.ensures.walk stored c.args.column here (c.requires.tree stored here).0 in
    omega (
      arith,
      c.prefix_there-prefix.ensures.reads,
      c.loop-at.invariant.reads,
      done_within c.walk-at-items.result c.into_iter-at-iterator.result c.loop-at.yielded c.loop-at.at-iterator c.next.new.self c.in-Some.at
          c.into_iter-at-iterator.ensures.into_iter_gives c.loop-at.invariant.split c.in-Some.ensures.steps,
      walk_length store c.args.table stored here c.walk-at-items.result is_walk.same,
    )

pub invariant_of-result : goal.invariant_of-result
invariant_of-result c =
    let store = c.args.view.now.store in
    let (stored, here) = some_at store.tables c.args.table c.requires.there in
    let is_walk = c.walk-at-items.ensures.walk stored c.args.column here (c.requires.tree stored here).0 in
    let all : c.walk-at-items.result ≡ c.loop-at.yielded =
    sym c.into_iter-at-iterator.ensures.into_iter_gives
    ∙ split_all c.into_iter-at-iterator.result c.loop-at.yielded c.loop-at.at-iterator c.loop-at.invariant.split c.in-None.ensures.steps.0 in
    let entries : c.loop-at.entries.items ≡ map (entry_of c.args.column (slot_at stored.places)) c.walk-at-items.result =
    c.loop-at.invariant.entries stored here ∙ ap (map (entry_of c.args.column (slot_at stored.places))) (sym all) in
    (omega arith, subst AreRising (sym entries) (walk_rises c.args.column stored c.walk-at-items.result is_walk))

pub returns-clause-walk : goal.returns-clause-walk
returns-clause-walk c = λ stored here.
    let is_walk = c.walk-at-items.ensures.walk stored c.args.column here (c.requires.tree stored here).0 in
    let all : c.walk-at-items.result ≡ c.loop-at.yielded =
    sym c.into_iter-at-iterator.ensures.into_iter_gives
    ∙ split_all c.into_iter-at-iterator.result c.loop-at.yielded c.loop-at.at-iterator c.loop-at.invariant.split c.in-None.ensures.steps.0 in (
      c.walk-at-items.result,
      is_walk.same,
      c.loop-at.invariant.entries stored here ∙ ap (map (entry_of c.args.column (slot_at stored.places))) (sym all),
    )

pub returns-clause-reads : goal.returns-clause-reads
returns-clause-reads c =
    let store = c.args.view.now.store in
    let (stored, here) = some_at store.tables c.args.table c.requires.there in
    let is_walk = c.walk-at-items.ensures.walk stored c.args.column here (c.requires.tree stored here).0 in
    let all : c.walk-at-items.result ≡ c.loop-at.yielded =
    sym c.into_iter-at-iterator.ensures.into_iter_gives
    ∙ split_all c.into_iter-at-iterator.result c.loop-at.yielded c.loop-at.at-iterator c.loop-at.invariant.split c.in-None.ensures.steps.0 in
    omega (arith, c.loop-at.invariant.reads, ap length all, walk_length store c.args.table stored here c.walk-at-items.result is_walk.same)
