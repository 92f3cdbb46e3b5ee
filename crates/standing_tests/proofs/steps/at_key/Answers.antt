use Rattle.std.proofs.Common.{refl, subst, sym}
use Rattle.std.specs.List.{All}
use Rattle.std.proofs.lemmas.List.Elements.{All-head, All-tail}
use Rattle.mm_partition.specs.Places.{IsLive}
use Rattle.mm_store.specs.Tables.{IsAt, Tables}
use Rattle.standing_tests.proofs.steps.at_key.Goals as goal

pub walk-at-items-requires-clause-tree : goal.walk-at-items-requires-clause-tree
walk-at-items-requires-clause-tree c = λ stored at. (stored.key, refl, tt)

pub loop-at-init : goal.loop-at-init
loop-at-init c = λ stored here.
    subst (All (IsLive stored.places)) (sym c.into_iter-at-iterator.ensures.into_iter_gives)
    (c.walk-at-items.ensures.live stored (subst (λ (s : Tables). IsAt s c.args.table stored) (sym c.view-view.ensures.store) here))

pub has_key-requires-clause-live : goal.has_key-requires-clause-live
has_key-requires-clause-live c = λ stored here.
    All-head (IsLive stored.places) c.in-Some.at c.next.new.self (subst (All (IsLive stored.places)) c.in-Some.ensures.steps (c.loop-at.invariant stored here))

pub returns-then-has_key : goal.returns-then-has_key
returns-then-has_key c = λ stored here.
    All-head (IsLive stored.places) c.in-Some.at c.next.new.self (subst (All (IsLive stored.places)) c.in-Some.ensures.steps (c.loop-at.invariant stored here))

pub loop-at-preserved : goal.loop-at-preserved
loop-at-preserved c = λ stored here.
    All-tail (IsLive stored.places) c.in-Some.at c.next.new.self (subst (All (IsLive stored.places)) c.in-Some.ensures.steps (c.loop-at.invariant stored here))
