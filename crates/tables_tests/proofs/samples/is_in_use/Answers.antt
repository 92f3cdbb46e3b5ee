use Rattle.std.proofs.Common.{subst, sym, ◌∙◌, ap}
use Rattle.std.specs.List.{All}
use Rattle.std.proofs.lemmas.List.Elements.{All-head, All-tail}
use Rattle.mm_partition.specs.Places.{IsLive, content_at}
use Rattle.tables_tests.proofs.samples.is_in_use.Goals as goal

pub loop-found-init : goal.loop-found-init
loop-found-init c =
    subst (All (IsLive c.args.rows.now.places)) (sym c.into_iter-found-iterator.ensures.into_iter_gives) c.by_key-found-items.ensures.live

pub loop-found-preserved : goal.loop-found-preserved
loop-found-preserved c =
    All-tail (IsLive c.args.rows.now.places) c.in-Some.found c.next.new.self
    (subst (All (IsLive c.args.rows.now.places)) c.in-Some.ensures.steps c.loop-found.invariant)

pub returns-then-found-at : goal.returns-then-found-at
returns-then-found-at c =
    let live : IsLive c.args.rows.now.places c.in-Some.found = All-head (IsLive c.args.rows.now.places) c.in-Some.found c.next.new.self
    (subst (All (IsLive c.args.rows.now.places)) c.in-Some.ensures.steps c.loop-found.invariant) in
    (live.0, ap (content_at c.args.rows.now.places) (sym c.if-found-at.true) ∙ live.1)
