use Rattle.std.proofs.Common.{arith, ◌≡◌, [], ◌∷◌, ◌++◌, Some, length, map, refl, sym, ap, ◌∙◌, subst}
use Rattle.std.specs.List.{All}
use Rattle.std.proofs.lemmas.List.{length-append, length_push}
use Rattle.std.proofs.lemmas.List.Elements.{All-filter}
use Rattle.mm_partition.specs.Places.{IsLive, slot_at}
use Rattle.mm_query.specs.Queries.{none_fails}
use Rattle.mm_row_order.specs.Refs.{row_at}
use Rattle.mm_store.proofs.Joining.{some_at}
use Rattle.mm_store.specs.Tables.{IsAt, Tables}
use Rattle.mm_templist.specs.Combos.{row_of}
use Rattle.mm_select.specs.Matches.{matching}
use Rattle.mm_select.proofs.KeyWalks.{walk_counted}
use Rattle.mm_indexed.proofs.Matches.{split_next}
use Rattle.mm_select.proofs.Walks.{holds_next, matching_more, matching_still, split_all}
use Rattle.mm_select.proofs.selecting.scan.Goals as goal

pub walk-at-items-requires-clause-tree : goal.walk-at-items-requires-clause-tree
walk-at-items-requires-clause-tree c = λ stored here. (stored.key, refl, tt)

pub admits-requires-clause-live : goal.admits-requires-clause-live
admits-requires-clause-live c = λ stored here.
    holds_next (IsLive stored.places) c.walk-at-items.result c.loop-at.yielded c.next.new.self c.in-Some.at
    (sym c.into_iter-at-iterator.ensures.into_iter_gives ∙ (c.loop-at.invariant.split ∙ ap (λ l. c.loop-at.yielded ++ l) c.in-Some.ensures.steps))
    (c.walk-at-items.ensures.live stored (subst (λ (s : Tables). IsAt s c.args.table stored) c.loop-at.invariant.same here))

pub loop-at-preserved-in-Continue-1 : goal.loop-at-preserved-in-Continue-1
loop-at-preserved-in-Continue-1 c = record {
  same = c.admits.ensures.same ∙ c.loop-at.invariant.same;
  unread = λ silent. c.admits.ensures.unread silent ∙ c.loop-at.invariant.unread silent;
  reads = omega (arith, c.admits.ensures.reads, c.loop-at.invariant.reads, length_push c.loop-at.yielded c.in-Some.at);
  split = split_next c.into_iter-at-iterator.result c.loop-at.yielded c.loop-at.at-iterator c.next.new.self c.in-Some.at
      c.loop-at.invariant.split c.in-Some.ensures.steps;
  found = c.in_ok-push.ensures.ok
      ∙ (ap (λ l. l ++ c.in-Some.at ∷ []) c.loop-at.invariant.found
      ∙ sym (matching_more c.args.view.now.store c.loop-at.view.store c.loop-at.invariant.same c.args.table c.args.atoms.now c.loop-at.yielded
      c.in-Some.at c.if-admits.ensures.told));
}

pub loop-at-preserved : goal.loop-at-preserved
loop-at-preserved c = record {
  same = c.admits.ensures.same ∙ c.loop-at.invariant.same;
  unread = λ silent. c.admits.ensures.unread silent ∙ c.loop-at.invariant.unread silent;
  reads = omega (arith, c.admits.ensures.reads, c.loop-at.invariant.reads, length_push c.loop-at.yielded c.in-Some.at);
  split = split_next c.into_iter-at-iterator.result c.loop-at.yielded c.loop-at.at-iterator c.next.new.self c.in-Some.at
      c.loop-at.invariant.split c.in-Some.ensures.steps;
  found = c.loop-at.invariant.found
      ∙ sym (matching_still c.args.view.now.store c.loop-at.view.store c.loop-at.invariant.same c.args.table c.args.atoms.now c.loop-at.yielded
      c.in-Some.at c.if-admits.ensures.told);
}

pub returns-clause-found : goal.returns-clause-found
returns-clause-found c = λ stored here.
    let store = c.args.view.now.store in
    let walk = c.walk-at-items.result in
    let all : walk ≡ c.loop-at.yielded =
    sym c.into_iter-at-iterator.ensures.into_iter_gives
    ∙ split_all c.into_iter-at-iterator.result c.loop-at.yielded c.loop-at.at-iterator c.loop-at.invariant.split c.in-None.ensures.steps.0 in
    c.loop-at.invariant.found
    ∙ ap (matching store c.args.table c.args.atoms.now [])
    (sym all ∙ c.walk-at-items.ensures.keys refl stored here)

pub returns-clause-reads : goal.returns-clause-reads
returns-clause-reads c =
    let store = c.args.view.now.store in
    let (stored, here) = some_at store.tables c.args.table c.requires in
    omega (
      arith,
      walk_counted store c.args.table stored here c.walk-at-items.result
          (ap (map (row_at (slot_at stored.places))) (c.walk-at-items.ensures.keys refl stored here)),
      ap length c.into_iter-at-iterator.ensures.into_iter_gives,
      ap length c.loop-at.invariant.split,
      length-append c.loop-at.yielded c.loop-at.at-iterator,
      c.loop-at.invariant.reads,
    )

pub returns-in_err-push-clause-reads : goal.returns-in_err-push-clause-reads
returns-in_err-push-clause-reads c =
    let store = c.args.view.now.store in
    let (stored, here) = some_at store.tables c.args.table c.requires in
    omega (
      arith,
      walk_counted store c.args.table stored here c.walk-at-items.result
          (ap (map (row_at (slot_at stored.places))) (c.walk-at-items.ensures.keys refl stored here)),
      ap length c.into_iter-at-iterator.ensures.into_iter_gives,
      ap length c.loop-at.invariant.split,
      ap length c.in-Some.ensures.steps,
      length-append c.loop-at.yielded c.loop-at.at-iterator,
      c.loop-at.invariant.reads,
      c.admits.ensures.reads,
    )

pub returns-clause-live : goal.returns-clause-live
returns-clause-live c = λ stored here.
    let all : c.walk-at-items.result ≡ c.loop-at.yielded =
    sym c.into_iter-at-iterator.ensures.into_iter_gives
    ∙ split_all c.into_iter-at-iterator.result c.loop-at.yielded c.loop-at.at-iterator c.loop-at.invariant.split c.in-None.ensures.steps.0 in
    subst (All (IsLive stored.places)) (sym c.loop-at.invariant.found)
    (All-filter (λ at. none_fails c.args.atoms.now (Some (row_of c.args.view.now.store c.args.table at) ∷ [])) (IsLive stored.places) c.loop-at.yielded
    (subst (All (IsLive stored.places)) all (c.walk-at-items.ensures.live stored here)))
