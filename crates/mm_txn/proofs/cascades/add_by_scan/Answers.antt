-- Each row is tested for whether the row that it refers to is deleted.
use Rattle.std.proofs.Common.{◌≡◌, true, false, List, [], ◌∷◌, ◌++◌, append_assoc, append-nil, ap, ◌∙◌, refl, subst, sym}
use Rattle.std.specs.List.{All, filter}
use Rattle.mm_partition.specs.Places.{IsLive, slot_at}
use Rattle.mm_row_order.specs.Refs.{row_at}
use Rattle.mm_indexed.proofs.Matches.{split_next}
use Rattle.mm_select.proofs.Walks.{holds_next, split_all}
use Rattle.mm_value.specs.declared.row_ref.RowRef.{RowRef}
use Rattle.mm_txn.specs.Cascades.{is_cascaded_by}
use Rattle.mm_txn.proofs.CascadeFinds.{filter_push, scan_goes}
use Rattle.mm_txn.proofs.Referrers.{passing_added}
use Rattle.mm_store.proofs.Shown.{table_seen}
use Rattle.mm_txn.proofs.cascades.add_by_scan.Goals as goal

pub walk-at-items-requires-clause-tree : goal.walk-at-items-requires-clause-tree
walk-at-items-requires-clause-tree c = λ stored at. (stored.key, refl, tt)

pub follow-target-requires-clause-live : goal.follow-target-requires-clause-live
follow-target-requires-clause-live c = λ stored at.
    holds_next (IsLive stored.places) c.walk-at-items.result c.loop-at.yielded c.next.new.self c.in-Some.at
    (sym c.into_iter-at-iterator.ensures.into_iter_gives ∙ (c.loop-at.invariant.split ∙ ap (λ l. c.loop-at.yielded ++ l) c.in-Some.ensures.steps))
    (c.walk-at-items.ensures.live stored at)

pub loop-at-preserved-in-Continue-branch-2 : goal.loop-at-preserved-in-Continue-branch-2
loop-at-preserved-in-Continue-branch-2 c = record {
  split = split_next c.into_iter-at-iterator.result c.loop-at.yielded c.loop-at.at-iterator c.next.new.self c.in-Some.at
      c.loop-at.invariant.split c.in-Some.ensures.steps;
  added = λ stored at.
      let cascade = c.args.cascade.now in
      let row = row_at (slot_at stored.places) c.in-Some.at in
      let goes : is_cascaded_by c.args.view.now.store.tables cascade.column (cascade.to, cascade.gone.now) row ≡ true =
      sym (scan_goes c.args.view.now.store c.args.table cascade.column (cascade.to, cascade.gone.now) c.requires.cascade row c.follow-target.result
      (c.follow-target.ensures stored at) (λ target there. (table_seen c.args.view.now cascade.to target there).apart))
      ∙ sym (c.contains.ensures ∙ c.in_ok-gone.ensures c.follow-target.result) ∙ c.if-contains.true in
      c.in_ok-push.ensures.items ∙ ap (λ (xs : List RowRef). xs ++ c.in-Some.at ∷ []) (c.loop-at.invariant.added stored at)
      ∙ append_assoc c.args.found.now.items _ (c.in-Some.at ∷ [])
      ∙ ap (λ (xs : List RowRef). c.args.found.now.items ++ xs) (sym (filter_push _ c.loop-at.yielded c.in-Some.at true goes));
}

pub loop-at-preserved : goal.loop-at-preserved
loop-at-preserved c = record {
  split = split_next c.into_iter-at-iterator.result c.loop-at.yielded c.loop-at.at-iterator c.next.new.self c.in-Some.at
      c.loop-at.invariant.split c.in-Some.ensures.steps;
  added = λ stored at.
      let cascade = c.args.cascade.now in
      let row = row_at (slot_at stored.places) c.in-Some.at in
      let stays : is_cascaded_by c.args.view.now.store.tables cascade.column (cascade.to, cascade.gone.now) row ≡ false =
      sym (scan_goes c.args.view.now.store c.args.table cascade.column (cascade.to, cascade.gone.now) c.requires.cascade row c.follow-target.result
      (c.follow-target.ensures stored at) (λ target there. (table_seen c.args.view.now cascade.to target there).apart))
      ∙ sym (c.contains.ensures ∙ c.in_ok-gone.ensures c.follow-target.result) ∙ c.if-contains.false in
      c.loop-at.invariant.added stored at
      ∙ ap (λ (xs : List RowRef). c.args.found.now.items ++ xs) (sym (filter_push _ c.loop-at.yielded c.in-Some.at false stays ∙ append-nil _));
}

pub returns : goal.returns
returns c = λ stored at.
    let cascade = c.args.cascade.now in
    let all : c.walk-at-items.result ≡ c.loop-at.yielded =
    sym c.into_iter-at-iterator.ensures.into_iter_gives
    ∙ split_all c.into_iter-at-iterator.result c.loop-at.yielded c.loop-at.at-iterator c.loop-at.invariant.split c.in-None.ensures.steps.0 in
    let refs = c.walk-at-items.ensures.keys refl stored at in
    passing_added stored (subst (All (IsLive stored.places)) refs (c.walk-at-items.ensures.live stored at))
    (is_cascaded_by c.args.view.now.store.tables cascade.column (cascade.to, cascade.gone.now))
    c.args.found.now.items c.loop-at.found.items (c.loop-at.invariant.added stored at
    ∙ ap (λ (refs : List RowRef). c.args.found.now.items ++ filter (λ x. is_cascaded_by c.args.view.now.store.tables cascade.column
    (cascade.to, cascade.gone.now) (row_at (slot_at stored.places) x)) refs) (sym all ∙ refs))
