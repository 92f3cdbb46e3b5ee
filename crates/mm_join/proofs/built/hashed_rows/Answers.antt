use Rattle.std.proofs.Common.{◌≡◌, [], ◌∷◌, ◌++◌, length, length-append, map, refl, sym, ap, ◌∙◌, subst, arith}
use Rattle.std.specs.List.Sorted.{IsPermutation}
use Rattle.std.proofs.lemmas.List.{length-map}
use Rattle.std.proofs.lemmas.List.Sorted.{IsPermutation-refl, length_permutation}
use Rattle.mm_partition.specs.Places.{IsLive, slot_at, row_in}
use Rattle.mm_query.specs.Atoms.{value_in}
use Rattle.mm_row_order.specs.Refs.{row_at}
use Rattle.mm_indexed.proofs.Matches.{split_next}
use Rattle.mm_select.proofs.Walks.{holds_next, split_all}
use Rattle.mm_store.proofs.Joining.{some_at}
use Rattle.mm_store.specs.Tables.{IsAt, Tables}
use Rattle.mm_value.specs.Hash.{value_hash}
use Rattle.mm_join.specs.AccessMethods.{hashed_row}
use Rattle.mm_join.proofs.Found.{hashed_all, hashed_more}
use Rattle.mm_join.proofs.Walked.{walk_length}
use Rattle.mm_join.proofs.built.hashed_rows.Goals as goal

pub walk-at-items-requires-clause-tree : goal.walk-at-items-requires-clause-tree
walk-at-items-requires-clause-tree c = λ stored here. (stored.key, refl, tt)

pub row-requires-clause-live : goal.row-requires-clause-live
row-requires-clause-live c = λ stored here.
    holds_next (IsLive stored.places) c.walk-at-items.result c.loop-at.yielded c.next.new.self c.in-Some.at
    (sym c.into_iter-at-iterator.ensures.into_iter_gives ∙ (c.loop-at.invariant.split ∙ ap (λ l. c.loop-at.yielded ++ l) c.in-Some.ensures.steps))
    (c.walk-at-items.ensures.live stored (subst (λ (s : Tables). IsAt s c.args.table stored) c.loop-at.invariant.same here))

pub insert-requires-clause-small : goal.insert-requires-clause-small
insert-requires-clause-small c =
    let (stored, here) = some_at c.args.view.now.store.tables c.args.table c.requires in
    c.are_references_small.ensures stored here c.in-Some.at
    (holds_next (IsLive stored.places) c.walk-at-items.result c.loop-at.yielded c.next.new.self c.in-Some.at
    (sym c.into_iter-at-iterator.ensures.into_iter_gives ∙ (c.loop-at.invariant.split ∙ ap (λ l. c.loop-at.yielded ++ l) c.in-Some.ensures.steps))
    (c.walk-at-items.ensures.live stored here))

pub loop-at-preserved : goal.loop-at-preserved
loop-at-preserved c = record {
  split = split_next c.into_iter-at-iterator.result c.loop-at.yielded c.loop-at.at-iterator c.next.new.self c.in-Some.at
      c.loop-at.invariant.split c.in-Some.ensures.steps;
  same = c.row.ensures.same ∙ c.loop-at.invariant.same;
  pairs = λ stored here.
      hashed_more c.args.column (slot_at stored.places) c.loop-at.pairs.entries c.insert.new.self.entries c.loop-at.yielded c.in-Some.at c.hash_in-hash.result
      (c.loop-at.invariant.pairs stored here) c.insert.ensures.entries
      (c.hash_in-hash.ensures
      ∙ ap (λ content. value_hash (value_in c.args.column (row_in content)))
      (sym (c.row.ensures.row stored (subst (λ (s : Tables). IsAt s c.args.table stored) (sym c.loop-at.invariant.same) here))));
  spare = omega (arith, c.loop-at.invariant.spare, c.insert.ensures.spare, ap length c.in-Some.ensures.steps);
  reads = omega (
    arith,
    c.row.ensures.counted,
    c.loop-at.invariant.reads,
    length-append c.loop-at.yielded (c.in-Some.at ∷ []),
  );
}

pub loop-at-init : goal.loop-at-init
loop-at-init c =
    let store = c.args.view.now.store in
    let (stored, here) = some_at store.tables c.args.table c.requires in
    let is_walk = c.walk-at-items.ensures.walk stored stored.key here refl in
    record {
      split = refl;
      same = refl;
      pairs = λ stored here. subst (λ l. IsPermutation l []) (sym (c.reserve.ensures.entries ∙ c.new-pairs.ensures.entries)) (IsPermutation-refl []);
      spare = omega (
        arith,
        c.in_ok-reserve.ensures.ok,
        c.len_of.ensures.count stored here,
        ap length c.into_iter-at-iterator.ensures.into_iter_gives,
        length_permutation c.walk-at-items.result stored.refs is_walk.same,
        length-map stored.refs (row_at (slot_at stored.places)),
      );
      reads = omega arith;
    }

pub returns-clause-pairs : goal.returns-clause-pairs
returns-clause-pairs c = λ stored here.
    let is_walk = c.walk-at-items.ensures.walk stored stored.key here refl in
    let all : c.walk-at-items.result ≡ c.loop-at.yielded =
    sym c.into_iter-at-iterator.ensures.into_iter_gives
    ∙ split_all c.into_iter-at-iterator.result c.loop-at.yielded c.loop-at.at-iterator c.loop-at.invariant.split c.in-None.ensures.steps.0 in
    hashed_all c.args.column (slot_at stored.places) c.loop-at.pairs.entries c.walk-at-items.result stored.refs
    (subst (λ l. IsPermutation c.loop-at.pairs.entries (map (hashed_row c.args.column (slot_at stored.places)) l)) (sym all)
    (c.loop-at.invariant.pairs stored here)) is_walk.same

pub returns-clause-reads : goal.returns-clause-reads
returns-clause-reads c =
    let store = c.args.view.now.store in
    let (stored, here) = some_at store.tables c.args.table c.requires in
    let is_walk = c.walk-at-items.ensures.walk stored stored.key here refl in
    let all : c.walk-at-items.result ≡ c.loop-at.yielded =
    sym c.into_iter-at-iterator.ensures.into_iter_gives
    ∙ split_all c.into_iter-at-iterator.result c.loop-at.yielded c.loop-at.at-iterator c.loop-at.invariant.split c.in-None.ensures.steps.0 in
    omega (arith, c.loop-at.invariant.reads, ap length all, walk_length store c.args.table stored here c.walk-at-items.result is_walk.same)
