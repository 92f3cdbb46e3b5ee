-- One row more is counted.
use Rattle.std.proofs.Common.{◌≡◌, ◌≤◌, ◌+◌, ◌++◌, List, [], ◌∷◌, Some, length, take, refl, sym, ap, ◌∙◌, subst, arith}
use Rattle.std.specs.Prelude.{slice_get}
use Rattle.std.proofs.lemmas.List.{take_all, take_more}
use Rattle.std.proofs.lemmas.Option.{get_or_from_slice_get, slice_get_within}
use Rattle.mm_partition.specs.Types.{HasTypes}
use Rattle.mm_value.specs.declared.col_type.ColType.{ColType}
use Rattle.mm_value.specs.declared.values.Value.{Value}
use Rattle.mm_multiset.specs.Counts.{count_in}
use Rattle.mm_store.specs.Tables.{Tables}
use Rattle.mm_templist.specs.Results.{projected_rows}
use Rattle.mm_standing.specs.Bags.{ArePositive}
use Rattle.mm_standing.specs.Queries.{IsBagOf}
use Rattle.mm_standing.proofs.Found.{bag_more, positive_more, positive_none}
use Rattle.mm_standing.proofs.watching.counted.Goals as goal
use Rattle.mm_templist.proofs.Only.{length_projected}

pub loop-i-init : goal.loop-i-init
loop-i-init c = record {
  counts = λ row. ap (count_in row) c.in_ok-bag.ensures.entries;
  positive = subst ArePositive (sym c.in_ok-bag.ensures.entries) positive_none;
  types = c.in_ok-bag.ensures.types;
  feed = c.in_ok-bag.ensures.feed;
  same = refl;
}

pub count_up-requires : goal.count_up-requires
count_up-requires c =
    let rows : List (List Value) = projected_rows c.args.view.now.store c.args.list.now in
    let i = c.loop-i.i in
    let row = c.in_ok-row_read.field-0 in
    let here : slice_get rows i ≡ Some row =
    subst (λ (s : Tables). slice_get (projected_rows s c.args.list.now) i ≡ Some row) c.loop-i.invariant.same c.in_ok-row_read.ensures.row in
    record {
      typed = subst (λ (ts : List ColType). HasTypes ts row) (sym c.loop-i.invariant.types)
          (subst (HasTypes c.args.types.now) (get_or_from_slice_get rows i row row here) (c.requires.typed i row (slice_get_within rows i row here)));
    }

pub loop-i-preserved : goal.loop-i-preserved
loop-i-preserved c =
    let rows : List (List Value) = projected_rows c.args.view.now.store c.args.list.now in
    let i = c.loop-i.i in
    let row = c.in_ok-row_read.field-0 in
    let here : slice_get rows i ≡ Some row =
    subst (λ (s : Tables). slice_get (projected_rows s c.args.list.now) i ≡ Some row) c.loop-i.invariant.same c.in_ok-row_read.ensures.row in
    let next : take (i + 1) rows ≡ take i rows ++ row ∷ [] =
    take_more rows i row (slice_get_within rows i row here) ∙ ap (λ r. take i rows ++ r ∷ []) (get_or_from_slice_get rows i row row here) in
    record {
      counts = subst (IsBagOf c.count_up.new.self.entries) (sym next)
          (bag_more c.loop-i.bag.entries c.count_up.new.self.entries (take i rows) row c.loop-i.invariant.counts c.in_ok-count_up.ensures.counted);
      positive = positive_more c.loop-i.bag.entries c.count_up.new.self.entries row c.loop-i.invariant.positive c.in_ok-count_up.ensures.counted;
      types = c.count_up.ensures.types ∙ c.loop-i.invariant.types;
      feed = c.count_up.ensures.feed ∙ c.loop-i.invariant.feed;
      same = c.row_read.ensures.same ∙ c.loop-i.invariant.same;
    }

pub returns-clause-ok : goal.returns-clause-ok
returns-clause-ok c =
    let store = c.args.view.now.store in
    let list = c.args.list.now in
    let rows : List (List Value) = projected_rows store list in
    let all : length rows ≤ c.loop-i.i = omega (arith, c.loop-i-test.false, length_projected store list) in
    subst (IsBagOf c.loop-i.bag.entries) (take_all c.loop-i.i rows all) c.loop-i.invariant.counts
