use Rattle.std.proofs.Common.{◌≡◌, sym, ap, ◌∙◌, subst, arith}
use Rattle.std.specs.Option.{option_copied}
use Rattle.std.specs.declared.cmp.Ordering.TheVariants.{Less, Greater}
use Rattle.mm_order.specs.Probe.{entries_between}
use Rattle.ttree_node.specs.Entries.{first_entry, last_entry}
use Rattle.ttree_node.specs.Tree.{fork, in_order, node_count, tree_of}
use Rattle.ttree.specs.Searchable.{IsSearchable}
use Rattle.ttree.proofs.Between.{greater_from_test}
use Rattle.ttree.proofs.Meeting.{before_root, behind_root}
use Rattle.ttree.proofs.Reached.{left_searchable, reached_first, reached_last, right_searchable}
use Rattle.ttree.proofs.ranges.meeting.Goals as goal
use Rattle.mm_order.proofs.Places.{less_from_is_lt}

pub place-requires : goal.place-requires
place-requires g c =
    let is = c.last.ensures ∙ ap last_entry c.entries-entries.ensures.value in
    subst (g.L.Probe.covers c.args.low.now) (sym is) (reached_last _ _ _ _ c.in-Some.node.now (rw c.in-Some.is at c.loop-at.invariant.low))

pub loop-at-preserved-then-is_lt : goal.loop-at-preserved-then-is_lt
loop-at-preserved-then-is_lt g c =
    let n = c.in-Some.node.now in
    let low = g.L.Probe.place_of c.args.low.now in
    let high = g.H.Probe.place_of c.args.high.now in
    let is_low = rw c.in-Some.is at c.loop-at.invariant.low in
    let is_high = rw c.in-Some.is at c.loop-at.invariant.high in
    let last : low (last_entry n.entries) ≡ Less =
    ap low (sym (c.last.ensures ∙ ap last_entry c.entries-entries.ensures.value)) ∙ (sym c.place.ensures
    ∙ less_from_is_lt c.place.result (sym c.is_lt.ensures ∙ c.if-is_lt.true)) in
    let whole : node_count (tree_of (option_copied c.loop-at.at)) ≡ node_count (fork n) = ap (λ o. node_count (tree_of (option_copied o))) c.in-Some.is in
    let side : node_count (tree_of (option_copied c.right-at.result)) ≡ node_count n.right = ap node_count c.right-at.ensures in
    record {
      low = subst (IsSearchable _ _ _ _) (sym c.right-at.ensures) (right_searchable _ _ _ _ n is_low);
      high = subst (IsSearchable _ _ _ _) (sym c.right-at.ensures) (right_searchable _ _ _ _ n is_high);
      no_larger = omega (arith, whole, side, c.loop-at.invariant.no_larger);
      same_entries = ap (λ t. entries_between low high (in_order t)) c.right-at.ensures
          ∙ (sym (behind_root _ _ _ _ low high n is_low is_high last)
          ∙ (sym (ap (λ o. entries_between low high (in_order (tree_of (option_copied o)))) c.in-Some.is) ∙ c.loop-at.invariant.same_entries));
    }

pub place-requires-else-is_lt : goal.place-requires-else-is_lt
place-requires-else-is_lt g c =
    let is = c.first.ensures ∙ ap first_entry c.entries-entries.ensures.value in
    subst (g.H.Probe.covers c.args.high.now) (sym is) (reached_first _ _ _ _ c.in-Some.node.now (rw c.in-Some.is at c.loop-at.invariant.high))

pub loop-at-preserved : goal.loop-at-preserved
loop-at-preserved g c =
    let n = c.in-Some.node.now in
    let low = g.L.Probe.place_of c.args.low.now in
    let high = g.H.Probe.place_of c.args.high.now in
    let is_low = rw c.in-Some.is at c.loop-at.invariant.low in
    let is_high = rw c.in-Some.is at c.loop-at.invariant.high in
    let first : high (first_entry n.entries) ≡ Greater =
    ap high (sym (c.first.ensures ∙ ap first_entry c.entries-entries.ensures.value)) ∙ (sym c.place-else-is_lt.ensures
    ∙ greater_from_test c.place-else-is_lt.result (sym c.is_gt.ensures ∙ c.if-is_gt.true)) in
    let whole : node_count (tree_of (option_copied c.loop-at.at)) ≡ node_count (fork n) = ap (λ o. node_count (tree_of (option_copied o))) c.in-Some.is in
    let side : node_count (tree_of (option_copied c.left-at.result)) ≡ node_count n.left = ap node_count c.left-at.ensures in
    record {
      low = subst (IsSearchable _ _ _ _) (sym c.left-at.ensures) (left_searchable _ _ _ _ n is_low);
      high = subst (IsSearchable _ _ _ _) (sym c.left-at.ensures) (left_searchable _ _ _ _ n is_high);
      no_larger = omega (arith, whole, side, c.loop-at.invariant.no_larger);
      same_entries = ap (λ t. entries_between low high (in_order t)) c.left-at.ensures
          ∙ (sym (before_root _ _ _ _ low high n is_low is_high first)
          ∙ (sym (ap (λ o. entries_between low high (in_order (tree_of (option_copied o)))) c.in-Some.is) ∙ c.loop-at.invariant.same_entries));
    }
