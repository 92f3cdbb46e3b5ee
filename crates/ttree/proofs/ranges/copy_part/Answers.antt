use Rattle.std.proofs.Common.{◌≡◌, List, ◌++◌, sym, ap, ◌∙◌, subst}
use Rattle.std.proofs.lemmas.List.{append-nil}
use Rattle.std.specs.List.{All}
use Rattle.std.specs.declared.cmp.Ordering.TheVariants.{Less, Greater}
use Rattle.mm_value.specs.declared.row_ref.RowRef.{RowRef}
use Rattle.ttree_node.specs.Entries.{first_entry, last_entry}
use Rattle.ttree.proofs.Between.{none_from_low, none_to_high, greater_from_test}
use Rattle.ttree.proofs.Reached.{reached, reached_first, reached_last, risen}
use Rattle.ttree.proofs.ranges.copy_part.Goals as goal
use Rattle.mm_order.proofs.Places.{less_from_is_lt}

pub place-requires : goal.place-requires
place-requires g c =
    let is = c.last.ensures ∙ ap last_entry c.entries-entries.ensures.value in
    subst (g.L.Probe.covers c.args.low.now) (sym is) (reached_last _ _ _ _ c.args.node.now c.requires.low)

pub place-requires-2 : goal.place-requires-2
place-requires-2 g c =
    let is = c.first.ensures ∙ ap first_entry c.entries-entries.ensures.value in
    subst (g.H.Probe.covers c.args.high.now) (sym is) (reached_first _ _ _ _ c.args.node.now c.requires.high)

pub returns-then-is_lt-clause-ok : goal.returns-then-is_lt-clause-ok
returns-then-is_lt-clause-ok g c =
    let n = c.args.node.now in
    let low = g.L.Probe.place_of c.args.low.now in
    let high = g.H.Probe.place_of c.args.high.now in
    let last : low (last_entry n.entries) ≡ Less =
    ap low (sym (c.last.ensures ∙ ap last_entry c.entries-entries.ensures.value)) ∙ sym c.place.ensures
    ∙ less_from_is_lt c.place.result (sym c.is_lt.ensures ∙ c.if-is_lt.true) in
    let none = none_from_low low high n.entries c.requires.low.balanced.2.filled (risen _ _ _ _ n c.requires.low) (risen _ _ _ _ n c.requires.high) last in
    sym (ap (λ xs. c.args.out.now.items ++ xs) none ∙ append-nil c.args.out.now.items)

pub returns-then-is_gt-clause-ok : goal.returns-then-is_gt-clause-ok
returns-then-is_gt-clause-ok g c =
    let n = c.args.node.now in
    let low = g.L.Probe.place_of c.args.low.now in
    let high = g.H.Probe.place_of c.args.high.now in
    let first : high (first_entry n.entries) ≡ Greater =
    ap high (sym (c.first.ensures ∙ ap first_entry c.entries-entries.ensures.value)) ∙ sym c.place-2.ensures
    ∙ greater_from_test c.place-2.result (sym c.is_gt.ensures ∙ c.if-is_gt.true) in
    let none = none_to_high low high n.entries c.requires.low.balanced.2.filled (risen _ _ _ _ n c.requires.low) (risen _ _ _ _ n c.requires.high) first in
    sym (ap (λ xs. c.args.out.now.items ++ xs) none ∙ append-nil c.args.out.now.items)

pub copy_fitting-requires-clause-low : goal.copy_fitting-requires-clause-low
copy_fitting-requires-clause-low g c =
    subst (λ (xs : List RowRef). All (g.L.Probe.covers c.args.low.now) xs) (sym c.entries-entries.ensures.value)
    (reached _ _ _ _ c.args.node.now c.requires.low)

pub copy_fitting-requires-clause-high : goal.copy_fitting-requires-clause-high
copy_fitting-requires-clause-high g c =
    subst (λ (xs : List RowRef). All (g.H.Probe.covers c.args.high.now) xs) (sym c.entries-entries.ensures.value)
    (reached _ _ _ _ c.args.node.now c.requires.high)
