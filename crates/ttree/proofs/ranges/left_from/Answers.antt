use Rattle.std.proofs.Common.{◌≡◌, sym, ap, ◌∙◌, subst}
use Rattle.std.specs.declared.cmp.Ordering.TheVariants.{Less}
use Rattle.ttree_node.specs.Entries.{first_entry}
use Rattle.ttree_node.specs.Tree.{in_order}
use Rattle.ttree.proofs.Between.{nothing_left}
use Rattle.ttree.proofs.Reached.{reached_first, left_searchable}
use Rattle.ttree.proofs.ranges.left_from.Goals as goal
use Rattle.mm_order.proofs.Places.{less_from_is_lt}

pub place-requires : goal.place-requires
place-requires g c =
    let is = c.first.ensures ∙ ap first_entry c.entries.ensures.value in
    subst (g.L.Probe.covers c.args.low.now) (sym is) (reached_first _ _ _ _ c.args.node.now c.requires)

pub returns-then-is_lt-clause-same_entries : goal.returns-then-is_lt-clause-same_entries
returns-then-is_lt-clause-same_entries g c high =
    let n = c.args.node.now in
    let place = g.L.Probe.place_of c.args.low.now in
    let test : place c.first.result ≡ Less = sym c.place.ensures ∙ less_from_is_lt c.place.result (sym c.is_lt.ensures ∙ c.if-is_lt.true) in
    let is : place (first_entry n.entries) ≡ Less = ap place (sym (c.first.ensures ∙ ap first_entry c.entries.ensures.value)) ∙ test in
    sym (nothing_left _ _ (in_order n.left) n.entries (in_order n.right) c.requires.ordered c.requires.balanced.2.filled _ _ place c.requires.monotone is high)

pub returns-clause-ordered : goal.returns-clause-ordered
returns-clause-ordered g c =
    let side = left_searchable _ _ _ _ c.args.node.now c.requires in
    rw c.left.ensures side.ordered
