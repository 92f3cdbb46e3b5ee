use Rattle.std.proofs.Common.{◌≡◌, sym, ap, ◌∙◌, subst}
use Rattle.std.specs.declared.cmp.Ordering.TheVariants.{Greater}
use Rattle.ttree_node.specs.Entries.{last_entry}
use Rattle.ttree_node.specs.Tree.{in_order}
use Rattle.ttree.proofs.Between.{nothing_right, greater_from_test}
use Rattle.ttree.proofs.Reached.{reached_last, right_searchable}
use Rattle.ttree.proofs.ranges.right_to.Goals as goal

pub place-requires : goal.place-requires
place-requires g c =
    let is = c.last.ensures ∙ ap last_entry c.entries.ensures.value in
    subst (g.H.Probe.covers c.args.high.now) (sym is) (reached_last _ _ _ _ c.args.node.now c.requires)

pub returns-then-is_gt-clause-same_entries : goal.returns-then-is_gt-clause-same_entries
returns-then-is_gt-clause-same_entries g c low =
    let n = c.args.node.now in
    let place = g.H.Probe.place_of c.args.high.now in
    let test : place c.last.result ≡ Greater = sym c.place.ensures ∙ greater_from_test c.place.result (sym c.is_gt.ensures ∙ c.if-is_gt.true) in
    let is : place (last_entry n.entries) ≡ Greater = ap place (sym (c.last.ensures ∙ ap last_entry c.entries.ensures.value)) ∙ test in
    sym (nothing_right _ _ (in_order n.left) n.entries (in_order n.right) c.requires.ordered c.requires.balanced.2.filled _ _ place c.requires.monotone is low)

pub returns-clause-ordered : goal.returns-clause-ordered
returns-clause-ordered g c =
    let side = right_searchable _ _ _ _ c.args.node.now c.requires in
    rw c.right.ensures side.ordered
