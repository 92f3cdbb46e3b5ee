use Rattle.std.proofs.Common.{◌≡◌, ◌≢◌, ◌+◌, ◌≤◌, ◌++◌, [], refl, sym, ap, ◌∙◌, subst, arith}
use Rattle.std.specs.Ordering.{is_gt}
use Rattle.std.specs.Option.{option_copied}
use Rattle.std.specs.declared.cmp.Ordering.TheVariants.{Greater}
use Rattle.ttree_node.specs.Entries.{first_entry}
use Rattle.ttree_node.specs.Tree.{fork, tree_of, in_order, height_of}
use Rattle.ttree.specs.Balanced.{IsTTree}
use Rattle.ttree.proofs.Between.{greater_from_test}
use Rattle.ttree.proofs.Decides.{Narrows, decided, entries_of, first_covered, narrows_left, narrows_right, none_decided}
use Rattle.ttree.proofs.look_up.bounding_node.Goals as goal

pub loop-rest-init : goal.loop-rest-init
loop-rest-init g c = record {
  probe = refl;
  steps = omega arith;
  balanced = c.requires.balanced;
  filled = tt;
  narrows = record {
    ordered = c.requires.ordered;
    found_within = λ r held. absurd (omega (arith, held.1));
    rest_within = λ r held. held;
    none = λ _ in_rest. in_rest;
  };
}

pub first-requires : goal.first-requires
first-requires g c =
    let tree : IsTTree (fork c.in-Some.node.now) = rw c.in-Some.is at c.loop-rest.invariant.balanced in
    rw c.entries.ensures.value tree.2.filled

pub place-requires : goal.place-requires
place-requires g c =
    let n = c.in-Some.node.now in
    let tree : IsTTree (fork n) = rw c.in-Some.is at c.loop-rest.invariant.balanced in
    let narrows : Narrows (g.O.RefOrder.covers c.args.order.now) (g.O.RefOrder.cmp c.args.order.now) (g.P.Probe.place_of c.args.seek.now.probe)
    (in_order (tree_of (option_copied c.args.tree))) (entries_of (option_copied c.loop-rest.found)) (in_order n.left ++ n.entries ++ in_order n.right) =
    rw c.in-Some.is at c.loop-rest.invariant.narrows in
    let is = c.first.ensures ∙ ap first_entry c.entries.ensures.value in
    subst (λ p. g.P.Probe.covers p c.first.result) (sym c.loop-rest.invariant.probe)
    (subst (g.P.Probe.covers c.args.seek.now.probe) (sym is)
    (c.requires.monotone.reaches (first_entry n.entries) (first_covered _ _ _ n narrows.ordered tree.2.filled)))

pub loop-rest-preserved-then-is_gt : goal.loop-rest-preserved-then-is_gt
loop-rest-preserved-then-is_gt g c =
    let was = c.loop-rest.invariant in
    let n = c.in-Some.node.now in
    let place = g.P.Probe.place_of c.args.seek.now.probe in
    let tree : IsTTree (fork n) = rw c.in-Some.is at was.balanced in
    let narrows : Narrows (g.O.RefOrder.covers c.args.order.now) (g.O.RefOrder.cmp c.args.order.now) place (in_order (tree_of (option_copied c.args.tree)))
    (entries_of (option_copied c.loop-rest.found)) (in_order n.left ++ n.entries ++ in_order n.right) = rw c.in-Some.is at was.narrows in
    let answer : c.place.result ≡ place (first_entry n.entries) =
    c.place.ensures.answer ∙ (λ i. g.P.Probe.place_of (was.probe i) ((c.first.ensures ∙ ap first_entry c.entries.ensures.value) i)) in
    let greater : place (first_entry n.entries) ≡ Greater = sym answer ∙ greater_from_test c.place.result (sym c.is_gt.ensures ∙ c.if-is_gt.true) in
    let left : in_order (tree_of (option_copied c.left-rest.result)) ≡ in_order n.left = ap in_order c.left-rest.ensures in
    let steps = subst (λ t. c.loop-rest.seek.count + height_of t ≤ c.args.seek.now.count + height_of (tree_of (option_copied c.args.tree)))
    (ap (λ o. tree_of (option_copied o)) c.in-Some.is) was.steps in
    record {
      probe = ap (λ s. s.probe) c.place.ensures.counted ∙ was.probe;
      steps = omega (arith, steps, ap (λ s. s.count) c.place.ensures.counted, ap height_of c.left-rest.ensures);
      balanced = subst IsTTree (sym c.left-rest.ensures) tree.0;
      filled = was.filled;
      narrows = subst (Narrows _ _ place _ _) (sym left)
          (narrows_left _ _ _ place c.requires.monotone _ _ (in_order n.left) n.entries (in_order n.right) narrows tree.2.filled _ greater);
    }

pub loop-rest-preserved : goal.loop-rest-preserved
loop-rest-preserved g c =
    let was = c.loop-rest.invariant in
    let n = c.in-Some.node.now in
    let place = g.P.Probe.place_of c.args.seek.now.probe in
    let tree : IsTTree (fork n) = rw c.in-Some.is at was.balanced in
    let narrows : Narrows (g.O.RefOrder.covers c.args.order.now) (g.O.RefOrder.cmp c.args.order.now) place (in_order (tree_of (option_copied c.args.tree)))
    (entries_of (option_copied c.loop-rest.found)) (in_order n.left ++ n.entries ++ in_order n.right) = rw c.in-Some.is at was.narrows in
    let answer : c.place.result ≡ place (first_entry n.entries) =
    c.place.ensures.answer ∙ (λ i. g.P.Probe.place_of (was.probe i) ((c.first.ensures ∙ ap first_entry c.entries.ensures.value) i)) in
    let not_greater : place (first_entry n.entries) ≢ Greater = λ (is : place (first_entry n.entries) ≡ Greater).
    let e = sym c.if-is_gt.false ∙ c.is_gt.ensures ∙ ap is_gt (answer ∙ is) in cc in
    let right : in_order (tree_of (option_copied c.right-rest.result)) ≡ in_order n.right = ap in_order c.right-rest.ensures in
    let steps = subst (λ t. c.loop-rest.seek.count + height_of t ≤ c.args.seek.now.count + height_of (tree_of (option_copied c.args.tree)))
    (ap (λ o. tree_of (option_copied o)) c.in-Some.is) was.steps in
    record {
      probe = ap (λ s. s.probe) c.place.ensures.counted ∙ was.probe;
      steps = omega (arith, steps, ap (λ s. s.count) c.place.ensures.counted, ap height_of c.right-rest.ensures);
      balanced = subst IsTTree (sym c.right-rest.ensures) tree.1;
      filled = tree.2.filled;
      narrows = subst (Narrows _ _ place _ _) (sym right)
          (narrows_right _ _ _ place c.requires.monotone _ _ (in_order n.left) n.entries (in_order n.right) narrows tree.2.filled _ not_greater);
    }

pub returns-clause-steps : goal.returns-clause-steps
returns-clause-steps g c = omega (arith, c.loop-rest.invariant.steps)

pub returns-clause-part : goal.returns-clause-part
returns-clause-part g c =
    let place = g.P.Probe.place_of c.args.seek.now.probe in
    let whole = in_order (tree_of (option_copied c.args.tree)) in
    let narrows : Narrows (g.O.RefOrder.covers c.args.order.now) (g.O.RefOrder.cmp c.args.order.now) place whole
    (entries_of (option_copied c.loop-rest.found)) [] = rw c.in_default.is at c.loop-rest.invariant.narrows in
    decided _ _ place whole c.loop-rest.found c.loop-rest.invariant.filled narrows

pub returns-clause-none : goal.returns-clause-none
returns-clause-none g c =
    let place = g.P.Probe.place_of c.args.seek.now.probe in
    let whole = in_order (tree_of (option_copied c.args.tree)) in
    let narrows : Narrows (g.O.RefOrder.covers c.args.order.now) (g.O.RefOrder.cmp c.args.order.now) place whole
    (entries_of (option_copied c.loop-rest.found)) [] = rw c.in_default.is at c.loop-rest.invariant.narrows in
    none_decided _ _ place whole c.loop-rest.found narrows
