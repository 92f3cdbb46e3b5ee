use Rattle.std.proofs.Common.{◌≡◌, ◌<◌, ◌++◌, Contains, length, take, drop, suc, get_or, sym, ap, ◌∙◌, subst, arith}
use Rattle.std.proofs.lemmas.Bool.{false≢true}
use Rattle.std.proofs.lemmas.List.{get_or_default}
use Rattle.mm_order.specs.Order.{IsOrdered}
use Rattle.mm_order.specs.Refs.{RefList, AddsInOrder}
use Rattle.mm_order.proofs.Ordered.{stands_at_place, AddsInOrder-found}
use Rattle.mm_order.proofs.Same.{differ-same, same_from_differ}
use Rattle.mm_order.proofs.sorted_refs.SortedRefsOrderedRefs.remove.Goals as goal
use Rattle.mm_order.proofs.sorted_refs.SortedRefsOrderedRefs.remove.Goals.{then-at-len-via-then-at-len, then-at-len-via-else-at-len+then-ne}

pub returns-then-at-len-clause-held : goal.returns-then-at-len-clause-held
returns-then-at-len-clause-held g c =
    let seen : c.as_slice.result.now ≡ c.args.self.now.refs = c.as_slice.ensures.value ∙ ap (λ (l : RefList). l.refs) c.self.view_is in
    let ordered : IsOrdered (g.O.RefOrder.covers c.args.order.now) (g.O.RefOrder.cmp c.args.order.now) c.as_slice.result.now =
    subst (IsOrdered (g.O.RefOrder.covers c.args.order.now) (g.O.RefOrder.cmp c.args.order.now)) (sym seen) c.requires.ordered in (
      λ f. absurd (false≢true f),
      λ held.
          let there = stands_at_place (g.O.RefOrder.covers c.args.order.now) (g.O.RefOrder.cmp c.args.order.now)
          (g.met.O.RefOrder.total c.args.order.now) c.as_slice.result.now ordered c.args.gone c.requires.covered c.lower_bound-at.result
          c.lower_bound-at.ensures.before c.lower_bound-at.ensures.rest (subst (λ xs. Contains xs c.args.gone) (sym seen) held) in
          absurd (elim c.then-at-len.branch [
            | then-at-len-via-then-at-len w ↦ omega (arith, there.0)
            | then-at-len-via-else-at-len+then-ne w ↦
                let is : w.index.result.now ≡ c.args.gone = w.index.ensures
                ∙ get_or_default c.self.inside.refs.items c.lower_bound-at.result w.index.result.now c.args.gone
                (subst (λ xs. c.lower_bound-at.result < length xs) c.as_slice.ensures.value there.0)
                ∙ subst (λ xs. get_or xs c.lower_bound-at.result c.args.gone ≡ c.args.gone) c.as_slice.ensures.value there.1 in
                false≢true (sym (differ-same w.index.result.now c.args.gone is) ∙ sym w.ne.ensures ∙ w.if-ne.true)
          ]),
    )

pub returns-clause-taken : goal.returns-clause-taken
returns-clause-taken g c =
    let seen : c.as_slice.result.now ≡ c.args.self.now.refs = c.as_slice.ensures.value ∙ ap (λ (l : RefList). l.refs) c.self.view_is in
    let ordered : IsOrdered (g.O.RefOrder.covers c.args.order.now) (g.O.RefOrder.cmp c.args.order.now) c.as_slice.result.now =
    subst (IsOrdered (g.O.RefOrder.covers c.args.order.now) (g.O.RefOrder.cmp c.args.order.now)) (sym seen) c.requires.ordered in
    let is : c.index.result.now ≡ c.args.gone = same_from_differ c.index.result.now c.args.gone (sym c.ne.ensures ∙ c.if-ne.false) in
    let stands : get_or c.as_slice.result.now c.lower_bound-at.result c.args.gone ≡ c.args.gone =
    subst (λ xs. get_or xs c.lower_bound-at.result c.args.gone ≡ c.args.gone) (sym c.as_slice.ensures.value)
    (subst (λ r. get_or c.self.inside.refs.items c.lower_bound-at.result r ≡ r) is (sym c.index.ensures)) in
    let left : take c.lower_bound-at.result c.as_slice.result.now ++ drop (suc c.lower_bound-at.result) c.as_slice.result.now ≡ c.remove.new.self.items =
    ap (λ xs. take c.lower_bound-at.result xs ++ drop (suc c.lower_bound-at.result) xs) c.as_slice.ensures.value ∙ sym c.remove.ensures.items in
    let found = AddsInOrder-found (g.O.RefOrder.covers c.args.order.now) (g.O.RefOrder.cmp c.args.order.now)
    (g.met.O.RefOrder.total c.args.order.now) c.as_slice.result.now ordered c.args.gone c.requires.covered c.lower_bound-at.result
    c.lower_bound-at.ensures.before c.lower_bound-at.ensures.rest (omega arith) stands in
    subst (λ more. AddsInOrder (g.O.RefOrder.cmp c.args.order.now) c.remove.new.self.items c.args.gone more) seen
    (subst (λ refs. AddsInOrder (g.O.RefOrder.cmp c.args.order.now) refs c.args.gone c.as_slice.result.now) left found)
