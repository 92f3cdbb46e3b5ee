use Rattle.std.proofs.Common.{◌≡◌, ◌≢◌, Bool, true, false, refl, sym, ap, ◌∙◌, subst}
use Rattle.std.specs.Bool.{OnTrue}
use Rattle.std.specs.declared.cmp.Ordering.TheVariants.{Less, Greater}
use Rattle.mm_order.proofs.Places.{not_less_from_is_lt, not_greater_from_is_le}
use Rattle.ttree_node.specs.Entries.{first_entry, last_entry}
use Rattle.ttree.proofs.Between.{all_between}
use Rattle.ttree.proofs.Reached.{reached_first, reached_last, risen}
use Rattle.ttree.proofs.ranges.is_within.Goals as goal

-- Lemma: a consequence of a test that is true.
OnTrue-shown : (b : Bool) (P : Type 0) → (b ≡ true → P) → OnTrue b P
OnTrue-shown true P shown = shown refl
OnTrue-shown false P shown = tt

pub place-requires : goal.place-requires
place-requires g c =
    let is = c.first.ensures ∙ ap first_entry c.entries-entries.ensures.value in
    subst (g.L.Probe.covers c.args.low.now) (sym is) (reached_first _ _ _ _ c.args.node.now c.requires.low)

pub place-requires-2 : goal.place-requires-2
place-requires-2 g c =
    let is = c.last.ensures ∙ ap last_entry c.entries-entries.ensures.value in
    subst (g.H.Probe.covers c.args.high.now) (sym is) (reached_last _ _ _ _ c.args.node.now c.requires.high)

pub returns : goal.returns
returns g c =
    let n = c.args.node.now in
    let low = g.L.Probe.place_of c.args.low.now in
    let high = g.H.Probe.place_of c.args.high.now in
    let first_is = c.first.ensures ∙ ap first_entry c.entries-entries.ensures.value in
    let last_is = c.last.ensures ∙ ap last_entry c.entries-entries.ensures.value in
    let first : low (first_entry n.entries) ≢ Less =
    subst (λ o. o ≢ Less) (c.place.ensures ∙ ap low first_is) (not_less_from_is_lt c.place.result (sym c.is_lt.ensures ∙ c.if-is_lt.false)) in
    OnTrue-shown c.is_le.result _ (λ test.
    let last : high (last_entry n.entries) ≢ Greater =
    subst (λ o. o ≢ Greater) (c.place-2.ensures ∙ ap high last_is) (not_greater_from_is_le c.place-2.result (sym c.is_le.ensures ∙ test)) in
    all_between low high n.entries c.requires.low.balanced.2.filled (risen _ _ _ _ n c.requires.low) (risen _ _ _ _ n c.requires.high) first last)
