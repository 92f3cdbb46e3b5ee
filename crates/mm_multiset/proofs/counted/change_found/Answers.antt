-- The row's entry has the changed count.
use Rattle.std.proofs.Common.{pos, ◌+ℤ◌, refl, ap, sym, subst, ◌∙◌}
use Rattle.std.proofs.lemmas.Int.{to_z-of_z}
use Rattle.std.specs.Option.{IsSome, option_copied_mut}
use mir.Syntax.{w128}
use Rattle.mm_multiset.proofs.Entries.{adds_at_entry, total_at_entry}
use Rattle.mm_multiset.proofs.counted.change_found.Goals as goal

pub returns-in-Some-clause-added : goal.returns-in-Some-clause-added
returns-in-Some-clause-added c =
    let had = sym c.get_mut.ensures.value ∙ ap (λ r. option_copied_mut r) c.in-Some.is in
    let written = c.get_mut.follows.holds c.changed.result in
    let is = c.changed.ensures ∙ ap (λ z. pos c.in-Some.count.now +ℤ z) (to_z-of_z w128 c.args.change c.ranges.change) in
    λ _. adds_at_entry c.args.row.now c.args.change c.args.counts.now.entries (c.get_mut.follows.lender c.changed.result).entries c.changed.result
    (written.3 (subst IsSome (sym had) refl)).0 c.in-Some.count.now had is

pub returns-in-Some-clause-total : goal.returns-in-Some-clause-total
returns-in-Some-clause-total c =
    let had = sym c.get_mut.ensures.value ∙ ap (λ r. option_copied_mut r) c.in-Some.is in
    let written = c.get_mut.follows.holds c.changed.result in
    let is = c.changed.ensures ∙ ap (λ z. pos c.in-Some.count.now +ℤ z) (to_z-of_z w128 c.args.change c.ranges.change) in
    λ _. total_at_entry c.args.row.now c.args.change c.args.counts.now.entries (c.get_mut.follows.lender c.changed.result).entries c.changed.result
    (written.3 (subst IsSome (sym had) refl)).0 c.in-Some.count.now had is written.0
