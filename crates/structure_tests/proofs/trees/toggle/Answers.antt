use Rattle.std.proofs.Common.{◌≡◌, ℕ, ◌<◌, List, length, get_or, ◌∙◌, subst}
use Rattle.std.proofs.lemmas.List.{get_or_default}
use Rattle.std.proofs.lemmas.Map.Lookups.{exact_unsigned}
use Rattle.std.specs.List.{Contains}
use Rattle.std.specs.Ordering.{nat_cmp}
use Rattle.std.specs.declared.cmp.Ordering.TheVariants.{Equal}
use Rattle.mm_value.specs.declared.row_ref.RowRef.{RowRef}
use Rattle.structure_tests.proofs.trees.toggle.Goals as goal

same_place : (a b : RowRef) → nat_cmp a.slot b.slot ≡ Equal → a ≡ b
same_place a b e = λ i. record { slot = exact_unsigned a.slot b.slot e i }

not_among : (refs : List RowRef) (r : RowRef) → (Contains refs r → ⊥) → (k : ℕ) (d : RowRef) → k < length refs
    → nat_cmp (get_or refs k d).slot r.slot ≡ Equal → ⊥
not_among refs r absent k d below same =
    absent (k, below, get_or_default refs k r d below ∙ same_place (get_or refs k d) r same)

pub insert-requires-clause-apart : goal.insert-requires-clause-apart
insert-requires-clause-apart g c k d below same =
    let kept : g.R.OrderedRefs.refs c.reserve.new.self ≡ g.R.OrderedRefs.refs c.args.refs.now = c.reserve.ensures.refs ∙ c.if-remove.ensures.absent in
    not_among (g.R.OrderedRefs.refs c.reserve.new.self) c.args.toggled
    (λ here. let there = c.if-remove.ensures.held.1 (subst (λ xs. Contains xs c.args.toggled) kept here) in (cc)) k d below same
