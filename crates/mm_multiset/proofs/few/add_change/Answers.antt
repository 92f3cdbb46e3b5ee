use Rattle.std.proofs.Common.{◌≡◌, ℤ, ◌+ℤ◌, List, [], ◌∷◌, ◌++◌, get_or, set, ap, subst, ◌∙◌}
use Rattle.std.proofs.lemmas.Int.{to_z-of_z}
use mir.Syntax.{w128}
use Rattle.std.proofs.lemmas.Result.{on_ok_weaker}
use Rattle.mm_multiset.specs.Tally.{with_change}
use Rattle.mm_multiset.specs.declared.signed.Signed.{Signed}
use Rattle.mm_multiset.proofs.Adding.{with_change_at, with_change_new}
use Rattle.mm_multiset.proofs.Passing.{small_fits}
use Rattle.mm_multiset.proofs.few.add_change.Goals as goal

pub returns-in-Some-clause-added : goal.returns-in-Some-clause-added
returns-in-Some-clause-added c =
    let change = c.args.change in
    let i = c.in-Some.i in
    on_ok_weaker c.add_at.result
    (λ added. added change
    ∙ ap (λ (z : ℤ). set c.args.changes.now.items i (record {
      row = (get_or c.args.changes.now.items i change).row;
      count =
          (get_or c.args.changes.now.items i change).count +ℤ z;
    }))
    (to_z-of_z w128 change.count (small_fits change.count c.requires.change.0 c.requires.change.1))
    ∙ subst (λ (l : List Signed). set l i (record { row = (get_or l i change).row; count = (get_or l i change).count +ℤ change.count }) ≡ with_change change l)
    c.deref.ensures.value
    (with_change_at change c.deref.result.now i change c.in-Some.ensures.within c.in-Some.ensures.first (c.in-Some.ensures.found change)))
    c.add_at.ensures.added

pub returns-in_ok-push-in-None-clause-added : goal.returns-in_ok-push-in-None-clause-added
returns-in_ok-push-in-None-clause-added c =
    let change = c.args.change in
    c.in_ok-push-in-None.ensures.items
    ∙ subst (λ (l : List Signed). l ++ change ∷ [] ≡ with_change change l) c.deref.ensures.value
    (with_change_new change c.deref.result.now c.in-None.ensures.none)
