use Rattle.std.proofs.Common.{◌≡◌, ℕ, Option, refl, sym, ap, ◌∙◌, subst}
use Rattle.std.specs.Borrow.{Bor}
use Rattle.mm_plan.specs.Finding.{finds_in_key_order}
use Rattle.mm_plan.specs.declared.step.Step.TheVariants as step
use Rattle.mm_select.specs.Accesses.{IsOfKey, is_in_key_order}
use Rattle.mm_select.specs.declared.access.Access.TheVariants as access
use Rattle.mm_store.specs.declared.index_ref.IndexRef.{IndexRef}
use Rattle.mm_store.specs.declared.index_ref.IndexRef.TheVariants.{Key, Tree, Hash}
use Rattle.mm_value.specs.declared.values.Value.{Value}
use Rattle.mm_plan.proofs.SetEnds.{high_end_set, low_end_set, range_along}
use Rattle.mm_plan.proofs.beginning.access_by.Goals as goal
use Rattle.mm_plan.specs.Steps.{Reaches}
use Rattle.mm_plan.specs.declared.step.Step.{Step}

pub returns-in-Range-clause-asked : goal.returns-in-Range-clause-asked
returns-in-Range-clause-asked c =
    (low_end_set c.args.atoms.now _ _ c.low_end.ensures, high_end_set c.args.atoms.now _ _ c.high_end.ensures)

pub returns-in-Range-clause-along : goal.returns-in-Range-clause-along
returns-in-Range-clause-along c = λ row.
    let atoms = c.args.atoms.now in
    let reached = subst (λ (s : Step). Reaches c.requires.0 atoms s) c.in-Range.is c.requires.1 in
    range_along c.requires.0 atoms c.in-Range.index c.in-Range.atom reached c.index-atoms-atom-in-Range.result c.args.step c.in-Range.is
    _ _ c.low_end.ensures c.high_end.ensures row

same_order : (index : IndexRef) (atom column : ℕ) (low high : Option (Bor Value))
    → is_in_key_order (access.Range index column low high) ≡ finds_in_key_order (step.Range index atom)
same_order Key atom column low high = refl
same_order (Tree place) atom column low high = refl
same_order (Hash place) atom column low high = refl

pub returns-in-Range-clause-ordered : goal.returns-in-Range-clause-ordered
returns-in-Range-clause-ordered c = same_order c.in-Range.index c.in-Range.atom _ _ _ ∙ ap finds_in_key_order (sym c.in-Range.is)

of_key : (index : IndexRef) (own atom column : ℕ) (value : Bor Value) → step.LookUp index own ≡ step.LookUp Key atom
    → IsOfKey (access.Equal index column value)
of_key Key own atom column value is = tt
of_key (Tree place) own atom column value is = cc
of_key (Hash place) own atom column value is = cc

pub returns-in-Literal-clause-by_key : goal.returns-in-Literal-clause-by_key
returns-in-Literal-clause-by_key c = λ atom is. of_key c.in-LookUp.index c.in-LookUp.atom atom _ _ (sym c.in-LookUp.is ∙ is)
