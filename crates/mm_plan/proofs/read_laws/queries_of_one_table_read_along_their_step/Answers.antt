use Rattle.std.proofs.Common.{◌≡◌, ℕ, ◌==◌, ◌&&◌, Bool, true, false, cond, Option, Some, None, List, [], ◌∷◌, ap, arith, refl}
use Rattle.std.proofs.lemmas.Bool.{eq-eqb}
use Rattle.std.specs.List.{count_by}
use Rattle.mm_plan.proofs.read_laws.queries_of_one_table_read_along_their_step.Goals as goal
use Rattle.mm_plan.specs.Steps.{may_look}
use Rattle.mm_plan.specs.declared.step.Step.TheVariants.{Range}
use Rattle.mm_query.specs.Choosing.{first_there}
use Rattle.mm_query.specs.declared.atom.Comparison.TheVariants.{GreaterOrEqual, LessOrEqual}
use Rattle.mm_select.proofs.Covered.{scan_counted}
use Rattle.mm_select.specs.Accesses.{lies_between}
use Rattle.mm_select.specs.Asked.{compares}
use Rattle.mm_value.specs.declared.values.Value.{Value}

pub returns-clause-scan : goal.returns-clause-scan
returns-clause-scan c = λ column value rows. omega (arith, scan_counted rows)

pub returns-clause-look_up : goal.returns-clause-look_up
returns-clause-look_up c = λ index column value rows. omega arith

-- The bound that an atom sets, if it is an atom of the column.
abbrev set_end : Bool → Bool → Value → Option Value
set_end own sets value = cond (own && sets) (Some value) None

abbrev between : (column : ℕ) (low high : Value) (own : Bool) → List Value → Bool
between column low high own =
    lies_between column (first_there (set_end own true low ∷ set_end own false high ∷ [])) (first_there (set_end own false low ∷ set_end own true high ∷ []))

pub returns-clause-range : goal.returns-clause-range
returns-clause-range c = λ index column low high rows.
    let own : (column == column) ≡ true = eq-eqb column column refl in
    let counted : count_by (may_look (compares column GreaterOrEqual low ∷ compares column LessOrEqual high ∷ []) 0 (Range index 0) []) rows
    ≡ count_by (lies_between column (Some low) (Some high)) rows
    = ap (λ b. count_by (between column low high b) rows) own in
    omega (arith, counted)
