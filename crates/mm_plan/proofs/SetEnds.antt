-- The bounds that atoms set for a column of the first table.
use Rattle.std.proofs.Common.{◌≡◌, ℕ, suc, ◌==◌, ◌&&◌, Bool, true, false, not, cond, List, [], ◌∷◌, Option, Some, None, get_or, map, refl, sym, ap, ◌∙◌, arith}
use Rattle.std.proofs.lemmas.Bool.{and_parts}
use Rattle.std.proofs.lemmas.Option.{get_or_from_slice_get, none-some, same_Some, slice_get_within}
use Rattle.std.specs.List.{Contains}
use Rattle.std.specs.Option.{option_map_or}
use Rattle.std.specs.Prelude.{slice_get}
use Rattle.std.specs.declared.cmp.Ordering.{Ordering}
use Rattle.std.specs.declared.cmp.Ordering.TheVariants.{Less, Greater}
use Rattle.mm_plan.specs.Steps.{Reaches, end_of, high_end, literal_of, low_end, may_look}
use Rattle.mm_plan.specs.declared.step.Step.{Step}
use Rattle.mm_plan.specs.declared.step.Step.TheVariants as step
use Rattle.mm_query.specs.Atoms.{stands}
use Rattle.mm_query.specs.Choosing.{first_given, first_there}
use Rattle.mm_query.specs.declared.atom.Atom.{Atom}
use Rattle.mm_query.specs.declared.atom.Comparison.{Comparison}
use Rattle.mm_query.specs.declared.atom.Operand.{Operand}
use Rattle.mm_query.specs.declared.atom.Operand.TheVariants.{Literal, Column, Shifted}
use Rattle.mm_query.specs.declared.bound_query.FieldPlace.{FieldPlace}
use Rattle.mm_indexed.specs.Kept.{StoredRows}
use Rattle.mm_select.specs.Accesses.{lies_between}
use Rattle.mm_select.specs.Asked.{IsHigh, IsLow, compares}
use Rattle.mm_store.specs.declared.index_ref.IndexRef.{IndexRef}
use Rattle.mm_value.specs.declared.values.Value.{Value}
use Rattle.mm_schema.proofs.ChangedRows.{not_true}

literal_is : (right : Operand FieldPlace) (value : Value) → literal_of right ≡ Some value → right ≡ Literal value
literal_is (Literal v) value is = ap Literal (same_Some v value is)
literal_is (Column field) value is = absurd (none-some value is)
literal_is (Shifted field by) value is = absurd (none-some value is)

-- One of the atoms sets the bound: it is false for all values on this side.
abbrev pub SetsEnd : Ordering → ℕ → List (Atom FieldPlace) → Value → Type 0
SetsEnd beyond column atoms value = (comparison : Comparison) × (stands comparison beyond ≡ false) × Contains atoms (compares column comparison value)

module _ (beyond : Ordering) (column : ℕ) where
  -- An atom that sets a bound compares the column with it.
  pub one_end : (atom : Atom FieldPlace) (value : Value) → end_of beyond column atom ≡ Some value
      → (comparison : Comparison) × (stands comparison beyond ≡ false) × (atom ≡ compares column comparison value)
  one_end atom value is = by ((atom.left.place == 0) && (atom.left.column == column) && not (stands atom.comparison beyond)) refl is
    where
      by : (b : Bool) → (atom.left.place == 0) && (atom.left.column == column) && not (stands atom.comparison beyond) ≡ b
          → cond b (literal_of atom.right) None ≡ Some value
          → (comparison : Comparison) × (stands comparison beyond ≡ false) × (atom ≡ compares column comparison value)
      by false test is = absurd (none-some value is)
      by true test is =
          let parts = and_parts ((atom.left.place == 0) && (atom.left.column == column)) (not (stands atom.comparison beyond)) test in
          let left = and_parts (atom.left.place == 0) (atom.left.column == column) parts.0 in
          let place : atom.left.place ≡ 0 = grind (arith, left.0) in
          let own : atom.left.column ≡ column = grind (arith, left.1) in (
            atom.comparison,
            not_true (stands atom.comparison beyond) parts.1,
            λ i. record { left = record { place = place i; column = own i }; comparison = atom.comparison; right = literal_is atom.right value is i },
          )

  -- So one of the atoms sets the first bound.
  pub first_end_set : (atoms : List (Atom FieldPlace)) (value : Value) → first_given (end_of beyond column) atoms ≡ Some value
      → SetsEnd beyond column atoms value
  first_end_set [] value is = absurd (none-some value is)
  first_end_set (atom ∷ atoms) value is = by (first_end_set atoms value) (end_of beyond column atom) refl is
    where
      behind : SetsEnd beyond column atoms value → SetsEnd beyond column (atom ∷ atoms) value
      behind (comparison, side, (k, within, there)) = (comparison, side, (suc k, omega (arith, within), there))

      by : (first_given (end_of beyond column) atoms ≡ Some value → SetsEnd beyond column atoms value)
          → (o : Option Value) → end_of beyond column atom ≡ o → first_there (o ∷ map (end_of beyond column) atoms) ≡ Some value
          → SetsEnd beyond column (atom ∷ atoms) value
      by later (Some end) sets is =
          let one = one_end atom value (sets ∙ is) in
          (one.0, one.1, (0, omega (arith), one.2))
      by later None sets is = behind (later is)

-- The bounds are valid for a range along the column.
pub low_end_set : (atoms : List (Atom FieldPlace)) (column : ℕ) (end : Option Value) → end ≡ low_end atoms column → IsLow atoms column end
low_end_set atoms column None is = tt
low_end_set atoms column (Some value) is = first_end_set Less column atoms value (sym is)

pub high_end_set : (atoms : List (Atom FieldPlace)) (column : ℕ) (end : Option Value) → end ≡ high_end atoms column → IsHigh atoms column end
high_end_set atoms column None is = tt
high_end_set atoms column (Some value) is = first_end_set Greater column atoms value (sym is)

-- The atom at a position is among the atoms.
pub contains_at : (atoms : List (Atom FieldPlace)) (place : ℕ) (atom : Atom FieldPlace) → slice_get atoms place ≡ Some atom → Contains atoms atom
contains_at atoms place atom at = (place, slice_get_within atoms place atom at, get_or_from_slice_get atoms place atom atom at)

module _ (stored : StoredRows) (atoms : List (Atom FieldPlace)) (index : IndexRef) (place : ℕ) (reached : Reaches stored atoms (step.Range index place)) where
  -- The atom of a range exists.
  range_atom : (d : Atom FieldPlace) → slice_get atoms place ≡ Some (get_or atoms place d)
  range_atom d =
      let (column, comparison, value, at, on, tree) = reached in
      at ∙ ap Some (sym (get_or_from_slice_get atoms place (compares column comparison value) d at))

  -- The rows between the bounds on its column are those that the range may read.
  pub range_along : (d : Atom FieldPlace) (own : Step) → own ≡ step.Range index place → (low high : Option Value)
      → low ≡ low_end atoms (get_or atoms place d).left.column → high ≡ high_end atoms (get_or atoms place d).left.column
      → (row : List Value) → lies_between (get_or atoms place d).left.column low high row ≡ may_look atoms 0 own [] row
  range_along d own is low high low_is high_is row =
      (λ i. lies_between (get_or atoms place d).left.column (low_is i) (high_is i) row)
      ∙ (sym (ap (λ o. option_map_or (λ (a : Atom FieldPlace). lies_between a.left.column (low_end atoms a.left.column) (high_end atoms a.left.column) row) o
      true)
      (range_atom d)) ∙ ap (λ (s : Step). may_look atoms 0 s [] row) (sym is))
