-- Atoms that hold for all rows along an access path.
use Rattle.std.proofs.Common.{◌≡◌, ℕ, Bool, true, false, List, [], ◌∷◌, Option, None, Some, inl, inr, refl, sym, ap, ◌∙◌, subst}
use Rattle.std.specs.Prelude.{◌==◌, ◌&&◌, ◌||◌, not}
use Rattle.std.specs.List.{list_any}
use Rattle.std.specs.Option.{option_copied}
use Rattle.std.specs.Ordering.{is_eq, is_ge, is_le, ordering_reverse}
use Rattle.std.specs.declared.cmp.Ordering.{Ordering}
use Rattle.std.specs.declared.cmp.Ordering.TheVariants as ordering
use Rattle.std.proofs.lemmas.Bool.{and_parts, cases_Bool, eqb-true, false≢true, or_parts}
use Rattle.mm_query.specs.Atoms.{holds, holds_of, operand_of, stands, value_in}
use Rattle.mm_query.specs.Queries.{none_fails, value_at}
use Rattle.mm_query.specs.declared.atom.Atom.{Atom}
use Rattle.mm_query.specs.declared.atom.Comparison.{Comparison}
use Rattle.mm_query.specs.declared.atom.Comparison.TheVariants.{Equal, Less, LessOrEqual, Greater, GreaterOrEqual}
use Rattle.mm_query.specs.declared.atom.Operand.{Operand}
use Rattle.mm_query.specs.declared.atom.Operand.TheVariants.{Literal, Column, Shifted}
use Rattle.mm_query.specs.declared.bound_query.FieldPlace.{FieldPlace}
use Rattle.mm_select.proofs.Alone.{holds_alone}
use Rattle.mm_select.specs.Accesses.{all_stand, all_stand_to, asks_along, is_along, is_from, is_met_along, is_up_to, stand_from, stand_up_to}
use Rattle.mm_select.specs.Alone.{asks_of_first}
use Rattle.mm_select.specs.declared.access.Access.{Access}
use Rattle.mm_select.specs.declared.access.Access.TheVariants as access
use Rattle.mm_value.proofs.Orders.{value_cmp_total}
use Rattle.mm_value.specs.Order.{value_cmp}
use Rattle.mm_value.specs.declared.values.Value.{Value}

-- ---- comparisons

-- A comparison that accepts greater values accepts no lesser ones.
accepts_ge : (c : Comparison) (o : Ordering) → stands c ordering.Greater ≡ true → stands c o ≡ true → is_ge o ≡ true
accepts_ge c ordering.Equal greater met = refl
accepts_ge c ordering.Greater greater met = refl
accepts_ge Equal ordering.Less greater met = met
accepts_ge Less ordering.Less greater met = greater
accepts_ge LessOrEqual ordering.Less greater met = greater
accepts_ge Greater ordering.Less greater met = met
accepts_ge GreaterOrEqual ordering.Less greater met = met

-- A comparison that accepts lesser values accepts no greater ones.
accepts_le : (c : Comparison) (o : Ordering) → stands c ordering.Less ≡ true → stands c o ≡ true → is_le o ≡ true
accepts_le c ordering.Equal less met = refl
accepts_le c ordering.Less less met = refl
accepts_le Equal ordering.Greater less met = met
accepts_le Less ordering.Greater less met = met
accepts_le LessOrEqual ordering.Greater less met = met
accepts_le Greater ordering.Greater less met = less
accepts_le GreaterOrEqual ordering.Greater less met = less

-- ---- values

turned : (a b : Value) (o : Ordering) → value_cmp a b ≡ o → value_cmp b a ≡ ordering_reverse o
turned a b o is = value_cmp_total.antisymm b a ∙ ap ordering_reverse is

same_behind : (value end other : Value) (o : Ordering) → value_cmp value end ≡ o → value_cmp end other ≡ ordering.Equal → value_cmp value other ≡ o
same_behind value end other ordering.Less is same = turned other value ordering.Greater
    (value_cmp_total.congr other end value (turned end other ordering.Equal same) ∙ turned value end ordering.Less is)
same_behind value end other ordering.Equal is same = turned other value ordering.Equal
    (value_cmp_total.congr other end value (turned end other ordering.Equal same) ∙ turned value end ordering.Equal is)
same_behind value end other ordering.Greater is same = turned other value ordering.Less
    (value_cmp_total.congr other end value (turned end other ordering.Equal same) ∙ turned value end ordering.Greater is)

greater_behind : (value end other : Value) → value_cmp value end ≡ ordering.Greater → (o : Ordering) → value_cmp end other ≡ o → is_ge o ≡ true
    → value_cmp value other ≡ ordering.Greater
greater_behind value end other greater ordering.Less is not_less = absurd (false≢true not_less)
greater_behind value end other greater ordering.Equal is not_less = same_behind value end other ordering.Greater greater is
greater_behind value end other greater ordering.Greater is not_less =
    turned other value ordering.Less (value_cmp_total.trans other end value (turned end other ordering.Greater is) (turned value end ordering.Greater greater))

less_behind : (value end other : Value) → value_cmp value end ≡ ordering.Less → (o : Ordering) → value_cmp end other ≡ o → is_le o ≡ true
    → value_cmp value other ≡ ordering.Less
less_behind value end other less ordering.Greater is not_greater = absurd (false≢true not_greater)
less_behind value end other less ordering.Equal is not_greater = same_behind value end other ordering.Less less is
less_behind value end other less ordering.Less is not_greater = value_cmp_total.trans value end other less is

module _ (value other : Value) (c : Comparison) where
  -- A comparison that holds for a value holds for an equal one.
  equal_stands : (end : Value) → is_eq (value_cmp value end) ≡ true → stands c (value_cmp end other) ≡ true → stands c (value_cmp value other) ≡ true
  equal_stands end same met = by (value_cmp value end) refl same
    where
      by : (o : Ordering) → value_cmp value end ≡ o → is_eq o ≡ true → stands c (value_cmp value other) ≡ true
      by ordering.Less is same = absurd (false≢true same)
      by ordering.Equal is same = ap (stands c) (value_cmp_total.congr value end other is) ∙ met
      by ordering.Greater is same = absurd (false≢true same)

  -- It also holds for a value between bounds if one of the bounds implies it.
  from_stands : (low : Option Value) → is_from low value ≡ true → stand_from low c other ≡ true → stands c (value_cmp value other) ≡ true
  from_stands None from met = absurd (false≢true met)
  from_stands (Some end) from met = by (value_cmp value end) refl from
    where
      both : (stands c ordering.Greater ≡ true) × (stands c (value_cmp end other) ≡ true)
      both = and_parts (stands c ordering.Greater) (stands c (value_cmp end other)) met

      by : (o : Ordering) → value_cmp value end ≡ o → is_ge o ≡ true → stands c (value_cmp value other) ≡ true
      by ordering.Less is from = absurd (false≢true from)
      by ordering.Equal is from = ap (stands c) (value_cmp_total.congr value end other is) ∙ both.1
      by ordering.Greater is from =
          ap (stands c) (greater_behind value end other is (value_cmp end other) refl (accepts_ge c (value_cmp end other) both.0 both.1)) ∙ both.0

  up_to_stands : (high : Option Value) → is_up_to high value ≡ true → stand_up_to high c other ≡ true → stands c (value_cmp value other) ≡ true
  up_to_stands None under met = absurd (false≢true met)
  up_to_stands (Some end) under met = by (value_cmp value end) refl under
    where
      both : (stands c ordering.Less ≡ true) × (stands c (value_cmp end other) ≡ true)
      both = and_parts (stands c ordering.Less) (stands c (value_cmp end other)) met

      by : (o : Ordering) → value_cmp value end ≡ o → is_le o ≡ true → stands c (value_cmp value other) ≡ true
      by ordering.Greater is under = absurd (false≢true under)
      by ordering.Equal is under = ap (stands c) (value_cmp_total.congr value end other is) ∙ both.1
      by ordering.Less is under =
          ap (stands c) (less_behind value end other is (value_cmp end other) refl (accepts_le c (value_cmp end other) both.0 both.1)) ∙ both.0

-- ---- rows

must_meet : (asks met : Bool) → (asks && not met) ≡ false → asks ≡ true → met ≡ true
must_meet asks true none is = refl
must_meet true false none is = absurd (false≢true (sym none))
must_meet false false none is = absurd (false≢true is)

module _ (row : List Value) where
  row_stands : (a : Access) → is_along a row ≡ true → (column : ℕ) (c : Comparison) (other : Value) → all_stand a column c other ≡ true
      → stands c (value_cmp (value_in column row) other) ≡ true
  row_stands access.Scan along column c other met = absurd (false≢true met)
  row_stands (access.Equal index on at) along column c other met =
      let both = and_parts (column == on) (stands c (value_cmp at.now other)) met in
      let is = eqb-true column on both.0 in
      subst (λ n. stands c (value_cmp (value_in n row) other) ≡ true) (sym is) (equal_stands (value_in on row) other c at.now along both.1)
  row_stands (access.Range index on low high) along column c other met =
      let from = stand_from (option_copied low) c other in
      let both = and_parts (column == on) (from || stand_up_to (option_copied high) c other) met in
      let is = eqb-true column on both.0 in
      let between = and_parts (is_from (option_copied low) (value_in on row)) (is_up_to (option_copied high) (value_in on row)) along in
      subst (λ n. stands c (value_cmp (value_in n row) other) ≡ true) (sym is)
      (elim (cases_Bool from) [
        | inl above ↦ from_stands (value_in on row) other c (option_copied low) between.0 above
        | inr silent ↦ up_to_stands (value_in on row) other c (option_copied high) between.1
            (ap (λ b. b || stand_up_to (option_copied high) c other) (sym silent) ∙ both.1)
      ])

  -- A field of the first table has the row's value.
  first_field : (place column : ℕ) → (place == 0) ≡ true → value_at (Some row ∷ []) record { place = place; column = column } ≡ Some (value_in column row)
  first_field place column is = ap (λ k. value_at (Some row ∷ []) record { place = k; column = column }) (eqb-true place 0 is)

  operand_stands : (a : Access) → is_along a row ≡ true → (column : ℕ) (c : Comparison) (right : Operand FieldPlace) → all_stand_to a column c right ≡ true
      → holds_of c (Some (value_in column row)) (operand_of (value_at (Some row ∷ [])) right) ≡ true
  operand_stands a along column c (Literal other) met = row_stands a along column c other met
  operand_stands a along column c (Column field) met = absurd (false≢true met)
  operand_stands a along column c (Shifted field by) met = absurd (false≢true met)

  -- An atom that holds for all rows along an access path is false for none of them.
  pub met_holds : (a : Access) → is_along a row ≡ true → (atom : Atom FieldPlace) → is_met_along a atom ≡ true → holds (value_at (Some row ∷ [])) atom ≡ true
  met_holds a along atom met =
      let both = and_parts (atom.left.place == 0) (all_stand_to a atom.left.column atom.comparison atom.right) met in
      ap (λ left. holds_of atom.comparison left (operand_of (value_at (Some row ∷ [])) atom.right)) (first_field atom.left.place atom.left.column both.0)
      ∙ operand_stands a along atom.left.column atom.comparison atom.right both.1

  -- If each atom on the first table alone holds for all rows along an access path, no atom is false for any of them.
  pub all_admit : (a : Access) → is_along a row ≡ true → (atoms : List (Atom FieldPlace)) → list_any (asks_along a) atoms ≡ false
      → none_fails atoms (Some row ∷ []) ≡ true
  all_admit a along [] none = refl
  all_admit a along (atom ∷ atoms) none =
      let silent = or_parts (asks_along a atom) (list_any (asks_along a) atoms) none in
      let read = value_at (Some row ∷ []) in
      let one : holds read atom ≡ true = elim (cases_Bool (asks_of_first atom)) [
        | inl asks ↦ met_holds a along atom (must_meet (asks_of_first atom) (is_met_along a atom) silent.0 asks)
        | inr mute ↦ holds_alone row atom mute
      ] in
      ap (λ b. b && none_fails atoms (Some row ∷ [])) one ∙ all_admit a along atoms silent.1
