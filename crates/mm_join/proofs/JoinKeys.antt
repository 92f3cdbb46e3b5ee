-- The requirements of join equalities.
use Rattle.std.proofs.Common.{◌≡◌, ◌⊎◌, inl, inr, ℕ, zero, suc, ◌<◌, ℤ, neg_ℤ, true, List, [], ◌∷◌, ◌++◌, Option, Some, None, get_or, length, map, refl, sym}
use Rattle.std.proofs.Common.{ap, ◌∙◌, subst, arith}
use Rattle.std.specs.Prelude.{pos, ◌+ℤ◌}
use Rattle.std.specs.List.{Contains}
use Rattle.std.specs.Option.{option_map, unwrap_or}
use Rattle.std.proofs.lemmas.Int.{ints}
use Rattle.std.proofs.Math.IntN.{+ℤ-neg_ℤ_cancel}
use Rattle.mm_query.specs.Atoms.{holds_of, operand_of, shifted, value_in}
use Rattle.mm_query.specs.Queries.{Partial, none_fails, value_at}
use Rattle.mm_query.specs.declared.atom.Atom.{Atom}
use Rattle.mm_query.specs.declared.atom.Comparison.TheVariants.{Equal}
use Rattle.mm_query.specs.declared.bound_query.FieldPlace.{FieldPlace}
use Rattle.mm_schema.proofs.Orderings.{equal_from_is_eq}
use Rattle.mm_select.proofs.Asking.{holds_each}
use Rattle.mm_value.proofs.Orders.{value_cmp_exact}
use Rattle.mm_value.specs.Order.{value_cmp}
use Rattle.mm_value.specs.declared.values.Value.{Value}
use Rattle.mm_value.specs.declared.values.Value.TheVariants.{Int, Text}
use Rattle.mm_join.proofs.JoinSteps.{Row}
use Rattle.mm_join.specs.Equated.{IsJoin, sought}
use Rattle.mm_join.specs.declared.key.JoinKey.{JoinKey}
use Rattle.mm_join.specs.declared.key.Shift.TheVariants as shift

-- A shift by 0 leaves a value unchanged.
pub shifted_by_0 : (value : Value) → shifted (pos 0) value ≡ value
shifted_by_0 (Int number) = ap Int (plus_0 number)
  where
    plus_0 : (k : ℤ) → k +ℤ pos 0 ≡ k
    plus_0 k = omega (arith, ints)
shifted_by_0 (Text text) = refl

-- The negated shift undoes a shift.
shifted_back : (by : ℤ) (value : Value) → shifted (neg_ℤ by) (shifted by value) ≡ value
shifted_back by (Int number) = ap Int (+ℤ-neg_ℤ_cancel number by)
shifted_back by (Text text) = refl

-- ---- the rows of a combination, followed by one more

behind_is : (rows : List Row) (row : Row) → get_or (map Some rows ++ Some row ∷ []) (length rows) None ≡ Some row
behind_is [] row = refl
behind_is (x ∷ rows) row = behind_is rows row

front_is : (rows : List Row) (row : Row) (place : ℕ) → place < length rows
    → (x : Row) × (get_or (map Some rows) place None ≡ Some x) × (get_or (map Some rows ++ Some row ∷ []) place None ≡ Some x)
front_is [] row place within = absurd (omega (arith, within))
front_is (x ∷ rows) row zero within = (x, refl, refl)
front_is (x ∷ rows) row (suc place) within = front_is rows row place (omega (arith, within))

-- The operand is a field plus a number.
abbrev pub IsSum : Atom FieldPlace → FieldPlace → ℤ → Type 0
IsSum atom right by = (read : FieldPlace → Option Value) → operand_of read atom.right ≡ option_map (shifted by) (read right)

module _ (rows : List Row) (row : Row) where
  abbrev all : Partial
  all = map Some rows ++ Some row ∷ []

  abbrev own : FieldPlace → Value
  own field = unwrap_or (value_at (map Some rows) field) (Int (pos 0))

  inner_value : (field : FieldPlace) → field.place ≡ length rows → value_at all field ≡ Some (value_in field.column row)
  inner_value field is = ap (option_map (value_in field.column)) (ap (λ n. get_or all n None) is ∙ behind_is rows row)

  outer_value : (field : FieldPlace) → field.place < length rows → value_at all field ≡ Some (own field)
  outer_value field within =
      let front = front_is rows row field.place within in
      ap (option_map (value_in field.column)) front.2
      ∙ sym (ap (λ o. Some (unwrap_or (option_map (value_in field.column) o) (Int (pos 0)))) front.1)

  module _ (atoms : List (Atom FieldPlace)) (atom : Atom FieldPlace) (among : Contains atoms atom) (equal : atom.comparison ≡ Equal)
      (fits : none_fails atoms all ≡ true) (right : FieldPlace) (by : ℤ) (is_sum : IsSum atom right by) where
    -- The left side equals the right side plus the number.
    told : (a b : Value) → value_at all atom.left ≡ Some a → value_at all right ≡ Some b → a ≡ shifted by b
    told a b is_a is_b =
        value_cmp_exact a (shifted by b)
        (equal_from_is_eq (value_cmp a (shifted by b))
        (sym (λ i. holds_of (equal i) (is_a i) ((is_sum (value_at all) ∙ ap (option_map (shifted by)) is_b) i))
        ∙ holds_each atoms all atom among fits))

    -- The required value, if the row's column is on the left.
    pub left_asked : atom.left.place ≡ length rows → right.place < length rows → value_in atom.left.column row ≡ shifted by (own right)
    left_asked is within = told (value_in atom.left.column row) (own right) (inner_value atom.left is) (outer_value right within)

    -- The required value, if the row's column is on the right.
    pub right_asked : right.place ≡ length rows → atom.left.place < length rows → value_in right.column row ≡ shifted (neg_ℤ by) (own atom.left)
    right_asked is within =
        sym (shifted_back by (value_in right.column row))
        ∙ ap (shifted (neg_ℤ by)) (sym (told (own atom.left) (value_in right.column row) (outer_value atom.left within) (inner_value right is)))

-- Such an atom requires the key's value, whichever side the column is on.
pub is_join : (atom : Atom FieldPlace) → atom.comparison ≡ Equal → (right : FieldPlace) (by : ℤ) → IsSum atom right by → (place : ℕ) (key : JoinKey)
    → ((atom.left.place ≡ place) × (right.place < place) × (key ≡ record { column = atom.left.column; field = right; shift = shift.Plus by }))
    ⊎ ((right.place ≡ place) × (atom.left.place < place) × (key ≡ record { column = right.column; field = atom.left; shift = shift.Minus by }))
    → (atoms : List (Atom FieldPlace)) (outers : List ℕ) → Contains atoms atom → length outers ≡ place → IsJoin atoms outers key
is_join atom equal right by is_sum place key (inl (is, within, same)) atoms outers among wide = λ rows row long fits.
    let there : length rows ≡ place = long ∙ wide in
    subst (λ (k : JoinKey). value_in k.column row ≡ sought k (map Some rows)) (sym same)
    (left_asked rows row atoms atom among equal fits right by is_sum (is ∙ sym there) (subst (λ n. right.place < n) (sym there) within))
is_join atom equal right by is_sum place key (inr (is, within, same)) atoms outers among wide = λ rows row long fits.
    let there : length rows ≡ place = long ∙ wide in
    subst (λ (k : JoinKey). value_in k.column row ≡ sought k (map Some rows)) (sym same)
    (right_asked rows row atoms atom among equal fits right by is_sum (is ∙ sym there) (subst (λ n. atom.left.place < n) (sym there) within))

-- A column equals itself plus 0.
pub column_is_sum : (value : Option Value) → value ≡ option_map (shifted (pos 0)) value
column_is_sum None = refl
column_is_sum (Some value) = ap Some (sym (shifted_by_0 value))
