-- The requirements of the keys of atoms.
use Rattle.std.proofs.Common.{◌≡◌, ◌≢◌, ◌⊎◌, inl, inr, ℕ, ◌<◌, ◌==◌, ◌&&◌, ℤ, Bool, true, false, cond, nat_lt, List, [], ◌∷◌, Option, Some, None, length}
use Rattle.std.proofs.Common.{refl, sym, ap, ◌∙◌, arith}
use Rattle.std.proofs.lemmas.Bool.{and_parts}
use Rattle.std.proofs.lemmas.Bool.Decides.{nat_tests}
use Rattle.std.proofs.lemmas.Option.{none-some, same_Some}
use Rattle.std.specs.Prelude.{pos}
use Rattle.mm_join.proofs.JoinKeys.{column_is_sum, is_join}
use Rattle.mm_join.specs.Equated.{IsJoin}
use Rattle.mm_join.specs.Keys.{key_between, key_beside, key_of}
use Rattle.mm_join.specs.declared.key.JoinKey.{JoinKey}
use Rattle.mm_join.specs.declared.key.Shift.TheVariants as shift
use Rattle.mm_query.specs.Atoms.{operand_of}
use Rattle.mm_query.specs.Plans.{is_equality}
use Rattle.mm_query.specs.declared.atom.Atom.{Atom}
use Rattle.mm_query.specs.declared.atom.Comparison.{Comparison}
use Rattle.mm_query.specs.declared.atom.Comparison.TheVariants.{Equal, Less, LessOrEqual, Greater, GreaterOrEqual}
use Rattle.mm_query.specs.declared.atom.Operand.{Operand}
use Rattle.mm_query.specs.declared.atom.Operand.TheVariants.{Literal, Column, Shifted}
use Rattle.mm_query.specs.declared.bound_query.FieldPlace.{FieldPlace}

module _ (place : ℕ) (left right : FieldPlace) (by : ℤ) where
  abbrev is_left : Bool
  is_left = (left.place == place) && nat_lt right.place place

  abbrev is_right : Bool
  is_right = (right.place == place) && nat_lt left.place place

  abbrev left_key : JoinKey
  left_key = record { column = left.column; field = right; shift = shift.Plus by }

  abbrev right_key : JoinKey
  right_key = record { column = right.column; field = left; shift = shift.Minus by }

  abbrev either_key : Bool → Bool → Option JoinKey
  either_key on_left on_right = cond on_left (Some left_key) (cond on_right (Some right_key) None)

  -- A column on the left side requires the value of the field on the right side.
  pub key_left : left.place ≡ place → right.place < place → key_between place left right by ≡ Some left_key
  key_left own before =
      let here : is_left ≡ true = grind (arith, nat_tests, own, before) in
      ap (λ b. either_key b is_right) here

  -- A column on the right side requires the value of the field on the left side.
  pub key_right : right.place ≡ place → left.place < place → key_between place left right by ≡ Some right_key
  key_right own before =
      let not_left : is_left ≡ false = grind (arith, nat_tests, own, before) in
      let here : is_right ≡ true = grind (arith, nat_tests, own, before) in
      ap (λ b. either_key b is_right) not_left ∙ ap (λ b. either_key false b) here

  -- An atom without a field of the table has no key.
  pub key_neither : left.place ≢ place → right.place ≢ place → key_between place left right by ≡ None
  key_neither not_left not_right =
      let on_left : is_left ≡ false = grind (arith, nat_tests, not_left) in
      let on_right : is_right ≡ false = grind (arith, nat_tests, not_right) in
      ap (λ b. either_key b is_right) on_left ∙ ap (λ b. either_key false b) on_right

  -- A key is for the left field or for the right one.
  abbrev pub IsOfSide : JoinKey → Type 0
  IsOfSide key = ((left.place ≡ place) × (right.place < place) × (key ≡ left_key)) ⊎ ((right.place ≡ place) × (left.place < place) × (key ≡ right_key))

  pub of_side : (key : JoinKey) → key_between place left right by ≡ Some key → IsOfSide key
  of_side key is = by_sides is_left is_right refl refl is
    where
      by_sides : (on_left on_right : Bool) → is_left ≡ on_left → is_right ≡ on_right → either_key on_left on_right ≡ Some key → IsOfSide key
      by_sides true on_right test other given =
          let parts = and_parts (left.place == place) (nat_lt right.place place) test in
          inl (grind (arith, nat_tests, parts.0), grind (arith, nat_tests, parts.1), sym (same_Some left_key key given))
      by_sides false true test other given =
          let parts = and_parts (right.place == place) (nat_lt left.place place) other in
          inr (grind (arith, nat_tests, parts.0), grind (arith, nat_tests, parts.1), sym (same_Some right_key key given))
      by_sides false false test other given = absurd (none-some key given)

-- Only an equality has a key.
pub only_equal : (place : ℕ) (atom : Atom FieldPlace) (key : JoinKey) → key_of place atom ≡ Some key → atom.comparison ≡ Equal
only_equal place atom key is = by atom.comparison is
  where
    by : (comparison : Comparison) → cond (is_equality comparison) (key_beside place atom.left atom.right) None ≡ Some key → comparison ≡ Equal
    by Equal given = refl
    by Less given = absurd (none-some key given)
    by LessOrEqual given = absurd (none-some key given)
    by Greater given = absurd (none-some key given)
    by GreaterOrEqual given = absurd (none-some key given)

-- A single atom requires its key.
pub key_asks : (atom : Atom FieldPlace) (outers : List ℕ) (key : JoinKey) → key_of (length outers) atom ≡ Some key → IsJoin (atom ∷ []) outers key
key_asks atom outers key is = by atom.right refl (beside ∙ is)
  where
    equal : atom.comparison ≡ Equal
    equal = only_equal (length outers) atom key is

    beside : key_beside (length outers) atom.left atom.right ≡ key_of (length outers) atom
    beside = ap (λ (c : Comparison). cond (is_equality c) (key_beside (length outers) atom.left atom.right) None) (sym equal)

    by : (right : Operand FieldPlace) → atom.right ≡ right → key_beside (length outers) atom.left atom.right ≡ Some key → IsJoin (atom ∷ []) outers key
    by (Literal value) side given =
        absurd (none-some key (ap (key_beside (length outers) atom.left) (sym side) ∙ given))
    by (Column right) side given =
        is_join atom equal right (pos 0) (λ read. ap (operand_of read) side ∙ column_is_sum (read right)) (length outers) key
        (of_side (length outers) atom.left right (pos 0) key (ap (key_beside (length outers) atom.left) (sym side) ∙ given))
        (atom ∷ []) outers (0, omega arith, refl) refl
    by (Shifted right added) side given =
        is_join atom equal right added (λ read. ap (operand_of read) side) (length outers) key
        (of_side (length outers) atom.left right added key (ap (key_beside (length outers) atom.left) (sym side) ∙ given))
        (atom ∷ []) outers (0, omega arith, refl) refl
