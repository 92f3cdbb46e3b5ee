-- The columns of a row that fits alone.
use Rattle.std.proofs.Common.{◌≡◌, ℕ, zero, suc, ◌<◌, Bool, true, false, List, [], ◌∷◌, length, get_or, Option, Some, None, refl, sym, ap, ◌∙◌, arith}
use Rattle.std.specs.List.{Contains, list_all}
use Rattle.std.specs.Ordering.{is_ge, is_le}
use Rattle.std.specs.declared.cmp.Ordering.{Ordering}
use Rattle.std.specs.declared.cmp.Ordering.TheVariants as ordering
use Rattle.std.proofs.lemmas.Bool.{and_parts, false≢true}
use Rattle.mm_query.specs.Atoms.{holds, stands, value_in}
use Rattle.mm_query.specs.Queries.{Partial, none_fails, value_at}
use Rattle.mm_query.specs.declared.atom.Atom.{Atom}
use Rattle.mm_query.specs.declared.atom.Comparison.{Comparison}
use Rattle.mm_query.specs.declared.atom.Comparison.TheVariants.{Equal}
use Rattle.mm_query.specs.declared.bound_query.FieldPlace.{FieldPlace}
use Rattle.mm_value.specs.Order.{value_cmp}
use Rattle.mm_value.specs.declared.values.Value.{Value}
use Rattle.mm_select.specs.Accesses.{has, is_from, is_up_to}
use Rattle.mm_select.specs.Asked.{IsHigh, IsLow, compares}

all_get : {X : Type 0} (p : X → Bool) (xs : List X) (k : ℕ) (d : X) → k < length xs → list_all p xs ≡ true → p (get_or xs k d) ≡ true
all_get p [] k d within all = absurd (omega arith)
all_get p (x ∷ xs) zero d within all = (and_parts (p x) (list_all p xs) all).0
all_get p (x ∷ xs) (suc k) d within all = all_get p xs k d (omega arith) (and_parts (p x) (list_all p xs) all).1

-- If no atom fails, each of them holds.
pub holds_each : (atoms : List (Atom FieldPlace)) (rows : Partial) (atom : Atom FieldPlace) → Contains atoms atom → none_fails atoms rows ≡ true
    → holds (value_at rows) atom ≡ true
holds_each atoms rows atom among all =
    sym (ap (holds (value_at rows)) among.2) ∙ all_get (holds (value_at rows)) atoms among.0 atom among.1 all

pub not_less : (c : Comparison) (o : Ordering) → stands c ordering.Less ≡ false → stands c o ≡ true → is_ge o ≡ true
not_less c ordering.Less fails holds = absurd (false≢true (sym fails ∙ holds))
not_less c ordering.Equal fails holds = refl
not_less c ordering.Greater fails holds = refl

pub not_greater : (c : Comparison) (o : Ordering) → stands c ordering.Greater ≡ false → stands c o ≡ true → is_le o ≡ true
not_greater c ordering.Less fails holds = refl
not_greater c ordering.Equal fails holds = refl
not_greater c ordering.Greater fails holds = absurd (false≢true (sym fails ∙ holds))

module _ (atoms : List (Atom FieldPlace)) (column : ℕ) (row : List Value) (fits : none_fails atoms (Some row ∷ []) ≡ true) where
  told : (c : Comparison) (value : Value) → Contains atoms (compares column c value) → stands c (value_cmp (value_in column row) value) ≡ true
  told c value among = holds_each atoms (Some row ∷ []) (compares column c value) among fits

  pub told_equal : (value : Value) → Contains atoms (compares column Equal value) → has column value row ≡ true
  told_equal value among = told Equal value among

  pub told_low : (low : Option Value) → IsLow atoms column low → is_from low (value_in column row) ≡ true
  told_low None ends = refl
  told_low (Some value) (c, sets, among) = not_less c (value_cmp (value_in column row) value) sets (told c value among)

  pub told_high : (high : Option Value) → IsHigh atoms column high → is_up_to high (value_in column row) ≡ true
  told_high None ends = refl
  told_high (Some value) (c, sets, among) = not_greater c (value_cmp (value_in column row) value) sets (told c value among)
