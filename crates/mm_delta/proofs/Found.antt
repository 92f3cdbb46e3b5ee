-- The combinations found are those of the plain product.
use Rattle.std.proofs.Common.{◌≡◌, ◌≢◌, ℕ, Bool, true, false, cond, ◌&&◌, Option, Some, None, List, [], ◌∷◌, inl, inr, get_or, set, map, refl, sym, ap, ◌∙◌}
use Rattle.std.proofs.Common.{arith}
use Rattle.std.specs.List.{AllByRecursion, filter, flat_map}
use Rattle.std.specs.Option.{option_map}
use Rattle.std.proofs.lemmas.Bool.{cases_eq}
use Rattle.std.proofs.lemmas.List.{get_or-set_other, length-set}
use Rattle.mm_value.specs.declared.values.Value.{Value}
use Rattle.mm_query.specs.Atoms.{holds, holds_of, operand_of, shifted, value_in}
use Rattle.mm_query.specs.Queries.{Partial, none_fails, value_at, values_of}
use Rattle.mm_query.specs.declared.atom.Atom.{Atom}
use Rattle.mm_query.specs.declared.atom.Comparison.{Comparison}
use Rattle.mm_query.specs.declared.atom.Operand.{Operand}
use Rattle.mm_query.specs.declared.atom.Operand.TheVariants.{Literal, Column, Shifted}
use Rattle.mm_query.specs.declared.bound_query.BoundQuery.{BoundQuery}
use Rattle.mm_query.specs.declared.bound_query.FieldPlace.{FieldPlace}
use Rattle.mm_delta.specs.Walk.{AreOpen, completions, found}
use Rattle.mm_delta.proofs.Lists.{filter-flat_map, flat_map_none, map-flat_map}

abbrev pub Row : Type 0
Row = List Value

abbrev pub Rows : Type 0
Rows = List Row

-- The first combination has each row of the second.
abbrev pub Extends : Partial → Partial → Type 0
Extends m m' = (p : ℕ) (row : Row) → get_or m p None ≡ Some row → get_or m' p None ≡ Some row

pub extends_set : (m : Partial) (j : ℕ) (x : Row) → get_or m j None ≡ None → Extends m (set m j (Some x))
extends_set m j x vacant p row h =
    elim (cases_eq p j) [
      | inl same ↦ (let e : get_or m p None ≡ None = ap (λ i. get_or m i None) same ∙ vacant in cc)
      | inr other ↦ get_or-set_other m j p (Some x) None other ∙ h
    ]

row_extends : (o o' : Option Row) (c : ℕ) (v : Value) → ((row : Row) → o ≡ Some row → o' ≡ Some row) → option_map (value_in c) o ≡ Some v
    → option_map (value_in c) o' ≡ Some v
row_extends None o' c v h e = cc
row_extends (Some row) o' c v h e = ap (λ o. option_map (value_in c) o) (h row refl) ∙ e

pub value_extends : (m m' : Partial) → Extends m m' → (f : FieldPlace) (v : Value) → value_at m f ≡ Some v → value_at m' f ≡ Some v
value_extends m m' h f v e = row_extends (get_or m f.place None) (get_or m' f.place None) f.column v (h f.place) e

shifted_extends : (by : _) (o o' : Option Value) (v : Value) → ((w : Value) → o ≡ Some w → o' ≡ Some w) → option_map (shifted by) o ≡ Some v
    → option_map (shifted by) o' ≡ Some v
shifted_extends by None o' v h e = cc
shifted_extends by (Some w) o' v h e = ap (λ o. option_map (shifted by) o) (h w refl) ∙ e

pub operand_extends : (m m' : Partial) → Extends m m' → (o : Operand FieldPlace) (v : Value) → operand_of (value_at m) o ≡ Some v → operand_of (value_at m') o
    ≡ Some v
operand_extends m m' h (Literal n) v e = e
operand_extends m m' h (Column f) v e = value_extends m m' h f v e
operand_extends m m' h (Shifted f by) v e = shifted_extends by (value_at m f) (value_at m' f) v (value_extends m m' h f) e

false_extends : (r : Comparison) (a b a' b' : Option Value) → ((v : Value) → a ≡ Some v → a' ≡ Some v) → ((v : Value) → b ≡ Some v → b' ≡ Some v)
    → holds_of r a b ≡ false → holds_of r a' b' ≡ false
false_extends r None b a' b' f g e = cc
false_extends r (Some a) None a' b' f g e = cc
false_extends r (Some a) (Some b) a' b' f g e = (λ i. holds_of r (f a refl i) (g b refl i)) ∙ e

-- A false atom stays false ..
pub holds_extends : (m m' : Partial) → Extends m m' → (a : Atom FieldPlace) → holds (value_at m) a ≡ false → holds (value_at m') a ≡ false
holds_extends m m' h a e =
    false_extends a.comparison (value_at m a.left) (operand_of (value_at m) a.right) (value_at m' a.left) (operand_of (value_at m') a.right)
    (value_extends m m' h a.left) (operand_extends m m' h a.right) e

either_false : (a b a' b' : Bool) → (a ≡ false → a' ≡ false) → (b ≡ false → b' ≡ false) → (a && b) ≡ false → (a' && b') ≡ false
either_false false b a' b' f g h = ap (λ x. x && b') (f refl)
either_false true b true b' f g h = g h
either_false true b false b' f g h = refl

-- .. and so do all atoms.
pub fails_extends : (atoms : List (Atom FieldPlace)) (m m' : Partial) → Extends m m' → none_fails atoms m ≡ false → none_fails atoms m' ≡ false
fails_extends [] m m' h e = cc
fails_extends (a ∷ atoms) m m' h e =
    either_false (holds (value_at m) a) (none_fails atoms m) (holds (value_at m') a) (none_fails atoms m') (holds_extends m m' h a)
    (fails_extends atoms m m' h) e

-- Places stay open when another one gets its row.
pub open_set : (js : List ℕ) (m : Partial) (j : ℕ) (x : Row) → AllByRecursion (λ i. i ≢ j) js → AreOpen js m → AreOpen js (set m j (Some x))
open_set [] m j x others h = tt
open_set (i ∷ js) m j x others h = (
  omega (arith, h.0, length-set m j (Some x)),
  get_or-set_other m j i (Some x) None others.0 ∙ h.1,
  h.2,
  open_set js m j x others.1 h.3,
)

-- If an atom is false, nothing completes the rows.
pub none_complete : (q : BoundQuery) (rows : ℕ → Rows) (js : List ℕ) (m : Partial) → AreOpen js m → none_fails q.atoms m ≡ false
    → filter (none_fails q.atoms) (completions rows js m) ≡ []
none_complete q rows [] m h e = ap (λ b. cond b (m ∷ []) []) e
none_complete q rows (j ∷ js) m h e =
    filter-flat_map (none_fails q.atoms) (λ x. completions rows js (set m j (Some x))) (rows j)
    ∙ flat_map_none _ (rows j) (λ x. none_complete q rows js (set m j (Some x)) (open_set js m j x h.2 h.3)
    (fails_extends q.atoms m (set m j (Some x)) (extends_set m j x h.1) e))

found_last : (b : Bool) (m : Partial) (q : BoundQuery) → cond b (values_of q.fields m ∷ []) [] ≡ map (values_of q.fields) (cond b (m ∷ []) [])
found_last true m q = refl
found_last false m q = refl

by_cases : {X : Type 0} (b : Bool) (xs ys : List X) → (b ≡ true → xs ≡ ys) → (b ≡ false → [] ≡ ys) → cond b xs [] ≡ ys
by_cases true xs ys f g = f refl
by_cases false xs ys f g = g refl

-- The combinations found are the completions of which all atoms are true.
pub found_is : (q : BoundQuery) (rows : ℕ → Rows) (js : List ℕ) (m : Partial) → AreOpen js m
    → found q rows js m ≡ map (values_of q.fields) (filter (none_fails q.atoms) (completions rows js m))
found_is q rows [] m h = found_last (none_fails q.atoms m) m q
found_is q rows (j ∷ js) m h =
    by_cases (none_fails q.atoms m) _ _
    (λ yes. (λ i. flat_map (λ x. found_is q rows js (set m j (Some x)) (open_set js m j x h.2 h.3) i) (rows j))
    ∙ sym (map-flat_map (values_of q.fields) (λ x. filter (none_fails q.atoms) (completions rows js (set m j (Some x)))) (rows j))
    ∙ ap (map (values_of q.fields)) (sym (filter-flat_map (none_fails q.atoms) (λ x. completions rows js (set m j (Some x))) (rows j))))
    (λ no. ap (map (values_of q.fields)) (sym (none_complete q rows (j ∷ js) m h no)))
