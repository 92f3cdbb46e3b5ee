-- A row has the value that an atom requires exactly if the atom is true of it.
use Rattle.std.proofs.Common.{◌≡◌, ℕ, ◌<◌, ◌==◌, Bool, true, false, cond, ◌&&◌, ℤ, pos, ◌+ℤ◌, ◌-ℤ◌, ◌<ℤ◌, Option, Some, None, [], ◌∷◌, ◌⊎◌, inl, inr, get_or}
use Rattle.std.proofs.Common.{set, length, refl, sym, ap, ◌∙◌, arith}
use Rattle.std.specs.Option.{option_map}
use Rattle.std.specs.Ordering.{MatchOrdering, int_cmp, is_eq}
use Rattle.std.specs.Cmp.{int_ranks}
use Rattle.std.specs.declared.cmp.Ordering.{Ordering}
use Rattle.std.specs.declared.cmp.Ordering.TheVariants.{Less, Equal, Greater}
use Rattle.std.proofs.lemmas.Bool.{and_parts, eqb-true}
use Rattle.std.proofs.lemmas.Int.{ints}
use Rattle.std.proofs.lemmas.List.{get_or-set_same}
use Rattle.mm_value.specs.Order.{value_cmp}
use Rattle.mm_value.specs.declared.values.Value.{Value}
use Rattle.mm_value.specs.declared.values.Value.TheVariants.{Int, Text}
use Rattle.mm_value.proofs.Orders.{value_cmp_total}
use Rattle.mm_schema.proofs.Orderings.{is_eq_reversed}
use Rattle.mm_query.specs.Atoms.{holds_of, operand_of, shifted, value_in}
use Rattle.mm_query.specs.Choosing.{first_there}
use Rattle.mm_query.specs.Queries.{Partial, value_at}
use Rattle.mm_query.specs.declared.atom.Atom.{Atom}
use Rattle.mm_query.specs.declared.atom.Comparison.{Comparison}
use Rattle.mm_query.specs.declared.atom.Comparison.TheVariants as comparison
use Rattle.mm_query.specs.declared.atom.Operand.{Operand}
use Rattle.mm_query.specs.declared.atom.Operand.TheVariants.{Literal, Column, Shifted}
use Rattle.mm_query.specs.declared.bound_query.FieldPlace.{FieldPlace}
use Rattle.mm_delta.specs.Candidates.{Required, asked_by, asked_of, asked_of_right, has_required}
use Rattle.mm_delta.proofs.Found.{Row, extends_set, operand_extends, value_extends}

some_of_two : (p q : Option Required) (r : Required) → first_there (p ∷ q ∷ []) ≡ Some r → (p ≡ Some r) ⊎ (q ≡ Some r)
some_of_two None None r h = cc
some_of_two None (Some q) r h = inr h
some_of_two (Some p) q r h = inl h

some_of_cond : (b : Bool) (p : Option Required) (r : Required) → cond b p None ≡ Some r → (b ≡ true) × (p ≡ Some r)
some_of_cond true p r h = (refl, h)
some_of_cond false p r h = cc

some_asked : (c : ℕ) (o : Option Value) (r : Required) → option_map (λ v. (c, v)) o ≡ Some r → (v : Value) × (o ≡ Some v) × ((c, v) ≡ r)
some_asked c None r h = cc
some_asked c (Some v) r h = (v, refl, cc)

some_shifted : (s : ℤ) (o : Option Value) (v : Value) → option_map (shifted s) o ≡ Some v → (w : Value) × (o ≡ Some w) × (shifted s w ≡ v)
some_shifted s None v h = cc
some_shifted s (Some w) v h = (w, refl, cc)

int_shifted : (a b : Ordering) (w x s : ℤ) → MatchOrdering a (w <ℤ (x +ℤ s)) (w ≡ x +ℤ s) ((x +ℤ s) <ℤ w)
    → MatchOrdering b (x <ℤ (w +ℤ (pos 0 -ℤ s))) (x ≡ w +ℤ (pos 0 -ℤ s)) ((w +ℤ (pos 0 -ℤ s)) <ℤ x) → is_eq b ≡ is_eq a
int_shifted Equal Equal w x s f g = refl
int_shifted Equal Less w x s f g = absurd (omega (arith, ints))
int_shifted Equal Greater w x s f g = absurd (omega (arith, ints))
int_shifted Less Equal w x s f g = absurd (omega (arith, ints))
int_shifted Less Less w x s f g = refl
int_shifted Less Greater w x s f g = refl
int_shifted Greater Equal w x s f g = absurd (omega (arith, ints))
int_shifted Greater Less w x s f g = refl
int_shifted Greater Greater w x s f g = refl

turned : (v w : Value) → is_eq (value_cmp v w) ≡ is_eq (value_cmp w v)
turned v w = ap is_eq (value_cmp_total.antisymm v w) ∙ is_eq_reversed (value_cmp w v)

-- A number added on one side may be subtracted on the other.
shift_over : (s : ℤ) (w x : Value) → is_eq (value_cmp x (shifted (pos 0 -ℤ s) w)) ≡ is_eq (value_cmp w (shifted s x))
shift_over s (Int w) (Int x) =
    int_shifted (int_cmp w (x +ℤ s)) (int_cmp x (w +ℤ (pos 0 -ℤ s))) w x s (int_ranks w (x +ℤ s)) (int_ranks x (w +ℤ (pos 0 -ℤ s)))
shift_over s (Int w) (Text x) = refl
shift_over s (Text w) (Int x) = refl
shift_over s (Text w) (Text x) = turned (Text x) (Text w)

module _ (indexed : ℕ → Bool) (m : Partial) (j : ℕ) (x : Row) (inside : j < length m) (vacant : get_or m j None ≡ None) where
  abbrev more : Partial
  more = set m j (Some x)

  -- the new row's value
  new_value : (f : FieldPlace) → f.place ≡ j → value_at more f ≡ Some (value_in f.column x)
  new_value f h =
      ap (λ p. option_map (value_in f.column) (get_or more p None)) h
      ∙ ap (λ o. option_map (value_in f.column) o) (get_or-set_same m j (Some x) None inside)

  asked_at : (f : FieldPlace) (o : Option Value) (r : Required) → asked_of indexed j f o ≡ Some r
      → (v : Value) × (f.place ≡ j) × (o ≡ Some v) × ((f.column, v) ≡ r)
  asked_at f o r h =
      let c = some_of_cond ((f.place == j) && indexed f.column) _ r h in
      let p = and_parts (f.place == j) (indexed f.column) c.0 in
      let v = some_asked f.column o r c.1 in
      (v.0, eqb-true f.place j p.0, v.1, v.2)

  left_meets : (a : Atom FieldPlace) (r : Required) → asked_of indexed j a.left (operand_of (value_at m) a.right) ≡ Some r
      → holds_of comparison.Equal (value_at more a.left) (operand_of (value_at more) a.right) ≡ has_required r x
  left_meets a r h =
      let v = asked_at a.left _ r h in
      (λ i. holds_of comparison.Equal (new_value a.left v.1 i)
      (operand_extends m more (extends_set m j x vacant) a.right v.0 v.2 i))
      ∙ ap (λ r. has_required r x) v.3

  right_meets : (a : Atom FieldPlace) (o : Operand FieldPlace) (r : Required) → asked_of_right indexed j (value_at m a.left) o ≡ Some r
      → holds_of comparison.Equal (value_at more a.left) (operand_of (value_at more) o) ≡ has_required r x
  right_meets a (Literal n) r h = cc
  right_meets a (Column f) r h =
      let v = asked_at f (value_at m a.left) r h in
      (λ i. holds_of comparison.Equal (value_extends m more (extends_set m j x vacant) a.left v.0 v.2 i) (new_value f v.1 i))
      ∙ turned v.0 (value_in f.column x) ∙ ap (λ r. has_required r x) v.3
  right_meets a (Shifted f s) r h =
      let v = asked_at f _ r h in
      let w = some_shifted (pos 0 -ℤ s) (value_at m a.left) v.0 v.2 in
      (λ i. holds_of comparison.Equal (value_extends m more (extends_set m j x vacant) a.left w.0 w.1 i) (option_map (shifted s) (new_value f v.1 i)))
      ∙ sym (shift_over s w.0 (value_in f.column x))
      ∙ ap (λ y. is_eq (value_cmp (value_in f.column x) y)) w.2 ∙ ap (λ r. has_required r x) v.3

  pub meets : (a : Atom FieldPlace) (e : Comparison) (r : Required) → asked_by indexed j m a e ≡ Some r
      → has_required r x ≡ holds_of e (value_at more a.left) (operand_of (value_at more) a.right)
  meets a comparison.Less r h = cc
  meets a comparison.LessOrEqual r h = cc
  meets a comparison.Greater r h = cc
  meets a comparison.GreaterOrEqual r h = cc
  meets a comparison.Equal r h =
      elim (some_of_two _ _ r h) [
        | inl l ↦ sym (left_meets a r l)
        | inr l ↦ sym (right_meets a a.right r l)
      ]
