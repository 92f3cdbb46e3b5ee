-- An atom on integers is true exactly if its edges are.
use Rattle.std.proofs.Common.{◌≡◌, ℕ, ◌<◌, ◌≤◌, Bool, true, false, cond, ◌==◌, ℤ, pos, ◌+ℤ◌, List, Option, Some, None, IfSome, length, map, refl, sym, ap}
use Rattle.std.proofs.Common.{subst, ◌∙◌, ◌⊎◌, inl, inr, arith}
use Rattle.std.specs.Prelude.{◌<ℤ◌, ◌≤ℤ◌, ◌↔◌, nat_lt, slice_get}
use Rattle.std.specs.Cmp.{int_ranks}
use Rattle.std.specs.Option.{option_and_then, option_map}
use Rattle.std.specs.Ordering.{MatchOrdering, int_cmp, is_eq, is_ge, is_gt, is_le, is_lt}
use Rattle.std.specs.declared.cmp.Ordering.{Ordering}
use Rattle.std.specs.declared.cmp.Ordering.TheVariants as order
use Rattle.std.proofs.Common.{lt-ltb}
use Rattle.std.proofs.lemmas.Bool.{cases_lt}
use Rattle.std.proofs.lemmas.Int.{ints}
use Rattle.std.proofs.lemmas.Option.{slice_get_past}
use Rattle.mm_value.specs.declared.values.Value.{Value}
use Rattle.mm_value.specs.declared.values.Value.TheVariants.{Int, Text}
use Rattle.mm_query.specs.Atoms.{holds, holds_of, operand_of, shifted, stands, value_in}
use Rattle.mm_query.specs.Queries.{value_at}
use Rattle.mm_query.specs.declared.atom.Atom.{Atom}
use Rattle.mm_query.specs.declared.atom.Comparison.{Comparison}
use Rattle.mm_query.specs.declared.atom.Comparison.TheVariants.{Equal, Less, LessOrEqual, Greater, GreaterOrEqual}
use Rattle.mm_query.specs.declared.atom.Operand.{Operand}
use Rattle.mm_query.specs.declared.atom.Operand.TheVariants.{Literal, Column, Shifted}
use Rattle.mm_query.specs.declared.bound_query.BoundQuery.{BoundQuery}
use Rattle.mm_query.specs.declared.bound_query.FieldPlace.{FieldPlace}
use Rattle.mm_relevance.specs.declared.cycle.CycleEdge.{CycleEdge}
use Rattle.mm_relevance.specs.declared.term.Point.TheVariants.{Zero, Column as At}
use Rattle.mm_relevance.specs.declared.term.Term.{Term}
use Rattle.mm_relevance.specs.Relevance.{ComparesNumbers, IsCombinationWith, IsTrueOf, edge_at, edge_between, edge_of, field_term, lower_edge, moved}
use Rattle.mm_relevance.specs.Relevance.{number_at, number_of, number_term, operand_term, upper_edge}
use Rattle.mm_relevance.specs.Walks.{name_of}
use Rattle.mm_relevance.proofs.Irrelevance.{at_or_none, other_value, own_value, point_value}
use Rattle.mm_relevance.proofs.Points.{eq_from, ge_from, gt_from, le_from, lt_from, same_number}

-- ---- Orders of numbers

module _ (a b : ℤ) where
  le_by : (o : Ordering) → MatchOrdering o (a <ℤ b) (a ≡ b) (b <ℤ a) → a ≤ℤ b → is_le o ≡ true
  le_by order.Less m h = refl
  le_by order.Equal m h = refl
  le_by order.Greater m h = absurd (omega (arith, ints, m, h))

  lt_by : (o : Ordering) → MatchOrdering o (a <ℤ b) (a ≡ b) (b <ℤ a) → a <ℤ b → is_lt o ≡ true
  lt_by order.Less m h = refl
  lt_by order.Equal m h = absurd (omega (arith, ints, m, h))
  lt_by order.Greater m h = absurd (omega (arith, ints, m, h))

  ge_by : (o : Ordering) → MatchOrdering o (a <ℤ b) (a ≡ b) (b <ℤ a) → b ≤ℤ a → is_ge o ≡ true
  ge_by order.Less m h = absurd (omega (arith, ints, m, h))
  ge_by order.Equal m h = refl
  ge_by order.Greater m h = refl

  gt_by : (o : Ordering) → MatchOrdering o (a <ℤ b) (a ≡ b) (b <ℤ a) → b <ℤ a → is_gt o ≡ true
  gt_by order.Less m h = absurd (omega (arith, ints, m, h))
  gt_by order.Equal m h = absurd (omega (arith, ints, m, h))
  gt_by order.Greater m h = refl

  eq_by : (o : Ordering) → MatchOrdering o (a <ℤ b) (a ≡ b) (b <ℤ a) → a ≤ℤ b → b ≤ℤ a → is_eq o ≡ true
  eq_by order.Less m h k = absurd (omega (arith, ints, m, k))
  eq_by order.Equal m h k = refl
  eq_by order.Greater m h k = absurd (omega (arith, ints, m, h))

-- ---- Two terms

module _ (rows : List (List Value)) (name : Bool → CycleEdge) (a b : Term) (x y : ℤ)
    (left : number_at rows a.point +ℤ a.offset ≡ x) (right : number_at rows b.point +ℤ b.offset ≡ y) where
  abbrev Both : Comparison → Type 0
  Both comparison = (upper : Bool) → IfSome (cond upper (upper_edge comparison (name upper) a b) (lower_edge comparison (name upper) a b)) (IsTrueOf rows)

  says : (comparison : Comparison) → stands comparison (int_cmp x y) ≡ true → Both comparison
  says Equal h true = let k = eq_from x y h in omega (arith, ints, k, left, right)
  says Equal h false = let k = eq_from x y h in omega (arith, ints, k, left, right)
  says Less h true = tt
  says Less h false = let k = lt_from x y h in omega (arith, ints, k, left, right)
  says LessOrEqual h true = tt
  says LessOrEqual h false = let k = le_from x y h in omega (arith, ints, k, left, right)
  says Greater h true = let k = gt_from x y h in omega (arith, ints, k, left, right)
  says Greater h false = tt
  says GreaterOrEqual h true = let k = ge_from x y h in omega (arith, ints, k, left, right)
  says GreaterOrEqual h false = tt

  said : (comparison : Comparison) → Both comparison → stands comparison (int_cmp x y) ≡ true
  said Equal h =
      let low = h false in
      let high = h true in
      eq_by x y (int_cmp x y) (int_ranks x y) (omega (arith, ints, low, left, right)) (omega (arith, ints, high, left, right))
  said Less h = let low = h false in lt_by x y (int_cmp x y) (int_ranks x y) (omega (arith, ints, low, left, right))
  said LessOrEqual h = let low = h false in le_by x y (int_cmp x y) (int_ranks x y) (omega (arith, ints, low, left, right))
  said Greater h = let high = h true in gt_by x y (int_cmp x y) (int_ranks x y) (omega (arith, ints, high, left, right))
  said GreaterOrEqual h = let high = h true in ge_by x y (int_cmp x y) (int_ranks x y) (omega (arith, ints, high, left, right))

-- ---- A side with an integer has a term

int_is : (v : Value) (x : ℤ) → v ≡ Int x → number_of v ≡ x
int_is v x h = ap number_of h

module _ (query : BoundQuery) (place : ℕ) (row : List Value) (rows : List (List Value)) (with : IsCombinationWith query place row rows) where
  -- A term with this value.
  abbrev HasTerm : Option Term → ℤ → Type 0
  HasTerm o x = (t : Term) × (o ≡ Some t) × (number_at rows t.point +ℤ t.offset ≡ x)

  number_has : (v : Value) (x : ℤ) → v ≡ Int x → HasTerm (number_term v) x
  number_has v x h = (record { point = Zero; offset = x }, ap number_term h, omega (arith, ints))

  some_int : (v : Value) (x : ℤ) → Some v ≡ Some (Int x) → v ≡ Int x
  some_int v x h = cc

  inside : (f : FieldPlace) (x : ℤ) → value_at (map Some rows) f ≡ Some (Int x) → f.place < length rows
  inside f x h = go (cases_lt f.place (length rows))
    where
      go : (f.place < length rows) ⊎ (length rows ≤ f.place) → f.place < length rows
      go (inl k) = k
      go (inr k) =
          absurd (let e : None ≡ Some (Int x) = sym (ap (option_map (value_in f.column)) (at_or_none rows f.place ∙ slice_get_past rows f.place k))
          ∙ h in let b : ⊥ = cc in b)

  field_has_by : (f : FieldPlace) (x : ℤ) (own : Bool) → (own ≡ true → f.place ≡ place) → value_at (map Some rows) f ≡ Some (Int x)
      → HasTerm (cond own (number_term (value_in f.column row))
      (cond (nat_lt f.place (length query.from)) (Some (record { point = At f; offset = pos 0 })) None)) x
  field_has_by f x true is h =
      number_has (value_in f.column row) x (some_int (value_in f.column row) x (sym (own_value rows query place row with f (is refl)) ∙ h))
  field_has_by f x false is h =
      let within = inside f x h in
      let long = with.complete in
      let there : nat_lt f.place (length query.from) ≡ true = lt-ltb f.place (length query.from) (omega (arith, within, long)) in
      let value = int_is (point_value rows (At f)) x (some_int (point_value rows (At f)) x (sym (other_value rows query place row with f within) ∙ h)) in
      (record { point = At f; offset = pos 0 }, ap (λ c. cond c (Some (record { point = At f; offset = pos 0 })) None) there, omega (arith, ints, value))

  field_has : (f : FieldPlace) (x : ℤ) → value_at (map Some rows) f ≡ Some (Int x) → HasTerm (field_term query place row f) x
  field_has f x h = field_has_by f x (f.place == place) (same_number f.place place) h

  moved_has : (f : FieldPlace) (by x : ℤ) (v : Option Value) → value_at (map Some rows) f ≡ v → option_map (shifted by) v ≡ Some (Int x)
      → HasTerm (option_map (moved by) (field_term query place row f)) x
  moved_has f by x None is h = absurd (let b : ⊥ = cc in b)
  moved_has f by x (Some (Text text)) is h = absurd (let b : ⊥ = cc in b)
  moved_has f by x (Some (Int z)) is h =
      let t = field_has f z is in
      let sum : number_of (Int (z +ℤ by)) ≡ x = int_is (Int (z +ℤ by)) x (some_int (Int (z +ℤ by)) x h) in
      let at = t.2 in
      (moved by t.0, ap (option_map (moved by)) t.1, omega (arith, ints, sum, at))

  operand_has : (o : Operand FieldPlace) (x : ℤ) → operand_of (value_at (map Some rows)) o ≡ Some (Int x) → HasTerm (operand_term query place row o) x
  operand_has (Literal v) x h = number_has v x (some_int v x h)
  operand_has (Column f) x h = field_has f x h
  operand_has (Shifted f by) x h = moved_has f by x (value_at (map Some rows) f) refl h

  pub exact : (conjunct : ℕ) (atom : Atom FieldPlace) → slice_get query.atoms conjunct ≡ Some atom → ComparesNumbers (map Some rows) atom
      → (holds (value_at (map Some rows)) atom ≡ true) ↔ ((upper : Bool) → IfSome (edge_at query place row (name_of conjunct upper)) (IsTrueOf rows))
  exact conjunct atom is c = (there, back)
    where
      a : HasTerm (field_term query place row atom.left) c.left
      a = field_has atom.left c.left c.left_is

      b : HasTerm (operand_term query place row atom.right) c.right
      b = operand_has atom.right c.right c.right_is

      compared : holds (value_at (map Some rows)) atom ≡ stands atom.comparison (int_cmp c.left c.right)
      compared = (λ i. holds_of atom.comparison (c.left_is i) (c.right_is i))

      given : (upper : Bool) → edge_at query place row (name_of conjunct upper)
          ≡ cond upper (upper_edge atom.comparison (name_of conjunct upper) a.0 b.0) (lower_edge atom.comparison (name_of conjunct upper) a.0 b.0)
      given upper =
          ap (option_and_then (edge_of query place row (name_of conjunct upper))) is
          ∙ (λ i. edge_between atom.comparison (name_of conjunct upper) (a.1 i) (b.1 i))

      there : holds (value_at (map Some rows)) atom ≡ true → (upper : Bool) → IfSome (edge_at query place row (name_of conjunct upper)) (IsTrueOf rows)
      there h upper =
          subst (λ o. IfSome o (IsTrueOf rows)) (sym (given upper))
          (says rows (name_of conjunct) a.0 b.0 c.left c.right a.2 b.2 atom.comparison (sym compared ∙ h) upper)

      back : ((upper : Bool) → IfSome (edge_at query place row (name_of conjunct upper)) (IsTrueOf rows)) → holds (value_at (map Some rows)) atom ≡ true
      back h =
          compared ∙ said rows (name_of conjunct) a.0 b.0 c.left c.right a.2 b.2 atom.comparison
          (λ upper. subst (λ o. IfSome o (IsTrueOf rows)) (given upper) (h upper))
