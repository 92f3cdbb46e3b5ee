-- Combinations with a cyclic row contribute nothing.
use Rattle.std.proofs.Common.{◌≡◌, ℕ, suc, zero, ◌<◌, Bool, false, cond, ◌||◌, ◌⊎◌, inl, inr, List, [], ◌∷◌, ◌++◌, Option, Some, None, get_or, length, map}
use Rattle.std.proofs.Common.{refl, sym, ap, subst, ◌∙◌, arith}
use Rattle.std.specs.Prelude.{filter, slice_get}
use Rattle.std.specs.List.{AllByRecursion, flat_map, list_any}
use Rattle.std.specs.Option.{option_map}
use Rattle.std.proofs.lemmas.List.Elements.{recursion_from_All}
use Rattle.mm_value.specs.declared.values.Value.{Value}
use Rattle.mm_query.specs.Atoms.{value_in}
use Rattle.mm_query.specs.Queries.{bag_of, combinations, fits, projected}
use Rattle.mm_query.specs.declared.atom.Atom.{Atom}
use Rattle.mm_query.specs.declared.atom.Operand.{Operand}
use Rattle.mm_query.specs.declared.atom.Operand.TheVariants.{Literal, Column, Shifted}
use Rattle.mm_query.specs.declared.bound_query.BoundQuery.{BoundQuery}
use Rattle.mm_query.specs.declared.bound_query.FieldPlace.{FieldPlace}
use Rattle.mm_relevance.specs.Relevance.{IsCombinationWith, IsCyclic, shifts_text}
use Rattle.mm_query.specs.Additions.{AddsToNumber, AddsToNumbers, is_text}
use Rattle.mm_relevance.proofs.Irrelevance.{at_or_none, irrelevant_by}

abbrev Row : Type 0
Row = List Value

abbrev Rows : Type 0
Rows = List Row

-- ---- Lists

abbrev Among : Rows → Row → Type 0
Among [] x = ⊥
Among (y ∷ ys) x = (y ≡ x) ⊎ Among ys x

all_both : (P : Rows → Type 0) (xs ys : List Rows) → AllByRecursion P xs → AllByRecursion P ys → AllByRecursion P (xs ++ ys)
all_both P [] ys h k = k
all_both P (x ∷ xs) ys h k = (h.0, all_both P xs ys h.1 k)

none_passes : (test : Rows → Bool) (xs : List Rows) → AllByRecursion (λ x. test x ≡ false) xs → filter test xs ≡ []
none_passes test [] h = refl
none_passes test (x ∷ xs) h = ap (λ b. cond b (x ∷ filter test xs) (filter test xs)) h.0 ∙ none_passes test xs h.1

all_so : (P Q : Rows → Type 0) → ((x : Rows) → P x → Q x) → (xs : List Rows) → AllByRecursion P xs → AllByRecursion Q xs
all_so P Q f [] h = tt
all_so P Q f (x ∷ xs) h = (f x h.0, all_so P Q f xs h.1)

-- ---- A combination has a row of each list

-- The combination has a row of each list, in order.
record IsPicked (lists : List Rows) (picked : Rows) : Type 0 where
  pub whole : length picked ≡ length lists
  pub each : (j : ℕ) (r : Row) → slice_get picked j ≡ Some r → Among (get_or lists j []) r

pick_each : (xs : Rows) (lists : List Rows) (x : Row) (others : Rows) → Among xs x → IsPicked lists others
    → (j : ℕ) (r : Row) → slice_get (x ∷ others) j ≡ Some r → Among (get_or (xs ∷ lists) j []) r
pick_each xs lists x others m p zero r h = subst (Among xs) (let same : x ≡ r = cc in same) m
pick_each xs lists x others m p (suc j) r h = p.each j r h

pick_more : (xs : Rows) (lists : List Rows) (x : Row) (others : Rows) → Among xs x → IsPicked lists others → IsPicked (xs ∷ lists) (x ∷ others)
pick_more xs lists x others m p = record { whole = ap suc p.whole; each = pick_each xs lists x others m p }

pick_front : (xs : Rows) (lists : List Rows) (x : Row) → Among xs x → (rest : List Rows) → AllByRecursion (IsPicked lists) rest
    → AllByRecursion (IsPicked (xs ∷ lists)) (map (λ others. x ∷ others) rest)
pick_front xs lists x m [] h = tt
pick_front xs lists x m (others ∷ rest) h = (pick_more xs lists x others m h.0, pick_front xs lists x m rest h.1)

pick_all : (all : Rows) (lists : List Rows) → AllByRecursion (IsPicked lists) (combinations lists) → (xs : Rows) → ((x : Row) → Among xs x → Among all x)
    → AllByRecursion (IsPicked (all ∷ lists)) (flat_map (λ x. map (λ others. x ∷ others) (combinations lists)) xs)
pick_all all lists h [] f = tt
pick_all all lists h (x ∷ xs) f =
    all_both (IsPicked (all ∷ lists)) (map (λ others. x ∷ others) (combinations lists)) (flat_map (λ x. map (λ others. x ∷ others) (combinations lists)) xs)
    (pick_front all lists x (f x (inl refl)) (combinations lists) h) (pick_all all lists h xs (λ y m. f y (inr m)))

picked_of_none : (j : ℕ) (r : Row) → slice_get [] j ≡ Some r → Among (get_or [] j []) r
picked_of_none j r h = absurd (let b : ⊥ = cc in b)

all_picked : (lists : List Rows) → AllByRecursion (IsPicked lists) (combinations lists)
all_picked [] = (record { whole = refl; each = picked_of_none }, tt)
all_picked (xs ∷ lists) = pick_all xs lists (all_picked lists) xs (λ x m. m)

-- ---- No text of it is shifted

among_all : (P : Row → Type 0) (xs : Rows) (x : Row) → AllByRecursion P xs → Among xs x → P x
among_all P [] x h m = absurd m
among_all P (y ∷ ys) x h (inl e) = subst P e h.0
among_all P (y ∷ ys) x h (inr m) = among_all P ys x h.1 m

module _ (lists : List Rows) (rows : Rows) (p : IsPicked lists rows) where
  text_at : (column : ℕ) (o : Option Row) → ((r : Row) → o ≡ Some r → is_text (Some (value_in column r)) ≡ false) → is_text (option_map (value_in column) o)
      ≡ false
  text_at column None f = refl
  text_at column (Some r) f = f r refl

  no_text_shifted : (o : Operand FieldPlace) → AddsToNumber (λ j. get_or lists j []) o → shifts_text (map Some rows) o ≡ false
  no_text_shifted (Literal v) h = refl
  no_text_shifted (Column f) h = refl
  no_text_shifted (Shifted f by) h =
      text_at f.column (get_or (map Some rows) f.place None)
      (λ r is. among_all (λ r. is_text (Some (value_in f.column r)) ≡ false) (get_or lists f.place []) r
      (recursion_from_All _ (get_or lists f.place []) h) (p.each f.place r (sym (at_or_none rows f.place) ∙ is)))

  none_shifted : (atoms : List (Atom FieldPlace)) → AllByRecursion (λ (a : Atom FieldPlace). AddsToNumber (λ j. get_or lists j []) a.right) atoms
      → list_any (λ (a : Atom FieldPlace). shifts_text (map Some rows) a.right) atoms ≡ false
  none_shifted [] h = refl
  none_shifted (a ∷ atoms) h = (λ i. no_text_shifted a.right h.0 i || none_shifted atoms h.1 i)

-- ---- The law

slice_get_some : (xs : Rows) (j n : ℕ) → length xs ≡ n → j < n → (r : Row) × (slice_get xs j ≡ Some r)
slice_get_some [] j n e h = absurd (let b : ⊥ = omega (arith, e) in b)
slice_get_some (x ∷ xs) zero n e h = (x, refl)
slice_get_some (x ∷ xs) (suc j) (suc n) e h = slice_get_some xs j n (let k : length xs ≡ n = omega (arith, e) in k) (omega arith)
slice_get_some (x ∷ xs) (suc j) zero e h = absurd (let b : ⊥ = omega arith in b)

at_place : (lists : List Rows) (j : ℕ) (xs : Rows) → slice_get lists j ≡ Some xs → (j < length lists) × (get_or lists j [] ≡ xs)
at_place [] j xs h = absurd (let b : ⊥ = cc in b)
at_place (ys ∷ lists) zero xs h = (omega arith, let same : ys ≡ xs = cc in same)
at_place (ys ∷ lists) (suc j) xs h = let k = at_place lists j xs h in (let l = k.0 in omega (arith, l), k.1)

only : (row r : Row) → Among (row ∷ []) r → row ≡ r
only row r (inl e) = e
only row r (inr m) = absurd m

module _ (query : BoundQuery) (place : ℕ) (row : Row) (lists : List Rows) (whole : length lists ≡ length query.from)
    (alone : slice_get lists place ≡ Some (row ∷ []))
    (adds : AddsToNumbers query (λ j. get_or lists j [])) where
  with_row : (rows : Rows) → IsPicked lists rows → IsCombinationWith query place row rows
  with_row rows p =
      let at = at_place lists place (row ∷ []) alone in
      let r = slice_get_some rows place (length lists) p.whole at.0 in
      record {
        complete = p.whole ∙ whole;
        has_row = r.1 ∙ ap Some (sym (only row r.0 (subst (λ l. Among l r.0) at.1 (p.each place r.0 r.1))));
        no_text_is_shifted = none_shifted lists rows p query.atoms (recursion_from_All _ query.atoms adds);
      }

pub adds_nothing : (query : BoundQuery) (place : ℕ) (row : Row) (lists : List Rows) → IsCyclic query place row
    → length lists ≡ length query.from → slice_get lists place ≡ Some (row ∷ []) → AddsToNumbers query (λ j. get_or lists j [])
    → bag_of query lists ≡ []
adds_nothing query place row lists cyclic whole alone adds =
    ap (map (projected query))
    (none_passes (fits query) (combinations lists)
    (all_so (IsPicked lists) (λ c. fits query c ≡ false) (λ c p. irrelevant_by query place row cyclic c (with_row query place row lists whole alone adds c p))
    (combinations lists) (all_picked lists)))
