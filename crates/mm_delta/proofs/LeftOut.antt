-- Rows that are left out add nothing, and a row that is not left out is not skipped.
use Rattle.std.proofs.Common.{◌≡◌, ℕ, ◌+◌, ◌<◌, ◌≤◌, ◌==◌, ◌⊎◌, inl, inr, Bool, true, false, cond, nat_lt, Some, List, [], ◌∷◌, get_or, length, map, refl}
use Rattle.std.proofs.Common.{sym, ap, subst, ◌∙◌, arith}
use Rattle.std.specs.List.{All}
use Rattle.std.specs.Prelude.{slice_get}
use Rattle.std.proofs.lemmas.Bool.{cond-true, eq-eqb, eqb-true, ltb-false, ltb-true}
use Rattle.std.proofs.lemmas.List.{get_or-map, length-map}
use Rattle.std.proofs.lemmas.List.Elements.{All-cons, All-contains, All-nil}
use Rattle.std.proofs.lemmas.Option.{slice_get-get_or}
use Rattle.mm_store.specs.Tables.{Tables}
use Rattle.mm_query.specs.Atoms.{value_in}
use Rattle.mm_query.specs.Queries.{Partial, bag_of, none_fails}
use Rattle.mm_query.specs.declared.atom.Operand.{Operand}
use Rattle.mm_query.specs.declared.atom.Operand.TheVariants.{Literal, Column, Shifted}
use Rattle.mm_query.specs.declared.bound_query.BoundQuery.{BoundQuery}
use Rattle.mm_query.specs.declared.bound_query.FieldPlace.{FieldPlace}
use Rattle.mm_relevance.specs.Relevance.{IsCyclic}
use Rattle.mm_query.specs.Additions.{AddsToNumber, AddsToNumbers, is_text}
use Rattle.mm_relevance.proofs.Adding.{adds_nothing}
use Rattle.mm_multiset.specs.Counts.{count_of}
use Rattle.mm_delta.specs.Edited.{after_at, before_at}
use Rattle.mm_delta.specs.Skipping.{IsOfCyclicRows, IsRowOf, IsTypeTested}
use Rattle.mm_delta.specs.Terms.{lists_around}
use Rattle.mm_delta.specs.Walk.{one_row, other_places, rows_around}
use Rattle.mm_delta.specs.declared.edited.TableChange.{TableChange}
use Rattle.mm_delta.proofs.Found.{Row, Rows}
use Rattle.mm_delta.proofs.Product.{found_from_row, get_around, lists_long, past_around}
use Rattle.mm_delta.proofs.Skip.{found_none}

-- ---- a property of each row of the lists around a row

all_of : (P : Row → Type 0) (b c : Bool) (row : Row) (after before : Rows) → (b ≡ true → P row) → All P after → All P before
    → All P (cond b (row ∷ []) (cond c after before))
all_of P true c row after before h a f = All-cons P row [] (h refl) (All-nil P)
all_of P false true row after before h a f = a
all_of P false false row after before h a f = f

module _ (after before : ℕ → Rows) (row : Row) (from : List ℕ) (k : ℕ) (inside : k < length from) where
  abbrev lists : List Rows
  lists = lists_around 0 after (λ _. row ∷ []) before from k

  all_around : (P : Row → Type 0) (j : ℕ) → All P (after (get_or from j 0)) → All P (before (get_or from j 0)) → (j ≡ k → P row) → All P (get_or lists j [])
  all_around P j a f h = by (nat_lt j (length from)) refl
    where
      by : (b : Bool) → nat_lt j (length from) ≡ b → All P (get_or lists j [])
      by true e =
          subst (All P) (sym (get_around after before row from k inside j (ltb-true j (length from) e)))
          (all_of P (j == k) (nat_lt j k) row (after (get_or from j 0)) (before (get_or from j 0)) (λ same. h (eqb-true j k same)) a f)
      by false e = subst (All P) (sym (past_around after before row from k inside j (ltb-false j (length from) e))) (All-nil P)

  alone_there : slice_get lists k ≡ Some (row ∷ [])
  alone_there =
      let long : length lists ≡ length from = lists_long after before row from k inside in
      slice_get-get_or lists k [] (omega (arith, long))
      ∙ ap Some (get_around after before row from k inside k inside ∙ cond-true (k == k) (row ∷ []) (rows_around from k after before k) (eq-eqb k k refl))

module _ (q : BoundQuery) (store : Tables) (changes : List TableChange) (tables : List ℕ) (k : ℕ) (row : Row) (inside : k < length tables)
    (typed : IsTypeTested q store changes tables) (stands : IsRowOf store changes (get_or tables k 0) row) where
  abbrev around : List Rows
  around = lists_around 0 (after_at store changes) (λ _. row ∷ []) (before_at store) tables k

  -- A property of the rows before and of those after the change holds of the row.
  of_row : (P : Row → Type 0) (j : ℕ) → All P (after_at store changes (get_or tables j 0)) → All P (before_at store (get_or tables j 0)) → j ≡ k → P row
  of_row P j a f same =
      elim stands [
        | inl c ↦ All-contains P (before_at store (get_or tables k 0)) row (subst (λ i. All P (before_at store (get_or tables i 0))) same f) c
        | inr c ↦ All-contains P (after_at store changes (get_or tables k 0)) row (subst (λ i. All P (after_at store changes (get_or tables i 0))) same a) c
      ]

  operand_around : (o : Operand FieldPlace) → AddsToNumber (λ j. after_at store changes (get_or tables j 0)) o
      → AddsToNumber (λ j. before_at store (get_or tables j 0)) o
      → AddsToNumber (λ j. get_or around j []) o
  operand_around (Literal v) a f = tt
  operand_around (Column field) a f = tt
  operand_around (Shifted field by) a f =
      let P : Row → Type 0 = λ r. is_text (Some (value_in field.column r)) ≡ false in
      all_around (after_at store changes) (before_at store) row tables k inside P field.place a f (of_row P field.place a f)

  numbers_around : AddsToNumbers q (λ j. get_or around j [])
  numbers_around i d within = operand_around (get_or q.atoms i d).right (typed.after i d within) (typed.before i d within)

  -- A cyclic row has an empty bag.
  pub cyclic_none : IsCyclic q k row → bag_of q around ≡ []
  cyclic_none cyclic =
      adds_nothing q k row around cyclic (lists_long (after_at store changes) (before_at store) row tables k inside ∙ typed.whole)
      (alone_there (after_at store changes) (before_at store) row tables k inside) numbers_around

  -- So has a row of which an atom is false.
  false_none : none_fails q.atoms (one_row (length tables) k row) ≡ false → bag_of q around ≡ []
  false_none fails =
      sym (found_from_row q tables (after_at store changes) (before_at store) row k inside)
      ∙ found_none q (rows_around tables k (after_at store changes) (before_at store)) (other_places (length tables) k) (one_row (length tables) k row) fails

  -- So no count changes if the row is left out.
  pub left_out_adds : (m : Partial) → m ≡ one_row (length tables) k row → (none_fails q.atoms m ≡ false) ⊎ IsCyclic q k row → (out : ℕ) (other : Row)
      → out ≡ out + count_of other (bag_of q around)
  left_out_adds m is why out other = omega (arith, ap (count_of other) none)
    where
      none : bag_of q around ≡ []
      none = elim why [
        | inl fails ↦ false_none (ap (none_fails q.atoms) (sym is) ∙ fails)
        | inr cyclic ↦ cyclic_none cyclic
      ]

-- A row without a cycle is not skipped.
pub reads_unskipped : (q : BoundQuery) (skipped : ℕ → Row → Bool) (k : ℕ) (row : Row) (n : ℕ) → IsOfCyclicRows q skipped → (IsCyclic q k row → ⊥)
    → n ≤ cond (skipped k row) 0 n
reads_unskipped q skipped k row n only not_cyclic = by (skipped k row) refl
  where
    by : (b : Bool) → skipped k row ≡ b → n ≤ cond b 0 n
    by true e = absurd (not_cyclic (only k row e))
    by false e = omega arith

-- A property of the rows of a list holds of the row at each index.
pub row_of_index : {A : Type 0} (P : Row → Type 0) (f : A → Row) (items : List A) (i : ℕ) (x : A) → All P (map f items) → i < length items → x
    ≡ get_or items i x
    → P (f x)
row_of_index P f items i x all inside is =
    subst P (get_or-map f items i x (f x) inside ∙ ap f (sym is)) (all i (f x) (omega (arith, inside, length-map items f)))
