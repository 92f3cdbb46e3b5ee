-- Combinations of the first tables of a query that are all part of a result.
use Rattle.std.proofs.Common.{◌≡◌, ℕ, zero, suc, ◌+◌, ◌<◌, ◌≤◌, Bool, true, false, cond, ◌&&◌, nat_lt, List, [], ◌∷◌, ◌++◌, Option, Some, None, All, get_or}
use Rattle.std.proofs.Common.{length, map, append_assoc, refl, sym, ap, ◌∙◌, subst, arith}
use Rattle.std.specs.List.{filter, flat_map, list_all}
use Rattle.std.specs.Option.{option_map, option_map_or}
use Rattle.std.proofs.lemmas.Bool.{and_from, and_parts, ltb-true, lt-ltb}
use Rattle.std.proofs.lemmas.List.{append-nil, length-append, map-append}
use Rattle.std.proofs.lemmas.List.Elements.{All-append, All-cons, All-head, All-map, All-nil, All-tail, All-weaker}
use Rattle.std.proofs.lemmas.List.Sorted.{IsPermutation-refl, length_permutation}
use Rattle.mm_join.specs.Joined.{joined}
use Rattle.mm_join.proofs.JoinSteps.{fits, fitting_behind, joined_each, joined_fitting}
use Rattle.mm_plan.specs.Growing.{HaveRows, names_first}
use Rattle.mm_query.specs.Atoms.{holds, holds_of, operand_of, shifted, value_in}
use Rattle.mm_query.specs.Queries.{combinations, none_fails, value_at}
use Rattle.mm_query.specs.Resolving.{column_of}
use Rattle.mm_query.specs.declared.atom.Atom.{Atom}
use Rattle.mm_query.specs.declared.atom.Operand.{Operand}
use Rattle.mm_query.specs.declared.atom.Operand.TheVariants.{Literal, Column, Shifted}
use Rattle.mm_query.specs.declared.bound_query.FieldPlace.{FieldPlace}
use Rattle.mm_indexed.specs.Kept.{StoredRows}
use Rattle.mm_indexed.specs.RowLists.{rows_of}
use Rattle.mm_select.specs.Fitting.{fitting}
use Rattle.mm_store.proofs.Joining.{some_at}
use Rattle.mm_store.specs.Tables.{IsAt, Tables, rows_at}
use Rattle.mm_value.specs.declared.values.Value.{Value}

abbrev pub Row : Type 0
Row = List Value

none_below : (n : ℕ) → n < 0 → ⊥
none_below n less = omega (arith, less)

-- ---- an atom that is decided stays decided

-- the field that an operand names, if any, belongs to the first tables
abbrev right_first : ℕ → Operand FieldPlace → Bool
right_first tables right = option_map_or (λ (field : FieldPlace). nat_lt field.place tables) (column_of right) true

same_row_at : (c : List Row) (row : Row) (place : ℕ) → place < length c
    → get_or (map Some (c ++ row ∷ [])) place None ≡ get_or (map Some c) place None
same_row_at [] row place less = absurd (none_below place less)
same_row_at (x ∷ c) row zero less = refl
same_row_at (x ∷ c) row (suc place) less = same_row_at c row place (omega (arith, less))

module _ (c : List Row) (row : Row) where
  abbrev now : FieldPlace → Option Value
  now = value_at (map Some c)

  abbrev then : FieldPlace → Option Value
  then = value_at (map Some (c ++ row ∷ []))

  same_value : (field : FieldPlace) → nat_lt field.place (length c) ≡ true → then field ≡ now field
  same_value field first = ap (option_map (value_in field.column)) (same_row_at c row field.place (ltb-true field.place (length c) first))

  same_operand : (right : Operand FieldPlace) → right_first (length c) right ≡ true → operand_of then right ≡ operand_of now right
  same_operand (Literal value) first = refl
  same_operand (Column field) first = same_value field first
  same_operand (Shifted field by) first = ap (option_map (shifted by)) (same_value field first)

  same_holds : (atom : Atom FieldPlace) → names_first (length c) atom ≡ true → holds then atom ≡ holds now atom
  same_holds atom first =
      let parts = and_parts (nat_lt atom.left.place (length c)) (right_first (length c) atom.right) first in
      λ i. holds_of atom.comparison (same_value atom.left parts.0 i) (same_operand atom.right parts.1 i)

  same_fits : (atoms : List (Atom FieldPlace)) → list_all (names_first (length c)) atoms ≡ true
      → none_fails atoms (map Some (c ++ row ∷ [])) ≡ none_fails atoms (map Some c)
  same_fits [] first = refl
  same_fits (atom ∷ atoms) first =
      let parts = and_parts (names_first (length c) atom) (list_all (names_first (length c)) atoms) first in
      λ i. same_holds atom parts.0 i && same_fits atoms parts.1 i

-- An atom that names only the first tables names only the first ones of more tables.
module _ (few many : ℕ) (more : few ≤ many) where
  wider : (n : ℕ) → nat_lt n few ≡ true → nat_lt n many ≡ true
  wider n less = lt-ltb n many (let below = ltb-true n few less in omega (arith, below, more))

  wider_right : (right : Operand FieldPlace) → right_first few right ≡ true → right_first many right ≡ true
  wider_right (Literal value) first = refl
  wider_right (Column field) first = wider field.place first
  wider_right (Shifted field by) first = wider field.place first

  all_wider : (atoms : List (Atom FieldPlace)) → list_all (names_first few) atoms ≡ true → list_all (names_first many) atoms ≡ true
  all_wider [] first = refl
  all_wider (atom ∷ atoms) first =
      let parts = and_parts (names_first few atom) (list_all (names_first few) atoms) first in
      let sides = and_parts (nat_lt atom.left.place few) (right_first few atom.right) parts.0 in
      and_from (names_first many atom) (list_all (names_first many) atoms)
      (and_from (nat_lt atom.left.place many) (right_first many atom.right) (wider atom.left.place sides.0) (wider_right atom.right sides.1))
      (all_wider atoms parts.1)

-- ---- a combination of one more table

module _ {X : Type 0} where
  -- the combination has one element more than there are lists
  abbrev IsOneLonger : List (List X) → List X → Type 0
  IsOneLonger lists c = length c ≡ suc (length lists)

  as_long : (lists : List (List X)) → All (λ c. length c ≡ length lists) (combinations lists)
  as_long [] = All-cons (λ (c : List X). length c ≡ 0) [] [] refl (All-nil (λ (c : List X). length c ≡ 0))
  as_long (xs ∷ lists) = each (as_long lists) xs
    where
      each : All (λ c. length c ≡ length lists) (combinations lists) → (xs : List X)
          → All (IsOneLonger lists) (flat_map (λ x. map (λ others. x ∷ others) (combinations lists)) xs)
      each long [] = All-nil (IsOneLonger lists)
      each long (x ∷ xs) =
          All-append (IsOneLonger lists) (map (λ others. x ∷ others) (combinations lists)) (flat_map (λ y. map (λ others. y ∷ others) (combinations lists)) xs)
          (All-map (IsOneLonger lists) (λ (others : List X). x ∷ others) (combinations lists)
          (All-weaker (λ (c : List X). length c ≡ length lists) (λ (c : List X). suc (length c) ≡ suc (length lists)) (λ c is. ap (λ n. suc n) is)
          (combinations lists) long))
          (each long xs)

module _ (atoms : List (Atom FieldPlace)) where
  -- A combination that fits still fits with a row of the next table.
  some_behind : (next : List Row) (outer : List Row) → 0 < length next → list_all (names_first (length outer)) atoms ≡ true
      → fits atoms outer ≡ true → 0 < length (fitting_behind atoms next outer)
  some_behind [] outer some first fit = absurd (none_below 0 some)
  some_behind (row ∷ next) outer some first fit =
      subst (λ b. 0 < length (cond b ((outer ++ row ∷ []) ∷ fitting_behind atoms next outer) (fitting_behind atoms next outer)))
      (sym (same_fits outer row atoms first ∙ fit)) (omega (arith))

  -- So there are no fewer fitting combinations with the next table than without it.
  no_fewer : (tables : ℕ) (next : List Row) → 0 < length next → list_all (names_first tables) atoms ≡ true
      → (cs : List (List Row)) → All (λ c. length c ≡ tables) cs
      → length (filter (fits atoms) cs) ≤ length (flat_map (fitting_behind atoms next) (filter (fits atoms) cs))
  no_fewer tables next some first [] long = omega (arith)
  no_fewer tables next some first (c ∷ cs) long =
      by (fits atoms c) refl (no_fewer tables next some first cs (All-tail (λ (d : List Row). length d ≡ tables) c cs long))
    where
      by : (b : Bool) → fits atoms c ≡ b → length (filter (fits atoms) cs) ≤ length (flat_map (fitting_behind atoms next) (filter (fits atoms) cs))
          → length (cond b (c ∷ filter (fits atoms) cs) (filter (fits atoms) cs))
          ≤ length (flat_map (fitting_behind atoms next) (cond b (c ∷ filter (fits atoms) cs) (filter (fits atoms) cs)))
      by false is later = later
      by true is later =
          let here : length c ≡ tables = All-head (λ (d : List Row). length d ≡ tables) c cs long in
          let one = some_behind next c some (subst (λ n. list_all (names_first n) atoms ≡ true) (sym here) first) is in
          let both = length-append (fitting_behind atoms next c) (flat_map (fitting_behind atoms next) (filter (fits atoms) cs)) in
          omega (arith, one, both, later)

  one_more : (lists : List (List Row)) (next : List Row) → 0 < length next → list_all (names_first (length lists)) atoms ≡ true
      → length (fitting atoms lists) ≤ length (fitting atoms (lists ++ next ∷ []))
  one_more lists next some first =
      let behind = joined_fitting atoms lists (fitting atoms lists) next (IsPermutation-refl (fitting atoms lists)) in
      let count = length_permutation (joined atoms (fitting atoms lists) next) (fitting atoms (lists ++ next ∷ [])) behind in
      let each = ap length (joined_each atoms (fitting atoms lists) next) in
      subst (λ n. length (fitting atoms lists) ≤ n) (sym (count ∙ each))
      (no_fewer (length lists) next some first (combinations lists) (as_long lists))

  length-one_more : (lists : List (List Row)) (next : List Row) → length (lists ++ next ∷ []) ≡ length lists + 1
  length-one_more lists next = length-append lists (next ∷ [])

  -- There are also no fewer with all tables that are left.
  no_fewer_at_last : (lists later : List (List Row)) → list_all (names_first (length lists)) atoms ≡ true → All (λ rows. 0 < length rows) later
      → length (fitting atoms lists) ≤ length (fitting atoms (lists ++ later))
  no_fewer_at_last lists [] first some =
      subst (λ ls. length (fitting atoms lists) ≤ length (fitting atoms ls)) (sym (append-nil lists)) (omega (arith))
  no_fewer_at_last lists (next ∷ later) first some =
      let here = one_more lists next (All-head (λ (rows : List Row). 0 < length rows) next later some) first in
      let wide : length lists ≤ length (lists ++ next ∷ []) = (let one = length-one_more lists next in omega (arith, one)) in
      let rest = no_fewer_at_last (lists ++ next ∷ []) later (all_wider (length lists) (length (lists ++ next ∷ [])) wide atoms first)
      (All-tail (λ (rows : List Row). 0 < length rows) next later some) in
      subst (λ ls. length (fitting atoms lists) ≤ length (fitting atoms ls)) (append_assoc lists (next ∷ []) later) (omega (arith, here, rest))

-- This holds for the rows of the tables of a store.
pub no_fewer_of : (store : Tables) (atoms : List (Atom FieldPlace)) (first later : List ℕ) → list_all (names_first (length first)) atoms ≡ true
    → HaveRows store later
    → length (fitting atoms (map (rows_at store.tables) first)) ≤ length (fitting atoms (map (rows_at store.tables) (first ++ later)))
no_fewer_of store atoms first later named rows =
    subst (λ ls. length (fitting atoms (map (rows_at store.tables) first)) ≤ length (fitting atoms ls))
    (sym (map-append (rows_at store.tables) first later))
    (no_fewer_at_last atoms (map (rows_at store.tables) first) (map (rows_at store.tables) later)
    (subst (λ n. list_all (names_first n) atoms ≡ true) (sym (length_rows first)) named)
    (All-map (λ (rs : List Row). 0 < length rs) (rows_at store.tables) later rows))
  where
    length_rows : (tables : List ℕ) → length (map (rows_at store.tables) tables) ≡ length tables
    length_rows [] = refl
    length_rows (t ∷ tables) = ap (λ n. suc n) (length_rows tables)

-- A table whose number of rows is not 0 has a row.
pub has_row : (store : Tables) (table count : ℕ) → table < length store.tables
    → ((stored : StoredRows) → IsAt store table stored → count ≡ length (rows_of stored)) → (count ≡ 0 → ⊥) → 0 < length (rows_at store.tables table)
has_row store table count there counted some =
    let stored = some_at store.tables table there in
    let rows : length (rows_at store.tables table) ≡ count =
    ap (λ s. length (option_map_or rows_of s [])) stored.1 ∙ sym (counted stored.0 stored.1) in
    positive count some rows
  where
    positive : (n : ℕ) → (n ≡ 0 → ⊥) → length (rows_at store.tables table) ≡ n → 0 < length (rows_at store.tables table)
    positive zero some is = absurd (some refl)
    positive (suc n) some is = omega (arith, is)
