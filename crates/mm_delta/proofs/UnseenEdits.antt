-- Edits that change no column that a query reads do not change its bag.
use Rattle.std.proofs.Common.{◌≡◌, ℕ, zero, suc, ◌+◌, ◌<◌, ◌≤◌, ◌==◌, ◌&&◌, ◌||◌, Bool, true, false, cond, not, pos, Some, None, List, [], ◌∷◌, ◌++◌, drop}
use Rattle.std.proofs.Common.{get_or, length, map, take, inl, inr, refl, sym, ap, ◌∙◌, arith, length-take}
use Rattle.std.specs.List.{All, cons_option, filter_map, list_all, sum_by}
use Rattle.std.specs.Option.{option_map, option_map_or, unwrap_or}
use Rattle.std.proofs.lemmas.Bool.{and_parts, cases_Bool, eq-eqb, eqb-true}
use Rattle.std.proofs.lemmas.List.{length-append, length-map, take-append-drop, take_more}
use Rattle.std.proofs.lemmas.List.Elements.{All-cons, All-head, All-nil, All-tail, filter_map-append}
use Rattle.std.proofs.lemmas.List.Sums.{sum_by-cons}
use Rattle.mm_value.proofs.SameRows.{values_exact}
use Rattle.mm_value.specs.Equality.{same_value}
use Rattle.mm_value.specs.declared.values.Value.{Value}
use Rattle.mm_value.specs.declared.values.Value.TheVariants.{Int}
use Rattle.mm_query.specs.Atoms.{holds, holds_of, operand_of, shifted, value_in}
use Rattle.mm_query.specs.Queries.{Partial, bag_of, combinations, none_fails, same_row, value_at, values_of}
use Rattle.mm_query.specs.Resolving.{column_of}
use Rattle.mm_query.specs.declared.atom.Atom.{Atom}
use Rattle.mm_query.specs.declared.atom.Operand.{Operand}
use Rattle.mm_query.specs.declared.atom.Operand.TheVariants.{Literal, Column, Shifted}
use Rattle.mm_query.specs.declared.bound_query.BoundQuery.{BoundQuery}
use Rattle.mm_query.specs.declared.bound_query.FieldPlace.{FieldPlace}
use Rattle.mm_multiset.specs.Counts.{count_of}
use Rattle.mm_store.specs.Edits.{old_slot, rows_come}
use Rattle.mm_row_order.specs.Refs.{Slots, row_at}
use Rattle.mm_tables.specs.declared.edit.Edit.{Edit}
use Rattle.mm_tables.specs.declared.edit.Edit.TheVariants.{Delete, Insert, Move, Stage, Update}
use Rattle.mm_delta.specs.Edited.{old_slots}
use Rattle.mm_delta.specs.Terms.{lists_around}
use Rattle.mm_delta.specs.Unseen.{agree_for, agree_in, come_seen, gone_seen, looks_alike}
use Rattle.mm_delta.proofs.Found.{Row, Rows}
use Rattle.mm_delta.proofs.SumOfTerms.{count_as_sum, weight}
use Rattle.mm_delta.proofs.Sums.{sum_by-combinations, sum_by_same}

-- ---- two combinations that differ in the row of one place

row_here : (p : List Row) (x : Row) (s : List Row) → get_or (map Some (p ++ x ∷ s)) (length p) None ≡ Some x
row_here [] x s = refl
row_here (z ∷ p) x s = row_here p x s

row_elsewhere : (p : List Row) (x y : Row) (s : List Row) (n : ℕ) → (n ≡ length p → ⊥)
    → get_or (map Some (p ++ x ∷ s)) n None ≡ get_or (map Some (p ++ y ∷ s)) n None
row_elsewhere [] x y s zero e = absurd (e refl)
row_elsewhere [] x y s (suc n) e = refl
row_elsewhere (z ∷ p) x y s zero e = refl
row_elsewhere (z ∷ p) x y s (suc n) e = row_elsewhere p x y s n (λ same. e (ap (λ m. suc m) same))

same_if_agreed : (b : Bool) (a c : Value) → b ≡ true → (not b || same_value a c) ≡ true → a ≡ c
same_if_agreed true a c here e = (values_exact a c).0 e
same_if_agreed false a c here e = cc

module _ (p : List Row) (x y : Row) (s : List Row) where
  abbrev one : Partial
  one = map Some (p ++ x ∷ s)

  abbrev other : Partial
  other = map Some (p ++ y ∷ s)

  same_value_at : (field : FieldPlace) → agree_in (length p) x y field ≡ true → value_at one field ≡ value_at other field
  same_value_at field agree =
      elim (cases_Bool (field.place == length p)) [
        | inl here ↦
            let is = eqb-true field.place (length p) here in
            let values = same_if_agreed (field.place == length p) (value_in field.column x) (value_in field.column y) here agree in
            ap (λ n. option_map (value_in field.column) (get_or one n None)) is
            ∙ ap (option_map (value_in field.column)) (row_here p x s)
            ∙ ap (λ (v : Value). Some v) values
            ∙ sym (ap (option_map (value_in field.column)) (row_here p y s))
            ∙ sym (ap (λ n. option_map (value_in field.column) (get_or other n None)) is)
        | inr away ↦
            ap (option_map (value_in field.column)) (row_elsewhere p x y s field.place (λ same. let here = eq-eqb field.place (length p) same in cc))
      ]

  same_operand : (right : Operand FieldPlace) → option_map_or (agree_in (length p) x y) (column_of right) true ≡ true
      → operand_of (value_at one) right ≡ operand_of (value_at other) right
  same_operand (Literal value) agree = refl
  same_operand (Column field) agree = same_value_at field agree
  same_operand (Shifted field by) agree = ap (option_map (shifted by)) (same_value_at field agree)

  same_holds : (atom : Atom FieldPlace) → agree_for (length p) x y atom ≡ true → holds (value_at one) atom ≡ holds (value_at other) atom
  same_holds atom agree =
      let parts = and_parts (agree_in (length p) x y atom.left) (option_map_or (agree_in (length p) x y) (column_of atom.right) true) agree in
      λ i. holds_of atom.comparison (same_value_at atom.left parts.0 i) (same_operand atom.right parts.1 i)

  same_fits : (atoms : List (Atom FieldPlace)) → list_all (agree_for (length p) x y) atoms ≡ true → none_fails atoms one ≡ none_fails atoms other
  same_fits [] agree = refl
  same_fits (atom ∷ atoms) agree =
      let parts = and_parts (agree_for (length p) x y atom) (list_all (agree_for (length p) x y) atoms) agree in
      λ i. same_holds atom parts.0 i && same_fits atoms parts.1 i

  same_values : (fields : List FieldPlace) → list_all (agree_in (length p) x y) fields ≡ true → values_of fields one ≡ values_of fields other
  same_values [] agree = refl
  same_values (field ∷ fields) agree =
      let parts = and_parts (agree_in (length p) x y field) (list_all (agree_in (length p) x y) fields) agree in
      λ i. unwrap_or (same_value_at field parts.0 i) (Int (pos 0)) ∷ same_values fields parts.1 i

  -- The two combinations have the same weight.
  same_weight : (q : BoundQuery) (row : Row) → looks_alike q (length p) x y ≡ true → weight q row (p ++ x ∷ s) ≡ weight q row (p ++ y ∷ s)
  same_weight q row alike =
      let parts = and_parts (list_all (agree_for (length p) x y) q.atoms) (list_all (agree_in (length p) x y) q.fields) alike in
      λ i. cond (same_fits q.atoms parts.0 i) (cond (same_row row (same_values q.fields parts.1 i)) 1 0) 0

-- ---- two products that differ in the row of one place

same_product : (front : List Rows) (x y : Row) (rest : List Rows) (g : List Row → ℕ)
    → ((p s : List Row) → length p ≡ length front → g (p ++ x ∷ s) ≡ g (p ++ y ∷ s))
    → sum_by g (combinations (front ++ (x ∷ []) ∷ rest)) ≡ sum_by g (combinations (front ++ (y ∷ []) ∷ rest))
same_product [] x y rest g same =
    sum_by-combinations g (x ∷ []) rest
    ∙ ap (λ n. 0 + n) (sum_by_same (λ c. g (x ∷ c)) (λ c. g (y ∷ c)) (combinations rest) (λ c. same [] c refl))
    ∙ sym (sum_by-combinations g (y ∷ []) rest)
same_product (xs ∷ front) x y rest g same =
    sum_by-combinations g xs (front ++ (x ∷ []) ∷ rest)
    ∙ sum_by_same _ _ xs (λ z. same_product front x y rest (λ c. g (z ∷ c)) (λ p s is. same (z ∷ p) s (ap (λ n. suc n) is)))
    ∙ sym (sum_by-combinations g xs (front ++ (y ∷ []) ∷ rest))

-- Rows that are equal for the query contribute the same to the count of a row.
pub same_count : (q : BoundQuery) (after before : ℕ → Rows) (tables : List ℕ) (k : ℕ) (row x y : Row) → k < length tables → looks_alike q k x y ≡ true
    → count_of row (bag_of q (lists_around 0 after (λ _. x ∷ []) before tables k))
    ≡ count_of row (bag_of q (lists_around 0 after (λ _. y ∷ []) before tables k))
same_count q after before tables k row x y within alike =
    let front : List Rows = map after (take k tables) in
    let long : length front ≡ k = omega (arith, length-map (take k tables) after, length-take k tables, within) in
    count_as_sum q row (lists_around 0 after (λ _. x ∷ []) before tables k)
    ∙ same_product front x y (map before (drop (suc k) tables)) (weight q row)
    (λ p s is. same_weight p x y s q row (ap (λ n. looks_alike q n x y) (is ∙ long) ∙ alike))
    ∙ sym (count_as_sum q row (lists_around 0 after (λ _. y ∷ []) before tables k))

-- ---- the edits that the query reads

module _ (q : BoundQuery) (k : ℕ) (now : Slots) where
  abbrev pub gone : List Edit → Rows
  gone edits = map (row_at now) (old_slots edits)

  abbrev pub come : List Edit → Rows
  come edits = rows_come now edits

  abbrev pub seen_gone : List Edit → Rows
  seen_gone edits = filter_map (gone_seen q k now) edits

  abbrev pub seen_come : List Edit → Rows
  seen_come edits = filter_map (come_seen q k now) edits

  module _ (f : Row → ℕ) (same : (x y : Row) → looks_alike q k x y ≡ true → f x ≡ f y) where
    one_replaced : (x y : Row) (edits : List Edit) (b : Bool) → looks_alike q k x y ≡ b
        → sum_by f (seen_gone edits) + sum_by f (come edits) ≡ sum_by f (seen_come edits) + sum_by f (gone edits)
        → sum_by f (cons_option (cond b None (Some x)) (seen_gone edits)) + sum_by f (y ∷ come edits)
        ≡ sum_by f (cons_option (cond b None (Some y)) (seen_come edits)) + sum_by f (x ∷ gone edits)
    one_replaced x y edits true alike rest =
        omega (arith, rest, same x y alike, sum_by-cons f y (come edits), sum_by-cons f x (gone edits))
    one_replaced x y edits false differ rest =
        omega (
          arith,
          rest,
          sum_by-cons f y (come edits),
          sum_by-cons f x (gone edits),
          sum_by-cons f y (seen_come edits),
          sum_by-cons f x (seen_gone edits),
        )

    -- A function that is the same for rows that are equal for the query has the same difference of sums over these edits as over all edits,
    -- ..
    pub seen_balance : (edits : List Edit) → sum_by f (seen_gone edits) + sum_by f (come edits) ≡ sum_by f (seen_come edits) + sum_by f (gone edits)
    seen_balance [] = refl
    seen_balance (Stage at ∷ edits) = seen_balance edits
    seen_balance (Insert at ∷ edits) =
        omega (arith, seen_balance edits, sum_by-cons f (row_at now at) (come edits), sum_by-cons f (row_at now at) (seen_come edits))
    seen_balance (Update at other ∷ edits) =
        one_replaced (row_at now at) (row_at now other) edits (looks_alike q k (row_at now at) (row_at now other)) refl (seen_balance edits)
    seen_balance (Move at other ∷ edits) =
        one_replaced (row_at now at) (row_at now other) edits (looks_alike q k (row_at now at) (row_at now other)) refl (seen_balance edits)
    seen_balance (Delete at ∷ edits) =
        omega (arith, seen_balance edits, sum_by-cons f (row_at now at) (seen_gone edits), sum_by-cons f (row_at now at) (gone edits))

  no_more : (f : Row → ℕ) (row : Row) (seen rows : Rows) (b : Bool) → sum_by f seen ≤ sum_by f rows
      → sum_by f (cons_option (cond b None (Some row)) seen) ≤ sum_by f (row ∷ rows)
  no_more f row seen rows true rest = omega (arith, rest, sum_by-cons f row rows)
  no_more f row seen rows false rest = omega (arith, rest, sum_by-cons f row rows, sum_by-cons f row seen)

  -- .. and the rows of these edits are among those of all edits.
  pub fewer_gone : (f : Row → ℕ) (edits : List Edit) → sum_by f (seen_gone edits) ≤ sum_by f (gone edits)
  fewer_gone f [] = omega arith
  fewer_gone f (Stage at ∷ edits) = fewer_gone f edits
  fewer_gone f (Insert at ∷ edits) = fewer_gone f edits
  fewer_gone f (Update at other ∷ edits) =
      no_more f (row_at now at) (seen_gone edits) (gone edits) (looks_alike q k (row_at now at) (row_at now other)) (fewer_gone f edits)
  fewer_gone f (Move at other ∷ edits) =
      no_more f (row_at now at) (seen_gone edits) (gone edits) (looks_alike q k (row_at now at) (row_at now other)) (fewer_gone f edits)
  fewer_gone f (Delete at ∷ edits) =
      omega (arith, fewer_gone f edits, sum_by-cons f (row_at now at) (seen_gone edits), sum_by-cons f (row_at now at) (gone edits))

  pub fewer_come : (f : Row → ℕ) (edits : List Edit) → sum_by f (seen_come edits) ≤ sum_by f (come edits)
  fewer_come f [] = omega arith
  fewer_come f (Stage at ∷ edits) = fewer_come f edits
  fewer_come f (Insert at ∷ edits) =
      omega (arith, fewer_come f edits, sum_by-cons f (row_at now at) (seen_come edits), sum_by-cons f (row_at now at) (come edits))
  fewer_come f (Update at other ∷ edits) =
      no_more f (row_at now other) (seen_come edits) (come edits) (looks_alike q k (row_at now at) (row_at now other)) (fewer_come f edits)
  fewer_come f (Move at other ∷ edits) =
      no_more f (row_at now other) (seen_come edits) (come edits) (looks_alike q k (row_at now at) (row_at now other)) (fewer_come f edits)
  fewer_come f (Delete at ∷ edits) = fewer_come f edits

  module _ (P : Row → Type 0) where
    one_of : (b : Bool) (row : Row) (seen rows : Rows) → All P (row ∷ rows) → All P seen → All P (cons_option (cond b None (Some row)) seen)
    one_of true row seen rows all rest = rest
    one_of false row seen rows all rest = All-cons P row seen (All-head P row rows all) rest

    pub among_gone : (edits : List Edit) → All P (gone edits) → All P (seen_gone edits)
    among_gone [] all = All-nil P
    among_gone (Stage at ∷ edits) all = among_gone edits all
    among_gone (Insert at ∷ edits) all = among_gone edits all
    among_gone (Update at other ∷ edits) all =
        one_of (looks_alike q k (row_at now at) (row_at now other)) (row_at now at) (seen_gone edits) (gone edits) all
        (among_gone edits (All-tail P (row_at now at) (gone edits) all))
    among_gone (Move at other ∷ edits) all =
        one_of (looks_alike q k (row_at now at) (row_at now other)) (row_at now at) (seen_gone edits) (gone edits) all
        (among_gone edits (All-tail P (row_at now at) (gone edits) all))
    among_gone (Delete at ∷ edits) all =
        All-cons P (row_at now at) (seen_gone edits) (All-head P (row_at now at) (gone edits) all)
        (among_gone edits (All-tail P (row_at now at) (gone edits) all))

    pub among_come : (edits : List Edit) → All P (come edits) → All P (seen_come edits)
    among_come [] all = All-nil P
    among_come (Stage at ∷ edits) all = among_come edits all
    among_come (Insert at ∷ edits) all =
        All-cons P (row_at now at) (seen_come edits) (All-head P (row_at now at) (come edits) all)
        (among_come edits (All-tail P (row_at now at) (come edits) all))
    among_come (Update at other ∷ edits) all =
        one_of (looks_alike q k (row_at now at) (row_at now other)) (row_at now other) (seen_come edits) (come edits) all
        (among_come edits (All-tail P (row_at now other) (come edits) all))
    among_come (Move at other ∷ edits) all =
        one_of (looks_alike q k (row_at now at) (row_at now other)) (row_at now other) (seen_come edits) (come edits) all
        (among_come edits (All-tail P (row_at now other) (come edits) all))
    among_come (Delete at ∷ edits) all = among_come edits all

-- ---- the edits so far

-- One more edit names one more reference if it names one, ..
pub one_named : (edits : List Edit) (i : ℕ) (d : Edit) → i < length edits
    → length (old_slots (take (i + 1) edits)) ≡ length (old_slots (take i edits)) + length (old_slots (get_or edits i d ∷ []))
one_named edits i d inside =
    let edit : Edit = get_or edits i d in
    ap (λ es. length (old_slots es)) (take_more edits i d inside)
    ∙ ap length (filter_map-append old_slot (take i edits) (edit ∷ []))
    ∙ length-append (old_slots (take i edits)) (old_slots (edit ∷ []))

-- .. and the first ones name no more than all.
pub first_named : (edits : List Edit) (n : ℕ) → length (old_slots (take n edits)) ≤ length (old_slots edits)
first_named edits n =
    omega (
      arith,
      ap (λ es. length (old_slots es)) (take-append-drop n edits),
      ap length (filter_map-append old_slot (take n edits) (drop n edits)),
      length-append (old_slots (take n edits)) (old_slots (drop n edits)),
    )
