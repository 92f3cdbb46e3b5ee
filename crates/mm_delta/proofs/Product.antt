-- The completions of one row are the plain product with only that row at its place.
use Rattle.std.proofs.Common.{◌≡◌, ◌≢◌, ℕ, zero, suc, ◌+◌, ◌-◌, ◌<◌, ◌≤◌, ◌==◌, ◌++◌, Bool, true, false, cond, nat_lt, not, ◌⊎◌, inl, inr, Option, Some, None}
use Rattle.std.proofs.Common.{List, [], ◌∷◌, get_or, set, length, map, replicate, subst, take, drop, refl, sym, ap, ◌∙◌, arith}
use Rattle.std.specs.List.{AllByRecursion, filter, flat_map, range_with_len}
use Rattle.std.proofs.lemmas.Bool.{cases_eq, cases_order, cond-false, cond-true, eq-eqb, lt-ltb, le-ltb, ne_eqb}
use Rattle.std.proofs.lemmas.List.{append-nil, append_assoc, get_or-drop, get_or-map, get_or-replicate, get_or-set_other, get_or-set_same, get_or-take}
use Rattle.std.proofs.lemmas.List.{get_or_append_left, get_or_at, get_or_past, get_or-append_right, length-append, length-drop, length-map, length-replicate}
use Rattle.std.proofs.lemmas.List.{length-set, length-take-le, set_at}
use Rattle.std.proofs.lemmas.List.FromFn.{fill_by_all, get_or-map-range_with_len, length-map-range_with_len}
use Rattle.std.proofs.lemmas.Simd.{map-map}
use Rattle.mm_query.specs.Queries.{Partial, bag_of, combinations, fits, none_fails, values_of}
use Rattle.mm_query.specs.declared.bound_query.BoundQuery.{BoundQuery}
use Rattle.mm_delta.specs.Terms.{lists_around}
use Rattle.mm_delta.specs.Walk.{AreOpen, completions, found, one_row, other_places, rows_around}
use Rattle.mm_delta.proofs.Found.{Row, Rows, found_is}
use Rattle.mm_delta.proofs.Lists.{map-flat_map}

-- ---- the places

above : (i a c k : ℕ) → i < a → AllByRecursion (λ j. j ≢ i) (filter (λ j. not (j == k)) (range_with_len a c))
above i a zero k h = tt
above i a (suc c) k h = kept (a == k) a (filter (λ j. not (j == k)) (range_with_len (a + 1) c)) (omega arith) (above i (a + 1) c k (omega arith))
  where
    kept : (b : Bool) (j : ℕ) (js : List ℕ) → j ≢ i → AllByRecursion (λ j. j ≢ i) js → AllByRecursion (λ j. j ≢ i) (cond (not b) (j ∷ js) js)
    kept true j js other rest = rest
    kept false j js other rest = (other, rest)

hole_is : (k n j : ℕ) (row : Row) → j < n → (j == k) ≡ false → get_or (one_row n k row) j None ≡ None
hole_is k n j row h e =
    get_or-map-range_with_len (λ i. cond (i == k) (Some row) None) 0 n j j None h (omega arith) ∙ ap (λ b. cond b (Some row) None) e

open_from : (k n : ℕ) (row : Row) (i c : ℕ) → i + c ≤ n → AreOpen (filter (λ j. not (j == k)) (range_with_len i c)) (one_row n k row)
open_from k n row i zero h = tt
open_from k n row i (suc c) h =
    kept (i == k) refl (open_from k n row (i + 1) c (omega arith))
  where
    kept : (b : Bool) → (i == k) ≡ b → AreOpen (filter (λ j. not (j == k)) (range_with_len (i + 1) c)) (one_row n k row)
        → AreOpen (cond (not b) (i ∷ filter (λ j. not (j == k)) (range_with_len (i + 1) c)) (filter (λ j. not (j == k)) (range_with_len (i + 1) c)))
        (one_row n k row)
    kept true e rest = rest
    kept false e rest = (
      omega (arith, length-map-range_with_len (λ j. cond (j == k) (Some row) None) 0 n),
      hole_is k n i row (omega arith) e,
      above i (i + 1) c k (omega arith),
      rest,
    )

-- The other places are open if one place has a row.
pub others_open : (k n : ℕ) (row : Row) → AreOpen (other_places n k) (one_row n k row)
others_open k n row = open_from k n row 0 n (omega arith)

-- ---- the product

push_front : (front : List Row) (x : Row) (rest : Partial) → map Some front ++ Some x ∷ rest ≡ map Some (front ++ x ∷ []) ++ rest
push_front [] x rest = refl
push_front (y ∷ front) x rest = ap (λ l. Some y ∷ l) (push_front front x rest)

module _ (rows : ℕ → Rows) (k : ℕ) (row : Row) where
  abbrev at : ℕ → Rows
  at j = cond (j == k) (row ∷ []) (rows j)

  abbrev full : List Row → List Row → Partial
  full front tail = map Some (front ++ tail)

  with_one : (front : List Row) (x : Row) (lists : List Rows) (js : List ℕ) (rest : Partial)
      → completions rows js (map Some (front ++ x ∷ []) ++ rest) ≡ map (full (front ++ x ∷ [])) (combinations lists)
      → completions rows js (map Some front ++ Some x ∷ rest) ≡ map (full front) (map (λ others. x ∷ others) (combinations lists))
  with_one front x lists js rest h =
      ap (completions rows js) (push_front front x rest) ∙ h
      ∙ (λ i. map (λ tail. map Some (append_assoc front (x ∷ []) tail i)) (combinations lists))
      ∙ sym (map-map (full front) (λ others. x ∷ others) (combinations lists))

  next_place : (b : Bool) (i : ℕ) (front : List Row) (lists : List Rows) (js : List ℕ) (rest : Partial) → length front ≡ i
      → ((x : Row) → completions rows js (map Some (front ++ x ∷ []) ++ rest) ≡ map (full (front ++ x ∷ [])) (combinations lists))
      → completions rows (cond (not b) (i ∷ js) js) (map Some front ++ cond b (Some row) None ∷ rest)
      ≡ map (full front) (combinations (cond b (row ∷ []) (rows i) ∷ lists))
  next_place true i front lists js rest e h =
      with_one front row lists js rest (h row) ∙ ap (map (full front)) (sym (append-nil (map (λ others. row ∷ others) (combinations lists))))
  next_place false i front lists js rest e h =
      let long : length (map Some front) ≡ i = length-map front Some ∙ e in
      (λ z. flat_map (λ x. completions rows js (set_at (map Some front) None rest (Some x) i long z)) (rows i))
      ∙ (λ z. flat_map (λ x. with_one front x lists js rest (h x) z) (rows i))
      ∙ sym (map-flat_map (full front) (λ x. map (λ others. x ∷ others) (combinations lists)) (rows i))

  from_place : (c i : ℕ) (front : List Row) → length front ≡ i
      → completions rows (filter (λ j. not (j == k)) (range_with_len i c)) (map Some front ++ map (λ j. cond (j == k) (Some row) None) (range_with_len i c))
      ≡ map (full front) (combinations (map at (range_with_len i c)))
  from_place zero i front e =
      ap (λ l. l ∷ []) (append-nil (map Some front) ∙ ap (map Some) (sym (append-nil front)))
  from_place (suc c) i front e =
      next_place (i == k) i front (map at (range_with_len (i + 1) c)) (filter (λ j. not (j == k)) (range_with_len (i + 1) c))
      (map (λ j. cond (j == k) (Some row) None) (range_with_len (i + 1) c)) e
      (λ x. from_place c (i + 1) (front ++ x ∷ []) (omega (arith, length-append front (x ∷ []))))

  pub completions_are : (n : ℕ) → completions rows (other_places n k) (one_row n k row) ≡ map (map Some) (combinations (map at (range_with_len 0 n)))
  completions_are n = from_place n 0 [] refl

pub filter-map : {X Y : Type 0} (p : Y → Bool) (f : X → Y) (xs : List X) → filter p (map f xs) ≡ map f (filter (λ x. p (f x)) xs)
filter-map p f [] = refl
filter-map p f (x ∷ xs) = one (p (f x)) (filter-map p f xs)
  where
    one : (b : Bool) → filter p (map f xs) ≡ map f (filter (λ x. p (f x)) xs)
        → cond b (f x ∷ filter p (map f xs)) (filter p (map f xs)) ≡ map f (cond b (x ∷ filter (λ x. p (f x)) xs) (filter (λ x. p (f x)) xs))
    one true h = ap (λ l. f x ∷ l) h
    one false h = h

-- The combinations found from one row are the bag of the lists in which that row is the only one at its place.
pub found_is_bag : (q : BoundQuery) (rows : ℕ → Rows) (k n : ℕ) (row : Row)
    → found q rows (other_places n k) (one_row n k row)
    ≡ bag_of q (map (λ j. cond (j == k) (row ∷ []) (rows j)) (range_with_len 0 n))
found_is_bag q rows k n row =
    found_is q rows (other_places n k) (one_row n k row) (others_open k n row)
    ∙ ap (λ l. map (values_of q.fields) (filter (none_fails q.atoms) l)) (completions_are rows k row n)
    ∙ ap (map (values_of q.fields)) (filter-map (none_fails q.atoms) (map Some)
    (combinations (map (λ j. cond (j == k) (row ∷ []) (rows j)) (range_with_len 0 n))))
    ∙ map-map (values_of q.fields) (map Some) (filter (fits q) (combinations (map (λ j. cond (j == k) (row ∷ []) (rows j)) (range_with_len 0 n))))

-- ---- the lists

front_is : (f : ℕ → Rows) (from : List ℕ) (k j : ℕ) → j < k → k ≤ length from → get_or (map f (take k from)) j [] ≡ f (get_or from j 0)
front_is f from k j h fits =
    get_or-map f (take k from) j 0 [] (omega (arith, length-take-le k from fits)) ∙ ap f (get_or-take k from j 0 h)

back_is : (f : ℕ → Rows) (from : List ℕ) (k j : ℕ) → k + j < length from → get_or (map f (drop k from)) j [] ≡ f (get_or from (k + j) 0)
back_is f from k j h =
    get_or-map f (drop k from) j 0 [] (omega (arith, length-drop k from)) ∙ ap f (get_or-drop k from j 0)

module _ (after before : ℕ → Rows) (row : Row) (from : List ℕ) (k : ℕ) (inside : k < length from) where
  abbrev lists : List Rows
  lists = lists_around 0 after (λ t. row ∷ []) before from k

  abbrev here : ℕ → Rows
  here j = cond (j == k) (row ∷ []) (rows_around from k after before j)

  front_long : length (map after (take k from)) ≡ k
  front_long = length-map (take k from) after ∙ length-take-le k from (omega arith)

  pub lists_long : length lists ≡ length from
  lists_long =
      omega (
        arith,
        length-append (map after (take k from)) ((row ∷ []) ∷ map before (drop (suc k) from)),
        front_long,
        length-map (drop (suc k) from) before,
        length-drop (suc k) from,
      )

  at_front : (j : ℕ) → j < k → get_or lists j [] ≡ here j
  at_front j h =
      let aside : j ≡ k → ⊥ = λ same. omega arith in
      get_or_append_left (map after (take k from)) ((row ∷ []) ∷ map before (drop (suc k) from)) [] j (omega (arith, front_long))
      ∙ front_is after from k j h (omega arith)
      ∙ sym (cond-false (j == k) (row ∷ []) (rows_around from k after before j) (ne_eqb j k aside)
      ∙ cond-true (nat_lt j k) (after (get_or from j 0)) (before (get_or from j 0)) (lt-ltb j k h))

  at_back : (i j : ℕ) → suc k + i ≡ j → j < length from → get_or lists j [] ≡ here j
  at_back i j e h =
      let aside : j ≡ k → ⊥ = λ same. omega arith in
      let next : j - k ≡ suc i = omega arith in
      get_or-append_right (map after (take k from)) ((row ∷ []) ∷ map before (drop (suc k) from)) k j [] front_long (omega arith)
      ∙ ap (λ n. get_or ((row ∷ []) ∷ map before (drop (suc k) from)) n []) next
      ∙ back_is before from (suc k) i (omega arith)
      ∙ ap (λ n. before (get_or from n 0)) e
      ∙ sym (cond-false (j == k) (row ∷ []) (rows_around from k after before j) (ne_eqb j k aside)
      ∙ cond-false (nat_lt j k) (after (get_or from j 0)) (before (get_or from j 0)) (le-ltb j k (omega arith)))

  in_middle : (j : ℕ) → j ≡ k → get_or lists j [] ≡ here j
  in_middle j e =
      ap (λ i. get_or lists i []) e
      ∙ get_or_at (map after (take k from)) (row ∷ []) (map before (drop (suc k) from)) [] k front_long
      ∙ sym (cond-true (j == k) (row ∷ []) (rows_around from k after before j) (eq-eqb j k e))

  each_list : (j : ℕ) → j < length from → (j ≡ k) ⊎ ((j < k) ⊎ (k < j)) → get_or lists j [] ≡ here j
  each_list j h (inl e) = in_middle j e
  each_list j h (inr (inl e)) = at_front j e
  each_list j h (inr (inr e)) = at_back (j - suc k) j (omega arith) h

  -- The rows at a place.
  pub get_around : (j : ℕ) → j < length from → get_or lists j [] ≡ cond (j == k) (row ∷ []) (rows_around from k after before j)
  get_around j h = each_list j h (cases_order j k)

  -- There are no rows past the last place.
  pub past_around : (j : ℕ) → length from ≤ j → get_or lists j [] ≡ []
  past_around j h = get_or_past lists j [] (omega (arith, h, lists_long))

  pub lists_are : lists ≡ map here (range_with_len 0 (length from))
  lists_are = fill_by_all here lists (length from) [] lists_long (λ j h. each_list j h (cases_order j k))

-- The combinations found from one row are the bag of the term's lists with only that row at its place.
pub found_from_row : (q : BoundQuery) (from : List ℕ) (after before : ℕ → Rows) (row : Row) (k : ℕ) → k < length from
    → found q (rows_around from k after before) (other_places (length from) k) (one_row (length from) k row)
    ≡ bag_of q (lists_around 0 after (λ t. row ∷ []) before from k)
found_from_row q from after before row k inside =
    found_is_bag q (rows_around from k after before) k (length from) row ∙ ap (bag_of q) (sym (lists_are after before row from k inside))

-- ---- the start

pub one_row_is : (n k : ℕ) (row : Row) → k < n → set (replicate n None) k (Some row) ≡ one_row n k row
one_row_is n k row h =
    fill_by_all (λ j. cond (j == k) (Some row) None) (set (replicate n None) k (Some row)) n None
    (length-set (replicate n None) k (Some row) ∙ length-replicate n None) (λ j below. each j below (cases_eq j k))
  where
    each : (j : ℕ) → j < n → (j ≡ k) ⊎ (j ≡ k → ⊥) → get_or (set (replicate n None) k (Some row)) j None ≡ cond (j == k) (Some row) None
    each j below (inl same) =
        ap (λ i. get_or (set (replicate n None) k (Some row)) i None) same
        ∙ get_or-set_same (replicate n None) k (Some row) None (let nothing : Option Row = None in omega (arith, length-replicate n nothing))
        ∙ sym (cond-true (j == k) (Some row) None (eq-eqb j k same))
    each j below (inr other) =
        get_or-set_other (replicate n None) k j (Some row) None other ∙ get_or-replicate n j None None below
        ∙ sym (cond-false (j == k) (Some row) None (ne_eqb j k other))

pub open_start : (n k : ℕ) (row : Row) (js : List ℕ) (m : Partial) → js ≡ other_places n k → m ≡ one_row n k row → AreOpen js m
open_start n k row js m e f = subst (λ l. AreOpen l m) (sym e) (subst (λ p. AreOpen (other_places n k) p) (sym f) (others_open k n row))
