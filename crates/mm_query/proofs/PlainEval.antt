-- The evaluation by the cross product finds the multiset of the query.
use Rattle.std.proofs.Common.{◌≡◌, ℕ, ◌+◌, ◌≤◌, ◌<◌, Bool, true, false, cond, List, [], ◌∷◌, ◌++◌, Option, Some, None, get_or, length, map, nat_lt, take}
use Rattle.std.proofs.Common.{refl, sym, ap, ◌∙◌, arith, append_assoc}
use Rattle.std.specs.List.{filter, flat_map}
use Rattle.std.specs.Option.{option_map}
use Rattle.std.proofs.lemmas.Bool.{le-ltb, lt-ltb, ltb-false, ltb-true}
use Rattle.std.proofs.lemmas.List.{append-nil, flat_map_more, length-append, map-append, take_more}
use Rattle.std.proofs.lemmas.List.Elements.{filter-append}
use Rattle.std.proofs.lemmas.List.Folds.{length-flat_map-take}
use Rattle.std.proofs.lemmas.Simd.{map-map}
use Rattle.mm_schema.specs.Refused.{first_refusal}
use Rattle.mm_schema.specs.Rows.{most_rows}
use Rattle.mm_value.specs.declared.refusal.Refusal.{Refusal}
use Rattle.mm_value.specs.declared.refusal.Refusal.TheVariants.{ResultTooLarge}
use Rattle.mm_value.specs.declared.values.Value.{Value}
use Rattle.mm_query.specs.Queries.{Partial, bag_of, combinations, fits, none_fails, rows_read, size_conditions, values_of}
use Rattle.mm_query.specs.Walk.{found_behind}
use Rattle.mm_query.specs.declared.bound_query.BoundQuery.{BoundQuery}

abbrev Row : Type 0
Row = List Value

-- ---- the multiset

module _ {X Y : Type 0} where
  filter_map : (p : Y → Bool) (f : X → Y) (xs : List X) → filter p (map f xs) ≡ map f (filter (λ x. p (f x)) xs)
  filter_map p f [] = refl
  filter_map p f (x ∷ xs) = by (p (f x)) (filter_map p f xs)
    where
      by : (b : Bool) → filter p (map f xs) ≡ map f (filter (λ x. p (f x)) xs)
          → cond b (f x ∷ filter p (map f xs)) (filter p (map f xs)) ≡ map f (cond b (x ∷ filter (λ x. p (f x)) xs) (filter (λ x. p (f x)) xs))
      by true later = ap (λ l. f x ∷ l) later
      by false later = later

module _ (query : BoundQuery) where
  -- the matches among some combinations, after given rows
  abbrev among : List Row → List (List Row) → List Row
  among front cs = map (values_of query.fields) (filter (none_fails query.atoms) (map (λ c. map Some (front ++ c)) cs))

  among_append : (front : List Row) (cs ds : List (List Row)) → among front (cs ++ ds) ≡ among front cs ++ among front ds
  among_append front cs ds =
      ap (λ l. map (values_of query.fields) (filter (none_fails query.atoms) l)) (map-append (λ c. map Some (front ++ c)) cs ds)
      ∙ (ap (map (values_of query.fields)) (filter-append (none_fails query.atoms) (map (λ c. map Some (front ++ c)) cs) (map (λ c. map Some (front ++ c)) ds))
      ∙ map-append (values_of query.fields) _ _)

  among_next : (front : List Row) (row : Row) (cs : List (List Row)) → among (front ++ row ∷ []) cs ≡ among front (map (λ c. row ∷ c) cs)
  among_next front row cs =
      ap (λ l. map (values_of query.fields) (filter (none_fails query.atoms) l))
      ((λ i. map (λ c. map Some (append_assoc front (row ∷ []) c i)) cs) ∙ sym (map-map (λ c. map Some (front ++ c)) (λ c. row ∷ c) cs))

  last_found : (b : Bool) (rows : Partial) → cond b (values_of query.fields rows ∷ []) [] ≡ map (values_of query.fields) (cond b (rows ∷ []) [])
  last_found true rows = refl
  last_found false rows = refl

  -- The rows found after given rows are the matches among the combinations of the lists.
  found_is : (lists : List (List Row)) (front : List Row) → found_behind query (map Some front) lists ≡ among front (combinations lists)
  found_is [] front =
      last_found (none_fails query.atoms (map Some front)) (map Some front)
      ∙ ap (λ l. map (values_of query.fields) (filter (none_fails query.atoms) (map Some l ∷ []))) (sym (append-nil front))
  found_is (next ∷ lists) front = each next (found_is lists)
    where
      each : (rows : List Row) → ((f : List Row) → found_behind query (map Some f) lists ≡ among f (combinations lists))
          → flat_map (λ row. found_behind query (map Some front ++ Some row ∷ []) lists) rows
          ≡ among front (flat_map (λ row. map (λ c. row ∷ c) (combinations lists)) rows)
      each [] behind = refl
      each (row ∷ rows) behind =
          (λ i. (ap (λ r. found_behind query r lists) (sym (map-append Some front (row ∷ []))) ∙ (behind (front ++ row ∷ [])
          ∙ among_next front row (combinations lists))) i ++ each rows behind i)
          ∙ sym (among_append front (map (λ c. row ∷ c) (combinations lists)) (flat_map (λ row. map (λ c. row ∷ c) (combinations lists)) rows))

  -- The rows found after no rows are the multiset.
  pub found_is_bag : (lists : List (List Row)) → found_behind query [] lists ≡ bag_of query lists
  found_is_bag lists =
      found_is lists []
      ∙ (ap (map (values_of query.fields)) (filter_map (none_fails query.atoms) (map Some) (combinations lists))
      ∙ map-map (values_of query.fields) (map Some) (filter (fits query) (combinations lists)))

-- ---- its size

pub due_by : (b : Bool) (refusal : Refusal) → cond b (Some ResultTooLarge) None ≡ Some refusal → (b ≡ true) × (ResultTooLarge ≡ refusal)
due_by true refusal e = (refl, cc)
due_by false refusal e = cc

pub none_by : (b : Bool) → cond b (Some ResultTooLarge) None ≡ None → b ≡ false
none_by true e = cc
none_by false e = refl

-- Rows within the limit are not refused, and conversely.
pub within_size : (rows : List Row) → length rows ≤ most_rows → first_refusal (size_conditions rows) ≡ None
within_size rows small = ap (λ b. cond b (Some ResultTooLarge) None) (le-ltb most_rows (length rows) small)

pub size_within : (rows : List Row) → first_refusal (size_conditions rows) ≡ None → length rows ≤ most_rows
size_within rows none = ltb-false most_rows (length rows) (none_by (nat_lt most_rows (length rows)) none)

-- A refusal of rows by their number refuses any list that is at least as long.
pub due_of_longer : (rows all : List Row) (refusal : Refusal) → length rows ≤ length all → first_refusal (size_conditions rows) ≡ Some refusal
    → first_refusal (size_conditions all) ≡ Some refusal
due_of_longer rows all refusal longer due =
    let parts = due_by (nat_lt most_rows (length rows)) refusal due in
    let above : most_rows < length rows = ltb-true most_rows (length rows) parts.0 in
    ap (λ b. cond b (Some ResultTooLarge) None) (lt-ltb most_rows (length all) (omega (arith, above, longer))) ∙ ap Some parts.1

-- ---- one row after another

-- A list of no elements is empty.
pub empty_by_length : {X : Type 0} (xs : List X) → length xs ≡ 0 → xs ≡ []
empty_by_length [] none = refl
empty_by_length (x ∷ xs) none = absurd (omega (arith, none))

-- A row that is appended is read after the others.
pub pushed_front : {R : Type 0} (row : R → Row) (old before after : List (Option R)) (last : Option R) → after ≡ before ++ last ∷ [] → before ≡ old
    → rows_read row after ≡ rows_read row old ++ option_map row last ∷ []
pushed_front row old before after last pushed same =
    ap (rows_read row) (pushed ∙ ap (λ l. l ++ last ∷ []) same) ∙ map-append (option_map row) old (last ∷ [])

module _ (f : Row → List Row) (old : List Row) (rows : List Row) (i : ℕ) (row : Row) (inside : i < length rows) (is : row ≡ get_or rows i row)
    (found : List Row) (so_far : found ≡ old ++ flat_map f (take i rows)) where
  -- The rows found for the next row follow those found before.
  pub found_next : found ++ f row ≡ old ++ flat_map f (take (i + 1) rows)
  found_next =
      ap (λ l. l ++ f row) so_far
      ∙ (flat_map_more f old (take i rows) row ∙ ap (λ l. old ++ flat_map f l) (ap (λ r. take i rows ++ r ∷ []) is ∙ sym (take_more rows i row inside)))

  -- They are no more than the rows found for all rows.
  pub next_is_part : length (found ++ f row) ≤ length (old ++ flat_map f rows)
  next_is_part =
      let part : length (flat_map f (take i rows)) + length (f (get_or rows i row)) ≤ length (flat_map f rows) = length-flat_map-take f rows i row inside in
      let same : length (f row) ≡ length (f (get_or rows i row)) = ap (λ r. length (f r)) is in
      omega (
        arith,
        ap length so_far,
        length-append found (f row),
        length-append old (flat_map f (take i rows)),
        length-append old (flat_map f rows),
        part,
        same,
      )
