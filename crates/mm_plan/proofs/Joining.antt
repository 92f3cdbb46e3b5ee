-- Joins of the tables of a query, one after another.
use Rattle.std.proofs.Common.{◌≡◌, ◌≢◌, ◌⊎◌, inl, inr, IfErr, IfOk, IsPermutation, Result, Ok, Err, ℕ, suc, ◌+◌, ◌*◌, ◌<◌, ◌≤◌, Bool, true, false, cond}
use Rattle.std.proofs.Common.{nat_lt, List, [], ◌∷◌, ◌++◌, Some, None, All, drop, length, map, get_or, take, append_assoc, refl, sym, ap, ◌∙◌, subst, arith}
use Rattle.std.proofs.lemmas.Bool.Decides.{nat_tests}
use Rattle.std.proofs.lemmas.Nat.{mul-le}
use Rattle.std.specs.List.{list_all}
use Rattle.std.proofs.lemmas.List.{append-nil, drop_all, length-append, length-map, map-append}
use Rattle.std.proofs.lemmas.List.Elements.{All-cons, All-head, All-nil, All-tail}
use Rattle.std.proofs.lemmas.List.Sorted.{IsPermutation-refl, IsPermutation-sym, IsPermutation-trans, length_permutation}
use Rattle.mm_join.specs.Caps.{cap_conditions}
use Rattle.mm_join.specs.Joined.{joined}
use Rattle.mm_join.proofs.JoinSteps.{joined_fitting}
use Rattle.mm_plan.proofs.Bounds.{few_of_three, length-joined}
use Rattle.mm_plan.proofs.Growing.{no_fewer_of}
use Rattle.mm_plan.specs.Begun.{IsBegun, most_combinations}
use Rattle.mm_plan.specs.Growing.{HaveRows, IsCap, NoneLost, names_first}
use Rattle.mm_query.specs.Queries.{bag_of, none_fails, projected, size_conditions}
use Rattle.mm_query.specs.declared.atom.Atom.{Atom}
use Rattle.mm_query.specs.declared.bound_query.BoundQuery.{BoundQuery}
use Rattle.mm_query.specs.declared.bound_query.FieldPlace.{FieldPlace}
use Rattle.mm_indexed.specs.Kept.{StoredRows}
use Rattle.mm_partition.specs.Places.{slot_at}
use Rattle.mm_row_order.specs.Refs.{row_at}
use Rattle.mm_indexed.specs.RowLists.{rows_of}
use Rattle.std.specs.Option.{option_map_or}
use Rattle.mm_schema.specs.Refused.{AnswersDue, first_refusal}
use Rattle.mm_select.specs.Fitting.{AreFitting, fitting}
use Rattle.mm_store.specs.Tables.{IsAt, Tables, rows_at}
use Rattle.mm_templist.specs.Combos.{AreLive, Combos, combo_rows, rows_of_combo}
use Rattle.mm_value.specs.declared.refusal.Refusal.{Refusal}
use Rattle.mm_value.specs.declared.refusal.Refusal.TheVariants.{Memory, ResultTooLarge}
use Rattle.mm_value.specs.declared.values.Value.{Value}
use Rattle.mm_schema.specs.Rows.{most_rows}

-- ---- the next table

-- The tables of a query are the first ones, the next one, and the later ones.
pub record Splits (store : Tables) (first tables : List ℕ) : Type 0 where
  pub next : ℕ
  pub later : List ℕ
  pub is : tables ≡ first ++ next ∷ later
  pub front : take (length first + 1) tables ≡ first ++ next ∷ []
  pub behind : drop (length first + 1) tables ≡ later
  pub there : next < length store.tables

taken_behind : (first : List ℕ) (next : ℕ) (later : List ℕ) → take (length first + 1) (first ++ next ∷ later) ≡ first ++ next ∷ []
taken_behind [] next later = refl
taken_behind (t ∷ first) next later =
    let one : length (t ∷ first) + 1 ≡ suc (length first + 1) = omega (arith) in
    ap (λ n. take n (t ∷ first ++ next ∷ later)) one ∙ ap (λ ts. t ∷ ts) (taken_behind first next later)

dropped_front : (first : List ℕ) (next : ℕ) (later : List ℕ) → drop (length first + 1) (first ++ next ∷ later) ≡ later
dropped_front [] next later = refl
dropped_front (t ∷ first) next later =
    let one : length (t ∷ first) + 1 ≡ suc (length first + 1) = omega (arith) in
    ap (λ n. drop n (t ∷ first ++ next ∷ later)) one ∙ dropped_front first next later

last_there : (store : Tables) (first : List ℕ) (next : ℕ) (later : List ℕ) → All (λ t. t < length store.tables) (first ++ next ∷ later)
    → next < length store.tables
last_there store [] next later all = All-head (λ t. t < length store.tables) next later all
last_there store (t ∷ first) next later all = last_there store first next later (All-tail (λ t. t < length store.tables) t (first ++ next ∷ later) all)

pub splits : (store : Tables) (first tables : List ℕ) → All (λ t. t < length store.tables) tables → (rest : List ℕ) → tables ≡ first ++ rest
    → length first ≢ length tables → Splits store first tables
splits store first tables all [] is more = absurd (more (sym (ap length (is ∙ append-nil first))))
splits store first tables all (next ∷ later) is more = record {
  next = next;
  later = later;
  is = is;
  front = ap (take (length first + 1)) is ∙ taken_behind first next later;
  behind = ap (drop (length first + 1)) is ∙ dropped_front first next later;
  there = last_there store first next later (subst (All (λ t. t < length store.tables)) is all);
}

-- ---- numbers of combinations

at_most_each : (outers next found most : ℕ) → found ≤ outers * next → outers ≤ most → next ≤ most_rows → found ≤ most * most_rows
at_most_each outers next found most given few_outers few_next =
    let grown = mul-le outers next most most_rows few_outers few_next in
    omega (arith, given, grown)

module _ (store : Tables) (query : BoundQuery) where
  abbrev lists_of : List ℕ → List (List (List Value))
  lists_of tables = map (rows_at store.tables) tables

  -- The result has a row for each fitting combination.
  length-bag : (tables : List ℕ) → length (bag_of query (lists_of tables)) ≡ length (fitting query.atoms (lists_of tables))
  length-bag tables = length-map (fitting query.atoms (lists_of tables)) (projected query)

  -- A list of the fitting combinations has as many.
  pub as_many : (list : Combos) → AreFitting store query.atoms list → length (bag_of query (lists_of list.tables)) ≡ length list.combos
  as_many list fits =
      length-bag list.tables
      ∙ (length_permutation (combo_rows store list) (fitting query.atoms (lists_of list.tables)) fits
      ∙ length-map list.combos (rows_of_combo store list.tables))

  module _ (list : Combos) (fits : AreFitting store query.atoms list) (next : ℕ) where
    abbrev found : List (List (List Value))
    found = joined query.atoms (combo_rows store list) (rows_at store.tables next)

    -- A join with the next table finds the combinations that fit with it.
    pub fits_behind : IsPermutation found (fitting query.atoms (lists_of (list.tables ++ next ∷ [])))
    fits_behind = subst (λ lists. IsPermutation found (fitting query.atoms lists)) (sym (map-append (rows_at store.tables) list.tables (next ∷ [])))
        (joined_fitting query.atoms (lists_of list.tables) (combo_rows store list) (rows_at store.tables next) fits)

    as_many_behind : length (bag_of query (lists_of (list.tables ++ next ∷ []))) ≡ length found
    as_many_behind = length-bag (list.tables ++ next ∷ [])
        ∙ length_permutation found (fitting query.atoms (lists_of (list.tables ++ next ∷ []))) fits_behind

    -- So the last join is refused exactly if the query is.
    pub due_behind : first_refusal (size_conditions (bag_of query (lists_of (list.tables ++ next ∷ [])))) ≡ first_refusal (cap_conditions most_rows found)
    due_behind = ap (λ n. cond (nat_lt most_rows n) (Some ResultTooLarge) None) as_many_behind

    module _ (few : length (rows_at store.tables next) ≤ most_rows) (bounded : length list.combos ≤ most_combinations (length list.tables)) where
      -- With one more table the number of combinations stays within this bound.
      pub bounded_behind : length found ≤ most_combinations (length list.tables) * most_rows
      bounded_behind =
          let given = length-joined query.atoms (combo_rows store list) (rows_at store.tables next) in
          let outers = length-map list.combos (rows_of_combo store list.tables) in
          at_most_each (length (combo_rows store list)) (length (rows_at store.tables next)) (length found) (most_combinations (length list.tables)) given
          (subst (λ n. n ≤ most_combinations (length list.tables)) (sym outers) bounded) few

      -- A join of at most three tables is within the bound, so it is not refused.
      pub none_refused : length list.tables < 3 → first_refusal (cap_conditions 18446744073709551615 found) ≡ None
      none_refused short =
          let most = few_of_three (length list.tables) (most_combinations (length list.tables)) short (omega (arith)) in
          let not_more : nat_lt 18446744073709551615 (length found) ≡ false = grind (arith, nat_tests, bounded_behind, most) in
          ap (λ b. cond b (Some ResultTooLarge) None) not_more

-- The table at a position has as many rows as its relation.
pub few_at : (store : Tables) (place : ℕ) (stored : StoredRows) → IsAt store place stored → length stored.refs ≤ most_rows
    → length (rows_at store.tables place) ≤ most_rows
few_at store place stored at few =
    let rows : length (rows_at store.tables place) ≡ length stored.refs =
    ap (λ s. length (option_map_or rows_of s [])) at ∙ length-map stored.refs (row_at (slot_at stored.places)) in
    subst (λ n. n ≤ most_rows) (sym rows) few

-- ---- the combination of no tables

-- No atom is false for it.
pub none_fails_yet : (atoms : List (Atom FieldPlace)) → none_fails atoms [] ≡ true
none_fails_yet [] = refl
none_fails_yet (atom ∷ atoms) = none_fails_yet atoms

-- It fits, and it is the only one.
pub fitting-none : (store : Tables) (atoms : List (Atom FieldPlace)) (fields : List FieldPlace)
    → AreFitting store atoms (record { tables = []; fields = fields; combos = [] ∷ [] })
fitting-none store atoms fields = subst (IsPermutation ([] ∷ [])) (sym (ap (λ b. cond b ([] ∷ []) []) (none_fails_yet atoms))) (IsPermutation-refl ([] ∷ []))

-- ---- one join

none_is_some : {A : Type 0} (x : A) → None ≡ Some x → ⊥
none_is_some x same = cc

pub behind_is : (first : List ℕ) (next : ℕ) (later : List ℕ) → get_or (first ++ next ∷ later) (length first) 0 ≡ next
behind_is [] next later = refl
behind_is (t ∷ first) next later = behind_is first next later

not_refused : (n : ℕ) → cond (nat_lt most_rows n) (Some ResultTooLarge) None ≡ None → n ≤ most_rows
not_refused n due = by (nat_lt most_rows n) refl due
  where
    by : (b : Bool) → nat_lt most_rows n ≡ b → cond b (Some ResultTooLarge) None ≡ None → n ≤ most_rows
    by true more due = absurd (none_is_some ResultTooLarge (sym due))
    by false few due = grind (arith, nat_tests, few)

front_there : (P : ℕ → Type 0) (first rest : List ℕ) → All P (first ++ rest) → All P first
front_there P [] rest all = All-nil P
front_there P (t ∷ first) rest all = All-cons P t first (All-head P t (first ++ rest) all) (front_there P first rest (All-tail P t (first ++ rest) all))

-- If fewer combinations are refused, more are refused too.
more_refused : (few many : ℕ) (refusal : Refusal) → few ≤ many → cond (nat_lt most_rows few) (Some ResultTooLarge) None ≡ Some refusal
    → cond (nat_lt most_rows many) (Some ResultTooLarge) None ≡ Some refusal
more_refused few many refusal more due = by (nat_lt most_rows few) refl due
  where
    by : (b : Bool) → nat_lt most_rows few ≡ b → cond b (Some ResultTooLarge) None ≡ Some refusal
        → cond (nat_lt most_rows many) (Some ResultTooLarge) None ≡ Some refusal
    by true too_many due =
        let too : nat_lt most_rows many ≡ true = grind (arith, nat_tests, too_many, more) in
        ap (λ b. cond b (Some ResultTooLarge) None) too ∙ due
    by false few due = absurd (none_is_some refusal due)

module _ (store : Tables) (query : BoundQuery) (tables : List ℕ) (list : Combos) (begun : IsBegun store query tables list)
    (all : All (λ t. t < length store.tables) tables) (short : length tables ≤ 4) (left : length list.tables < length tables)
    (few_rows : length (rows_at store.tables (get_or tables (length list.tables) 0)) ≤ most_rows) where
  pub split : Splits store list.tables tables
  split = splits store list.tables tables all begun.rest begun.first (λ same. omega (arith, left, same))

  -- The next table is the one after those of the list.
  pub next_is : get_or tables (length list.tables) 0 ≡ split.next
  next_is = ap (λ ts. get_or ts (length list.tables) 0) split.is ∙ behind_is list.tables split.next split.later

  -- The tables of the list exist.
  pub outers_there : All (λ t. t < length store.tables) list.tables
  outers_there = front_there (λ t. t < length store.tables) list.tables begun.rest (subst (All (λ t. t < length store.tables)) begun.first all)

  abbrev given : List (List (List Value))
  given = found store query list begun.fitting split.next

  few_next : length (rows_at store.tables split.next) ≤ most_rows
  few_next = subst (λ t. length (rows_at store.tables t) ≤ most_rows) next_is few_rows

  -- If no table is left after the next one, the join is refused as the query is.
  due_at_last : split.later ≡ []
      → first_refusal (size_conditions (bag_of query (map (rows_at store.tables) tables))) ≡ first_refusal (cap_conditions most_rows given)
  due_at_last none =
      ap (λ ts. first_refusal (size_conditions (bag_of query (map (rows_at store.tables) ts))))
      (split.is ∙ ap (λ later. list.tables ++ split.next ∷ later) none)
      ∙ due_behind store query list begun.fitting split.next

  length_one_more : length (list.tables ++ split.next ∷ []) ≡ length list.tables + 1
  length_one_more = length-append list.tables (split.next ∷ [])

  -- If each combination is part of one in the result, the result is not smaller.
  due_before : list_all (names_first (length list.tables + 1)) query.atoms ≡ true → HaveRows store split.later
      → (refusal : Refusal) → first_refusal (cap_conditions most_rows given) ≡ Some refusal
      → first_refusal (size_conditions (bag_of query (map (rows_at store.tables) tables))) ≡ Some refusal
  due_before named rows refusal due =
      let with_next = list.tables ++ split.next ∷ [] in
      let whole : with_next ++ split.later ≡ tables = append_assoc list.tables (split.next ∷ []) split.later ∙ sym split.is in
      let more = no_fewer_of store query.atoms with_next split.later (subst (λ n. list_all (names_first n) query.atoms ≡ true) (sym length_one_more) named)
      rows in
      let here : length given ≡ length (fitting query.atoms (map (rows_at store.tables) with_next)) =
      sym (length_permutation given (fitting query.atoms (map (rows_at store.tables) with_next)) (fits_behind store query list begun.fitting split.next)) in
      let all : length (fitting query.atoms (map (rows_at store.tables) (with_next ++ split.later)))
      ≡ length (bag_of query (map (rows_at store.tables) tables)) =
      ap (λ ts. length (fitting query.atoms (map (rows_at store.tables) ts))) whole ∙ sym (length-bag store query tables) in
      more_refused (length given) (length (bag_of query (map (rows_at store.tables) tables))) refusal (omega (arith, more, here, all)) due

  -- Otherwise the join is not refused.
  none_before : length list.tables + 1 ≢ length tables → first_refusal (cap_conditions 18446744073709551615 given) ≡ None
  none_before more = none_refused store query list begun.fitting split.next few_next begun.bounded (omega (arith, left, short, more))

  -- A refusal of the join is the refusal of the query.
  pub refused : (cap : ℕ) → IsCap store query.atoms tables (length list.tables + 1) cap → (result : Result Combos Refusal)
      → AnswersDue (first_refusal (cap_conditions cap given)) result
      → IfErr result (λ refusal. (first_refusal (size_conditions (bag_of query (map (rows_at store.tables) tables))) ≡ Some refusal) ⊎ (refusal ≡ Memory))
  refused cap is (Ok next) due = tt
  refused cap is (Err refusal) (inr memory) = inr memory
  refused cap (inl (is, inl none)) (Err refusal) (inl due) =
      inl (due_at_last (sym split.behind ∙ none) ∙ (ap (λ n. first_refusal (cap_conditions n given)) (sym is) ∙ due))
  refused cap (inl (is, inr (named, rows))) (Err refusal) (inl due) =
      inl (due_before named (subst (HaveRows store) split.behind rows) refusal (ap (λ n. first_refusal (cap_conditions n given)) (sym is) ∙ due))
  refused cap (inr (is, lost)) (Err refusal) (inl due) =
      let more : length list.tables + 1 ≢ length tables = λ same. lost (inl (drop_all (length list.tables + 1) tables (omega (arith, same)))) in
      absurd (none_is_some refusal (sym (none_before more) ∙ (ap (λ n. first_refusal (cap_conditions n given)) (sym is) ∙ due)))

  -- The list is within the limit if each of its combinations is part of one in the result.
  abbrev pub IsWithin : Type 0
  IsWithin = NoneLost store query.atoms (length list.tables + 1) split.later → length given ≤ most_rows

  -- A join that is not refused is within this limit.
  pub within : (cap : ℕ) → IsCap store query.atoms tables (length list.tables + 1) cap → (result : Result Combos Refusal)
      → AnswersDue (first_refusal (cap_conditions cap given)) result → IfOk result (λ next. IsWithin)
  within cap is (Err refusal) due = tt
  within cap (inl (is, goes)) (Ok next) due = λ none. not_refused (length given) (ap (λ n. first_refusal (cap_conditions n given)) (sym is) ∙ due)
  within cap (inr (is, lost)) (Ok next) due =
      λ none. absurd (lost (subst (NoneLost store query.atoms (length list.tables + 1)) (sym split.behind) none))

  -- The result of a join has the combinations of one more table.
  pub goes_on : (result : Result Combos Refusal) → IfOk result (λ next. IsWithin)
      → IfOk result (λ next. IsPermutation (combo_rows store next) given) → IfOk result (λ next. All (AreLive store next.tables) next.combos)
      → IfOk result (λ next. next.tables ≡ list.tables ++ split.next ∷ []) → IfOk result (λ next. next.fields ≡ query.fields)
      → IfOk result (λ next. IsBegun store query tables next)
  goes_on (Err refusal) few same live at fields = tt
  goes_on (Ok next) few same live at fields =
      let count : length next.combos ≡ length given =
      sym (length_permutation (combo_rows store next) given same ∙ length-map next.combos (rows_of_combo store next.tables)) in
      let one = ap length at ∙ length_one_more in
      let one_more : length next.tables ≡ suc (length list.tables) = omega (arith, one) in
      record {
        rest = split.later;
        first = split.is ∙ (sym (append_assoc list.tables (split.next ∷ []) split.later) ∙ ap (λ ts. ts ++ split.later) (sym at));
        fields = fields;
        fitting = subst (λ ts. IsPermutation (combo_rows store next) (fitting query.atoms (map (rows_at store.tables) ts))) (sym at)
            (IsPermutation-trans (combo_rows store next) given (fitting query.atoms (map (rows_at store.tables) (list.tables ++ split.next ∷ []))) same
            (fits_behind store query list begun.fitting split.next));
        live = live;
        bounded = subst (λ n. length next.combos ≤ most_combinations n) (sym one_more) (subst (λ n. n ≤ most_combinations (length list.tables) * most_rows)
            (sym count) (bounded_behind store query list begun.fitting split.next few_next begun.bounded));
        capped = λ none. subst (λ n. n ≤ most_rows) (sym count) (few (subst (λ n. NoneLost store query.atoms n split.later) one none));
      }

-- A property for each further table holds for this one.
pub of_next : (P : ℕ → Type 0) (Q : ℕ → Combos → Type 0) (table : ℕ) → P table → (result : Result Combos Refusal)
    → IfOk result (λ l. (t : ℕ) → P t → Q t l) → IfOk result (λ l. Q table l)
of_next P Q table is (Ok l) holds = holds table is
of_next P Q table is (Err refusal) holds = tt

-- ---- the first and the last list

-- The joins begin with the combination of no tables.
pub begins : (store : Tables) (query : BoundQuery) (tables : List ℕ)
    → IsBegun store query tables (record { tables = []; fields = query.fields; combos = [] ∷ [] })
begins store query tables = record {
  rest = tables;
  first = refl;
  fields = refl;
  fitting = fitting-none store query.atoms query.fields;
  live = All-cons (AreLive store []) [] [] tt (All-nil (AreLive store []));
  bounded = omega (arith);
  capped = λ none. omega (arith);
}

-- If no table is left, the query is not refused.
pub none_left : (store : Tables) (query : BoundQuery) (tables : List ℕ) (list : Combos) → IsBegun store query tables list
    → length tables ≤ length list.tables → first_refusal (size_conditions (bag_of query (map (rows_at store.tables) tables))) ≡ None
none_left store query tables list begun none = by begun.rest refl begun.first
  where
    by : (rest : List ℕ) → begun.rest ≡ rest → tables ≡ list.tables ++ rest
        → first_refusal (size_conditions (bag_of query (map (rows_at store.tables) tables))) ≡ None
    by [] last is =
        let whole : list.tables ≡ tables = sym (is ∙ append-nil list.tables) in
        let few = begun.capped (inl last) in
        let count : length (bag_of query (map (rows_at store.tables) tables)) ≡ length list.combos =
        ap (λ ts. length (bag_of query (map (rows_at store.tables) ts))) (sym whole) ∙ as_many store query list begun.fitting in
        let not_more : nat_lt most_rows (length (bag_of query (map (rows_at store.tables) tables))) ≡ false = grind (arith, nat_tests, count, few) in
        ap (λ b. cond b (Some ResultTooLarge) None) not_more
    by (t ∷ rest) more is = absurd (shorter list.tables (omega (arith, none, ap length is)))
      where
        shorter : (first : List ℕ) → length (first ++ t ∷ rest) ≤ length first → ⊥
        shorter [] less = omega (arith, less)
        shorter (f ∷ first) less = shorter first (omega (arith, less))

-- ---- the first table

module _ (store : Tables) (query : BoundQuery) (tables : List ℕ) (all : All (λ t. t < length store.tables) tables) (short : length tables ≤ 4)
    (some : 0 < length tables) (few_rows : length (rows_at store.tables (get_or tables 0 0)) ≤ most_rows) where
  abbrev unit : Combos
  unit = record { tables = []; fields = query.fields; combos = [] ∷ [] }

  abbrev none_yet : IsBegun store query tables unit
  none_yet = begins store query tables

  abbrev first : Splits store [] tables
  first = split store query tables unit none_yet all short some few_rows

  abbrev alone : List (List (List Value))
  alone = given store query tables unit none_yet all short some few_rows

  few_alone : length alone ≤ most_rows
  few_alone =
      let most = bounded_behind store query unit none_yet.fitting first.next
      (few_next store query tables unit none_yet all short some few_rows) none_yet.bounded in
      omega (arith, most)

  -- Joins can continue from a list of the rows of the first table that fit.
  pub first_begun : (list : Combos) → AreFitting store query.atoms list → All (AreLive store list.tables) list.combos → list.tables ≡ take 1 tables
      → list.fields ≡ query.fields → IsBegun store query tables list
  first_begun list fits live at fields =
      let is : list.tables ≡ first.next ∷ [] = at ∙ first.front in
      let behind = fits_behind store query unit none_yet.fitting first.next in
      let same : IsPermutation (combo_rows store list) alone =
      IsPermutation-trans (combo_rows store list) (fitting query.atoms (map (rows_at store.tables) (first.next ∷ []))) alone
      (subst (λ ts. IsPermutation (combo_rows store list) (fitting query.atoms (map (rows_at store.tables) ts))) is fits)
      (IsPermutation-sym alone (fitting query.atoms (map (rows_at store.tables) (first.next ∷ []))) behind) in
      goes_on store query tables unit none_yet all short some few_rows (Ok list) (λ none. few_alone) same live is fields
