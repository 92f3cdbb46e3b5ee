-- The state of a join after some combinations of the outer list.
use Rattle.std.proofs.Common.{◌≡◌, ℕ, zero, suc, ◌+◌, ◌<◌, ◌≤◌, List, [], ◌∷◌, ◌++◌, Some, None, get_or, drop, length, map, take, refl, sym, ap, ◌∙◌, subst}
use Rattle.std.proofs.Common.{arith, length-append}
use Rattle.std.specs.List.{All, filter, flat_map, slice_get, sum_by}
use Rattle.std.proofs.lemmas.List.Sums.{sum_by_more, sum_by_more_le}
use Rattle.std.specs.List.Sorted.{IsPermutation}
use Rattle.std.proofs.lemmas.List.{append-nil, length-map, map-append, take-append-drop, take_all, take_more}
use Rattle.std.proofs.lemmas.List.Concat.{flat_map-append}
use Rattle.std.proofs.lemmas.List.Elements.{All-append, All-filter, All-get_or, All-map, All-nil, All-weaker}
use Rattle.std.proofs.lemmas.List.Sorted.{IsPermutation-append, IsPermutation-map, IsPermutation-refl, length_permutation}
use Rattle.std.proofs.lemmas.Option.{get_or_from_slice_get, slice_get-get_or, slice_get_within}
use Rattle.std.proofs.lemmas.Simd.{map-map}
use Rattle.mm_partition.specs.Places.{IsLive}
use Rattle.mm_query.specs.Queries.{Partial, none_fails}
use Rattle.mm_query.specs.declared.atom.Atom.{Atom}
use Rattle.mm_query.specs.declared.bound_query.FieldPlace.{FieldPlace}
use Rattle.mm_indexed.specs.Kept.{StoredRows}
use Rattle.mm_select.proofs.Fits.{filter-map}
use Rattle.mm_select.specs.Matches.{Covers, matches, matching}
use Rattle.mm_store.proofs.Joining.{some_at}
use Rattle.mm_store.specs.Tables.{IsAt, Tables, rows_at}
use Rattle.mm_schema.specs.Refused.{first_refusal}
use Rattle.mm_templist.specs.Combos.{AreLive, Combos, combo_rows, row_of, rows_of_combo}
use Rattle.mm_value.specs.declared.refusal.Refusal.{Refusal}
use Rattle.mm_value.specs.declared.row_ref.RowRef.{RowRef}
use Rattle.mm_join.proofs.Caps.{due_of_longer, within_cap}
use Rattle.mm_join.specs.Caps.{cap_conditions}
use Rattle.mm_join.proofs.JoinSteps.{Row, fits, fitting_behind, joined_each}
use Rattle.mm_join.specs.Joined.{joined}
use Rattle.mm_join.specs.AccessMethods.{AreCandidates}

-- ---- an element of a list

module _ {X : Type 0} (xs : List X) (i : ℕ) (x : X) (there : slice_get xs i ≡ Some x) where
  got : get_or xs i x ≡ x
  got = let is : Some (get_or xs i x) ≡ Some x = sym (slice_get-get_or xs i x (slice_get_within xs i x there)) ∙ there in cc

  -- A property of all elements holds for this one.
  pub holds_there : (P : X → Type 0) → All P xs → P x
  holds_there P all = subst P got (All-get_or P xs i x (slice_get_within xs i x there) all)

  -- The element follows those before it.
  taken : take (i + 1) xs ≡ take i xs ++ x ∷ []
  taken = take_more xs i x (slice_get_within xs i x there) ∙ ap (λ y. take i xs ++ y ∷ []) got

slice_get-mapped : {X Y : Type 0} (f : X → Y) (xs : List X) (i : ℕ) (x : X) → slice_get xs i ≡ Some x → slice_get (map f xs) i ≡ Some (f x)
slice_get-mapped f [] i x there = cc
slice_get-mapped f (y ∷ ys) zero x there = let same : y ≡ x = cc in ap (λ z. Some (f z)) same
slice_get-mapped f (y ∷ ys) (suc i) x there = slice_get-mapped f ys i x there

-- A live combination has a reference for each table.
pub live_length : (store : Tables) (tables : List ℕ) (front : List RowRef) → AreLive store tables front → length front ≡ length tables
live_length store [] [] live = refl
live_length store [] (r ∷ refs) live = absurd live
live_length store (t ∷ tables) [] live = absurd live
live_length store (t ∷ tables) (r ∷ refs) live = ap suc (live_length store tables refs live.1)

-- The table after those of the outer list.
last_is : (front : List ℕ) (x : ℕ) → get_or (front ++ x ∷ []) (length front) 0 ≡ x
last_is [] x = refl
last_is (y ∷ ys) x = last_is ys x

pub next_table : (places outers tables : List ℕ) (table : ℕ) → places ≡ outers → tables ≡ outers ++ table ∷ [] → get_or tables (length places) 0 ≡ table
next_table places outers tables table same is = (λ i. get_or (is i) (length (same i)) 0) ∙ last_is outers table

-- There is one more table than a combination of the outer list has references.
pub one_wider : (store : Tables) (outers tables : List ℕ) (front : List RowRef) (table : ℕ) → AreLive store outers front → tables ≡ outers ++ table ∷ []
    → length front + 1 ≡ length tables
one_wider store outers tables front table live is =
    omega (arith, live_length store outers front live, ap length is, length-append outers (table ∷ []))

-- ---- one more reference

module _ (store : Tables) (table : ℕ) (at : RowRef) where
  -- Its row is appended to the others.
  rows_behind : (tables : List ℕ) (front : List RowRef) → AreLive store tables front
      → rows_of_combo store (tables ++ table ∷ []) (front ++ at ∷ []) ≡ rows_of_combo store tables front ++ row_of store table at ∷ []
  rows_behind [] [] live = refl
  rows_behind [] (r ∷ refs) live = absurd live
  rows_behind (t ∷ tables) [] live = absurd live
  rows_behind (t ∷ tables) (r ∷ refs) live = ap (λ l. row_of store t r ∷ l) (rows_behind tables refs live.1)

  -- The longer combination is live.
  live_behind : (tables : List ℕ) (front : List RowRef) → AreLive store tables front
      → (stored : StoredRows) → IsAt store table stored → IsLive stored.places at → AreLive store (tables ++ table ∷ []) (front ++ at ∷ [])
  live_behind [] [] live stored here is = ((stored, here, is), tt)
  live_behind [] (r ∷ refs) live stored here is = absurd live
  live_behind (t ∷ tables) [] live stored here is = absurd live
  live_behind (t ∷ tables) (r ∷ refs) live stored here is = (live.0, live_behind tables refs live.1 stored here is)

-- ---- the candidates of one combination

module _ (store : Tables) (tables : List ℕ) (table : ℕ) (atoms : List (Atom FieldPlace)) where
  abbrev next : List Row
  next = rows_at store.tables table

  abbrev rows_of : List RowRef → List Row
  rows_of = rows_of_combo store (tables ++ table ∷ [])

  -- the matches of a combination
  abbrev pub found : List RowRef → List RowRef → List (List RowRef)
  found front candidates = matches store table atoms (map Some (rows_of_combo store tables front)) front candidates

  module _ (front : List RowRef) (live : AreLive store tables front) where
    abbrev outer : List Row
    outer = rows_of_combo store tables front

    found_rows : (candidates : List RowRef)
        → map rows_of (found front candidates) ≡ map (λ at. outer ++ row_of store table at ∷ []) (matching store table atoms (map Some outer) candidates)
    found_rows candidates =
        map-map rows_of (λ (at : RowRef). front ++ at ∷ []) (matching store table atoms (map Some outer) candidates)
        ∙ (λ i. map (λ at. rows_behind store table at tables front live i) (matching store table atoms (map Some outer) candidates))

    fitting_refs : (refs : List RowRef) → map (row_of store table) refs ≡ next
        → map (λ at. outer ++ row_of store table at ∷ []) (matching store table atoms (map Some outer) refs) ≡ fitting_behind atoms next outer
    fitting_refs refs all =
        (λ i. map (λ at. outer ++ row_of store table at ∷ [])
        (filter (λ at. none_fails atoms (sym (map-append Some outer (row_of store table at ∷ [])) i)) refs))
        ∙ (sym (filter-map (fits atoms) (λ at. outer ++ row_of store table at ∷ []) refs)
        ∙ (ap (filter (fits atoms)) (sym (map-map (λ (row : Row). outer ++ row ∷ []) (row_of store table) refs))
        ∙ ap (λ rows. filter (fits atoms) (map (λ (row : Row). outer ++ row ∷ []) rows)) all))

    -- The matches of candidates that include all that fit have the rows that fit.
    found_fit : (candidates : List RowRef) → Covers store table atoms (map Some outer) candidates
        → IsPermutation (map rows_of (found front candidates)) (fitting_behind atoms next outer)
    found_fit candidates covers =
        subst (λ l. IsPermutation l (fitting_behind atoms next outer)) (sym (found_rows candidates))
        (subst (IsPermutation (map (λ at. outer ++ row_of store table at ∷ []) (matching store table atoms (map Some outer) candidates)))
        (fitting_refs covers.0 covers.1)
        (IsPermutation-map (λ at. outer ++ row_of store table at ∷ []) (matching store table atoms (map Some outer) candidates)
        (matching store table atoms (map Some outer) covers.0) covers.2))

    -- The matches are live if the candidates are.
    found_live : (stored : StoredRows) → IsAt store table stored → (candidates : List RowRef) → All (IsLive stored.places) candidates
        → All (AreLive store (tables ++ table ∷ [])) (found front candidates)
    found_live stored here candidates all =
        All-map (AreLive store (tables ++ table ∷ [])) (λ (at : RowRef). front ++ at ∷ []) (matching store table atoms (map Some outer) candidates)
        (All-filter (λ at. none_fails atoms (map Some outer ++ Some (row_of store table at) ∷ []))
        (λ at. AreLive store (tables ++ table ∷ []) (front ++ at ∷ [])) candidates
        (All-weaker (IsLive stored.places) (λ at. AreLive store (tables ++ table ∷ []) (front ++ at ∷ []))
        (λ at is. live_behind store table at tables front live stored here is) candidates all))

-- ---- one combination after another

-- Exactly the fitting combinations that extend the first ones of the outer list were found.
pub record Progress (store : Tables) (tables : List ℕ) (table : ℕ) (atoms : List (Atom FieldPlace)) (fronts : List (List RowRef)) (i : ℕ)
    (combos : List (List RowRef)) : Type 0 where
  pub rows : IsPermutation (map (rows_of_combo store (tables ++ table ∷ [])) combos)
      (flat_map (fitting_behind atoms (rows_at store.tables table)) (take i (map (rows_of_combo store tables) fronts)))
  pub live : All (AreLive store (tables ++ table ∷ [])) combos

module _ (store : Tables) (tables : List ℕ) (table : ℕ) (atoms : List (Atom FieldPlace)) (fronts : List (List RowRef)) where
  abbrev outers : List (List Row)
  outers = map (rows_of_combo store tables) fronts

  abbrev behind_each : List (List Row) → List (List Row)
  behind_each = flat_map (fitting_behind atoms (rows_at store.tables table))

  pub progress_start : Progress store tables table atoms fronts 0 []
  progress_start = record { rows = IsPermutation-refl []; live = All-nil (AreLive store (tables ++ table ∷ [])) }

  pub progress_next : (i : ℕ) (combos : List (List RowRef)) (front : List RowRef) (candidates : List RowRef) (stored : StoredRows)
      → All (AreLive store tables) fronts → slice_get fronts i ≡ Some front → IsAt store table stored → All (IsLive stored.places) candidates
      → Covers store table atoms (map Some (rows_of_combo store tables front)) candidates → Progress store tables table atoms fronts i combos
      → Progress store tables table atoms fronts (i + 1)
      (combos ++ matches store table atoms (map Some (rows_of_combo store tables front)) front candidates)
  progress_next i combos front candidates stored all there here live covers so_far =
      let front_live = holds_there fronts i front there (AreLive store tables) all in
      let here_found : List (List RowRef) = found store tables table atoms front candidates in
      let rows : List RowRef → List Row = rows_of_combo store (tables ++ table ∷ []) in
      let step : behind_each (take i outers) ++ fitting_behind atoms (rows_at store.tables table) (rows_of_combo store tables front)
      ≡ behind_each (take (i + 1) outers) =
      ap (λ l. behind_each (take i outers) ++ l) (sym (append-nil (fitting_behind atoms (rows_at store.tables table) (rows_of_combo store tables front))))
      ∙ (sym (flat_map-append (fitting_behind atoms (rows_at store.tables table)) (take i outers) (rows_of_combo store tables front ∷ []))
      ∙ ap behind_each (sym (taken outers i (rows_of_combo store tables front) (slice_get-mapped (rows_of_combo store tables) fronts i front there)))) in
      record {
        rows = subst (λ l. IsPermutation l (behind_each (take (i + 1) outers))) (sym (map-append rows combos here_found))
            (subst (IsPermutation (map rows combos ++ map rows here_found)) step
            (IsPermutation-append (map rows combos) (behind_each (take i outers)) (map rows here_found)
            (fitting_behind atoms (rows_at store.tables table) (rows_of_combo store tables front)) so_far.rows
            (found_fit store tables table atoms front front_live candidates covers)));
        live = All-append (AreLive store (tables ++ table ∷ [])) combos here_found so_far.live
            (found_live store tables table atoms front front_live stored here candidates live);
      }

  -- After the candidates of the next combination, the join has processed one combination more.
  pub candidates_step : (i : ℕ) (combos : List (List RowRef)) (front : List RowRef) (rows : Partial) (candidates : List RowRef) (most : ℕ)
      → table < length store.tables → All (AreLive store tables) fronts → slice_get fronts i ≡ Some front
      → rows ≡ map Some (rows_of_combo store tables front) → AreCandidates store table atoms (rows_of_combo store tables front) most candidates
      → Progress store tables table atoms fronts i combos
      → Progress store tables table atoms fronts (i + 1) (combos ++ matches store table atoms rows front candidates)
  candidates_step i combos front rows candidates most within all there chosen are so_far =
      let (stored, here) = some_at store.tables table within in
      subst (λ r. Progress store tables table atoms fronts (i + 1) (combos ++ matches store table atoms r front candidates)) (sym chosen)
      (progress_next i combos front candidates stored all there here (are.live stored here) are.cover so_far)

  -- If nothing fits with the combination, the join has processed it without adding any.
  pub none_step : (i : ℕ) (combos : List (List RowRef)) (front : List RowRef) (most : ℕ) → table < length store.tables
      → All (AreLive store tables) fronts → slice_get fronts i ≡ Some front
      → AreCandidates store table atoms (rows_of_combo store tables front) most []
      → Progress store tables table atoms fronts i combos → Progress store tables table atoms fronts (i + 1) combos
  none_step i combos front most within all there are so_far =
      subst (Progress store tables table atoms fronts (i + 1)) (append-nil combos)
      (candidates_step i combos front (map Some (rows_of_combo store tables front)) [] most within all there refl are so_far)

  -- No more combinations were found than the join has.
  pub progress_few : (i : ℕ) (combos : List (List RowRef)) → Progress store tables table atoms fronts i combos
      → length combos ≤ length (joined atoms outers (rows_at store.tables table))
  progress_few i combos so_far =
      let parts : behind_each outers ≡ behind_each (take i outers) ++ behind_each (drop i outers) =
      sym (ap behind_each (take-append-drop i outers))
      ∙ flat_map-append (fitting_behind atoms (rows_at store.tables table)) (take i outers) (drop i outers) in
      omega (
        arith,
        length-map combos (rows_of_combo store (tables ++ table ∷ [])),
        length_permutation (map (rows_of_combo store (tables ++ table ∷ [])) combos) (behind_each (take i outers)) so_far.rows,
        ap length (joined_each atoms outers (rows_at store.tables table)),
        ap length parts,
        length-append (behind_each (take i outers)) (behind_each (drop i outers)),
      )

  -- At the end all were found.
  pub progress_done : (i : ℕ) (combos : List (List RowRef)) → length fronts ≤ i → Progress store tables table atoms fronts i combos
      → IsPermutation (map (rows_of_combo store (tables ++ table ∷ [])) combos) (joined atoms outers (rows_at store.tables table))
  progress_done i combos past so_far =
      subst (IsPermutation (map (rows_of_combo store (tables ++ table ∷ [])) combos))
      (ap behind_each (take_all i outers (omega (arith, past, length-map fronts (rows_of_combo store tables))))
      ∙ sym (joined_each atoms outers (rows_at store.tables table)))
      so_far.rows

-- ---- the result

module _ (store : Tables) (outer : Combos) (descriptor : List ℕ) (atoms : List (Atom FieldPlace)) (table t : ℕ) (same : t ≡ table)
    (is : descriptor ≡ outer.tables ++ table ∷ []) where
  -- the result of the join
  abbrev whole : List (List Row)
  whole = joined atoms (combo_rows store outer) (rows_at store.tables table)

  -- If the combinations so far exceed the cap, all combinations do.
  pub due_on_way : (cap i : ℕ) (tried : List (List RowRef)) (refusal : Refusal) → Progress store outer.tables t atoms outer.combos i tried
      → first_refusal (cap_conditions cap tried) ≡ Some refusal → first_refusal (cap_conditions cap whole) ≡ Some refusal
  due_on_way cap i tried refusal so_far due =
      due_of_longer cap tried whole refusal
      (subst (λ n. length tried ≤ length (joined atoms (combo_rows store outer) (rows_at store.tables n))) same
      (progress_few store outer.tables t atoms outer.combos i tried so_far)) due

  module _ (list : Combos) (i : ℕ) (there : list.tables ≡ descriptor) (past : length outer.combos ≤ i)
      (so_far : Progress store outer.tables t atoms outer.combos i list.combos) where
    own_tables : outer.tables ++ t ∷ [] ≡ list.tables
    own_tables = ap (λ n. outer.tables ++ n ∷ []) same ∙ (sym is ∙ sym there)

    pub joined_end : IsPermutation (combo_rows store list) whole
    joined_end =
        subst (IsPermutation (combo_rows store list)) (ap (λ n. joined atoms (combo_rows store outer) (rows_at store.tables n)) same)
        (subst (λ ts. IsPermutation (map (rows_of_combo store ts) list.combos) (joined atoms (combo_rows store outer) (rows_at store.tables t))) own_tables
        (progress_done store outer.tables t atoms outer.combos i list.combos past so_far))

    pub due_end : (cap : ℕ) → length list.combos ≤ cap → first_refusal (cap_conditions cap whole) ≡ None
    due_end cap few =
        within_cap cap whole
        (omega (
          arith,
          few,
          length-map list.combos (rows_of_combo store list.tables),
          length_permutation (combo_rows store list) whole joined_end,
        ))

    pub live_end : All (AreLive store list.tables) list.combos
    live_end = subst (λ ts. All (AreLive store ts) list.combos) own_tables so_far.live

-- ---- the rows read for each combination

module _ (cost : List Row → ℕ) (store : Tables) (outer : Combos) (i : ℕ) (front : List RowRef) (at : slice_get outer.combos i ≡ Some front) where
  mapped : slice_get (combo_rows store outer) i ≡ Some (rows_of_combo store outer.tables front)
  mapped = slice_get-mapped (rows_of_combo store outer.tables) outer.combos i front at

  within : i < length (combo_rows store outer)
  within = slice_get_within (combo_rows store outer) i (rows_of_combo store outer.tables front) mapped

  rows_there : get_or (combo_rows store outer) i [] ≡ rows_of_combo store outer.tables front
  rows_there = get_or_from_slice_get (combo_rows store outer) i (rows_of_combo store outer.tables front) [] mapped

  -- The sum so far, plus the cost of the next combination.
  pub one_more : sum_by cost (take (i + 1) (combo_rows store outer))
      ≡ sum_by cost (take i (combo_rows store outer)) + cost (rows_of_combo store outer.tables front)
  one_more = sum_by_more cost (combo_rows store outer) i [] within ∙ ap (λ r. sum_by cost (take i (combo_rows store outer)) + cost r) rows_there

  -- This is at most the whole sum.
  pub one_more_within : sum_by cost (take i (combo_rows store outer)) + cost (rows_of_combo store outer.tables front) ≤ sum_by cost (combo_rows store outer)
  one_more_within =
      subst (λ (r : List Row). sum_by cost (take i (combo_rows store outer)) + cost r ≤ sum_by cost (combo_rows store outer)) rows_there
      (sum_by_more_le cost (combo_rows store outer) i [] within)
