-- The rows read if no table is edited, and in worked examples.
use Rattle.std.proofs.Common.{◌≡◌, ℕ, ◌+◌, ◌<◌, pos, Bool, true, false, cond, Option, Some, None, List, [], ◌∷◌, ◌++◌, get_or, length, refl, sym, ap, ◌∙◌}
use Rattle.std.proofs.Common.{arith, inl, rules}
use Rattle.std.specs.Prelude.{is_some}
use Rattle.std.specs.List.{All, range_with_len, sum_by}
use Rattle.std.proofs.lemmas.List.Elements.{All-get_or}
use Rattle.std.proofs.lemmas.List.FromFn.{get_or-range_with_len, length-range_with_len}
use Rattle.mm_value.specs.declared.values.Value.{Value}
use Rattle.mm_value.specs.declared.values.Value.TheVariants.{Int}
use Rattle.mm_query.specs.Choosing.{first_there}
use Rattle.mm_query.specs.Queries.{fits}
use Rattle.mm_query.specs.declared.bound_query.BoundQuery.{BoundQuery}
use Rattle.mm_relevance.specs.Relevance.{IsCombinationWith, IsCyclic, edge_at}
use Rattle.mm_relevance.specs.declared.cycle.CycleEdge.{CycleEdge}
use Rattle.mm_relevance.proofs.Irrelevance.{irrelevant_by}
use Rattle.mm_store.specs.Tables.{Tables}
use Rattle.mm_delta.specs.Candidates.{Required, having}
use Rattle.mm_delta.specs.Edited.{before_at, has_index, walked}
use Rattle.mm_delta.specs.Steps.{reads_for, row_reads, term_reads}
use Rattle.mm_delta.specs.Walk.{one_row, other_places}
use Rattle.mm_delta.specs.declared.edited.TableChange.{TableChange}
use Rattle.mm_delta.proofs.ReadLaws.{sum_of_zeros, those_of_one_place}
use Rattle.mm_standing.specs.Queries.{StandingQuery}
use Rattle.mm_standing.specs.ReadExamples.{AddsBesideFour, AddsThirdFive, BringsRow, LeavesTable, below_some_below_5, equal_pairs, equal_triples, row_of}
use Rattle.mm_standing.specs.Reads.{AreOfCyclicRows, RowTests, query_reads}

abbrev Row : Type 0
Row = List Value

abbrev Rows : Type 0
Rows = List Row

alone : (f : Row → ℕ) (row : Row) → sum_by f (row ∷ []) ≡ f row
alone f row = omega arith

-- ---- the reads of a place of FROM

module _ (store : Tables) (changes : List TableChange) (skipped : RowTests) (standing : StandingQuery) where
  abbrev term_at : ℕ → ℕ
  term_at k = term_reads standing.query store changes standing.tables (skipped standing.query) k

  abbrev beside : ℕ → Row → ℕ
  beside k row =
      reads_for standing.query store changes standing.tables k (other_places (length standing.tables) k) (one_row (length standing.tables) k row)

  abbrev counted : ℕ → Row → ℕ
  counted k row = 1 + row_reads standing.query store changes standing.tables (skipped standing.query) k row

  -- its table is not edited
  left_alone : (k : ℕ) → LeavesTable store changes (get_or standing.tables k 0) → term_at k ≡ 0
  left_alone k left = λ i. sum_by (counted k) (left.gone i ++ left.come i)

  -- a row that is left out is inserted into its table
  one_left_out : (k : ℕ) (row : Row) → BringsRow store changes (get_or standing.tables k 0) row → skipped standing.query k row ≡ true → term_at k ≡ 1
  one_left_out k row added out =
      (λ i. sum_by (counted k) (added.gone i ++ added.come i)) ∙ alone (counted k) row ∙ ap (λ b. 1 + cond b 0 (beside k row)) out

  -- a row that is combined is inserted into its table
  one_combined : (k n : ℕ) (row : Row) → BringsRow store changes (get_or standing.tables k 0) row → skipped standing.query k row ≡ false
      → beside k row ≡ n → term_at k ≡ 1 + n
  one_combined k n row added combined reads =
      (λ i. sum_by (counted k) (added.gone i ++ added.come i)) ∙ alone (counted k) row ∙ (λ i. 1 + cond (combined i) 0 (reads i))

  -- ---- no table is edited

  pub unedited : All (LeavesTable store changes) standing.tables → query_reads store changes skipped standing ≡ 0
  unedited all = sum_of_zeros term_at (range_with_len 0 (length standing.tables)) each
    where
      each : All (λ k. term_at k ≡ 0) (range_with_len 0 (length standing.tables))
      each i d within =
          let inside : i < length standing.tables = omega (arith, within, length-range_with_len 0 (length standing.tables)) in
          let at : get_or (range_with_len 0 (length standing.tables)) i d ≡ i = get_or-range_with_len 0 (length standing.tables) i d inside ∙ omega arith in
          ap term_at at ∙ left_alone i (All-get_or (LeavesTable store changes) standing.tables i 0 inside all)

-- Two places.
both : (f : ℕ → ℕ) (a b : ℕ) → f 0 ≡ a → f 1 ≡ b → sum_by f (range_with_len 0 2) ≡ a + b
both f a b first second = omega (arith, first, second)

all_three : (f : ℕ → ℕ) (a b c : ℕ) → f 0 ≡ a → f 1 ≡ b → f 2 ≡ c → sum_by f (range_with_len 0 3) ≡ a + b + c
all_three f a b c first second third = omega (arith, first, second, third)

-- A row in a matching combination is not skipped.
unskipped : (skipped : RowTests) → AreOfCyclicRows skipped → (query : BoundQuery) (place : ℕ) (row : Row) (combination : Rows)
    → IsCombinationWith query place row combination → fits query combination ≡ true → skipped query place row ≡ false
unskipped skipped only query place row combination is fit = by (skipped query place row) refl
  where
    by : (b : Bool) → skipped query place row ≡ b → b ≡ false
    by true e = sym fit ∙ irrelevant_by query place row (only query place row e) combination is
    by false e = refl

-- ---- pairs of equal numbers

abbrev three : Rows
three = row_of 1 5 ∷ row_of 2 5 ∷ row_of 4 9 ∷ []

abbrev fourth : Row
fourth = row_of 3 5

-- The value required of the other row: the number 5, if the numbers have an index.
abbrev fives : Bool → List (Option Required) → Option Required
fives b others = first_there (first_there (cond b (Some (1, Int (pos 5))) None ∷ others) ∷ [])

module _ (store : Tables) (changes : List TableChange) (skipped : RowTests) (only : AreOfCyclicRows skipped) (adds : AddsThirdFive store changes) where
  beside_first : (b : Bool) → has_index store 0 1 ≡ b
      → beside store changes skipped equal_pairs 0 fourth ≡ length (having (fives b []) three)
  beside_first b is =
      those_of_one_place (λ j. has_index store (get_or equal_pairs.tables j 0)) equal_pairs.query.atoms
      (λ j. before_at store (get_or equal_pairs.tables j 0)) (walked store changes equal_pairs.tables 0) 1 (Some fourth ∷ None ∷ []) refl
      ∙ (λ i. length (having (fives (is i) []) (adds.before i)))

  beside_second : (b : Bool) → has_index store 0 1 ≡ b
      → beside store changes skipped equal_pairs 1 fourth ≡ length (having (fives b (None ∷ [])) three)
  beside_second b is =
      those_of_one_place (λ j. has_index store (get_or equal_pairs.tables j 0)) equal_pairs.query.atoms
      (λ j. before_at store (get_or equal_pairs.tables j 0)) (walked store changes equal_pairs.tables 1) 0 (None ∷ Some fourth ∷ []) refl
      ∙ (λ i. length (having (fives (is i) (None ∷ [])) (adds.before i)))

  both_places : (n : ℕ) → beside store changes skipped equal_pairs 0 fourth ≡ n → beside store changes skipped equal_pairs 1 fourth ≡ n
      → query_reads store changes skipped equal_pairs ≡ (1 + n) + (1 + n)
  both_places n first second =
      both (term_at store changes skipped equal_pairs) (1 + n) (1 + n)
      (one_combined store changes skipped equal_pairs 0 n fourth adds.added
      (unskipped skipped only equal_pairs.query 0 fourth (fourth ∷ fourth ∷ []) (record { complete = refl; has_row = refl; no_text_is_shifted = refl }) refl)
      first)
      (one_combined store changes skipped equal_pairs 1 n fourth adds.added
      (unskipped skipped only equal_pairs.query 1 fourth (fourth ∷ fourth ∷ []) (record { complete = refl; has_row = refl; no_text_is_shifted = refl }) refl)
      second)

  pub along_index : has_index store 0 1 ≡ true → query_reads store changes skipped equal_pairs ≡ 6
  along_index is = both_places 2 (beside_first true is) (beside_second true is)

  pub without_index : has_index store 0 1 ≡ false → query_reads store changes skipped equal_pairs ≡ 8
  without_index is = both_places 3 (beside_first false is) (beside_second false is)

-- ---- triples of equal numbers

abbrev four : Rows
four = row_of 1 5 ∷ row_of 2 5 ∷ row_of 3 5 ∷ row_of 4 9 ∷ []

module _ (store : Tables) (changes : List TableChange) (skipped : RowTests) (only : AreOfCyclicRows skipped) (adds : AddsThirdFive store changes)
    (indexed : has_index store 0 1 ≡ true) where
  first_beside : beside store changes skipped equal_triples 0 fourth ≡ 6
  first_beside = rw (adds.before, indexed)

  second_beside : beside store changes skipped equal_triples 1 fourth ≡ 8
  second_beside = rw (adds.before, adds.after, indexed)

  third_beside : beside store changes skipped equal_triples 2 fourth ≡ 10
  third_beside = rw (adds.before, adds.after, indexed)

  combined : (k : ℕ) → IsCombinationWith equal_triples.query k fourth (fourth ∷ fourth ∷ fourth ∷ []) → skipped equal_triples.query k fourth ≡ false
  combined k is = unskipped skipped only equal_triples.query k fourth (fourth ∷ fourth ∷ fourth ∷ []) is refl

  pub triples : query_reads store changes skipped equal_triples ≡ 27
  triples =
      all_three (term_at store changes skipped equal_triples) 7 9 11
      (one_combined store changes skipped equal_triples 0 6 fourth adds.added
      (combined 0 (record { complete = refl; has_row = refl; no_text_is_shifted = refl })) first_beside)
      (one_combined store changes skipped equal_triples 1 8 fourth adds.added
      (combined 1 (record { complete = refl; has_row = refl; no_text_is_shifted = refl })) second_beside)
      (one_combined store changes skipped equal_triples 2 10 fourth adds.added
      (combined 2 (record { complete = refl; has_row = refl; no_text_is_shifted = refl })) third_beside)

-- ---- an irrelevant row

abbrev lower : ℕ → CycleEdge
lower conjunct = record { conjunct = conjunct; upper = false }

-- The value of an option that is not empty.
value_there : {A : Type 0} (o : Option A) → is_some o ≡ true → A
value_there None none = absurd (cc)
value_there (Some a) some = a

-- 4 is below the number of the other row, and that is below 5: so the bounds would differ by at least 2, but they differ by 1.
pub below_is_cyclic : IsCyclic below_some_below_5.query 0 (row_of 1 4)
unfolding value_there
below_is_cyclic = (
  lower 0 ∷ lower 1 ∷ [],
  inl (record {
    edges =
        value_there (edge_at below_some_below_5.query 0 (row_of 1 4) (lower 0)) refl
        ∷ value_there (edge_at below_some_below_5.query 0 (row_of 1 4) (lower 1)) refl ∷ [];
    named = refl;
    not_empty = omega arith;
    few = omega arith;
    point = (value_there (edge_at below_some_below_5.query 0 (row_of 1 4) (lower 0)) refl).left;
    closed = (refl, (refl, refl));
    negative = search rules;
  }),
)

module _ (store : Tables) (changes : List TableChange) (skipped : RowTests) where
  pub irrelevant : AddsBesideFour store changes (row_of 1 4) → skipped below_some_below_5.query 0 (row_of 1 4) ≡ true
      → query_reads store changes skipped below_some_below_5 ≡ 1
  irrelevant adds out =
      both (term_at store changes skipped below_some_below_5) 1 0
      (one_left_out store changes skipped below_some_below_5 0 (row_of 1 4) adds.added out) (left_alone store changes skipped below_some_below_5 1 adds.left)

  pub relevant : AreOfCyclicRows skipped → AddsBesideFour store changes (row_of 2 3) → query_reads store changes skipped below_some_below_5 ≡ 2
  relevant only adds =
      both (term_at store changes skipped below_some_below_5) 2 0
      (one_combined store changes skipped below_some_below_5 0 1 (row_of 2 3) adds.added
      (unskipped skipped only below_some_below_5.query 0 (row_of 2 3) (row_of 2 3 ∷ row_of 1 4 ∷ [])
      (record { complete = refl; has_row = refl; no_text_is_shifted = refl }) refl)
      reads)
      (left_alone store changes skipped below_some_below_5 1 adds.left)
    where
      reads : beside store changes skipped below_some_below_5 0 (row_of 2 3) ≡ 1
      reads =
          those_of_one_place (λ j. has_index store (get_or below_some_below_5.tables j 0)) below_some_below_5.query.atoms
          (λ j. before_at store (get_or below_some_below_5.tables j 0)) (walked store changes below_some_below_5.tables 0) 1 (Some (row_of 2 3) ∷ None ∷ [])
          refl
          ∙ ap (λ rows. length (having None rows)) adds.before
