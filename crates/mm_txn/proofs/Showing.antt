-- The rows of standing queries, by their places.
use Rattle.std.proofs.Common.{◌≡◌, ℕ, zero, suc, ◌+◌, ◌<◌, ◌≤◌, Bool, true, false, cond, not, List, [], ◌∷◌, ◌++◌, Option, None, Some}
use Rattle.std.proofs.Common.{length, map, pos, slice_get, take, refl, sym, ap, subst, ◌∙◌, arith}
use Rattle.std.specs.List.{IsDistinct, position_or_len}
use Rattle.std.specs.Prelude.{find}
use Rattle.std.specs.Option.{option_map, option_map_or}
use Rattle.std.proofs.lemmas.List.{length-map}
use Rattle.std.proofs.lemmas.List.Elements.{recursion_from_All}
use Rattle.std.proofs.lemmas.Map.Keys.{IsDistinct-head, IsDistinct-tail}
use Rattle.std.proofs.lemmas.Option.{slice_get-map}
use Rattle.mm_schema.specs.Instance.{Instance}
use Rattle.mm_schema.specs.Name.{same_name}
use Rattle.mm_schema.specs.Schema.{Schema}
use Rattle.mm_schema.specs.Standing.{HasDistinctStanding, standing_place}
use Rattle.mm_schema.specs.declared.standing.StandingDef.{StandingDef}
use Rattle.mm_schema.proofs.NameLemmas.{differs_back, same_name_refl}
use Rattle.mm_schema.proofs.Places.{place_from_some, within_from_some}
use Rattle.mm_schema.proofs.StandingLemmas.{names_of}
use Rattle.mm_multiset.specs.Counts.{count_in, count_of}
use Rattle.mm_value.specs.declared.values.Value.{Value}
use Rattle.mm_query.specs.Queries.{bag_of}
use Rattle.mm_query.specs.Resolving.{answer_in}
use Rattle.mm_query.specs.Standing.{AreBeside, query_named, shown_rows}
use Rattle.mm_query.specs.State.{Saved, State}
use Rattle.mm_query.specs.declared.bound_query.BoundQuery.{BoundQuery}
use Rattle.mm_standing.specs.Bags.{entries_at}
use Rattle.mm_standing.specs.Queries.{IsBagOf, StandingQuery, bag_over, shown_of}
use Rattle.mm_standing.specs.State.{Lists}
use Rattle.mm_txn.specs.Listed.{AreListed, ArePlaced, IsPlaced, queries_of, rows_by_place}
use Rattle.mm_txn.proofs.Placed.{bag_by_place}
use Rattle.mm_txn.proofs.Resting.{at_place}

-- ---- by the name

module _ (name : List ℕ) where
  abbrev named : StandingDef → Bool
  named query = same_name name query.name

  -- The query with a name is the one at its place.
  pub query_at : (ss : List StandingDef) (qs : List BoundQuery) → AreBeside ss qs → position_or_len named ss < length ss → (q : BoundQuery)
      → slice_get qs (position_or_len named ss) ≡ Some q → query_named name ss qs ≡ Some q
  query_at (s ∷ ss) (x ∷ qs) beside within q at = by (named s) within at (query_at ss qs beside.1)
    where
      by : (b : Bool) → cond (not b) (1 + position_or_len named ss) 0 < length (s ∷ ss)
          → slice_get (x ∷ qs) (cond (not b) (1 + position_or_len named ss) 0) ≡ Some q
          → (position_or_len named ss < length ss → (y : BoundQuery) → slice_get qs (position_or_len named ss) ≡ Some y → query_named name ss qs ≡ Some y)
          → cond b (Some x) (query_named name ss qs) ≡ Some q
      by true inside here later = here
      by false inside here later =
          let next : 1 + position_or_len named ss ≡ suc (position_or_len named ss) = omega arith in
          later (omega arith) q (subst (λ k. slice_get (x ∷ qs) k ≡ Some q) next here)
  query_at [] qs beside within q at = absurd (omega arith)
  query_at (s ∷ ss) [] beside within q at = absurd beside

  -- If no standing query has a name, no query is found by it.
  pub query_nowhere : (ss : List StandingDef) (qs : List BoundQuery) → find named ss ≡ None → query_named name ss qs ≡ None
  query_nowhere [] qs nowhere = refl
  query_nowhere (s ∷ ss) [] nowhere = refl
  query_nowhere (s ∷ ss) (x ∷ qs) nowhere = by (named s) nowhere (query_nowhere ss qs)
    where
      by : (b : Bool) → cond b (Some s) (find named ss) ≡ None → (find named ss ≡ None → query_named name ss qs ≡ None)
          → cond b (Some x) (query_named name ss qs) ≡ None
      by true found others = cc
      by false nowhere others = others nowhere

-- ---- by the place

as_many : (ss : List StandingDef) (qs : List BoundQuery) → AreBeside ss qs → length ss ≡ length qs
as_many [] [] beside = refl
as_many (s ∷ ss) (q ∷ qs) beside = ap (λ n. suc n) (as_many ss qs beside.1)
as_many [] (q ∷ qs) beside = absurd beside
as_many (s ∷ ss) [] beside = absurd beside

some_get : {X : Type 0} (xs : List X) (k : ℕ) → k < length xs → (x : X) × (slice_get xs k ≡ Some x)
some_get [] k within = absurd (omega arith)
some_get (x ∷ xs) zero within = (x, refl)
some_get (x ∷ xs) (suc k) within = some_get xs k (omega arith)

-- A function of the elements so far, and of the next.
pub next_told : {X Y : Type 0} (f : X → Y) (xs : List X) (k : ℕ) (x : X) → slice_get xs k ≡ Some x → map f (take k xs) ++ f x ∷ [] ≡ map f (take (k + 1) xs)
next_told f xs k x at = by f xs k x at ∙ ap (λ n. map f (take n xs)) (one_more k)
  where
    one_more : (n : ℕ) → suc n ≡ n + 1
    one_more n = omega arith

    by : {X Y : Type 0} (f : X → Y) (xs : List X) (k : ℕ) (x : X) → slice_get xs k ≡ Some x → map f (take k xs) ++ f x ∷ [] ≡ map f (take (suc k) xs)
    by f (y ∷ ys) zero x at = let same : x ≡ y = cc in ap (λ z. f z ∷ []) same
    by f (y ∷ ys) (suc k) x at = ap (λ l. f y ∷ l) (by f ys k x at)
    by f [] k x at = cc

pub take_whole : {X : Type 0} (xs : List X) (k : ℕ) → length xs ≤ k → take k xs ≡ xs
take_whole [] zero all = refl
take_whole [] (suc k) all = refl
take_whole (x ∷ xs) zero all = absurd (omega arith)
take_whole (x ∷ xs) (suc k) all = ap (λ l. x ∷ l) (take_whole xs k (omega arith))

same_count : (n m : ℕ) → pos n ≡ pos m → n ≡ m
same_count n m e = cc

-- If names are distinct, the first element with a name is the one that has it.
own_first : (ss : List StandingDef) (k : ℕ) (d : StandingDef) → slice_get ss k ≡ Some d → IsDistinct same_name (names_of ss)
    → position_or_len (named d.name) ss ≡ k
own_first [] k d at distinct = cc
own_first (s ∷ ss) zero d at distinct =
    let same : s ≡ d = cc in
    let own : same_name d.name s.name ≡ true = ap (λ (x : StandingDef). same_name d.name x.name) same ∙ same_name_refl d.name in
    ap (λ b. cond (not b) (1 + position_or_len (named d.name) ss) 0) own
own_first (s ∷ ss) (suc k) d at distinct =
    let name_at : slice_get (names_of ss) k ≡ Some d.name =
    slice_get-map (λ (q : StandingDef). q.name) ss k ∙ ap (option_map (λ (q : StandingDef). q.name)) at in
    let differs : same_name s.name d.name ≡ false =
    at_place (λ other. same_name s.name other ≡ false) (names_of ss) k d.name (IsDistinct-head same_name s.name (names_of ss) distinct) name_at in
    let other : same_name d.name s.name ≡ false = differs_back s.name d.name differs in
    let later = own_first ss k d at (IsDistinct-tail same_name s.name (names_of ss) distinct) in
    let next : 1 + position_or_len (named d.name) ss ≡ suc k = omega arith in
    ap (λ b. cond (not b) (1 + position_or_len (named d.name) ss) 0) other ∙ next

module _ (schema : Schema) (lists : Lists) (placed : ArePlaced schema lists.queries) where
  -- There is a list for each standing query.
  pub list_there : (place : ℕ) → place < length schema.standing → place < length lists.queries
  list_there place within =
      let many = as_many schema.standing (queries_of lists.queries) placed.beside in
      let same = length-map lists.queries (λ (s : StandingQuery). s.query) in
      omega arith

  module _ (rows : Instance) (listed : AreListed rows lists) where
    -- A list is the bag of its query.
    pub list_is_bag : (place : ℕ) (s : StandingQuery) → slice_get lists.queries place ≡ Some s
        → IsBagOf (entries_at lists.bags place) (bag_over (rows_by_place rows) s)
    list_is_bag place s at = λ row.
        same_count (count_in row (entries_at lists.bags place)) (count_of row (bag_over (rows_by_place rows) s)) (listed.fits place s at row)

    pub list_is_some_bag : (place : ℕ) (s : StandingQuery) → slice_get lists.queries place ≡ Some s
        → (bags : List (List (List Value))) × IsBagOf (entries_at lists.bags place) (bag_of s.query bags)
    list_is_some_bag place s at = (map (rows_by_place rows) s.tables, list_is_bag place s at)

    module _ (saved : Option Saved) where
      abbrev told : State
      told = record { schema = schema; rows = rows; queries = queries_of lists.queries; saved = saved }

      -- What holds of the bag of each standing query over any rows holds of the rows that the machine shows.
      pub shown_at : (name : List ℕ) (place : ℕ) → position_or_len (named name) schema.standing ≡ place → place < length schema.standing
          → {X : Type 0} (tell : List (List Value) → X) (x : X)
          → ((s : StandingQuery) → slice_get lists.queries place ≡ Some s → (bag : List (List Value)) → IsBagOf (entries_at lists.bags place) bag
          → x ≡ tell (shown_of s.query bag))
          → x ≡ tell (shown_rows name told)
      shown_at name place first within {X} tell x is =
          let found = some_get lists.queries place (list_there place within) in
          let s : StandingQuery = found.0 in
          let its : IsPlaced schema s =
          at_place (IsPlaced schema) lists.queries place s (recursion_from_All (IsPlaced schema) lists.queries placed.placed) found.1 in
          let query : slice_get (queries_of lists.queries) (position_or_len (named name) schema.standing) ≡ Some s.query =
          ap (slice_get (queries_of lists.queries)) first ∙ slice_get-map (λ (t : StandingQuery). t.query) lists.queries place
          ∙ ap (option_map (λ (t : StandingQuery). t.query)) found.1 in
          let of_name : query_named name schema.standing (queries_of lists.queries) ≡ Some s.query =
          query_at name schema.standing (queries_of lists.queries) placed.beside (subst (λ k. k < length schema.standing) (sym first) within) s.query query in
          is s found.1 (bag_over (rows_by_place rows) s) (list_is_bag place s found.1)
          ∙ ap (λ b. tell (shown_of s.query b)) (sym (bag_by_place told s its))
          ∙ ap tell (sym (ap (λ (q : Option BoundQuery). option_map_or (answer_in told) q []) of_name))

      -- It holds by the place of a name, ..
      pub shown_by_name : (name : List ℕ) (place : ℕ) → standing_place name schema ≡ Some place → (shown : List (List Value))
          → ((s : StandingQuery) → slice_get lists.queries place ≡ Some s → (bag : List (List Value)) → IsBagOf (entries_at lists.bags place) bag
          → shown ≡ shown_of s.query bag)
          → shown ≡ shown_rows name told
      shown_by_name name place found shown is =
          shown_at name place (sym (place_from_some (named name) schema.standing place found)) (within_from_some (named name) schema.standing place found)
          (λ rows. rows) shown is

      -- .. and of the name at a place.
      pub counted_by_place : HasDistinctStanding schema → (place : ℕ) (d : StandingDef) → slice_get schema.standing place ≡ Some d
          → place < length schema.standing → (count : ℕ)
          → ((s : StandingQuery) → slice_get lists.queries place ≡ Some s → (bag : List (List Value)) → IsBagOf (entries_at lists.bags place) bag
          → count ≡ length (shown_of s.query bag))
          → count ≡ length (shown_rows d.name told)
      counted_by_place distinct place d at within count is =
          shown_at d.name place (own_first schema.standing place d at distinct) within length count is
