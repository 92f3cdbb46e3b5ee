-- Creating and dropping a standing query.
use Rattle.std.proofs.Common.{◌≡◌, ◌⊎◌, ℕ, zero, suc, ◌+◌, ◌<◌, ◌≤◌, Bool, true, false, cond, not, Result, Ok, Err, OnOk, MatchResult, List, [], ◌∷◌, ◌++◌}
use Rattle.std.proofs.Common.{Option, Some, None, inl, inr, filter, find, is_none, is_some, length, map, nat_le, nat_lt, pos, slice_get, refl, sym, ap, subst}
use Rattle.std.proofs.Common.{◌∙◌, ⊎_elim, arith}
use Rattle.std.specs.List.{All, AllByRecursion, IsDistinct, list_any, position_or_len, remove}
use Rattle.std.proofs.lemmas.Bool.Decides.{nat_tests}
use Rattle.std.proofs.lemmas.Bool.{or_from, or_parts}
use Rattle.std.proofs.lemmas.List.{length-map, map-append}
use Rattle.std.proofs.lemmas.List.Elements.{All-from_recursion, All-push, recursion_from_All}
use Rattle.std.proofs.lemmas.Map.Keys.{IsDistinct-head, IsDistinct-tail}
use Rattle.mm_schema.specs.Instance.{Instance}
use Rattle.mm_schema.specs.Name.{same_name}
use Rattle.mm_schema.specs.Refused.{Condition, first_refusal}
use Rattle.mm_schema.specs.Schema.{Schema, lacks_table}
use Rattle.mm_schema.specs.Standing.{HasDistinctStanding, drop_standing_conditions, lacks_some_table, lacks_standing, standing_named, standing_place}
use Rattle.mm_schema.specs.Standing.{with_standing, without_standing}
use Rattle.mm_schema.specs.declared.standing.StandingDef.{StandingDef}
use Rattle.mm_schema.proofs.Dues.{due_behind, due_in_front}
use Rattle.mm_schema.proofs.NameLemmas.{same_bytes, same_name_refl}
use Rattle.mm_schema.proofs.Places.{find_at_place, find_nowhere, place_from_some, within_from_some}
use Rattle.mm_schema.proofs.StandingLemmas.{names_of}
use Rattle.mm_multiset.specs.Counts.{Counts, Entries, count_in, count_of}
use Rattle.mm_store.specs.Tables.{Tables, rows_at}
use Rattle.mm_partition.specs.Types.{HasTypes}
use Rattle.mm_laws.specs.Typing.{AreTyped, type_at}
use Rattle.mm_value.specs.declared.col_type.ColType.{ColType}
use Rattle.mm_value.specs.declared.refusal.Refusal.{Refusal}
use Rattle.mm_value.specs.declared.refusal.Refusal.TheVariants.{NoSuchStandingQuery, StandingListTooLarge}
use Rattle.mm_value.specs.declared.values.Value.{Value}
use Rattle.mm_query.specs.Queries.{bag, bag_of}
use Rattle.mm_query.specs.Resolving.{IsQueryWithin, exceeds_query_limits, placed_query, places_in}
use Rattle.mm_query.specs.Standing.{AreBeside, after_watch, outgrows, tables_read, watch_conditions, without_query}
use Rattle.mm_query.specs.State.{State, rows_in}
use Rattle.mm_query.specs.declared.bound_query.BoundQuery.{BoundQuery}
use Rattle.mm_query.specs.declared.command.Definition.TheVariants as define
use Rattle.mm_query.specs.declared.command.NamedQuery.{NamedQuery}
use Rattle.mm_query.specs.declared.query.FromItem.{FromItem}
use Rattle.mm_query.specs.declared.query.Query.{Query}
use Rattle.mm_query.proofs.PlacedQueries.{none_hold}
use Rattle.mm_standing.specs.Bags.{entries_at}
use Rattle.mm_standing.specs.Queries.{IsBagOf, RowsByPlace, StandingQuery, bag_over, list_conditions}
use Rattle.mm_standing.specs.State.{Lists}
use Rattle.mm_plan.specs.Kept.{AreKept, instance_of}
use Rattle.mm_txn.specs.Rest.{AreAtRest, naming_conditions, state_at_rest}
use Rattle.mm_txn.specs.Listed.{AreListed, ArePlaced, IsPlaced, queries_of, rows_by_place}
use Rattle.mm_txn.proofs.Placed.{lists_by_place, places_within, rows_at_place}
use Rattle.mm_txn.proofs.Resting.{bound_all, placed_kept, watched_after}
use Rattle.mm_txn.proofs.RowsBeside.{as_many_rows}
use Rattle.mm_txn.proofs.TypedBags.{gives_typed}

not_more : (n m : ℕ) → nat_lt m n ≡ false → n ≤ m
not_more n m h = grind (arith, nat_tests)

-- ---- a query that the catalog does not refuse

module _ (name : List ℕ) (query : Query) (schema : Schema) (none : first_refusal (naming_conditions name query schema) ≡ None) where
  hold : AllByRecursion (λ (c : Condition). c.holds ≡ false) (naming_conditions name query schema)
  hold = none_hold (naming_conditions name query schema) none

  limits : (exceeds_query_limits query ≡ false) × (nat_le 32 (length schema.standing) ≡ false)
  limits = or_parts (exceeds_query_limits query) (nat_le 32 (length schema.standing)) hold.1.1.1.1.1.1.0

  -- Its tables exist, ..
  pub tables_there : list_any (λ (item : FromItem). lacks_table item.table schema) query.from ≡ false
  tables_there = hold.0

  -- .. at most 4, ..
  pub few_tables : length query.from ≤ 4
  few_tables = not_more (length query.from) 4 (or_parts _ _ (or_parts _ _ (or_parts _ _ limits.0).0).0).0

  -- .. and its name is free.
  pub name_free : is_some (standing_named name schema) ≡ false
  name_free = hold.1.1.0

-- There are as many lists as standing queries.
pub as_many_lists : (schema : Schema) (queries : List StandingQuery) → ArePlaced schema queries → length schema.standing ≡ length queries
as_many_lists schema queries placed = by schema.standing (queries_of queries) placed.beside ∙ length-map queries (λ (s : StandingQuery). s.query)
  where
    by : (ss : List StandingDef) (qs : List BoundQuery) → AreBeside ss qs → length ss ≡ length qs
    by [] [] beside = refl
    by (s ∷ ss) (q ∷ qs) beside = ap (λ n. suc n) (by ss qs beside.1)
    by [] (q ∷ qs) beside = absurd beside
    by (s ∷ ss) [] beside = absurd beside

-- ---- the last element

at_or_last : {X : Type 0} (xs : List X) (x y : X) (k : ℕ) → slice_get (xs ++ x ∷ []) k ≡ Some y
    → ((k < length xs) × (slice_get xs k ≡ Some y)) ⊎ ((k ≡ length xs) × (x ≡ y))
at_or_last [] x y zero at = inr (refl, cc)
at_or_last [] x y (suc k) at = cc
at_or_last (z ∷ zs) x y zero at = inl (omega arith, at)
at_or_last (z ∷ zs) x y (suc k) at =
    ⊎_elim (λ h. let below = h.0 in inl (omega arith, h.1)) (λ h. inr (ap (λ n. suc n) h.0, h.1)) (at_or_last zs x y k at)

entries_before : (bags : List Counts) (bag : Counts) (k : ℕ) → k < length bags → entries_at (bags ++ bag ∷ []) k ≡ entries_at bags k
entries_before [] bag k below = absurd (omega arith)
entries_before (b ∷ bs) bag zero below = refl
entries_before (b ∷ bs) bag (suc k) below = entries_before bs bag k (omega arith)

entries_last : (bags : List Counts) (bag : Counts) → entries_at (bags ++ bag ∷ []) (length bags) ≡ bag.entries
entries_last [] bag = refl
entries_last (b ∷ bs) bag = entries_last bs bag

-- One more list that fits, after lists that do.
fit_behind : (rows : RowsByPlace) (queries : List StandingQuery) (bags : List Counts) (new : StandingQuery) (bag : Counts)
    → length queries ≡ length bags
    → ((list : ℕ) (s : StandingQuery) → slice_get queries list ≡ Some s → (row : List Value)
    → pos (count_in row (entries_at bags list)) ≡ pos (count_of row (bag_over rows s)))
    → IsBagOf bag.entries (bag_over rows new)
    → (list : ℕ) (s : StandingQuery) → slice_get (queries ++ new ∷ []) list ≡ Some s → (row : List Value)
    → pos (count_in row (entries_at (bags ++ bag ∷ []) list)) ≡ pos (count_of row (bag_over rows s))
fit_behind rows queries bags new bag many fits is list s at row =
    ⊎_elim
    (λ h. let below = h.0 in
    ap (λ (e : Entries). pos (count_in row e)) (entries_before bags bag list (omega arith)) ∙ fits list s h.1 row)
    (λ h.
    ap (λ k. pos (count_in row (entries_at (bags ++ bag ∷ []) k))) (h.0 ∙ many)
    ∙ ap (λ (e : Entries). pos (count_in row e)) (entries_last bags bag) ∙ ap (λ n. pos n) (is row)
    ∙ ap (λ t. pos (count_of row (bag_over rows t))) h.1)
    (at_or_last queries new s list at)

-- ---- other standing queries

module _ (schema : Schema) (standing : List StandingDef) where
  abbrev beside_these : Schema
  beside_these = record schema { standing = standing }

  -- Other standing queries leave the tables unchanged.
  pub kept_beside : (store : Tables) → AreKept schema store → AreKept beside_these store
  kept_beside store kept = record {
    relations = kept.relations;
    links = kept.links;
    targets = kept.targets;
    others = kept.others;
    back = kept.back;
  }

-- ---- a new standing query

module _ (schema : Schema) (store : Tables) (lists : Lists) (rest : AreAtRest schema store lists) (name : List ℕ) (query : Query) where
  abbrev state : State
  state = state_at_rest schema store lists

  -- A refusal by the catalog is a refusal of the query.
  pub watch_refused : (r : Refusal) → first_refusal (naming_conditions name query schema) ≡ Some r → first_refusal (watch_conditions name query state) ≡ Some r
  watch_refused r due = due_in_front (naming_conditions name query schema)
      (record { holds = outgrows state (placed_query schema query); refusal = StandingListTooLarge } ∷ []) r due

  module _ (none : first_refusal (naming_conditions name query schema) ≡ None) (bound : BoundQuery) (bound_is : bound ≡ placed_query schema query)
      (tables : List ℕ) (tables_are : tables ≡ places_in schema bound.from) where
    there : list_any (λ (item : FromItem). lacks_table item.table schema) bound.from ≡ false
    there =
        ap (λ (b : BoundQuery). list_any (λ (item : FromItem). lacks_table item.table schema) b.from) bound_is ∙ tables_there name query schema none

    -- Its tables exist.
    pub watch_served : All (λ t. t < length store.tables) tables
    watch_served =
        subst (λ ts. All (λ t. t < length store.tables) ts) (sym tables_are)
        (subst (λ n. All (λ t. t < n) (places_in schema bound.from)) (sym (as_many_rows schema.tables store.tables rest.kept.relations))
        (places_within schema bound.from there))

    pub watch_few : length tables ≤ 4
    watch_few =
        let one : length tables ≡ length bound.from = ap length tables_are ∙ length-map bound.from _ in
        let two : length bound.from ≡ length query.from = ap (λ (b : BoundQuery). length b.from) bound_is in
        let four = few_tables name query schema none in
        omega arith

    pub watch_tables_there : lacks_some_table (tables_read bound) schema ≡ false
    watch_tables_there = by bound.from there
      where
        by : (from : List FromItem) → list_any (λ (item : FromItem). lacks_table item.table schema) from ≡ false
            → lacks_some_table (map (λ (item : FromItem). item.table) from) schema ≡ false
        by [] free = refl
        by (item ∷ items) free =
            let p = or_parts (lacks_table item.table schema) (list_any (λ (x : FromItem). lacks_table x.table schema) items) free in
            or_from _ _ p.0 (by items p.1)

    lists_are : map (rows_at store.tables) tables ≡ map (rows_by_place state.rows) tables
    lists_are = λ i. map (λ t. rows_at_place store.tables t i) tables

    bag_is : bag_of bound (map (rows_at store.tables) tables) ≡ bag (placed_query schema query) (rows_in state)
    bag_is =
        ap (bag_of bound) (lists_are ∙ ap (map (rows_by_place state.rows)) tables_are ∙ sym (lists_by_place schema state.rows bound.from there))
        ∙ ap (λ b. bag b (rows_in state)) bound_is

    -- A query that the catalog does not refuse is refused only because of the number of its rows.
    pub watch_due : first_refusal (list_conditions (bag_of bound (map (rows_at store.tables) tables))) ≡ first_refusal (watch_conditions name query state)
    watch_due =
        ap (λ (b : List (List Value)). first_refusal (list_conditions b)) bag_is
        ∙ sym (due_behind (naming_conditions name query schema)
        (record { holds = outgrows state (placed_query schema query); refusal = StandingListTooLarge } ∷ []) none)

    -- Its rows have the types of its fields.
    pub watch_typed : AreTyped schema.tables state.rows → IsQueryWithin schema bound → (types : List ColType)
        → map Some types ≡ map (type_at schema bound.from) bound.fields → All (HasTypes types) (bag_of bound (map (rows_at store.tables) tables))
    watch_typed typed within types types_are =
        let new : StandingQuery = record { query = bound; tables = tables; types = types } in
        subst (λ (ls : List (List (List Value))). All (HasTypes types) (bag_of bound ls)) (sym lists_are)
        (gives_typed schema state.rows typed new (record { within = within; places = tables_are; few = watch_few; types = types_are }))

    module _ (types : List ColType) (types_are : map Some types ≡ map (type_at schema bound.from) bound.fields) (names : List (List ℕ))
        (names_are : names ≡ tables_read bound) (name' : List ℕ) (name_is : name' ≡ name) (bag : Counts)
        (is_bag : IsBagOf bag.entries (bag_of bound (map (rows_at store.tables) tables))) where
      abbrev new : StandingQuery
      new = record { query = bound; tables = tables; types = types }

      abbrev pub later_schema : Schema
      later_schema = with_standing (record { name = name'; tables = names }) schema

      abbrev pub later_lists : Lists
      later_lists = record lists { queries = lists.queries ++ new ∷ []; bags = lists.bags ++ bag ∷ [] }

      later_state : state_at_rest later_schema store later_lists ≡ after_watch name query state
      later_state = λ i. record {
        schema = with_standing (record { name = name_is i; tables = (names_are ∙ ap (λ (b : BoundQuery). tables_read b) bound_is) i }) schema;
        rows = state.rows;
        queries = (map-append (λ (s : StandingQuery). s.query) lists.queries (new ∷ []) ∙ ap (λ b. queries_of lists.queries ++ b ∷ []) bound_is) i;
        saved = None;
      }

      later_rest : length lists.queries ≡ length lists.bags → first_refusal (watch_conditions name query state) ≡ None → IsQueryWithin schema bound
          → AreAtRest later_schema store later_lists
      later_rest many due within =
          let named : NamedQuery = record { name = name; query = query } in
          let after = watched_after (define.Watch named) schema state.rows (queries_of lists.queries) due rest.placed.beside
          (bound_all schema lists.queries rest.placed.placed) in
          let beside : AreBeside later_schema.standing (queries_of later_lists.queries) =
          subst (λ (s : State). AreBeside s.schema.standing s.queries) (sym later_state) after.0 in
          let bound_now : All (IsQueryWithin later_schema) (queries_of later_lists.queries) =
          subst (λ (s : State). All (IsQueryWithin s.schema) s.queries) (sym later_state) after.1 in
          record {
            kept = kept_beside schema later_schema.standing store rest.kept;
            placed = placed_kept schema later_schema (λ n t. refl) (λ n t kept. (t, refl)) later_lists.queries beside bound_now
                (All-push (IsPlaced schema) lists.queries new rest.placed.placed
                (record { within = within; places = tables_are; few = watch_few; types = types_are }));
            listed = record {
              fits = fit_behind (rows_by_place state.rows) lists.queries lists.bags new bag many rest.listed.fits
                  (subst (λ ls. IsBagOf bag.entries (bag_of bound ls)) lists_are is_bag);
              ready = rest.listed.ready;
            };
          }

      module _ (schema' : Schema) (schema_is : schema' ≡ later_schema) (lists' : Lists) (lists_is : lists' ≡ later_lists) where
        -- The query is the last of the state's standing queries, ..
        pub state_by_watch : state_at_rest schema' store lists' ≡ after_watch name query state
        state_by_watch = (λ i. state_at_rest (schema_is i) store (lists_is i)) ∙ later_state

        -- .. and its list the last of the lists.
        pub rest_by_watch : length lists.queries ≡ length lists.bags → first_refusal (watch_conditions name query state) ≡ None → IsQueryWithin schema bound
            → AreAtRest schema' store lists'
        rest_by_watch many due within =
            subst (λ s. AreAtRest s store lists') (sym schema_is) (subst (λ l. AreAtRest later_schema store l) (sym lists_is) (later_rest many due within))

-- If the query is refused later, the catalog is as before once its name is dropped.
module _ (name : List ℕ) (schema : Schema) (free : is_some (standing_named name schema) ≡ false) where
  others_kept : (ss : List StandingDef) → is_some (find (λ (q : StandingDef). same_name name q.name) ss) ≡ false → (last : StandingDef) → last.name ≡ name
      → (filter (λ (q : StandingDef). not (same_name name q.name)) (ss ++ last ∷ []) ≡ ss)
      × (is_none (find (λ (q : StandingDef). same_name name q.name) (ss ++ last ∷ [])) ≡ false)
  others_kept [] none last own =
      let same : same_name name last.name ≡ true = ap (same_name name) own ∙ same_name_refl name in
      (ap (λ b. cond (not b) (last ∷ []) []) same, ap (λ b. is_none (cond b (Some last) None)) same)
  others_kept (s ∷ ss) none last own = by (same_name name s.name) none (λ free_behind. others_kept ss free_behind last own)
    where
      by : (b : Bool) → is_some (cond b (Some s) (find (λ (q : StandingDef). same_name name q.name) ss)) ≡ false
          → (is_some (find (λ (q : StandingDef). same_name name q.name) ss) ≡ false
          → (filter (λ (q : StandingDef). not (same_name name q.name)) (ss ++ last ∷ []) ≡ ss)
          × (is_none (find (λ (q : StandingDef). same_name name q.name) (ss ++ last ∷ [])) ≡ false))
          → (cond (not b) (s ∷ filter (λ (q : StandingDef). not (same_name name q.name)) (ss ++ last ∷ []))
          (filter (λ (q : StandingDef). not (same_name name q.name)) (ss ++ last ∷ [])) ≡ s ∷ ss)
          × (is_none (cond b (Some s) (find (λ (q : StandingDef). same_name name q.name) (ss ++ last ∷ []))) ≡ false)
      by true none later = cc
      by false none later = let rest = later none in (ap (λ l. s ∷ l) rest.0, rest.1)

  pub name_taken_back : {T : Type 0} (mid after : Schema) (result : Result T Refusal) (names : List (List ℕ)) (name' : List ℕ) → name' ≡ name
      → mid ≡ with_standing (record { name = name'; tables = names }) schema
      → MatchResult result (λ _. first_refusal (drop_standing_conditions name mid) ≡ None)
      (λ refusal. first_refusal (drop_standing_conditions name mid) ≡ Some refusal)
      → OnOk result (after ≡ without_standing name mid) → after ≡ schema
  name_taken_back mid after result names name' own made due ok =
      let both = others_kept schema.standing free (record { name = name'; tables = names }) own in
      let there : lacks_standing name mid ≡ false = ap (lacks_standing name) made ∙ both.1 in
      by result due ok there ∙ ap (without_standing name) made ∙ ap (λ (ss : List StandingDef). record schema { standing = ss }) both.0
    where
      by : {T : Type 0} (r : Result T Refusal) → MatchResult r (λ _. first_refusal (drop_standing_conditions name mid) ≡ None)
          (λ refusal. first_refusal (drop_standing_conditions name mid) ≡ Some refusal)
          → OnOk r (after ≡ without_standing name mid) → lacks_standing name mid ≡ false → after ≡ without_standing name mid
      by (Ok value) due ok there = ok
      by (Err refusal) due ok there =
          let none : None ≡ Some refusal = sym (ap (λ b. cond b (Some NoSuchStandingQuery) None) there) ∙ due in cc

-- ---- a dropped standing query

-- A place in a list after the element at another place was removed, as a place in the old list.
skip : ℕ → ℕ → ℕ
skip zero k = suc k
skip (suc p) zero = zero
skip (suc p) (suc k) = suc (skip p k)

get_removed : {X : Type 0} (xs : List X) (p k : ℕ) → slice_get (remove xs p) k ≡ slice_get xs (skip p k)
unfolding skip
get_removed [] zero k = refl
get_removed [] (suc p) k = refl
get_removed (x ∷ xs) zero k = refl
get_removed (x ∷ xs) (suc p) zero = refl
get_removed (x ∷ xs) (suc p) (suc k) = get_removed xs p k

entries_removed : (bags : List Counts) (p k : ℕ) → entries_at (remove bags p) k ≡ entries_at bags (skip p k)
unfolding skip
entries_removed [] zero k = refl
entries_removed [] (suc p) k = refl
entries_removed (b ∷ bs) zero k = refl
entries_removed (b ∷ bs) (suc p) zero = refl
entries_removed (b ∷ bs) (suc p) (suc k) = entries_removed bs p k

map_removed : {X Y : Type 0} (f : X → Y) (xs : List X) (p : ℕ) → map f (remove xs p) ≡ remove (map f xs) p
map_removed f [] zero = refl
map_removed f [] (suc p) = refl
map_removed f (x ∷ xs) zero = refl
map_removed f (x ∷ xs) (suc p) = ap (λ l. f x ∷ l) (map_removed f xs p)

each_removed : {X : Type 0} (P : X → Type 0) (xs : List X) (p : ℕ) → AllByRecursion P xs → AllByRecursion P (remove xs p)
each_removed P [] zero all = tt
each_removed P [] (suc p) all = tt
each_removed P (x ∷ xs) zero all = all.1
each_removed P (x ∷ xs) (suc p) all = (all.0, each_removed P xs p all.1)

all_removed : {X : Type 0} (P : X → Type 0) (xs : List X) (p : ℕ) → All P xs → All P (remove xs p)
all_removed P xs p all = All-from_recursion P (remove xs p) (each_removed P xs p (recursion_from_All P xs all))

-- The other lists still fit.
pub listed_left : (rows : Instance) (lists : Lists) (place : ℕ) → AreListed rows lists
    → AreListed rows (record lists { queries = remove lists.queries place; bags = remove lists.bags place })
listed_left rows lists place are = record {
  fits = λ list s at row.
      ap (λ (e : Entries). pos (count_in row e)) (entries_removed lists.bags place list)
      ∙ are.fits (skip place list) s (sym (get_removed lists.queries place list) ∙ at) row;
  ready = are.ready;
}

module _ (name : List ℕ) where
  abbrev named : StandingDef → Bool
  named query = same_name name query.name

  none_without : (ss : List StandingDef) (qs : List BoundQuery) → AreBeside ss qs → AllByRecursion (λ other. same_name name other ≡ false) (names_of ss)
      → without_query name ss qs ≡ qs
  none_without [] [] beside apart = refl
  none_without (s ∷ ss) (q ∷ qs) beside apart =
      ap (λ b. cond b (without_query name ss qs) (q ∷ without_query name ss qs)) apart.0 ∙ ap (λ l. q ∷ l) (none_without ss qs beside.1 apart.1)
  none_without [] (q ∷ qs) beside apart = absurd beside
  none_without (s ∷ ss) [] beside apart = absurd beside

  -- The query with a name is the one at its place.
  without_at : (ss : List StandingDef) (qs : List BoundQuery) → AreBeside ss qs → IsDistinct same_name (names_of ss)
      → position_or_len named ss < length ss → without_query name ss qs ≡ remove qs (position_or_len named ss)
  without_at (s ∷ ss) (q ∷ qs) beside distinct within =
      by (same_name name s.name) refl within (without_at ss qs beside.1 (IsDistinct-tail same_name s.name (names_of ss) distinct))
    where
      by : (b : Bool) → same_name name s.name ≡ b → cond (not b) (1 + position_or_len named ss) 0 < length (s ∷ ss)
          → (position_or_len named ss < length ss → without_query name ss qs ≡ remove qs (position_or_len named ss))
          → cond b (without_query name ss qs) (q ∷ without_query name ss qs) ≡ remove (q ∷ qs) (cond (not b) (1 + position_or_len named ss) 0)
      by true own inside later =
          none_without ss qs beside.1
          (subst (λ n. AllByRecursion (λ other. same_name n other ≡ false) (names_of ss)) (sym (same_bytes name s.name own))
          (IsDistinct-head same_name s.name (names_of ss) distinct))
      by false other inside later =
          let next : suc (position_or_len named ss) ≡ 1 + position_or_len named ss = omega arith in
          ap (λ l. q ∷ l) (later (omega arith)) ∙ ap (remove (q ∷ qs)) next
  without_at [] qs beside distinct within = absurd (omega arith)
  without_at (s ∷ ss) [] beside distinct within = absurd beside

  module _ (schema : Schema) (lists : Lists) (placed : ArePlaced schema lists.queries) (place : ℕ) (found : standing_place name schema ≡ Some place) where
    pub place_of_list : place < length lists.queries
    place_of_list =
        let within = within_from_some named schema.standing place found in
        let many = as_many schema.standing (queries_of lists.queries) placed.beside in
        let same = length-map lists.queries (λ (s : StandingQuery). s.query) in
        omega arith
      where
        as_many : (ss : List StandingDef) (qs : List BoundQuery) → AreBeside ss qs → length ss ≡ length qs
        as_many [] [] beside = refl
        as_many (s ∷ ss) (q ∷ qs) beside = ap (λ n. suc n) (as_many ss qs beside.1)
        as_many [] (q ∷ qs) beside = absurd beside
        as_many (s ∷ ss) [] beside = absurd beside

    -- The query at its place is dropped, ..
    pub queries_left : HasDistinctStanding schema → queries_of (remove lists.queries place) ≡ without_query name schema.standing (queries_of lists.queries)
    queries_left distinct =
        let at = place_from_some named schema.standing place found in
        map_removed (λ (s : StandingQuery). s.query) lists.queries place
        ∙ ap (remove (queries_of lists.queries)) at
        ∙ sym (without_at schema.standing (queries_of lists.queries) placed.beside distinct
        (subst (λ p. p < length schema.standing) at (within_from_some named schema.standing place found)))

    -- .. and each other query keeps its name.
    pub placed_left : HasDistinctStanding schema → first_refusal (drop_standing_conditions name schema) ≡ None
        → ArePlaced (without_standing name schema) (remove lists.queries place)
    placed_left distinct due =
        let after = watched_after (define.Unwatch name) schema [] (queries_of lists.queries) due placed.beside (bound_all schema lists.queries placed.placed) in
        let left = sym (queries_left distinct) in
        placed_kept schema (without_standing name schema) (λ n t. refl) (λ n t kept. (t, refl)) (remove lists.queries place)
        (subst (AreBeside (without_standing name schema).standing) left after.0) (subst (All (IsQueryWithin (without_standing name schema))) left after.1)
        (all_removed (IsPlaced schema) lists.queries place placed.placed)

-- A name that has a place is that of a standing query.
pub standing_found : (name : List ℕ) (schema : Schema) (place : ℕ) → standing_place name schema ≡ Some place
    → first_refusal (drop_standing_conditions name schema) ≡ None
standing_found name schema place found =
    let p = λ (q : StandingDef). same_name name q.name in
    let at = find_at_place p schema.standing place found in
    let here = some_get schema.standing place (within_from_some p schema.standing place found) in
    ap (λ (q : Option StandingDef). cond (is_none q) (Some NoSuchStandingQuery) None) (at ∙ here.1)
  where
    some_get : (ss : List StandingDef) (k : ℕ) → k < length ss → (s : StandingDef) × (slice_get ss k ≡ Some s)
    some_get [] k within = absurd (omega arith)
    some_get (s ∷ ss) zero within = (s, refl)
    some_get (s ∷ ss) (suc k) within = some_get ss k (omega arith)

-- A name without a place is that of no standing query.
pub standing_missing : (name : List ℕ) (schema : Schema) → standing_place name schema ≡ None
    → first_refusal (drop_standing_conditions name schema) ≡ Some NoSuchStandingQuery
standing_missing name schema nowhere =
    ap (λ (q : Option StandingDef). cond (is_none q) (Some NoSuchStandingQuery) None)
    (find_nowhere (λ (q : StandingDef). same_name name q.name) schema.standing nowhere)

-- The database is at rest without the query.
pub rest_left : (name : List ℕ) (schema : Schema) (store : Tables) (lists : Lists) → AreAtRest schema store lists → (place : ℕ)
    → standing_place name schema ≡ Some place → HasDistinctStanding schema → first_refusal (drop_standing_conditions name schema) ≡ None
    → AreAtRest (without_standing name schema) store (record lists { queries = remove lists.queries place; bags = remove lists.bags place })
rest_left name schema store lists rest place found distinct due = record {
  kept = kept_beside schema (without_standing name schema).standing store rest.kept;
  placed = placed_left name schema lists rest.placed place found distinct due;
  listed = listed_left (instance_of store.tables) lists place rest.listed;
}
