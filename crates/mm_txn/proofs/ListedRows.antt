-- The rows that standing queries read: the machine finds tables by their names, the lists by their places.
use Rattle.std.proofs.Common.{◌≡◌, ℕ, suc, ◌<◌, ◌==◌, ◌||◌, Bool, true, false, cond, List, [], ◌∷◌, Option, Some, get_or, length, map, slice_get, refl, sym}
use Rattle.std.proofs.Common.{ap, subst, ◌∙◌, arith}
use Rattle.std.specs.Prelude.{find}
use Rattle.std.specs.List.{All, AllByRecursion, list_any}
use Rattle.std.specs.Option.{option_map_or}
use Rattle.std.proofs.lemmas.Bool.{eqb-true}
use Rattle.std.proofs.lemmas.List.Elements.{All-head, All-tail, All-weaker, recursion_from_All}
use Rattle.std.proofs.lemmas.Option.{get_or_from_slice_get, slice_get-get_or, slice_get_within}
use Rattle.mm_delta.specs.Edited.{after_at, before_at, edits_at as placed_at}
use Rattle.mm_delta.specs.Steps.{EachFit}
use Rattle.mm_delta.specs.declared.edited.TableChange.{TableChange}
use Rattle.mm_query.specs.Standing.{growth_conditions, outgrows}
use Rattle.mm_query.specs.State.{State}
use Rattle.mm_indexed.specs.Index.{EachTurns}
use Rattle.mm_indexed.specs.Kept.{StoredRows}
use Rattle.mm_indexed.specs.RowLists.{rows_of}
use Rattle.mm_schema.specs.Instance.{Instance}
use Rattle.mm_schema.specs.Schema.{Schema}
use Rattle.mm_standing.specs.Queries.{IsServed, RowsByPlace, StandingQuery, bag_over, change_conditions, is_too_large}
use Rattle.mm_standing.specs.State.{AreServed}
use Rattle.mm_store.specs.Edits.{AreReady, rows_after}
use Rattle.mm_store.specs.Tables.{HasRows, IsAt, SameForm, Tables}
use Rattle.mm_store.proofs.Forms.{forms_same}
use Rattle.mm_store.proofs.Joining.{one_relation}
use Rattle.mm_value.specs.declared.refusal.Refusal.TheVariants.{StandingListTooLarge}
use Rattle.mm_plan.specs.Kept.{AreOf, instance_of}
use Rattle.mm_txn.specs.PlacedEdits.{FitsAt, HaveRows, PlacedEdits, edits_at, placed_change, rows_edited}
use Rattle.mm_txn.specs.Listed.{IsPlaced, queries_of, rows_by_place}
use Rattle.mm_txn.proofs.Placed.{bag_by_place, rows_at_place}
use Rattle.mm_txn.proofs.PlacedRows.{edited_have}
use Rattle.mm_txn.proofs.Selecting.{all_there}
use Rattle.mm_delta.proofs.Placed.{fit_nothing}

-- ---- refusals of a change because of standing queries

module _ (state : State) where
  outgrown : (queries : List StandingQuery) → AllByRecursion (IsPlaced state.schema) queries
      → list_any (outgrows state) (queries_of queries) ≡ list_any (λ standing. is_too_large (bag_over (rows_by_place state.rows) standing)) queries
  outgrown [] placed = refl
  outgrown (q ∷ qs) placed = λ i. is_too_large (bag_by_place state q placed.0 i) || outgrown qs placed.1 i

  -- The refusals of a change because of standing queries are the same by places.
  pub growth_placed : (queries : List StandingQuery) → state.queries ≡ queries_of queries → All (IsPlaced state.schema) queries
      → growth_conditions state ≡ change_conditions (rows_by_place state.rows) queries
  growth_placed queries are placed =
      let same : list_any (outgrows state) state.queries ≡ list_any (λ standing. is_too_large (bag_over (rows_by_place state.rows) standing)) queries =
      ap (list_any (outgrows state)) are ∙ outgrown queries (recursion_from_All (IsPlaced state.schema) queries placed) in
      λ i. record { holds = same i; refusal = StandingListTooLarge } ∷ []

-- The tables of placed standing queries exist.
pub served : (schema : Schema) (store : Tables) → AreOf schema.tables store.tables → (queries : List StandingQuery)
    → All (IsPlaced schema) queries → AreServed store queries
served schema store are queries placed =
    All-weaker (IsPlaced schema) (IsServed store)
    (λ (standing : StandingQuery) p. record {
      there = subst (All (λ table. table < length store.tables)) (sym p.places) (all_there schema store are standing.query.from p.within.tables);
      few = p.few;
    }) queries placed

-- ---- rows at places

-- The rows before a change are those of the tables.
pub before_is : (store : Tables) → before_at store ≡ rows_by_place (instance_of store.tables)
before_is store = λ i place. rows_at_place store.tables place i

-- The edits at a place are found in the same way.
same_edits : (changes : List TableChange) (place : ℕ) → placed_at changes place ≡ edits_at (map placed_change changes) place
same_edits [] place = refl
same_edits (c ∷ cs) place = by (c.table == place) (same_edits cs place)
  where
    by : (b : Bool) → placed_at cs place ≡ edits_at (map placed_change cs) place
        → option_map_or (λ (d : TableChange). d.edits.now) (cond b (Some c) (find (λ (d : TableChange). d.table == place) cs)) []
        ≡ option_map_or (λ (d : PlacedEdits). d.1) (cond b (Some (placed_change c)) (find (λ (d : PlacedEdits). d.0 == place) (map placed_change cs))) []
    by true rest = refl
    by false rest = rest

-- The rows after a change are those with the edits made.
pub after_is : (store : Tables) (changes : List TableChange) → after_at store changes ≡ rows_edited store (map placed_change changes)
after_is store changes =
    λ i place. option_map_or (λ (stored : StoredRows). rows_after stored (same_edits changes place i)) (slice_get store.tables place) []

fit_found : (store : Tables) (changes : List PlacedEdits) → All (FitsAt store) changes → (place : ℕ) (stored : StoredRows) → IsAt store place stored
    → AreReady stored (edits_at changes place)
fit_found store [] fit place stored there = fit_nothing stored
fit_found store (c ∷ cs) fit place stored there =
    by (c.0 == place) refl (fit_found store cs (All-tail (FitsAt store) c cs fit) place stored there)
  where
    by : (b : Bool) → (c.0 == place) ≡ b → AreReady stored (edits_at cs place)
        → AreReady stored (option_map_or (λ (d : PlacedEdits). d.1) (cond b (Some c) (find (λ (d : PlacedEdits). d.0 == place) cs)) [])
    by true own rest =
        let first = All-head (FitsAt store) c cs fit in
        let same : first.0 ≡ stored =
        one_relation first.0 stored (sym first.1 ∙ (ap (slice_get store.tables) (eqb-true c.0 place own) ∙ there)) in
        subst (λ (s : StoredRows). AreReady s c.1) same first.2.ready
    by false other rest = rest

-- Edits that fit their tables fit each table.
pub fit_each : (store : Tables) (changes : List TableChange) → All (FitsAt store) (map placed_change changes) → EachFit store changes
fit_each store changes fit = λ place stored there.
    subst (AreReady stored) (sym (same_edits changes place)) (fit_found store (map placed_change changes) fit place stored there)

-- ---- the rows of all tables after a change

rows_same : (old new : List StoredRows) → length new ≡ length old
    → ((place : ℕ) (stored : StoredRows) → slice_get old place ≡ Some stored → (now : StoredRows) × (slice_get new place ≡ Some now)
    × (rows_of now ≡ rows_of stored))
    → instance_of new ≡ instance_of old
rows_same [] [] count each = refl
rows_same [] (n ∷ ns) count each = absurd (omega (arith, count))
rows_same (o ∷ os) [] count each = absurd (omega (arith, count))
rows_same (o ∷ os) (n ∷ ns) count each =
    let found = each 0 o refl in
    let first : rows_of n ≡ rows_of o = ap rows_of (one_relation n found.0 found.1) ∙ found.2 in
    let rest : instance_of ns ≡ instance_of os = rows_same os ns (omega (arith, count)) (λ place stored there. each (suc place) stored there) in
    λ i. first i ∷ rest i

-- If each relation keeps its rows, all rows are unchanged, ..
pub rows_kept : (old new : Tables) → HaveRows (rows_by_place (instance_of old.tables)) old new → instance_of new.tables ≡ instance_of old.tables
rows_kept old new have =
    rows_same old.tables new.tables have.count
    (λ place stored there.
    let now = have.each place stored there in (
      now.0,
      now.1,
      now.2.rows_are ∙ (sym (rows_at_place old.tables place) ∙ ap (λ (f : Option StoredRows). option_map_or rows_of f []) there),
    ))

-- .. and if each has its rows after the edits, all rows are those after the edits.
pub rows_made : (old new : Tables) (changes : List PlacedEdits) → HaveRows (rows_edited old changes) old new
    → rows_edited old changes ≡ rows_by_place (instance_of new.tables)
rows_made old new changes have = λ i place. (sym (edited_have old new changes have place) ∙ rows_at_place new.tables place) i

-- Relations that keep their rows and their form have their rows.
pub rows_formed : (old new : Tables) → instance_of new.tables ≡ instance_of old.tables → EachTurns SameForm old.tables new.tables
    → HaveRows (rows_by_place (instance_of old.tables)) old new
rows_formed old new same form = record {
  count = form.size;
  each = λ place stored there.
      let within : place < length old.tables = slice_get_within old.tables place stored there in
      let now : StoredRows = get_or new.tables place stored in
      let at : IsAt new place now = slice_get-get_or new.tables place stored (omega (arith, within, form.size)) in
      let turned : SameForm stored now =
      subst (λ (s : StoredRows). SameForm s now) (get_or_from_slice_get old.tables place stored stored there) (form.each place stored within) in (
        now,
        at,
        record {
          rows_are = sym (ap (λ (f : Option StoredRows). option_map_or rows_of f []) at)
              ∙ (rows_at_place new.tables place ∙ ap (λ (rows : Instance). rows_by_place rows place) same);
          types = turned.types;
          key = turned.key;
          indexes = turned.indexes;
        },
      );
}

-- Relations that have rows keep their form.
pub have_formed : (rows : RowsByPlace) (old new : Tables) → HaveRows rows old new → EachTurns SameForm old.tables new.tables
have_formed rows old new have = record {
  size = have.count;
  each = λ place d within.
      let stored : StoredRows = get_or old.tables place d in
      let found = have.each place stored (slice_get-get_or old.tables place d within) in
      subst (SameForm stored) (sym (get_or_from_slice_get new.tables place found.0 d found.1))
      (record { types = found.2.types; key = found.2.key; indexes = found.2.indexes });
}

-- All relations have the rows that they have.
pub rows_as_they_were : (store : Tables) → HaveRows (rows_by_place (instance_of store.tables)) store store
rows_as_they_were store = rows_formed store store refl (forms_same store.tables)
