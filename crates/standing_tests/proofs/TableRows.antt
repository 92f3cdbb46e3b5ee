-- The rows of the tables of a case before and after a step.
use Rattle.std.proofs.Common.{◌≡◌, ℕ, zero, suc, ◌<◌, ◌==◌, Bool, true, false, cond, List, [], ◌∷◌, Option, Some, None, get_or, length, map, slice_get}
use Rattle.std.proofs.Common.{slice_index_or, slice_set, refl, sym, ap, subst, ◌∙◌, arith}
use Rattle.std.specs.List.{All, list_all}
use Rattle.std.specs.Option.{option_map_or}
use Rattle.std.proofs.lemmas.Bool.{and_parts, eqb-false, eqb-true, false≢true}
use Rattle.std.proofs.lemmas.List.{get_or-set_other, get_or-set_same, length-map, map-set}
use Rattle.std.proofs.lemmas.List.Elements.{All-cons, All-nil}
use Rattle.mm_delta.specs.Edited.{after_at, before_at}
use Rattle.mm_delta.specs.Skipping.{IsTypeTested}
use Rattle.mm_delta.specs.Steps.{EachFit}
use Rattle.mm_delta.specs.declared.edited.TableChange.{TableChange}
use Rattle.mm_query.specs.Queries.{bag_of}
use Rattle.mm_query.specs.declared.atom.Atom.{Atom}
use Rattle.mm_query.specs.declared.atom.Operand.{Operand}
use Rattle.mm_query.specs.declared.atom.Operand.TheVariants.{Literal, Column, Shifted}
use Rattle.mm_query.specs.declared.bound_query.BoundQuery.{BoundQuery}
use Rattle.mm_query.specs.declared.bound_query.FieldPlace.{FieldPlace}
use Rattle.mm_indexed.specs.Kept.{StoredRows}
use Rattle.mm_indexed.specs.RowLists.{rows_of}
use Rattle.mm_query.specs.Additions.{AddsToNumber}
use Rattle.mm_standing.specs.Queries.{RowsByPlace, StandingQuery}
use Rattle.mm_standing.specs.Reads.{AreTypeTested}
use Rattle.mm_store.specs.Edits.{AreReady, rows_after}
use Rattle.mm_store.specs.Tables.{HasRows, IsAt, Tables, Turns, rows_at}
use Rattle.mm_tables.specs.declared.edit.Edit.{Edit}
use Rattle.mm_value.specs.declared.values.Value.{Value}
use Rattle.store_tests.proofs.PlainStores.{at_place}
use Rattle.standing_tests.specs.Cases.{AreFitAt, IsWhole, adds_none, is_unshifted, rows_edited}

-- ---- rows at places

-- The rows at a place are those at the place of the list of all rows.
pub rows_listed : (tables : List StoredRows) (place : ℕ) → rows_at tables place ≡ slice_index_or (map (λ (s : StoredRows). rows_of s) tables) place []
rows_listed [] place = refl
rows_listed (s ∷ ss) zero = refl
rows_listed (s ∷ ss) (suc place) = rows_listed ss place

-- So are those at all places.
pub before_listed : (store : Tables) (rows : List (List (List Value))) → map (λ (s : StoredRows). rows_of s) store.tables ≡ rows
    → before_at store ≡ (λ (place : ℕ). slice_index_or rows place [])
before_listed store rows are = λ i place. (rows_listed store.tables place ∙ ap (λ rs. slice_index_or rs place []) are) i

-- Tables with the same rows have the same rows at each place.
pub before_same : (old new : Tables) → map (λ (s : StoredRows). rows_of s) new.tables ≡ map (λ (s : StoredRows). rows_of s) old.tables
    → before_at new ≡ before_at old
before_same old new same = before_listed new (map (λ (s : StoredRows). rows_of s) old.tables) same ∙ sym (before_listed old _ refl)

module _ (store new : Tables) (table : ℕ) (within : table < length store.tables) (rows : StoredRows → List (List Value))
    (each : (stored : StoredRows) → IsAt store table stored → (x : StoredRows) × Turns store table x new × HasRows stored (rows stored) x) where
  -- If the rows at one place change, those at each other place stay.
  pub rows_turned : (place : ℕ) → rows_at new.tables place ≡ cond (table == place) (option_map_or rows (slice_get store.tables place) [])
      (rows_at store.tables place)
  rows_turned place = rows_listed new.tables place ∙ ap (λ rs. slice_index_or rs place []) are ∙ by (table == place) refl
    where
      found : (stored : StoredRows) × IsAt store table stored
      found = at_place store table within

      turned : (x : StoredRows) × Turns store table x new × HasRows found.0 (rows found.0) x
      turned = each found.0 found.1

      are : map (λ (s : StoredRows). rows_of s) new.tables ≡ slice_set (map (λ (s : StoredRows). rows_of s) store.tables) table (rows found.0)
      are =
          ap (map (λ (s : StoredRows). rows_of s)) turned.1
          ∙ map-set (λ (s : StoredRows). rows_of s) store.tables table turned.0
          ∙ ap (slice_set (map (λ (s : StoredRows). rows_of s) store.tables) table) turned.2.rows_are

      inside : table < length (map (λ (s : StoredRows). rows_of s) store.tables)
      inside = omega (arith, within, length-map store.tables (λ (s : StoredRows). rows_of s))

      by : (b : Bool) → (table == place) ≡ b
          → slice_index_or (slice_set (map (λ (s : StoredRows). rows_of s) store.tables) table (rows found.0)) place []
          ≡ cond b (option_map_or rows (slice_get store.tables place) []) (rows_at store.tables place)
      by true own =
          let same : table ≡ place = eqb-true table place own in
          subst (λ p. slice_index_or (slice_set (map (λ (s : StoredRows). rows_of s) store.tables) table (rows found.0)) p []
          ≡ option_map_or rows (slice_get store.tables p) []) same
          (get_or-set_same (map (λ (s : StoredRows). rows_of s) store.tables) table (rows found.0) [] inside
          ∙ sym (ap (λ s. option_map_or rows s []) found.1))
      by false other =
          get_or-set_other (map (λ (s : StoredRows). rows_of s) store.tables) table place (rows found.0) [] (λ e. eqb-false table place other (sym e))
          ∙ sym (rows_listed store.tables place)

-- If the relation at a place keeps its rows, all rows are unchanged.
pub rows_kept : (store new : Tables) (table : ℕ) → table < length store.tables
    → ((stored : StoredRows) → IsAt store table stored → (x : StoredRows) × Turns store table x new × HasRows stored (rows_of stored) x)
    → before_at new ≡ before_at store
rows_kept store new table within each = λ i place. (rows_turned store new table within (λ (s : StoredRows). rows_of s) each place ∙ by place (table == place)) i
  where
    by : (place : ℕ) (b : Bool) → cond b (rows_at store.tables place) (rows_at store.tables place) ≡ rows_at store.tables place
    by place true = refl
    by place false = refl

-- If the relation has the rows after edits, all rows are those after the edits.
pub rows_made : (store new : Tables) (table : ℕ) → table < length store.tables → (edits : List Edit)
    → ((stored : StoredRows) → IsAt store table stored → (x : StoredRows) × Turns store table x new × HasRows stored (rows_after stored edits) x)
    → before_at new ≡ rows_edited store table edits
rows_made store new table within edits each = λ i place. rows_turned store new table within (λ (s : StoredRows). rows_after s edits) each place i

-- ---- the edits of one table

-- The rows after a change of one table are those after its edits.
pub after_is : (store : Tables) (change : TableChange) → after_at store (change ∷ []) ≡ rows_edited store change.table change.edits.now
after_is store change = λ i place. by (change.table == place) (slice_get store.tables place) i
  where
    by : (b : Bool) (found : Option StoredRows)
        → option_map_or (λ stored. rows_after stored (option_map_or (λ (c : TableChange). c.edits.now) (cond b (Some change) None) [])) found []
        ≡ cond b (option_map_or (λ stored. rows_after stored change.edits.now) found []) (option_map_or rows_of found [])
    by true found = refl
    by false None = refl
    by false (Some stored) = refl

fit_none : (stored : StoredRows) → AreReady stored []
fit_none stored = record { fits = λ k d within. absurd (omega (arith, within)); apart = λ i j d below within. absurd (omega (arith, within)) }

-- Edits that fit their table may be made in each table.
pub fit_each : (store : Tables) (change : TableChange) → AreFitAt store change.table change.edits.now → EachFit store (change ∷ [])
fit_each store change fit = λ place stored there. by place stored there (change.table == place) refl
  where
    by : (place : ℕ) (stored : StoredRows) → slice_get store.tables place ≡ Some stored → (b : Bool) → (change.table == place) ≡ b
        → AreReady stored (option_map_or (λ (c : TableChange). c.edits.now) (cond b (Some change) None) [])
    by place stored there true own =
        let same : change.table ≡ place = eqb-true change.table place own in
        (fit stored (subst (λ p. slice_get store.tables p ≡ Some stored) (sym same) there)).ready
    by place stored there false other = fit_none stored

-- ---- queries that add no number

adds_one : (rows : RowsByPlace) (o : Operand FieldPlace) → adds_none o ≡ true → AddsToNumber rows o
adds_one rows (Literal value) none = tt
adds_one rows (Column field) none = tt
adds_one rows (Shifted field by) none = absurd (false≢true none)

adds_to_numbers : (rows : RowsByPlace) (atoms : List (Atom FieldPlace)) → list_all (λ (atom : Atom FieldPlace). adds_none atom.right) atoms ≡ true
    → All (λ (atom : Atom FieldPlace). AddsToNumber rows atom.right) atoms
adds_to_numbers rows [] none = All-nil (λ (atom : Atom FieldPlace). AddsToNumber rows atom.right)
adds_to_numbers rows (a ∷ others) none =
    let parts = and_parts (adds_none a.right) (list_all (λ (atom : Atom FieldPlace). adds_none atom.right) others) none in
    All-cons (λ (atom : Atom FieldPlace). AddsToNumber rows atom.right) a others (adds_one rows a.right parts.0) (adds_to_numbers rows others parts.1)

-- They add none to a text, whatever the rows are.
pub tested_one : (store : Tables) (changes : List TableChange) (query : BoundQuery) (tables : List ℕ) → length tables ≡ length query.from
    → is_unshifted query ≡ true → IsTypeTested query store changes tables
tested_one store changes query tables whole unshifted = record {
  whole = whole;
  before = adds_to_numbers (λ j. before_at store (get_or tables j 0)) query.atoms unshifted;
  after = adds_to_numbers (λ j. after_at store changes (get_or tables j 0)) query.atoms unshifted;
}

pub type_tested : (store : Tables) (changes : List TableChange) (queries : List StandingQuery) → All IsWhole queries → AreTypeTested store changes queries
type_tested store changes queries whole = λ k d within.
    let s = get_or queries k d in tested_one store changes s.query s.tables (whole k d within).whole (whole k d within).unshifted

-- ---- queries over no rows

-- If the first table has no rows, no combination matches.
none_from : (query : BoundQuery) (first : List (List Value)) (others : List (List (List Value))) → first ≡ [] → bag_of query (first ∷ others) ≡ []
none_from query first others none = ap (λ f. bag_of query (f ∷ others)) none

nothing : {X : Type 0} (xs : List X) → length xs ≡ 0 → xs ≡ []
nothing [] none = refl
nothing (x ∷ xs) none = absurd (omega arith)

-- A table with 0 rows has none.
pub no_rows : (store : Tables) (place n : ℕ) → n ≡ 0 → ((stored : StoredRows) → IsAt store place stored → n ≡ length (rows_of stored))
    → rows_at store.tables place ≡ []
no_rows store place n none told = by (slice_get store.tables place) told
  where
    by : (found : Option StoredRows) → ((stored : StoredRows) → found ≡ Some stored → n ≡ length (rows_of stored)) → option_map_or rows_of found [] ≡ []
    by None counted = refl
    by (Some stored) counted = nothing (rows_of stored) (sym (counted stored refl) ∙ none)

-- Two stores whose first tables have no rows have the same result of a query over both tables: no rows.
pub none_from_both : (query : BoundQuery) (tables : List ℕ) (a b : List StoredRows) → tables ≡ 0 ∷ 1 ∷ [] → rows_at a 0 ≡ [] → rows_at b 0 ≡ []
    → bag_of query (map (rows_at a) tables) ≡ bag_of query (map (rows_at b) tables)
none_from_both query tables a b are first second =
    ap (λ (ts : List ℕ). bag_of query (map (rows_at a) ts)) are
    ∙ none_from query (rows_at a 0) (rows_at a 1 ∷ []) first
    ∙ sym (none_from query (rows_at b 0) (rows_at b 1 ∷ []) second)
    ∙ sym (ap (λ (ts : List ℕ). bag_of query (map (rows_at b) ts)) are)
