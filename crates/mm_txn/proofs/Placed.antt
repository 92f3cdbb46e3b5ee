-- The rows of the tables of a standing query, by the places of the tables and by their names.
use Rattle.std.proofs.Common.{◌≡◌, ℕ, zero, suc, ◌+◌, ◌<◌, Bool, true, false, cond, not, List, [], ◌∷◌, Some, find, is_none, length, map}
use Rattle.std.proofs.Common.{slice_index_or, refl, sym, ap, subst, ◌∙◌, arith}
use Rattle.std.specs.List.{All, list_any, position_or_len}
use Rattle.std.specs.Option.{unwrap_or}
use Rattle.std.proofs.lemmas.Bool.{or_parts}
use Rattle.std.proofs.lemmas.List.Elements.{All-cons, All-nil}
use Rattle.mm_indexed.specs.Kept.{StoredRows}
use Rattle.mm_schema.specs.Instance.{Instance, rows_named}
use Rattle.mm_schema.specs.Name.{same_name}
use Rattle.mm_schema.specs.Schema.{Schema, lacks_table, table_place}
use Rattle.mm_schema.specs.declared.table.Table.{Table}
use Rattle.mm_schema.proofs.Instances.{name_of}
use Rattle.mm_schema.proofs.NameLemmas.{same_name_refl}
use Rattle.mm_store.specs.Tables.{rows_at}
use Rattle.mm_query.specs.Queries.{bag, bag_of}
use Rattle.mm_query.specs.State.{State, rows_in}
use Rattle.mm_query.specs.declared.query.FromItem.{FromItem}
use Rattle.mm_query.specs.Resolving.{places_in}
use Rattle.mm_standing.specs.Queries.{StandingQuery, bag_over}
use Rattle.mm_plan.specs.Kept.{instance_of}
use Rattle.mm_txn.specs.Listed.{IsPlaced, rows_by_place}
use Rattle.mm_schema.proofs.AllReferences.{placed, within}

-- the table has the name
abbrev pub has : List ℕ → Table → Bool
has name table = same_name name (name_of table)

-- the place of a name that some table has
abbrev pub first : List ℕ → List Table → ℕ
first name tables = position_or_len (has name) tables

-- no table has the name
abbrev pub lacks : List ℕ → List Table → Bool
lacks name tables = is_none (find (has name) tables)

-- A table at a place is found by its name.
pub there_at : (ts : List Table) (k : ℕ) (t d : Table) → k < length ts → t ≡ slice_index_or ts k d → lacks (name_of t) ts ≡ false
there_at [] k t d inside at = absurd (omega arith)
there_at (x ∷ xs) zero t d inside at =
    let own : has (name_of t) x ≡ true = ap (λ (u : Table). same_name (name_of t) (name_of u)) (sym at) ∙ same_name_refl (name_of t) in
    ap (λ b. is_none (cond b (Some x) (find (has (name_of t)) xs))) own
there_at (x ∷ xs) (suc k) t d inside at = by (has (name_of t) x) (there_at xs k t d (omega arith) at)
  where
    by : (b : Bool) → lacks (name_of t) xs ≡ false → is_none (cond b (Some x) (find (has (name_of t)) xs)) ≡ false
    by true later = refl
    by false later = later

-- An existing name has the place of its first table.
pub place_is : (name : List ℕ) (schema : Schema) → lacks_table name schema ≡ false → unwrap_or (table_place name schema) 0 ≡ first name schema.tables
place_is name schema there = placed _ _ (within name schema.tables there)

rows_at_first : (name : List ℕ) (ts : List Table) (rows : Instance) → lacks name ts ≡ false → rows_named name ts rows ≡ rows_by_place rows (first name ts)
rows_at_first name [] rows there = cc
rows_at_first name (t ∷ ts) [] there = refl
rows_at_first name (t ∷ ts) (r ∷ rs) there = by (has name t) there (rows_at_first name ts rs)
  where
    by : (b : Bool) → is_none (cond b (Some t) (find (has name) ts)) ≡ false
        → (lacks name ts ≡ false → rows_named name ts rs ≡ rows_by_place rs (first name ts))
        → cond b r (rows_named name ts rs) ≡ rows_by_place (r ∷ rs) (cond (not b) (1 + first name ts) 0)
    by true there later = refl
    by false there later =
        let next : suc (first name ts) ≡ 1 + first name ts = omega arith in
        later there ∙ ap (rows_by_place (r ∷ rs)) next

-- The places of existing tables are within the catalog.
pub places_within : (schema : Schema) (from : List FromItem) → list_any (λ (item : FromItem). lacks_table item.table schema) from ≡ false
    → All (λ t. t < length schema.tables) (places_in schema from)
places_within schema [] there = All-nil (λ t. t < length schema.tables)
places_within schema (item ∷ items) there =
    let parts = or_parts (lacks_table item.table schema) (list_any (λ (i : FromItem). lacks_table i.table schema) items) there in
    All-cons (λ t. t < length schema.tables) _ _
    (subst (λ t. t < length schema.tables) (sym (place_is item.table schema parts.0)) (within item.table schema.tables parts.0))
    (places_within schema items parts.1)

-- The rows of an existing name are those at its place.
pub rows_by_name : (name : List ℕ) (schema : Schema) (rows : Instance) → lacks_table name schema ≡ false
    → rows_named name schema.tables rows ≡ rows_by_place rows (unwrap_or (table_place name schema) 0)
rows_by_name name schema rows there = rows_at_first name schema.tables rows there ∙ ap (rows_by_place rows) (sym (place_is name schema there))

-- The rows of existing tables, ..
pub lists_by_place : (schema : Schema) (rows : Instance) (from : List FromItem) → list_any (λ (item : FromItem). lacks_table item.table schema) from ≡ false
    → map (λ (item : FromItem). rows_named item.table schema.tables rows) from ≡ map (rows_by_place rows) (places_in schema from)
lists_by_place schema rows [] there = refl
lists_by_place schema rows (item ∷ items) there =
    let parts = or_parts (lacks_table item.table schema) (list_any (λ (i : FromItem). lacks_table i.table schema) items) there in
    λ i. rows_by_name item.table schema rows parts.0 i ∷ lists_by_place schema rows items parts.1 i

-- .. and so the bag of a standing query, are those at the places.
pub bag_by_place : (state : State) (standing : StandingQuery) → IsPlaced state.schema standing
    → bag standing.query (rows_in state) ≡ bag_over (rows_by_place state.rows) standing
bag_by_place state standing is =
    ap (bag_of standing.query) (lists_by_place state.schema state.rows standing.query.from is.within.tables
    ∙ ap (map (rows_by_place state.rows)) (sym is.places))

-- The rows of the relation at a place are those at the place.
pub rows_at_place : (stored : List StoredRows) (place : ℕ) → rows_at stored place ≡ rows_by_place (instance_of stored) place
rows_at_place [] place = refl
rows_at_place (s ∷ ss) zero = refl
rows_at_place (s ∷ ss) (suc place) = rows_at_place ss place
