-- Creating and dropping indexes as steps of the machine.
use Rattle.std.proofs.Common.{◌≡◌, ℕ, zero, suc, ◌+◌, ◌<◌, ◌≤◌, ◌||◌, Bool, true, false, cond, not, List, [], ◌∷◌, ◌++◌, Result, Ok, Err, Some, None, is_none}
use Rattle.std.proofs.Common.{Option, length, get_or, map, slice_get, slice_index_or, slice_set, refl, sym, ap, subst, ◌∙◌, arith}
use Rattle.std.specs.Prelude.{MatchResult, OnOk, find, position}
use Rattle.std.specs.List.{All, AllByRecursion, IsDistinct, list_any, position_or_len, remove}
use Rattle.std.specs.Option.{option_map_or, unwrap_or}
use Rattle.std.proofs.lemmas.Bool.{false≢true}
use Rattle.std.proofs.lemmas.Map.Keys.{IsDistinct-head, IsDistinct-tail}
use Rattle.std.proofs.lemmas.Option.{slice_get-get_or}
use Rattle.std.proofs.lemmas.List.Elements.{All-head, All-tail}
use Rattle.std.proofs.lemmas.List.Folds.{find_at, list_any-append}
use Rattle.mm_indexed.specs.Index.{column_of, kind_of, AddsIndex}
use Rattle.mm_indexed.specs.Kept.{StoredRows}
use Rattle.mm_indexed.specs.Reads.{HasIndex}
use Rattle.mm_indexed.specs.RowLists.{rows_of}
use Rattle.mm_indexed.specs.declared.indexes.index.Index.{Index}
use Rattle.mm_schema.specs.Columns.{column_place}
use Rattle.mm_schema.specs.Indexes.{HasDistinctIndexes, HasIndexesInPlace, HasOwnIndexes, drop_index_conditions, index_conditions, index_named, indexes_of}
use Rattle.mm_schema.specs.Indexes.{lacks_index, table_with_index, with_index, without_index}
use Rattle.mm_schema.specs.Name.{same_name}
use Rattle.mm_schema.specs.Refused.{first_refusal}
use Rattle.mm_schema.specs.Rows.{rows_by}
use Rattle.mm_schema.specs.Schema.{HasDistinctNames, Schema, column_place_in, key_named, lacks_table, table_named, table_passes, table_place}
use Rattle.mm_schema.specs.Sorting.{in_order}
use Rattle.mm_schema.specs.declared.column.Column.{Column}
use Rattle.mm_schema.specs.declared.index.IndexDef.{IndexDef}
use Rattle.mm_schema.specs.declared.table.Table.{Table}
use Rattle.mm_schema.proofs.IndexLemmas.{new_index_is_free}
use Rattle.mm_schema.proofs.Instances.{name_of}
use Rattle.mm_schema.proofs.NameLemmas.{differs_back, same_name_refl}
use Rattle.mm_schema.proofs.Places.{find_at_place, find_nowhere, past_from_none, place_from_some, table_at_place, within_from_some}
use Rattle.mm_schema.proofs.DuplicateIndexes.{is_taken, with_and_without}
use Rattle.mm_value.specs.declared.refusal.Refusal.{Refusal}
use Rattle.mm_value.specs.declared.refusal.Refusal.TheVariants.{NoSuchColumn, NoSuchTable}
use Rattle.mm_query.proofs.Due.{not_lacking, passes_at_place}
use Rattle.mm_query.specs.Machine.{index_rows, rows_by_index}
use Rattle.mm_query.specs.State.{rows_in}
use Rattle.mm_plan.specs.Kept.{AreIndexes, AreOf, IsIndex, IsOf, instance_of}
use Rattle.mm_txn.specs.Kept.{state_of}
use Rattle.mm_txn.proofs.DatabaseSteps.{key_is, place_found, rows_of_name, rows_there, some_there}
use Rattle.mm_txn.proofs.IndexesBeside.{AreOf-with_index, AreOf-without_index}
use Rattle.mm_txn.proofs.RowsBeside.{as_many_rows, beside, instance_of-set, many_columns}
use Rattle.mm_plan.proofs.Fields.{as_many}

-- the result of a look-up by a name in another list
pub column_found : {at name : List ℕ} {found wanted : Option ℕ} (columns : List Column) → at ≡ name → found ≡ column_place at columns → found ≡ wanted
    → column_place name columns ≡ wanted
column_found columns same is told = ap (λ n. column_place n columns) (sym same) ∙ sym is ∙ told

-- ---- refusals of an index

pub no_table_due : (index : IndexDef) (schema : Schema) → lacks_table index.table schema ≡ true
    → first_refusal (index_conditions index schema) ≡ Some NoSuchTable
no_table_due index schema lacks = rw lacks refl

pub no_column_due : (index : IndexDef) (schema : Schema) (place : ℕ) (table : Table) → table_place index.table schema ≡ Some place
    → slice_get schema.tables place ≡ Some table → column_place index.column table.definition.columns ≡ None
    → first_refusal (index_conditions index schema) ≡ Some NoSuchColumn
no_column_due index schema place table placed at missing =
    let there : lacks_table index.table schema ≡ false = not_lacking index.table schema place table placed at in
    let column : table_passes (λ t. is_none (column_place index.column t.definition.columns)) index.table schema ≡ true =
    passes_at_place index.table schema place table placed at (λ t. is_none (column_place index.column t.definition.columns)) ∙ ap is_none missing in
    rw (there, column) refl

-- ---- an index whose creation is undone

found_not_none : (p : IndexDef → Bool) (xs : List IndexDef) → list_any p xs ≡ true → is_none (find p xs) ≡ false
found_not_none p [] some = cc
found_not_none p (x ∷ xs) some = by (p x) some (found_not_none p xs)
  where
    by : (b : Bool) → (b || list_any p xs) ≡ true → (list_any p xs ≡ true → is_none (find p xs) ≡ false)
        → is_none (cond b (Some x) (find p xs)) ≡ false
    by true here later = refl
    by false here later = later here

or_true : (b : Bool) → (b || true) ≡ true
or_true true = refl
or_true false = refl

taken_with : (index : IndexDef) (ts : List Table) (t : Table) → find (λ u. same_name index.table (name_of u)) ts ≡ Some t
    → is_taken index.name (indexes_of (map (table_with_index index) ts)) ≡ true
taken_with index [] t found = cc
taken_with index (u ∷ us) t found = by (same_name index.table (name_of u)) found (taken_with index us t)
  where
    others : List IndexDef
    others = indexes_of (map (table_with_index index) us)

    by : (b : Bool) → cond b (Some u) (find (λ v. same_name index.table (name_of v)) us) ≡ Some t
        → (find (λ v. same_name index.table (name_of v)) us ≡ Some t → is_taken index.name others ≡ true)
        → is_taken index.name ((cond b (record u { indexes = u.indexes ++ index ∷ [] }) u).indexes ++ others) ≡ true
    by true here later =
        list_any-append (λ (i : IndexDef). same_name index.name i.name) (u.indexes ++ index ∷ []) others
        ∙ ap (λ b. b || is_taken index.name others) (list_any-append (λ (i : IndexDef). same_name index.name i.name) u.indexes (index ∷ [])
        ∙ ap (λ b. is_taken index.name u.indexes || (b || false)) (same_name_refl index.name) ∙ or_true (is_taken index.name u.indexes))
    by false here later =
        list_any-append (λ (i : IndexDef). same_name index.name i.name) u.indexes others ∙ ap (λ b. is_taken index.name u.indexes || b) (later here)
        ∙ or_true (is_taken index.name u.indexes)

restored : {T : Type 0} (name : List ℕ) (schema after : Schema) (result : Result T Refusal)
    → MatchResult result (λ _. first_refusal (drop_index_conditions name schema) ≡ None)
    (λ refusal. first_refusal (drop_index_conditions name schema) ≡ Some refusal)
    → OnOk result (after ≡ without_index name schema) → lacks_index name schema ≡ false → after ≡ without_index name schema
restored name schema after (Ok v) due ok there = ok
restored name schema after (Err refusal) due ok there = absurd (let e : None ≡ Some refusal = rw there at due in cc)

find_passes : (p : Table → Bool) (ts : List Table) (t : Table) → find p ts ≡ Some t → p t ≡ true
find_passes p [] t found = cc
find_passes p (u ∷ us) t found = by (p u) refl found (find_passes p us t)
  where
    by : (b : Bool) → p u ≡ b → cond b (Some u) (find p us) ≡ Some t → (find p us ≡ Some t → p t ≡ true) → p t ≡ true
    by true passes here later = let same : u ≡ t = cc in ap p (sym same) ∙ passes
    by false fails here later = later here

none_found : (p : IndexDef → Bool) (ds : List IndexDef) → find p ds ≡ None → list_any p ds ≡ false
none_found p [] found = refl
none_found p (d ∷ ds) found = by (p d) found (none_found p ds)
  where
    by : (b : Bool) → cond b (Some d) (find p ds) ≡ None → (find p ds ≡ None → list_any p ds ≡ false) → (b || list_any p ds) ≡ false
    by true here later = cc
    by false here later = later here

-- ---- the index with a name

pub slice_get_within : {X : Type 0} (xs : List X) (i : ℕ) (x : X) → slice_get xs i ≡ Some x → i < length xs
slice_get_within [] i x here = cc
slice_get_within (y ∷ ys) zero x here = omega arith
slice_get_within (y ∷ ys) (suc i) x here = omega (arith, slice_get_within ys i x here)

find-append : (p : IndexDef → Bool) (xs ys : List IndexDef) → find p (xs ++ ys) ≡ cond (list_any p xs) (find p xs) (find p ys)
find-append p [] ys = refl
find-append p (x ∷ xs) ys = by (p x) (find-append p xs ys)
  where
    by : (b : Bool) → find p (xs ++ ys) ≡ cond (list_any p xs) (find p xs) (find p ys)
        → cond b (Some x) (find p (xs ++ ys)) ≡ cond (b || list_any p xs) (cond b (Some x) (find p xs)) (find p ys)
    by true later = refl
    by false later = later

own_at : (t : Table) → HasOwnIndexes t → (i : ℕ) (d : IndexDef) → slice_get t.indexes i ≡ Some d → d.table ≡ name_of t
own_at t own i d here =
    let below = slice_get_within t.indexes i d here in
    let found : get_or t.indexes i d ≡ d = let read : Some (get_or t.indexes i d) ≡ Some d = sym (slice_get-get_or t.indexes i d below) ∙ here in cc in
    subst (λ (e : IndexDef). e.table ≡ name_of t) found (own i d below)

-- Where the first index with a name is: in a table that has the name, at its first place.
record IsHeld (name : List ℕ) (ts : List Table) (d : IndexDef) : Type 0 where
  place : ℕ
  table : Table
  there : slice_get ts place ≡ Some table
  here : slice_get table.indexes (position_or_len (λ i. same_name name i.name) table.indexes) ≡ Some d
  own : d.table ≡ name_of table

held : (name : List ℕ) (ts : List Table) (d : IndexDef) → find (λ i. same_name name i.name) (indexes_of ts) ≡ Some d → All HasOwnIndexes ts → IsHeld name ts d
held name [] d found own = cc
held name (t ∷ ts) d found own =
    by (is_taken name t.indexes) (sym (find-append (λ i. same_name name i.name) t.indexes (indexes_of ts)) ∙ found)
    (λ later. held name ts d later (All-tail HasOwnIndexes t ts own))
  where
    by : (b : Bool) → cond b (find (λ i. same_name name i.name) t.indexes) (find (λ i. same_name name i.name) (indexes_of ts)) ≡ Some d
        → (find (λ i. same_name name i.name) (indexes_of ts) ≡ Some d → IsHeld name ts d) → IsHeld name (t ∷ ts) d
    by true here later =
        let at : slice_get t.indexes (position_or_len (λ i. same_name name i.name) t.indexes) ≡ Some d =
        sym (find_at (λ i. same_name name i.name) t.indexes) ∙ here in
        record {
          place = 0;
          table = t;
          there = refl;
          here = at;
          own = own_at t (All-head HasOwnIndexes t ts own)
              (position_or_len (λ i. same_name name i.name) t.indexes) d at;
        }
    by false here later =
        let rest = later here in
        record { place = suc rest.place; table = rest.table; there = rest.there; here = rest.here; own = rest.own }

-- A table is at the place of its own name.
pub own_place : (ts : List Table) (place : ℕ) (t : Table) → slice_get ts place ≡ Some t → IsDistinct same_name (map name_of ts)
    → position_or_len (λ u. same_name (name_of t) (name_of u)) ts ≡ place
own_place [] place t here distinct = cc
own_place (u ∷ us) zero t here distinct =
    let same : u ≡ t = cc in
    ap (λ (v : Table). cond (not (same_name (name_of v) (name_of u))) (1 + position_or_len (λ w. same_name (name_of v) (name_of w)) us) 0) (sym same)
    ∙ ap (λ b. cond (not b) (1 + position_or_len (λ w. same_name (name_of u) (name_of w)) us) 0) (same_name_refl (name_of u))
own_place (u ∷ us) (suc place) t here distinct =
    let later = own_place us place t here (IsDistinct-tail same_name (name_of u) (map name_of us) distinct) in
    let other : same_name (name_of t) (name_of u) ≡ false =
    differs_back (name_of u) (name_of t) (named_differs us place t here (IsDistinct-head same_name (name_of u) (map name_of us) distinct)) in
    ap (λ b. cond (not b) (1 + position_or_len (λ w. same_name (name_of t) (name_of w)) us) 0) other ∙ omega (arith, later)
  where
    named_differs : (vs : List Table) (k : ℕ) (v : Table) → slice_get vs k ≡ Some v
        → AllByRecursion (λ other. same_name (name_of u) other ≡ false) (map name_of vs) → same_name (name_of u) (name_of v) ≡ false
    named_differs [] k v there all = cc
    named_differs (w ∷ ws) zero v there all = let same : w ≡ v = cc in ap (λ (x : Table). same_name (name_of u) (name_of x)) (sym same) ∙ all.0
    named_differs (w ∷ ws) (suc k) v there all = named_differs ws k v there all.1

-- The definition at a place is that of the index at this place of the relation.
AreIndexes-at : (columns : List Column) (ds : List IndexDef) (xs : List Index) → AreIndexes columns ds xs → (i : ℕ) (d : IndexDef) → slice_get ds i ≡ Some d
    → (x : Index) × (slice_get xs i ≡ Some x) × IsIndex columns d x
AreIndexes-at columns [] xs are i d here = cc
AreIndexes-at columns (e ∷ ds) [] are i d here = absurd are
AreIndexes-at columns (e ∷ ds) (x ∷ xs) are zero d here = let same : e ≡ d = cc in (x, refl, subst (λ (f : IndexDef). IsIndex columns f x) same are.0)
AreIndexes-at columns (e ∷ ds) (x ∷ xs) are (suc i) d here = AreIndexes-at columns ds xs are.1 i d here

module _ (schema : Schema) (rs : List StoredRows) (are : AreOf schema.tables rs) where
  module _ (index : IndexDef) (place : ℕ) (placed : table_place index.table schema ≡ Some place) (table : Table)
      (at : slice_get schema.tables place ≡ Some table) (column : ℕ) (found : column_place index.column table.definition.columns ≡ Some column) where
    one_table : (a b : Table) → Some a ≡ Some b → a ≡ b
    one_table a b same = cc

    pub column_within : (stored : StoredRows) → slice_get rs place ≡ Some stored → column < length stored.places.types
    column_within stored there =
        let b = beside schema.tables rs place stored are there in
        let same : b.table ≡ table = one_table b.table table (sym b.there ∙ at) in
        let within : column < length table.definition.columns = within_from_some _ table.definition.columns column found in
        omega (arith, within, many_columns b.table stored b.is_of, ap (λ (t : Table). length t.definition.columns) same)

    -- Creating and dropping an index leaves the catalog as before.
    pub taken_back : {T : Type 0} (name : List ℕ) (mid after : Schema) (result : Result T Refusal) → name ≡ index.name → mid ≡ with_index index schema
        → first_refusal (index_conditions index schema) ≡ None
        → MatchResult result (λ _. first_refusal (drop_index_conditions name mid) ≡ None)
        (λ refusal. first_refusal (drop_index_conditions name mid) ≡ Some refusal)
        → OnOk result (after ≡ without_index name mid) → after ≡ schema
    taken_back name mid after result is made free due ok =
        let named : table_named index.table schema ≡ Some table = table_at_place index.table schema place placed ∙ at in
        let taken : is_taken name (indexes_of (map (table_with_index index) schema.tables)) ≡ true =
        ap (λ n. is_taken n (indexes_of (map (table_with_index index) schema.tables))) is ∙ taken_with index schema.tables table named in
        let there : lacks_index name mid ≡ false =
        ap (lacks_index name) made ∙ found_not_none (λ i. same_name name i.name) (indexes_of (map (table_with_index index) schema.tables)) taken in
        restored name mid after result due ok there ∙ ap (without_index name) made
        ∙ ap (λ (ts : List Table). record schema { tables = ts })
        (with_and_without name index schema.tables is (ap (λ n. is_taken n (indexes_of schema.tables)) is ∙ new_index_is_free index schema free))

    -- A new index is one more of the relation at its table's place, and all rows stay.
    pub index_added : HasDistinctNames schema → (tables : List StoredRows)
        → ((stored : StoredRows) → slice_get rs place ≡ Some stored
        → (new : StoredRows) × (tables ≡ slice_set rs place new) × (new ≡ record stored { indexes = new.indexes })
        × AddsIndex column index.kind stored.indexes new.indexes)
        → (instance_of tables ≡ instance_of rs) × AreOf (with_index index schema).tables tables
    index_added distinct tables each =
        let some = some_there rs place (rows_there schema rs are index.table place placed) in
        let stored = some.0 in
        let there = some.1 in
        let new = each stored there in
        let p = place_found schema rs are index.table place placed in
        let rows : rows_of new.0 ≡ rows_of stored = ap rows_of new.2 in
        let here : slice_get rs (position_or_len (λ t. same_name index.table t.definition.name) schema.tables) ≡ Some stored =
        subst (λ k. slice_get rs k ≡ Some stored) p there in (
          ap instance_of new.1 ∙ instance_of-set rs place stored new.0 there rows,
          subst (AreOf (with_index index schema).tables) (sym new.1)
              (subst (λ k. AreOf (with_index index schema).tables (slice_set rs k new.0)) (sym p)
              (AreOf-with_index index stored new.0 new.3.0 new.2 new.3.1 schema.tables rs are distinct here
              (λ u at_u.
              let same : table ≡ u = one_table table u (sym at ∙ ap (slice_get schema.tables) p ∙ at_u) in
              record {
                column = ap (λ (t : Table). column_place index.column t.definition.columns) (sym same) ∙ found ∙ ap (λ n. Some n) (sym new.3.2.0);
                kind = new.3.2.1;
              }))),
        )

  -- ---- a dropped index

  module _ (name : List ℕ) (place : ℕ) (placed : position (λ t. is_taken name t.indexes) schema.tables ≡ Some place) (table : Table)
      (at : slice_get schema.tables place ≡ Some table) where
    one_table_here : (a b : Table) → Some a ≡ Some b → a ≡ b
    one_table_here a b same = cc

    pub with_index_there : place < length rs
    with_index_there = omega (arith, as_many_rows schema.tables rs are, within_from_some _ schema.tables place placed)

    taken_here : is_taken name table.indexes ≡ true
    taken_here = find_passes (λ t. is_taken name t.indexes) schema.tables table (find_at_place _ schema.tables place placed ∙ at)

    pub index_there : (i : ℕ) → position (λ d. same_name name d.name) table.indexes ≡ Some i → (stored : StoredRows) → slice_get rs place ≡ Some stored
        → i < length stored.indexes
    index_there i found stored there =
        let b = beside schema.tables rs place stored are there in
        let same : b.table ≡ table = one_table_here b.table table (sym b.there ∙ at) in
        let within : i < length table.indexes = within_from_some _ table.indexes i found in
        let many : length stored.indexes ≡ length b.table.indexes = as_many b.table.definition.columns b.table.indexes stored.indexes b.is_of.indexes in
        omega (arith, within, many, ap (λ (t : Table). length t.indexes) same)

    pub index_not_missing : position (λ d. same_name name d.name) table.indexes ≡ None → ⊥
    index_not_missing missing =
        false≢true (sym (none_found (λ d. same_name name d.name) table.indexes (find_nowhere _ table.indexes missing)) ∙ taken_here)

    pub index_dropped : HasDistinctIndexes schema → (i : ℕ) → position (λ d. same_name name d.name) table.indexes ≡ Some i → (tables : List StoredRows)
        → ((stored : StoredRows) → slice_get rs place ≡ Some stored → tables ≡ slice_set rs place (record stored { indexes = remove stored.indexes i }))
        → (instance_of tables ≡ instance_of rs) × AreOf (without_index name schema).tables tables
    index_dropped distinct i found tables each =
        let some = some_there rs place with_index_there in
        let stored = some.0 in
        let there = some.1 in
        let less : StoredRows = record stored { indexes = remove stored.indexes i } in
        let p : place ≡ position_or_len (λ t. is_taken name t.indexes) schema.tables = place_from_some _ schema.tables place placed in
        let here : slice_get rs (position_or_len (λ t. is_taken name t.indexes) schema.tables) ≡ Some stored =
        subst (λ k. slice_get rs k ≡ Some stored) p there in (
          ap instance_of (each stored there) ∙ instance_of-set rs place stored less there refl,
          subst (AreOf (without_index name schema).tables) (sym (each stored there))
              (subst (λ k. AreOf (without_index name schema).tables (slice_set rs k less)) (sym p)
              (AreOf-without_index name i stored schema.tables rs are distinct here
              (λ u at_u.
              let same : table ≡ u = one_table_here table u (sym at ∙ ap (slice_get schema.tables) p ∙ at_u) in
              subst (λ (t : Table). i ≡ position_or_len (λ d. same_name name d.name) t.indexes) same (place_from_some _ table.indexes i found)))),
        )

  -- ---- an index that is walked

  module _ (name : List ℕ) (d : IndexDef) (named : index_named name schema ≡ Some d) (in_place : HasIndexesInPlace schema)
      (distinct : HasDistinctNames schema) where
    holder : IsHeld name schema.tables d
    holder = held name schema.tables d named in_place

    own_first : position_or_len (λ t. same_name d.table (name_of t)) schema.tables ≡ holder.place
    own_first =
        ap (λ n. position_or_len (λ t. same_name n (name_of t)) schema.tables) holder.own
        ∙ own_place schema.tables holder.place holder.table holder.there distinct

    pub table_there : table_place d.table schema ≡ None → ⊥
    table_there none =
        let past : length schema.tables ≤ position_or_len (λ t. same_name d.table (name_of t)) schema.tables = past_from_none _ schema.tables none in
        omega (arith, past, own_first, slice_get_within schema.tables holder.place holder.table holder.there)

    module _ (place : ℕ) (placed : table_place d.table schema ≡ Some place) (table : Table) (at : slice_get schema.tables place ≡ Some table) where
      same_table : holder.table ≡ table
      same_table =
          let same : holder.place ≡ place = sym own_first ∙ sym (place_from_some _ schema.tables place placed) in
          let read : Some holder.table ≡ Some table = sym holder.there ∙ ap (slice_get schema.tables) same ∙ at in cc

      first_here : slice_get table.indexes (position_or_len (λ i. same_name name i.name) table.indexes) ≡ Some d
      first_here = subst (λ (t : Table). slice_get t.indexes (position_or_len (λ i. same_name name i.name) t.indexes) ≡ Some d) same_table holder.here

      pub index_here : position (λ i. same_name name i.name) table.indexes ≡ None → ⊥
      index_here none =
          let past : length table.indexes ≤ position_or_len (λ i. same_name name i.name) table.indexes = past_from_none _ table.indexes none in
          omega (arith, past, slice_get_within table.indexes (position_or_len (λ i. same_name name i.name) table.indexes) d first_here)

      pub relation_there : place < length rs
      relation_there = rows_there schema rs are d.table place placed

      is_of : (stored : StoredRows) → slice_get rs place ≡ Some stored → IsOf table stored
      is_of stored there =
          let b = beside schema.tables rs place stored are there in
          let same : b.table ≡ table = let read : Some b.table ≡ Some table = sym b.there ∙ at in cc in subst (λ (t : Table). IsOf t stored) same b.is_of

      some_stored : (stored : StoredRows) × (slice_get rs place ≡ Some stored)
      some_stored = some_there rs place relation_there

      index_at : (stored : StoredRows) → slice_get rs place ≡ Some stored
          → (x : Index) × (slice_get stored.indexes (position_or_len (λ i. same_name name i.name) table.indexes) ≡ Some x)
          × IsIndex table.definition.columns d x
      index_at stored there = AreIndexes-at table.definition.columns table.indexes stored.indexes (is_of stored there).indexes
          (position_or_len (λ i. same_name name i.name) table.indexes) d first_here

      pub column_there : column_place d.column table.definition.columns ≡ None → ⊥
      column_there missing =
          let x = index_at some_stored.0 some_stored.1 in
          absurd (let e : None ≡ Some (column_of x.0) = sym missing ∙ x.2.column in cc)

      module _ (i : ℕ) (found : position (λ e. same_name name e.name) table.indexes ≡ Some i) (column : ℕ)
          (placed_column : column_place d.column table.definition.columns ≡ Some column) (stored : StoredRows) (there : slice_get rs place ≡ Some stored) where
        pub along_within : column < length stored.places.types
        along_within =
            let below : column < length table.definition.columns = within_from_some _ table.definition.columns column placed_column in
            omega (arith, below, many_columns table stored (is_of stored there))

        pub has_index : HasIndex stored.indexes i column d.kind
        has_index =
            let x = index_at stored there in
            let at_i : slice_get stored.indexes i ≡ Some x.0 = ap (slice_get stored.indexes) (place_from_some _ table.indexes i found) ∙ x.1 in
            let within : i < length stored.indexes = slice_get_within stored.indexes i x.0 at_i in
            let same : column ≡ column_of x.0 = let e : Some column ≡ Some (column_of x.0) = sym placed_column ∙ x.2.column in cc in (
              within,
              λ e.
                  let is : slice_index_or stored.indexes i e ≡ x.0 =
                  let read : Some (slice_index_or stored.indexes i e) ≡ Some x.0 = sym (slice_get-get_or stored.indexes i e within) ∙ at_i in cc in
                  (ap column_of is ∙ sym same, ap kind_of is ∙ x.2.kind),
            )

        pub rows_along : in_order (rows_by column stored.key) (rows_of stored) ≡ rows_by_index (state_of schema rs) name
        rows_along =
            let rows : rows_in (state_of schema rs) d.table ≡ rows_of stored = rows_of_name schema rs are d.table place placed stored there in
            let key : key_named d.table schema ≡ stored.key = key_is schema rs are d.table place placed stored there in
            let table_is : table_named d.table schema ≡ Some table = table_at_place d.table schema place placed ∙ at in
            let column_is : column_place_in d.table d.column schema ≡ column =
            ap (λ t. option_map_or (λ u. unwrap_or (column_place d.column u.definition.columns) 0) t 0) table_is ∙ ap (λ c. unwrap_or c 0) placed_column in
            sym (ap (λ e. option_map_or (index_rows (state_of schema rs)) e []) named
            ∙ (λ k. in_order (rows_by (column_is k) (key k)) (rows k)))
