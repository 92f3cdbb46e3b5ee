-- The indexes of a catalog's tables, and those of their relations.
use Rattle.std.proofs.Common.{◌≡◌, ℕ, suc, ◌+◌, Bool, true, false, cond, not, List, [], ◌∷◌, ◌++◌, Some, map, slice_get, slice_set, refl, sym, ap, subst, ◌∙◌}
use Rattle.std.proofs.Common.{arith}
use Rattle.std.specs.List.{IsDistinct, filter, position_or_len, remove}
use Rattle.std.proofs.lemmas.Bool.{or_from, or_parts}
use Rattle.std.proofs.lemmas.Map.Keys.{IsDistinct-tail}
use Rattle.mm_indexed.specs.Kept.{StoredRows}
use Rattle.mm_indexed.specs.declared.indexes.index.Index.{Index}
use Rattle.mm_schema.specs.Indexes.{has_duplicate_indexes, indexes_of, table_with_index, table_without_index}
use Rattle.mm_schema.specs.Name.{same_name}
use Rattle.mm_schema.specs.declared.column.Column.{Column}
use Rattle.mm_schema.specs.declared.index.IndexDef.{IndexDef}
use Rattle.mm_schema.specs.declared.table.Table.{Table}
use Rattle.mm_schema.proofs.Instances.{name_of, others_lack}
use Rattle.mm_schema.proofs.NameLemmas.{same_bytes}
use Rattle.mm_schema.proofs.DuplicateIndexes.{all_kept, duplicates_behind, free_behind, is_taken, others_stay, stay_without, stays_without}
use Rattle.mm_plan.specs.Kept.{AreIndexes, AreOf, IsIndex, IsOf}

-- ---- one more index

AreIndexes-push : (columns : List Column) (ds : List IndexDef) (xs : List Index) (d : IndexDef) (x : Index) → IsIndex columns d x → AreIndexes columns ds xs
    → AreIndexes columns (ds ++ d ∷ []) (xs ++ x ∷ [])
AreIndexes-push columns [] [] d x is are = (is, tt)
AreIndexes-push columns (e ∷ ds) (y ∷ xs) d x is are = (are.0, AreIndexes-push columns ds xs d x is are.1)
AreIndexes-push columns [] (y ∷ xs) d x is are = absurd are
AreIndexes-push columns (e ∷ ds) [] d x is are = absurd are

module _ (index : IndexDef) (stored new : StoredRows) (x : Index) (is_new : new ≡ record stored { indexes = new.indexes })
    (pushed : new.indexes ≡ stored.indexes ++ x ∷ []) where
  IsOf-with_index : (t : Table) → IsIndex t.definition.columns index x → IsOf t stored → IsOf (record t { indexes = t.indexes ++ index ∷ [] }) new
  IsOf-with_index t is is_of = record {
    key = ap (λ (s : StoredRows). s.key) is_new ∙ is_of.key;
    types = ap (λ (s : StoredRows). s.places.types) is_new ∙ is_of.types;
    indexes = subst (AreIndexes t.definition.columns (t.indexes ++ index ∷ [])) (sym pushed)
        (AreIndexes-push t.definition.columns t.indexes stored.indexes index x is is_of.indexes);
  }

  here_or_later : (t : Table) (ts : List Table) (r : StoredRows) (rs : List StoredRows) (n : ℕ) (b : Bool) → same_name index.table (name_of t) ≡ b
      → AreOf (t ∷ ts) (r ∷ rs) → IsDistinct same_name (map name_of (t ∷ ts)) → slice_get (r ∷ rs) (cond (not b) (1 + n) 0) ≡ Some stored
      → ((u : Table) → slice_get (t ∷ ts) (cond (not b) (1 + n) 0) ≡ Some u → IsIndex u.definition.columns index x)
      → (slice_get rs n ≡ Some stored → ((u : Table) → slice_get ts n ≡ Some u → IsIndex u.definition.columns index x)
      → AreOf (map (table_with_index index) ts) (slice_set rs n new))
      → AreOf (cond b (record t { indexes = t.indexes ++ index ∷ [] }) t ∷ map (table_with_index index) ts)
      (slice_set (r ∷ rs) (cond (not b) (1 + n) 0) new)
  here_or_later t ts r rs n true own are distinct here is rest =
      let same : r ≡ stored = cc in (
        IsOf-with_index t (is t refl) (subst (IsOf t) same are.0),
        subst (λ us. AreOf us rs) (sym (others_stay index ts (others_lack index.table t ts own distinct))) are.1,
      )
  here_or_later t ts r rs n false other are distinct here is rest =
      let next : 1 + n ≡ suc n = omega arith in
      rw (next) (are.0, rest (rw (next) at here) (λ u there. is u (rw (next) there)))

  -- The index with the name of its table is the one after those of the relation.
  pub AreOf-with_index : (ts : List Table) (rs : List StoredRows) → AreOf ts rs → IsDistinct same_name (map name_of ts)
      → slice_get rs (position_or_len (λ t. same_name index.table (name_of t)) ts) ≡ Some stored
      → ((u : Table) → slice_get ts (position_or_len (λ t. same_name index.table (name_of t)) ts) ≡ Some u → IsIndex u.definition.columns index x)
      → AreOf (map (table_with_index index) ts) (slice_set rs (position_or_len (λ t. same_name index.table (name_of t)) ts) new)
  AreOf-with_index (t ∷ ts) (r ∷ rs) are distinct here is =
      here_or_later t ts r rs (position_or_len (λ u. same_name index.table (name_of u)) ts) (same_name index.table (name_of t)) refl are distinct here is
      (AreOf-with_index ts rs are.1 (IsDistinct-tail same_name (name_of t) (map name_of ts) distinct))
  AreOf-with_index [] [] are distinct here is = cc
  AreOf-with_index [] (r ∷ rs) are distinct here is = absurd are
  AreOf-with_index (t ∷ ts) [] are distinct here is = absurd are

-- ---- one index less

module _ (name : List ℕ) where
  kept_or_not : (columns : List Column) (d : IndexDef) (ds : List IndexDef) (x : Index) (xs : List Index) (n : ℕ) (b : Bool) → same_name name d.name ≡ b
      → AreIndexes columns (d ∷ ds) (x ∷ xs) → has_duplicate_indexes (d ∷ ds) ≡ false
      → AreIndexes columns (filter (λ i. not (same_name name i.name)) ds) (remove xs n)
      → AreIndexes columns (cond (not b) (d ∷ filter (λ i. not (same_name name i.name)) ds) (filter (λ i. not (same_name name i.name)) ds))
      (remove (x ∷ xs) (cond (not b) (1 + n) 0))
  kept_or_not columns d ds x xs n true own are none later =
      let free : is_taken name ds ≡ false =
      ap (λ m. is_taken m ds) (same_bytes name d.name own) ∙ (or_parts (is_taken d.name ds) (has_duplicate_indexes ds) none).0 in
      subst (λ is. AreIndexes columns is xs) (sym (all_kept name ds free)) are.1
  kept_or_not columns d ds x xs n false other are none later =
      let next : 1 + n ≡ suc n = omega arith in
      rw (next) (are.0, later)

  AreIndexes-remove : (columns : List Column) (ds : List IndexDef) (xs : List Index) → AreIndexes columns ds xs → has_duplicate_indexes ds ≡ false
      → AreIndexes columns (filter (λ i. not (same_name name i.name)) ds) (remove xs (position_or_len (λ i. same_name name i.name) ds))
  AreIndexes-remove columns [] [] are none = tt
  AreIndexes-remove columns (d ∷ ds) (x ∷ xs) are none =
      kept_or_not columns d ds x xs (position_or_len (λ i. same_name name i.name) ds) (same_name name d.name) refl are none
      (AreIndexes-remove columns ds xs are.1 (or_parts (is_taken d.name ds) (has_duplicate_indexes ds) none).1)
  AreIndexes-remove columns [] (x ∷ xs) are none = absurd are
  AreIndexes-remove columns (d ∷ ds) [] are none = absurd are

  in_front : (xs ys : List IndexDef) → has_duplicate_indexes (xs ++ ys) ≡ false → has_duplicate_indexes xs ≡ false
  in_front [] ys none = refl
  in_front (x ∷ xs) ys none =
      let p = or_parts (is_taken x.name (xs ++ ys)) (has_duplicate_indexes (xs ++ ys)) none in
      or_from _ _ (is_taken-front x.name xs ys p.0) (in_front xs ys p.1)
    where
      is_taken-front : (n : List ℕ) (us vs : List IndexDef) → is_taken n (us ++ vs) ≡ false → is_taken n us ≡ false
      is_taken-front n [] vs free = refl
      is_taken-front n (u ∷ us) vs free =
          let q = or_parts (same_name n u.name) (is_taken n (us ++ vs)) free in or_from _ _ q.0 (is_taken-front n us vs q.1)

  module _ (i : ℕ) (stored : StoredRows) where
    this_or_later : (t : Table) (ts : List Table) (r : StoredRows) (rs : List StoredRows) (n : ℕ) (b : Bool) → is_taken name t.indexes ≡ b
        → AreOf (t ∷ ts) (r ∷ rs) → has_duplicate_indexes (indexes_of (t ∷ ts)) ≡ false → slice_get (r ∷ rs) (cond (not b) (1 + n) 0) ≡ Some stored
        → ((u : Table) → slice_get (t ∷ ts) (cond (not b) (1 + n) 0) ≡ Some u → i ≡ position_or_len (λ d. same_name name d.name) u.indexes)
        → (slice_get rs n ≡ Some stored → ((u : Table) → slice_get ts n ≡ Some u → i ≡ position_or_len (λ d. same_name name d.name) u.indexes)
        → AreOf (map (table_without_index name) ts) (slice_set rs n (record stored { indexes = remove stored.indexes i })))
        → AreOf (table_without_index name t ∷ map (table_without_index name) ts)
        (slice_set (r ∷ rs) (cond (not b) (1 + n) 0) (record stored { indexes = remove stored.indexes i }))
    this_or_later t ts r rs n true own are none here place rest =
        let same : r ≡ stored = cc in
        let is_of : IsOf t stored = subst (IsOf t) same are.0 in (
          record {
            key = is_of.key;
            types = is_of.types;
            indexes = subst (λ k. AreIndexes t.definition.columns (filter (λ d. not (same_name name d.name)) t.indexes) (remove stored.indexes k))
                (sym (place t refl))
                (AreIndexes-remove t.definition.columns t.indexes stored.indexes is_of.indexes (in_front t.indexes (indexes_of ts) none));
          },
          subst (λ us. AreOf us rs) (sym (stay_without name ts (free_behind name t.indexes (indexes_of ts) own none))) are.1,
        )
    this_or_later t ts r rs n false other are none here place rest =
        let next : 1 + n ≡ suc n = omega arith in
        rw (next) (
          subst (λ u. IsOf u r) (sym (stays_without name t other)) are.0,
          rest (rw (next) at here) (λ u there. place u (rw (next) there)),
        )

    -- The index with a name is dropped from the relation of the table that has it.
    pub AreOf-without_index : (ts : List Table) (rs : List StoredRows) → AreOf ts rs → has_duplicate_indexes (indexes_of ts) ≡ false
        → slice_get rs (position_or_len (λ t. is_taken name t.indexes) ts) ≡ Some stored
        → ((u : Table) → slice_get ts (position_or_len (λ t. is_taken name t.indexes) ts) ≡ Some u
        → i ≡ position_or_len (λ d. same_name name d.name) u.indexes)
        → AreOf (map (table_without_index name) ts)
        (slice_set rs (position_or_len (λ t. is_taken name t.indexes) ts) (record stored { indexes = remove stored.indexes i }))
    AreOf-without_index (t ∷ ts) (r ∷ rs) are none here place =
        this_or_later t ts r rs (position_or_len (λ u. is_taken name u.indexes) ts) (is_taken name t.indexes) refl are none here place
        (AreOf-without_index ts rs are.1 (duplicates_behind t.indexes (indexes_of ts) none))
    AreOf-without_index [] [] are none here place = cc
    AreOf-without_index [] (r ∷ rs) are none here place = absurd are
    AreOf-without_index (t ∷ ts) [] are none here place = absurd are
