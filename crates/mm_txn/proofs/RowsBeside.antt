-- A catalog's tables, and their relations.
use Rattle.std.proofs.Common.{◌≡◌, ℕ, zero, suc, ◌+◌, ◌<◌, Bool, true, false, cond, not, List, [], ◌∷◌, ◌++◌, Some, length, map, slice_get, slice_set, refl}
use Rattle.std.proofs.Common.{sym, ap, subst, ◌∙◌, arith}
use Rattle.std.specs.List.{IsDistinct, filter, position_or_len, remove}
use Rattle.std.proofs.lemmas.List.{length-map}
use Rattle.std.proofs.lemmas.Map.Keys.{IsDistinct-tail}
use Rattle.mm_schema.specs.Instance.{rows_named, without_rows}
use Rattle.mm_schema.specs.Name.{same_name}
use Rattle.mm_schema.specs.declared.table.Table.{Table}
use Rattle.mm_schema.proofs.Instances.{AreBeside, LackName, name_of, others_lack}
use Rattle.mm_schema.proofs.Duplicates.{Row}
use Rattle.mm_plan.specs.Kept.{AreIndexes, AreOf, IsOf, instance_of}
use Rattle.mm_indexed.specs.Index.{EachTurns, SameIndex}
use Rattle.mm_indexed.specs.Kept.{StoredRows}
use Rattle.mm_indexed.specs.declared.indexes.index.Index.{Index}
use Rattle.mm_schema.specs.declared.column.Column.{Column}
use Rattle.mm_schema.specs.declared.index.IndexDef.{IndexDef}
use Rattle.mm_indexed.specs.RowLists.{rows_of}
use Rattle.mm_store.specs.Tables.{SameForm}
use Rattle.mm_value.specs.declared.col_type.ColType.{ColType}

-- There are as many relations as tables.
pub as_many_rows : (ts : List Table) (rs : List StoredRows) → AreOf ts rs → length rs ≡ length ts
as_many_rows [] [] are = refl
as_many_rows (t ∷ ts) (r ∷ rs) are = ap (λ n. suc n) (as_many_rows ts rs are.1)
as_many_rows [] (r ∷ rs) are = absurd are
as_many_rows (t ∷ ts) [] are = absurd are

pub are_beside : (ts : List Table) (rs : List StoredRows) → AreOf ts rs → AreBeside ts (instance_of rs)
are_beside [] [] are = tt
are_beside (t ∷ ts) (r ∷ rs) are = are_beside ts rs are.1
are_beside [] (r ∷ rs) are = absurd are
are_beside (t ∷ ts) [] are = absurd are

-- ---- columns

-- the types of columns
abbrev pub types_of : List Column → List ColType
types_of columns = map (λ (c : Column). c.col_type) columns

-- A relation has as many columns as its table.
pub many_columns : (t : Table) (stored : StoredRows) → IsOf t stored → length stored.places.types ≡ length t.definition.columns
many_columns t stored is_of =
    ap (λ (types : List ColType). length types) is_of.types ∙ length-map t.definition.columns (λ (c : Column). c.col_type)

-- ---- at a place

-- The relation at a place is that of the table there, and has its key.
pub record IsBeside (ts : List Table) (place : ℕ) (stored : StoredRows) : Type 0 where
  pub table : Table
  pub is_of : IsOf table stored
  pub there : slice_get ts place ≡ Some table

pub beside : (ts : List Table) (rs : List StoredRows) (place : ℕ) (stored : StoredRows) → AreOf ts rs → slice_get rs place ≡ Some stored
    → IsBeside ts place stored
beside (t ∷ ts) (r ∷ rs) zero stored are h =
    let same : r ≡ stored = cc in
    record { table = t; is_of = subst (IsOf t) same are.0; there = refl }
beside (t ∷ ts) (r ∷ rs) (suc place) stored are h =
    let later = beside ts rs place stored are.1 h in record { table = later.table; is_of = later.is_of; there = later.there }
beside ts [] place stored are h = cc
beside [] (r ∷ rs) place stored are h = absurd are

first_or_later : (b : Bool) (r stored : StoredRows) (rs : List StoredRows) (n : ℕ) (others : List Row)
    → slice_get (r ∷ rs) (cond (not b) (1 + n) 0) ≡ Some stored → (slice_get rs n ≡ Some stored → others ≡ rows_of stored) → cond b (rows_of r) others
    ≡ rows_of stored
first_or_later true r stored rs n others here rest = let same : r ≡ stored = cc in ap rows_of same
first_or_later false r stored rs n others here rest =
    let next : 1 + n ≡ suc n = omega arith in rest (subst (λ k. slice_get (r ∷ rs) k ≡ Some stored) next here)

-- The rows of a name are those at its table's place.
pub rows_at_place : (name : List ℕ) (ts : List Table) (rs : List StoredRows) (stored : StoredRows) → AreOf ts rs
    → slice_get rs (position_or_len (λ t. same_name name (name_of t)) ts) ≡ Some stored → rows_named name ts (instance_of rs) ≡ rows_of stored
rows_at_place name (t ∷ ts) (r ∷ rs) stored are here =
    first_or_later (same_name name (name_of t)) r stored rs (position_or_len (λ u. same_name name (name_of u)) ts) (rows_named name ts (instance_of rs)) here
    (rows_at_place name ts rs stored are.1)
rows_at_place name [] [] stored are here = cc
rows_at_place name [] (r ∷ rs) stored are here = absurd are
rows_at_place name (t ∷ ts) [] stored are here = cc

-- ---- other rows at a place

-- Indexes that keep their columns and kinds are those of the same definitions.
pub AreIndexes-turned : (columns : List Column) (ds : List IndexDef) (xs ys : List Index) → EachTurns SameIndex xs ys → AreIndexes columns ds xs
    → AreIndexes columns ds ys
AreIndexes-turned columns [] [] [] turned are = tt
AreIndexes-turned columns [] [] (y ∷ ys) turned are = absurd (let size = turned.size in omega arith)
AreIndexes-turned columns [] (x ∷ xs) ys turned are = absurd are
AreIndexes-turned columns (d ∷ ds) [] ys turned are = absurd are
AreIndexes-turned columns (d ∷ ds) (x ∷ xs) [] turned are = absurd (let size = turned.size in omega arith)
AreIndexes-turned columns (d ∷ ds) (x ∷ xs) (y ∷ ys) turned are =
    let first : SameIndex x y = turned.each 0 x (omega arith) in
    let later : EachTurns SameIndex xs ys = record { size = (let size = turned.size in omega arith); each = λ k e below. turned.each (suc k) e (omega arith) }
    in (
      record { column = are.0.column ∙ ap (λ c. Some c) (sym first.0); kind = first.1 ∙ are.0.kind },
      AreIndexes-turned columns ds xs ys later are.1,
    )

-- Relations that keep their columns, keys and indexes are those of the same tables.
pub AreOf-formed : (ts : List Table) (rs new : List StoredRows) → EachTurns SameForm rs new → AreOf ts rs → AreOf ts new
AreOf-formed [] [] [] formed are = tt
AreOf-formed [] [] (n ∷ ns) formed are = absurd (let size = formed.size in omega arith)
AreOf-formed [] (r ∷ rs) new formed are = absurd are
AreOf-formed (t ∷ ts) [] new formed are = absurd are
AreOf-formed (t ∷ ts) (r ∷ rs) [] formed are = absurd (let size = formed.size in omega arith)
AreOf-formed (t ∷ ts) (r ∷ rs) (n ∷ ns) formed are =
    let first : SameForm r n = formed.each 0 r (omega arith) in
    let later : EachTurns SameForm rs ns = record { size = (let size = formed.size in omega arith); each = λ k e below. formed.each (suc k) e (omega arith) }
    in (
      record {
        key = first.key ∙ are.0.key;
        types = first.types ∙ are.0.types;
        indexes = AreIndexes-turned t.definition.columns t.indexes r.indexes n.indexes first.indexes are.0.indexes;
      },
      AreOf-formed ts rs ns later are.1,
    )

-- If one relation keeps its rows, all rows are the same.
pub instance_of-set : (rs : List StoredRows) (place : ℕ) (old new : StoredRows) → slice_get rs place ≡ Some old → rows_of new ≡ rows_of old
    → instance_of (slice_set rs place new) ≡ instance_of rs
instance_of-set [] place old new h same = cc
instance_of-set (r ∷ rs) zero old new h same =
    let was : r ≡ old = cc in
    λ i. (same ∙ sym (ap rows_of was)) i ∷ instance_of rs
instance_of-set (r ∷ rs) (suc place) old new h same = ap (λ others. rows_of r ∷ others) (instance_of-set rs place old new h same)

-- ---- one more table

-- A new table's rows are the last.
pub AreOf-push : (ts : List Table) (rs : List StoredRows) (table : Table) (stored : StoredRows) → IsOf table stored → AreOf ts rs
    → AreOf (ts ++ table ∷ []) (rs ++ stored ∷ [])
AreOf-push [] [] table stored is_of are = (is_of, tt)
AreOf-push (t ∷ ts) (r ∷ rs) table stored is_of are = (are.0, AreOf-push ts rs table stored is_of are.1)
AreOf-push [] (r ∷ rs) table stored is_of are = absurd are
AreOf-push (t ∷ ts) [] table stored is_of are = absurd are

-- ---- a dropped table

module _ (name : List ℕ) where
  -- Tables with other names keep their rows, ..
  others_stay : (ts : List Table) (rs : List StoredRows) → AreOf ts rs → LackName name ts
      → (without_rows name ts (instance_of rs) ≡ instance_of rs) × AreOf (filter (λ t. not (same_name name (name_of t))) ts) rs
  others_stay [] [] are lack = (refl, tt)
  others_stay (t ∷ ts) (r ∷ rs) are lack =
      let later = others_stay ts rs are.1 lack.1 in
      rw (lack.0) (ap (λ others. rows_of r ∷ others) later.0, (are.0, later.1))
  others_stay [] (r ∷ rs) are lack = absurd are
  others_stay (t ∷ ts) [] are lack = absurd are

  one_less : (t : Table) (ts : List Table) (r : StoredRows) (rs : List StoredRows) (n : ℕ) (b : Bool) → same_name name (name_of t) ≡ b
      → AreOf (t ∷ ts) (r ∷ rs) → IsDistinct same_name (map name_of (t ∷ ts)) → cond (not b) (1 + n) 0 < length (r ∷ rs)
      → (n < length rs → (without_rows name ts (instance_of rs) ≡ instance_of (remove rs n))
      × AreOf (filter (λ u. not (same_name name (name_of u))) ts) (remove rs n))
      → (cond b (without_rows name ts (instance_of rs)) (rows_of r ∷ without_rows name ts (instance_of rs))
      ≡ instance_of (remove (r ∷ rs) (cond (not b) (1 + n) 0)))
      × AreOf (cond (not b) (t ∷ filter (λ u. not (same_name name (name_of u))) ts) (filter (λ u. not (same_name name (name_of u))) ts))
      (remove (r ∷ rs) (cond (not b) (1 + n) 0))
  one_less t ts r rs n true own are distinct within rest = others_stay ts rs are.1 (others_lack name t ts own distinct)
  one_less t ts r rs n false other are distinct within rest =
      let later = rest (omega arith) in
      let next : 1 + n ≡ suc n = omega arith in
      rw (next) (ap (λ others. rows_of r ∷ others) later.0, (are.0, later.1))

  -- .. and the table with the name is dropped with its own.
  pub dropped_at_place : (ts : List Table) (rs : List StoredRows) → AreOf ts rs → IsDistinct same_name (map name_of ts)
      → position_or_len (λ t. same_name name (name_of t)) ts < length rs
      → (without_rows name ts (instance_of rs) ≡ instance_of (remove rs (position_or_len (λ t. same_name name (name_of t)) ts)))
      × AreOf (filter (λ t. not (same_name name (name_of t))) ts) (remove rs (position_or_len (λ t. same_name name (name_of t)) ts))
  dropped_at_place (t ∷ ts) (r ∷ rs) are distinct within =
      one_less t ts r rs (position_or_len (λ u. same_name name (name_of u)) ts) (same_name name (name_of t)) refl are distinct within
      (dropped_at_place ts rs are.1 (IsDistinct-tail same_name (name_of t) (map name_of ts) distinct))
  dropped_at_place [] [] are distinct within = absurd (omega arith)
  dropped_at_place [] (r ∷ rs) are distinct within = absurd are
  dropped_at_place (t ∷ ts) [] are distinct within = absurd are
