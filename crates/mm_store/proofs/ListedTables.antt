-- The tables of a store and the rows of base tables.
use Rattle.std.proofs.Common.{◌≡◌, ◌≢◌, ℕ, zero, suc, ◌<◌, ◌≤◌, ⊎_elim, List, [], ◌∷◌, ◌++◌, Option, Some, length, map, get_or, set, refl, sym, ap, ap₂}
use Rattle.std.proofs.Common.{◌∙◌, subst, arith}
use Rattle.std.specs.Prelude.{◌==◌, ◌&&◌, remove, slice_get}
use Rattle.std.specs.List.{All, list_any}
use Rattle.std.specs.Option.{option_map_or}
use Rattle.std.proofs.lemmas.Bool.{cases_eq}
use Rattle.std.proofs.lemmas.List.{get_or-map, get_or-set_other, get_or-set_same, get_or_default, length-map, length-set, map-append, same_lists}
use Rattle.std.proofs.Math.Seq.{get_or-append_seam}
use Rattle.std.proofs.lemmas.Option.{get_or_from_slice_get, slice_get-get_or, slice_get_within}
use Rattle.mm_base.specs.Bases.{AreLawful, Base, references_of, rows_now, rows_of_state}
use Rattle.mm_base.specs.Joined.{types_at}
use Rattle.mm_base.specs.Orphans as base
use Rattle.mm_base.proofs.InBases.{read_key, read_slots, read_types}
use Rattle.mm_base.proofs.Keeping.{keys_size}
use Rattle.mm_indexed.specs.Index.{AddsIndex, EachTurns, SameIndex, column_of, kind_of}
use Rattle.mm_indexed.specs.Kept.{StoredRows}
use Rattle.mm_indexed.specs.RowLists.{rows_of}
use Rattle.mm_indexed.specs.declared.indexes.index.Index.{Index}
use Rattle.mm_partition.specs.Places.{slot_at}
use Rattle.mm_row_order.specs.Refs.{Slots}
use Rattle.mm_schema.specs.References.{lacks_target_row, lose_targets}
use Rattle.mm_schema.specs.Rows.{Pair}
use Rattle.mm_schema.specs.declared.index.IndexKind.{IndexKind}
use Rattle.mm_schema.specs.declared.reference.Reference.{Reference}
use Rattle.mm_store.specs.Marks.{KeepsMarks}
use Rattle.mm_store.specs.Spares.{HasFewSpares}
use Rattle.mm_store.specs.Tables.{HasRows, IsAt, KeepsRows, SameForm, has_orphans, key_at, makes_orphans, rows_at, tables_of}
use Rattle.mm_store.proofs.RowsAt.{rows_at-now}
use Rattle.mm_store.proofs.Joining.{some_at}
use Rattle.mm_tables.specs.Tables.{HoldsAt, KeepsOthers, Shape, at_mark, key_in, keys_of, shape_of, slots_in, slots_of, state_of}
use Rattle.mm_tables.specs.Tables as tables
use Rattle.mm_tables.specs.declared.logged_table.LoggedTable.{LoggedTable}
use Rattle.mm_tables.proofs.InTables.{size_from_shapes}
use Rattle.mm_value.specs.declared.values.Value.{Value}

abbrev pub rows_in_table : LoggedTable → StoredRows
rows_in_table t = t.rows

-- ---- the table at a place

pub length-tables : (b : Base) → length (tables_of b).tables ≡ length b.stored.tables
length-tables b = length-map b.stored.tables rows_in_table

-- a table is at each place
pub at_place : (b : Base) (t : ℕ) (d : LoggedTable) → t < length b.stored.tables → IsAt (tables_of b) t (get_or b.stored.tables t d).rows
at_place b t d within =
    slice_get-get_or (tables_of b).tables t d.rows (omega (arith, within, length-tables b))
    ∙ ap (λ (rows : StoredRows). Some rows) (get_or-map rows_in_table b.stored.tables t d d.rows within)

pub table_there : (b : Base) (t : ℕ) → t < length b.stored.tables → (stored : StoredRows) × IsAt (tables_of b) t stored
table_there b t within = some_at (tables_of b).tables t (omega (arith, within, length-tables b))

module _ (b : Base) (t : ℕ) (stored : StoredRows) (at : IsAt (tables_of b) t stored) where
  pub within_at : t < length b.stored.tables
  within_at = omega (arith, slice_get_within (tables_of b).tables t stored at, length-tables b)

  pub read_at : (d : LoggedTable) → (get_or b.stored.tables t d).rows ≡ stored
  read_at d =
      sym (get_or-map rows_in_table b.stored.tables t d d.rows within_at) ∙ get_or_from_slice_get (tables_of b).tables t stored d.rows at

  holds_at : HoldsAt (λ x. stored ≡ x.rows) b.stored.tables t
  holds_at d = sym (read_at d)

  pub slots_at : slot_at stored.places ≡ slots_in b.stored.tables t
  slots_at = read_slots b.stored.tables t stored within_at holds_at

  pub key_there : stored.key ≡ key_in b.stored.tables t
  key_there = read_key b.stored.tables t stored within_at holds_at

  pub types_there : stored.places.types ≡ types_at (map shape_of b.stored.tables) t
  types_there = read_types b.stored.tables t stored within_at holds_at

-- ---- the rows of all tables

-- the rows of each table are those of its slots
abbrev pub IsListed : Base → Type 0
IsListed b = map rows_of (tables_of b).tables ≡ rows_now b.stored

rows_of_state-size : (keys : List ℕ) (state : List Slots) → length keys ≡ length state → length (rows_of_state keys state) ≡ length state
rows_of_state-size [] [] same = refl
rows_of_state-size [] (s ∷ ss) same = absurd (omega (arith, same))
rows_of_state-size (k ∷ ks) [] same = absurd (omega (arith, same))
rows_of_state-size (k ∷ ks) (s ∷ ss) same = omega (arith, rows_of_state-size ks ss (omega (arith, same)))

pub rows_now-size : (b : Base) → length (rows_now b.stored) ≡ length b.stored.tables
rows_now-size b =
    rows_of_state-size (keys_of b.stored.tables) (state_of b.stored.tables) (keys_size b.stored.tables) ∙ length-map b.stored.tables slots_of

get_none : {X Y : Type 0} (f : X → List Y) (xs : List X) (t : ℕ) → get_or (map f xs) t [] ≡ option_map_or f (slice_get xs t) []
get_none f [] t = refl
get_none f (x ∷ xs) zero = refl
get_none f (x ∷ xs) (suc t) = get_none f xs t

get_zero : {X : Type 0} (f : X → ℕ) (xs : List X) (t : ℕ) → get_or (map f xs) t 0 ≡ option_map_or f (slice_get xs t) 0
get_zero f [] t = refl
get_zero f (x ∷ xs) zero = refl
get_zero f (x ∷ xs) (suc t) = get_zero f xs t

keys_listed : (tables : List LoggedTable) → keys_of tables ≡ map (λ (rows : StoredRows). rows.key) (map rows_in_table tables)
keys_listed [] = refl
keys_listed (x ∷ xs) = ap (λ (keys : List ℕ). x.rows.key ∷ keys) (keys_listed xs)

pub key_at-place : (b : Base) (t : ℕ) → key_at (tables_of b).tables t ≡ key_in b.stored.tables t
key_at-place b t =
    sym (get_zero (λ (rows : StoredRows). rows.key) (tables_of b).tables t) ∙ sym (ap (λ (keys : List ℕ). get_or keys t 0) (keys_listed b.stored.tables))

module _ (b : Base) (listed : IsListed b) where
  pub rows_at-place : (t : ℕ) → rows_at (tables_of b).tables t ≡ base.rows_at b.stored.tables t
  rows_at-place t =
      sym (get_none rows_of (tables_of b).tables t)
      ∙ (ap (λ (all : List (List (List Value))). get_or all t []) listed ∙ sym (rows_at-now b t))

  pub has_orphans-place : (t : ℕ) (rows : List (List Value))
      → has_orphans (tables_of b) t rows ≡ base.has_orphans b.stored.tables (references_of b.links) t rows
  has_orphans-place t rows = λ i.
      list_any
      (λ (r : Reference). (r.from == t) && list_any (lacks_target_row r.column (key_at-place b r.to i) (rows_at-place r.to i)) rows)
      (references_of b.links)

  pub makes_orphans-place : (t : ℕ) (pairs : List Pair)
      → makes_orphans (tables_of b) t (key_in b.stored.tables t) pairs ≡ base.makes_orphans b.stored.tables (references_of b.links) t pairs
  makes_orphans-place t pairs = λ i.
      list_any (λ (r : Reference). (r.to == t) && lose_targets r.column (key_in b.stored.tables t) (rows_at-place r.from i) pairs) (references_of b.links)

  module _ (t : ℕ) (stored : StoredRows) (at : IsAt (tables_of b) t stored) where
    pub rows_there : rows_of stored ≡ base.rows_at b.stored.tables t
    rows_there = ap (λ (o : Option StoredRows). option_map_or rows_of o []) (sym at) ∙ rows_at-place t

-- ---- a table is added

last_same : {X : Type 0} (xs ys : List X) (a b : X) → length xs ≡ length ys → xs ++ a ∷ [] ≡ ys ++ b ∷ [] → a ≡ b
last_same {X} xs ys a b size same =
    sym (get_or-append_seam xs a [] a)
    ∙ (ap (λ (l : List X). get_or l (length xs) a) same
    ∙ (ap (λ (n : ℕ). get_or (ys ++ b ∷ []) n a) size ∙ get_or-append_seam ys b [] a))

pub added_empty : (old new : Base) (x : LoggedTable) → new.stored.tables ≡ old.stored.tables ++ x ∷ [] → IsListed new
    → rows_now new.stored ≡ rows_now old.stored ++ [] ∷ [] → rows_of x.rows ≡ []
added_empty old new x added listed rows =
    let front : List (List (List Value)) = map rows_of (tables_of old).tables in
    let all : map rows_of (tables_of new).tables ≡ front ++ rows_of x.rows ∷ [] =
    ap (λ (tables : List LoggedTable). map rows_of (map rows_in_table tables)) added
    ∙ (ap (map rows_of) (map-append rows_in_table old.stored.tables (x ∷ []))
    ∙ map-append rows_of (tables_of old).tables (x.rows ∷ [])) in
    last_same front (rows_now old.stored) (rows_of x.rows) []
    (length-map (tables_of old).tables rows_of ∙ (length-tables old ∙ sym (rows_now-size old))) (sym all ∙ (listed ∙ rows))

-- ---- lists under a function

pub All-unmap : {X Y : Type 0} (f : X → Y) (P : Y → Type 0) (xs : List X) → All P (map f xs) → All (λ x. P (f x)) xs
All-unmap f P xs all k d within = subst P (get_or-map f xs k d (f d) within) (all k (f d) (omega (arith, within, length-map xs f)))

-- ---- tables of the same form

abbrev kind_at : Index → ℕ × IndexKind
kind_at x = (column_of x, kind_of x)

pub none_if_map : (xs : List Index) → map kind_at xs ≡ [] → xs ≡ []
none_if_map [] none = refl
none_if_map (x ∷ xs) none = let no : ⊥ = cc in absurd no

indexes_same : (old new : List Index) → map kind_at new ≡ map kind_at old → EachTurns SameIndex old new
indexes_same old new same =
    let size : length new ≡ length old =
    sym (length-map new kind_at) ∙ (ap (λ (xs : List (ℕ × IndexKind)). length xs) same ∙ length-map old kind_at) in
    record {
      size = size;
      each = λ k d within.
          let both : kind_at (get_or new k d) ≡ kind_at (get_or old k d) =
          sym (get_or-map kind_at new k d (kind_at d) (omega (arith, within, size)))
          ∙ (ap (λ (xs : List (ℕ × IndexKind)). get_or xs k (kind_at d)) same ∙ get_or-map kind_at old k d (kind_at d) within) in
          (ap (λ (p : ℕ × IndexKind). p.0) both, ap (λ (p : ℕ × IndexKind). p.1) both);
    }

form_same : (old new : LoggedTable) → shape_of new ≡ shape_of old → SameForm old.rows new.rows
form_same old new same = record {
  types = ap (λ (s : Shape). s.types) same;
  key = ap (λ (s : Shape). s.key) same;
  indexes = indexes_same old.rows.indexes new.rows.indexes (ap (λ (s : Shape). s.indexes) same);
}

form_at : (old new : LoggedTable) (x y : StoredRows) → shape_of new ≡ shape_of old → old.rows ≡ x → new.rows ≡ y → SameForm x y
form_at old new x y same was is =
    subst (SameForm x) is (subst (λ (s : StoredRows). SameForm s new.rows) was (form_same old new same))

module _ (old new : Base) (shapes : map shape_of new.stored.tables ≡ map shape_of old.stored.tables) where
  size : length new.stored.tables ≡ length old.stored.tables
  size = size_from_shapes old.stored.tables new.stored.tables shapes

  shape_at : (k : ℕ) (d : LoggedTable) → k < length old.stored.tables → shape_of (get_or new.stored.tables k d) ≡ shape_of (get_or old.stored.tables k d)
  shape_at k d within =
      sym (get_or-map shape_of new.stored.tables k d (shape_of d) (omega (arith, within, size)))
      ∙ (ap (λ (xs : List Shape). get_or xs k (shape_of d)) shapes ∙ get_or-map shape_of old.stored.tables k d (shape_of d) within)

  pub forms_from_shapes : EachTurns SameForm (tables_of old).tables (tables_of new).tables
  forms_from_shapes = record {
    size = length-tables new ∙ (size ∙ sym (length-tables old));
    each = λ k d within.
        let inside : k < length old.stored.tables = omega (arith, within, length-tables old) in
        let e : LoggedTable = record { rows = d; owed = record { key = 0; indexes = 0 } } in
        form_at (get_or old.stored.tables k e) (get_or new.stored.tables k e) (get_or (tables_of old).tables k d) (get_or (tables_of new).tables k d)
        (shape_at k e inside) (sym (get_or-map rows_in_table old.stored.tables k e d inside))
        (sym (get_or-map rows_in_table new.stored.tables k e d (omega (arith, inside, size))));
  }

  -- the same rows
  pub rows_kept : map rows_of (tables_of new).tables ≡ map rows_of (tables_of old).tables → KeepsRows (tables_of old) (tables_of new)
  rows_kept same = record {
    size = forms_from_shapes.size;
    each = λ k d within.
        let form : SameForm (get_or (tables_of old).tables k d) (get_or (tables_of new).tables k d) = forms_from_shapes.each k d within in
        record {
          rows_are =
              sym (get_or-map rows_of (tables_of new).tables k d (rows_of d) (omega (arith, within, forms_from_shapes.size)))
              ∙ (ap (λ (all : List (List (List Value))). get_or all k (rows_of d)) same
              ∙ get_or-map rows_of (tables_of old).tables k d (rows_of d) within);
          types = form.types;
          key = form.key;
          indexes = form.indexes;
        };
  }

-- ---- one table is replaced

module _ (old new : Base) (size : length new.stored.tables ≡ length old.stored.tables) (t : ℕ) (stored : StoredRows) (at : IsAt (tables_of old) t stored)
    (others : KeepsOthers t old.stored.tables new.stored.tables) where
  abbrev d : LoggedTable
  d = record { rows = stored; owed = record { key = 0; indexes = 0 } }

  abbrev pub turned : StoredRows
  turned = (get_or new.stored.tables t d).rows

  same_at : (k : ℕ) (x : StoredRows) → k < length (tables_of new).tables → get_or (tables_of new).tables k x ≡ get_or (set (tables_of old).tables t turned) k x
  same_at k x within =
      let e : LoggedTable = record { rows = x; owed = record { key = 0; indexes = 0 } } in
      let there : k < length new.stored.tables = omega (arith, within, length-tables new) in
      let inside : k < length old.stored.tables = omega (arith, there, size) in
      let tables : List StoredRows = (tables_of old).tables in
      ⊎_elim
      (λ (here : k ≡ t).
      get_or-map rows_in_table new.stored.tables k e x there
      ∙ (ap (λ (y : LoggedTable). y.rows) (get_or_default new.stored.tables k e d there)
      ∙ (ap (λ (n : ℕ). (get_or new.stored.tables n d).rows) here
      ∙ sym (ap (λ (n : ℕ). get_or (set tables t turned) n x) here
      ∙ get_or-set_same tables t turned x (omega (arith, inside, here, length-tables old))))))
      (λ (apart : k ≢ t).
      get_or-map rows_in_table new.stored.tables k e x there
      ∙ (ap (λ (y : LoggedTable). y.rows) (others k e apart)
      ∙ (sym (get_or-map rows_in_table old.stored.tables k e x inside) ∙ sym (get_or-set_other tables t k turned x apart))))
      (cases_eq k t)

  pub turns : (tables_of new).tables ≡ set (tables_of old).tables t turned
  turns =
      same_lists (tables_of new).tables (set (tables_of old).tables t turned)
      (length-tables new ∙ (size ∙ (sym (length-tables old) ∙ sym (length-set (tables_of old).tables t turned)))) same_at

  pub turned_at : IsAt (tables_of new) t turned
  turned_at = at_place new t d (omega (arith, within_at old t stored at, size))

  -- an index is added or dropped
  pub index_added : (column : ℕ) (kind : IndexKind)
      → ((x : LoggedTable) → tables.IndexAdded column kind (get_or old.stored.tables t x) (get_or new.stored.tables t x))
      → (turned ≡ record stored { indexes = turned.indexes }) × AddsIndex column kind stored.indexes turned.indexes
  index_added column kind added = (
    ap (λ (x : LoggedTable). x.rows) (added d).rest
        ∙ ap (λ (rows : StoredRows). record rows { indexes = turned.indexes }) (read_at old t stored at d),
    subst (λ (rows : StoredRows). AddsIndex column kind rows.indexes turned.indexes) (read_at old t stored at d) (added d).added,
  )

  pub index_dropped : (index : ℕ)
      → ((x : LoggedTable) → get_or new.stored.tables t x ≡ tables.without_index index (get_or old.stored.tables t x))
      → turned ≡ record stored { indexes = remove stored.indexes index }
  index_dropped index dropped =
      ap (λ (x : LoggedTable). x.rows) (dropped d)
      ∙ ap (λ (rows : StoredRows). record rows { indexes = remove rows.indexes index }) (read_at old t stored at d)

  pub turned_form : map shape_of new.stored.tables ≡ map shape_of old.stored.tables → SameForm stored turned
  turned_form shapes =
      form_at (get_or old.stored.tables t d) (get_or new.stored.tables t d) stored turned (shape_at old new shapes t d (within_at old t stored at))
      (read_at old t stored at d) refl

  -- the table has other rows
  pub has_rows : (rows : List (List Value)) → map shape_of new.stored.tables ≡ map shape_of old.stored.tables → IsListed new
      → rows_now new.stored ≡ set (rows_now old.stored) t rows → HasRows stored rows turned
  has_rows rows shapes listed made =
      let form : SameForm stored turned = turned_form shapes in
      let sized : length (rows_now old.stored) ≡ length old.stored.tables = rows_now-size old in
      record {
        rows_are =
            rows_there new listed t turned turned_at
            ∙ (rows_at-now new t
            ∙ (ap (λ (all : List (List (List Value))). get_or all t []) made
            ∙ get_or-set_same (rows_now old.stored) t rows [] (omega (arith, sized, within_at old t stored at))));
        types = form.types;
        key = form.key;
        indexes = form.indexes;
      }

-- ---- spare nodes

pub few_there : (b : Base) (t n : ℕ) (stored : StoredRows) → IsAt (tables_of b) t stored → HoldsAt (tables.HasFewSpares n) b.stored.tables t
    → HasFewSpares n stored
few_there b t n stored at few =
    let d : LoggedTable = record { rows = stored; owed = record { key = 0; indexes = 0 } } in
    let here = few d in
    subst (HasFewSpares n) (read_at b t stored at d) (record { key = here.key; each = here.each })

-- ---- the same state

pub size_from_state : (old new : Base) → state_of new.stored.tables ≡ state_of old.stored.tables → length new.stored.tables ≡ length old.stored.tables
size_from_state old new same =
    sym (length-map new.stored.tables slots_of) ∙ (ap (λ (s : List Slots). length s) same ∙ length-map old.stored.tables slots_of)

-- ---- marks

pub marks_kept : (old new : Base) (mark : ℕ) → keys_of new.stored.tables ≡ keys_of old.stored.tables → at_mark new.stored mark ≡ at_mark old.stored mark
    → (mark ≤ length old.stored.log → mark ≤ length new.stored.log) → KeepsMarks (tables_of old) (tables_of new) mark
marks_kept old new mark keys same longer = record {
  kept = λ is. record {
    within = longer is.within;
    lawful = subst (λ (ks : List ℕ). AreLawful ks (at_mark new.stored mark)) (sym keys)
        (subst (AreLawful (keys_of old.stored.tables)) (sym same) is.lawful);
  };
  rows = ap₂ rows_of_state keys same;
}
