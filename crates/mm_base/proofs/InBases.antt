-- The rows of all tables, when one table changes, is added or is dropped.
use Rattle.std.proofs.Common.{◌≡◌, ℕ, ◌+◌, ◌<◌, ◌≤◌, ⊎_elim, List, [], ◌∷◌, ◌++◌, length, map, drop, get_or, set, sym, ap, ap₂, ◌∙◌, subst, arith}
use Rattle.std.specs.Prelude.{remove, Result, Ok, Err, OnOk, OnErr}
use Rattle.std.proofs.lemmas.Bool.{cases_lt}
use Rattle.std.proofs.lemmas.List.{drop_all, get_or-map, get_or_append_left, get_or_default, length-append, length-map, map-append, set-get_or}
use Rattle.std.proofs.lemmas.List.Edits.{length-remove, get_or-remove_below, get_or-remove_above}
use Rattle.std.proofs.Math.Seq.{get_or-append_seam}
use Rattle.mm_value.specs.declared.col_type.ColType.{ColType}
use Rattle.mm_value.specs.declared.row_ref.RowRef.{RowRef}
use Rattle.mm_value.specs.declared.values.Value.{Value}
use Rattle.mm_partition.specs.Places.{Free, Hidden, extent_of, slot_at}
use Rattle.mm_row_order.specs.Refs.{Slots, HasRow}
use Rattle.mm_indexed.specs.Kept.{StoredRows}
use Rattle.mm_indexed.specs.RowLists.{rows_of}
use Rattle.mm_indexed.specs.Twins.{AreApart}
use Rattle.mm_tables.specs.Commands.{after, IsCommand}
use Rattle.mm_tables.specs.Edits.{put}
use Rattle.mm_tables.specs.Log.{before}
use Rattle.mm_tables.specs.Tables.{AddsTable, HoldsAt, Shape, Stored, at_mark, back, extent_in, no_slots, slots_of, shape_of, state_of}
use Rattle.mm_tables.specs.Tables.{slots_in, keys_of, key_in}
use Rattle.mm_tables.specs.declared.edit.Edit.{Edit}
use Rattle.mm_tables.specs.declared.log_record.LogRecord.{LogRecord}
use Rattle.mm_tables.specs.declared.logged_table.LoggedTable.{LoggedTable}
use Rattle.mm_tables.proofs.InTables.{extent_read, key_read, size_from_shapes, slots_read}
use Rattle.mm_base.specs.Bases.{IsLawful, IsWhole, AreLawful, rows_at_mark, rows_of_state}
use Rattle.mm_base.specs.EditPairs.{rows_with}
use Rattle.mm_base.specs.Joined.{types_at}
use Rattle.mm_base.specs.RowLists.{rows_in, AreSmall}
use Rattle.mm_base.proofs.Changed.{rows_of-slots, rows_in-after}
use Rattle.mm_base.proofs.Keeping.{SameLive-staged, SameLive-settled, IsLawful-same, IsLawful-none, rows_in-same, rows_in-none}
use Rattle.mm_base.proofs.Keeping.{AreLawful-set, rows_of_state-set, rows_of_state-same, rows_of_state-push, rows_of_state-remove}
use Rattle.mm_base.proofs.Keeping.{keys_from_shapes, keys_size, map_remove}

-- ---- tables of the same keys, with one state, the current one or that at a mark

module _ (old new : List LoggedTable) (keys : keys_of new ≡ keys_of old) (was now : List Slots) (same : now ≡ was) where
  pub lawful_from_keys : AreLawful (keys_of old) was → AreLawful (keys_of new) now
  lawful_from_keys lawful = subst (λ (ks : List ℕ). AreLawful ks now) (sym keys) (subst (AreLawful (keys_of old)) (sym same) lawful)

  pub rows_from_keys : rows_of_state (keys_of new) now ≡ rows_of_state (keys_of old) was
  rows_from_keys = ap₂ rows_of_state keys same

-- ---- tables of the same shapes

module _ (old new : List LoggedTable) (shapes : map shape_of new ≡ map shape_of old) where
  pub lawful_from_state : (state : List Slots) → state_of new ≡ state → AreLawful (keys_of old) state → AreLawful (keys_of new) (state_of new)
  lawful_from_state state = lawful_from_keys old new (keys_from_shapes old new shapes) state (state_of new)

  pub rows_from_state : (state : List Slots) → state_of new ≡ state → rows_of_state (keys_of new) (state_of new) ≡ rows_of_state (keys_of old) state
  rows_from_state state = rows_from_keys old new (keys_from_shapes old new shapes) state (state_of new)

  -- a row was staged
  module _ (t : ℕ) (r : RowRef) (row : List Value) (free : slots_in old t r ≡ Free)
      (staged : state_of new ≡ set (state_of old) t (put r (Hidden row) (slots_in old t))) where
    pub staged_lawful : AreLawful (keys_of old) (state_of old) → AreLawful (keys_of new) (state_of new)
    staged_lawful lawful =
        let now : Slots = put r (Hidden row) (slots_in old t) in
        lawful_from_state (set (state_of old) t now) staged
        (AreLawful-set (keys_of old) (state_of old) t now lawful
        (λ there. IsLawful-same (slots_in old t) now (SameLive-staged (slots_in old t) r row free) (key_in old t) (lawful t there)))

    pub staged_rows : rows_of_state (keys_of new) (state_of new) ≡ rows_of_state (keys_of old) (state_of old)
    staged_rows =
        let was : Slots = slots_in old t in
        let now : Slots = put r (Hidden row) was in
        let rows : List (List (List Value)) = rows_of_state (keys_of old) (state_of old) in
        rows_from_state (set (state_of old) t now) staged
        ∙ (rows_of_state-set (keys_of old) (state_of old) t now
        ∙ (ap (set rows t) (rows_in-same was now (SameLive-staged was r row free) (key_in old t))
        ∙ (sym (rows_of_state-set (keys_of old) (state_of old) t was) ∙ ap (rows_of_state (keys_of old)) (set-get_or (state_of old) t no_slots))))

  -- the edits of a command were made
  module _ (t : ℕ) (edits : List Edit) (made : state_of new ≡ set (state_of old) t (after edits (slots_in old t))) where
    pub made_lawful : AreLawful (keys_of old) (state_of old) → IsLawful (key_in old t) (after edits (slots_in old t))
        → AreLawful (keys_of new) (state_of new)
    made_lawful lawful here =
        lawful_from_state (set (state_of old) t (after edits (slots_in old t))) made
        (AreLawful-set (keys_of old) (state_of old) t (after edits (slots_in old t)) lawful (λ there. here))

    pub made_rows : IsLawful (key_in old t) (slots_in old t) → IsCommand (key_in old t) edits (slots_in old t)
        → AreApart (key_in old t) (after edits (slots_in old t)) → AreSmall (after edits (slots_in old t))
        → rows_of_state (keys_of new) (state_of new)
        ≡ set (rows_of_state (keys_of old) (state_of old)) t (rows_with (key_in old t) (slots_in old t) edits)
    made_rows lawful command apart small =
        rows_from_state (set (state_of old) t (after edits (slots_in old t))) made
        ∙ (rows_of_state-set (keys_of old) (state_of old) t (after edits (slots_in old t))
        ∙ ap (set (rows_of_state (keys_of old) (state_of old)) t)
        (rows_in-after (key_in old t) (slots_in old t) lawful.apart lawful.small edits command apart small))

  -- the transaction has ended
  module _ (live : (t : ℕ) (at : RowRef) → HasRow (slots_in old t) at → slots_in new t at ≡ slots_in old t at)
      (rest : (t : ℕ) (at : RowRef) → (HasRow (slots_in old t) at → ⊥) → slots_in new t at ≡ Free) where
    state_size : length (state_of new) ≡ length (state_of old)
    state_size = length-map new slots_of ∙ (size_from_shapes old new shapes ∙ sym (length-map old slots_of))

    pub settled_lawful : AreLawful (keys_of old) (state_of old) → AreLawful (keys_of new) (state_of new)
    settled_lawful lawful t within =
        subst (λ (keys : List ℕ). IsLawful (get_or keys t 0) (slots_in new t)) (sym (keys_from_shapes old new shapes))
        (IsLawful-same (slots_in old t) (slots_in new t) (SameLive-settled (slots_in old t) (slots_in new t) (live t) (rest t)) (key_in old t)
        (lawful t (omega (arith, within, state_size))))

    pub settled_rows : rows_of_state (keys_of new) (state_of new) ≡ rows_of_state (keys_of old) (state_of old)
    settled_rows =
        ap (λ (keys : List ℕ). rows_of_state keys (state_of new)) (keys_from_shapes old new shapes)
        ∙ rows_of_state-same (keys_of old) (state_of old) (state_of new) state_size
        (λ t within. rows_in-same (slots_in old t) (slots_in new t) (SameLive-settled (slots_in old t) (slots_in new t) (live t) (rest t)) (key_in old t))

-- ---- savepoints

-- If the state at a mark and the shapes of the tables stay, so do the rows at the mark, and they remain lawful.
module _ (old new : Stored) (mark : ℕ) (shapes : map shape_of new.tables ≡ map shape_of old.tables) (same : at_mark new mark ≡ at_mark old mark) where
  pub rows_at_mark-kept : rows_at_mark new mark ≡ rows_at_mark old mark
  rows_at_mark-kept = rows_from_keys old.tables new.tables (keys_from_shapes old.tables new.tables shapes) (at_mark old mark) (at_mark new mark) same

  pub lawful_at_mark-kept : AreLawful (keys_of old.tables) (at_mark old mark) → AreLawful (keys_of new.tables) (at_mark new mark)
  lawful_at_mark-kept =
      lawful_from_keys old.tables new.tables (keys_from_shapes old.tables new.tables shapes) (at_mark old mark) (at_mark new mark) same

-- The log is empty: the state at each mark is the current one.
at_mark-empty : (s : Stored) (mark : ℕ) → s.log ≡ [] → at_mark s mark ≡ state_of s.tables
at_mark-empty s mark empty =
    ap (λ (rs : List LogRecord). before back (drop mark rs) (state_of s.tables)) empty
    ∙ ap (λ (rs : List LogRecord). before back rs (state_of s.tables)) (drop_all mark [] (omega arith))

pub lawful_at_mark-empty : (s : Stored) (mark : ℕ) → s.log ≡ [] → AreLawful (keys_of s.tables) (state_of s.tables)
    → AreLawful (keys_of s.tables) (at_mark s mark)
lawful_at_mark-empty s mark empty = subst (AreLawful (keys_of s.tables)) (sym (at_mark-empty s mark empty))

-- ---- a table is added

module _ (keys : List ℕ) (state : List Slots) (size : length keys ≡ length state) where
  AreLawful-push : (key : ℕ) (now : Slots) → AreLawful keys state → IsLawful key now → AreLawful (keys ++ key ∷ []) (state ++ now ∷ [])
  AreLawful-push key now lawful here t within =
      ⊎_elim
      (λ (low : t < length state).
      subst (λ (k : ℕ). IsLawful k (get_or (state ++ now ∷ []) t no_slots)) (sym (get_or_append_left keys (key ∷ []) 0 t (omega (arith, low, size))))
      (subst (IsLawful (get_or keys t 0)) (sym (get_or_append_left state (now ∷ []) no_slots t low)) (lawful t low)))
      (λ (high : length state ≤ t).
      let last : t ≡ length state = omega (arith, high, within, length-append state (now ∷ [])) in
      subst (λ (k : ℕ). IsLawful k (get_or (state ++ now ∷ []) t no_slots))
      (sym (ap (λ (n : ℕ). get_or (keys ++ key ∷ []) n 0) (last ∙ sym size) ∙ get_or-append_seam keys key [] 0))
      (subst (IsLawful key) (sym (ap (λ (n : ℕ). get_or (state ++ now ∷ []) n no_slots) last ∙ get_or-append_seam state now [] no_slots)) here))
      (cases_lt t (length state))

  AreLawful-remove : (i : ℕ) → i < length state → AreLawful keys state → AreLawful (remove keys i) (remove state i)
  AreLawful-remove i there lawful t within =
      let less : length (remove state i) + 1 ≡ length state = length-remove state i there in
      let key_there : i < length keys = omega (arith, there, size) in
      ⊎_elim
      (λ (low : t < i).
      subst (λ (k : ℕ). IsLawful k (get_or (remove state i) t no_slots)) (sym (get_or-remove_below keys i 0 t low key_there))
      (subst (IsLawful (get_or keys t 0)) (sym (get_or-remove_below state i no_slots t low there)) (lawful t (omega (arith, low, there)))))
      (λ (high : i ≤ t).
      subst (λ (k : ℕ). IsLawful k (get_or (remove state i) t no_slots)) (sym (get_or-remove_above keys i 0 t high key_there))
      (subst (IsLawful (get_or keys (t + 1) 0)) (sym (get_or-remove_above state i no_slots t high there)) (lawful (t + 1) (omega (arith, within, less)))))
      (cases_lt t i)

module _ (key : ℕ) (types : List ColType) (old new : List LoggedTable) (adds : AddsTable key types old new) where
  keys_added : keys_of new ≡ keys_of old ++ key ∷ []
  keys_added =
      ap keys_of adds.added
      ∙ (ap (map (λ (x : Shape). x.key)) (map-append shape_of old (adds.table ∷ []))
      ∙ (map-append (λ (x : Shape). x.key) (map shape_of old) (shape_of adds.table ∷ [])
      ∙ ap (λ (x : Shape). keys_of old ++ x.key ∷ []) adds.shape))

  state_added : state_of new ≡ state_of old ++ no_slots ∷ []
  state_added =
      ap state_of adds.added ∙ (map-append slots_of old (adds.table ∷ []) ∙ ap (λ (s : Slots). state_of old ++ s ∷ []) adds.empty)

  pub added_lawful : AreLawful (keys_of old) (state_of old) → AreLawful (keys_of new) (state_of new)
  added_lawful lawful =
      subst (λ (keys : List ℕ). AreLawful keys (state_of new)) (sym keys_added)
      (subst (AreLawful (keys_of old ++ key ∷ [])) (sym state_added)
      (AreLawful-push (keys_of old) (state_of old) (keys_size old) key no_slots lawful (IsLawful-none key)))

  pub added_rows : rows_of_state (keys_of new) (state_of new) ≡ rows_of_state (keys_of old) (state_of old) ++ [] ∷ []
  added_rows =
      ap₂ rows_of_state keys_added state_added
      ∙ (rows_of_state-push (keys_of old) (state_of old) key no_slots (keys_size old)
      ∙ ap (λ (rows : List (List Value)). rows_of_state (keys_of old) (state_of old) ++ rows ∷ []) (rows_in-none key))

-- the table is added, or nothing changes
pub added_or_not : {T E : Type 0} (result : Result T E) (key : ℕ) (types : List ColType) (old new : Stored)
    → OnOk result (AddsTable key types old.tables new.tables) → OnErr result (new ≡ old) → AreLawful (keys_of old.tables) (state_of old.tables)
    → AreLawful (keys_of new.tables) (state_of new.tables)
added_or_not (Ok done) key types old new adds same lawful = added_lawful key types old.tables new.tables adds lawful
added_or_not (Err error) key types old new adds same lawful =
    subst (λ (s : Stored). AreLawful (keys_of s.tables) (state_of s.tables)) (sym same) lawful

pub added_then : {T E : Type 0} (result : Result T E) (key : ℕ) (types : List ColType) (old new : List LoggedTable)
    → OnOk result (AddsTable key types old new)
    → OnOk result (rows_of_state (keys_of new) (state_of new) ≡ rows_of_state (keys_of old) (state_of old) ++ [] ∷ [])
added_then (Ok done) key types old new adds = added_rows key types old new adds
added_then (Err error) key types old new adds = tt

-- ---- a table is dropped

module _ (old new : List LoggedTable) (i : ℕ) (removed : new ≡ remove old i) where
  keys_removed : keys_of new ≡ remove (keys_of old) i
  keys_removed =
      ap keys_of removed ∙ (ap (map (λ (x : Shape). x.key)) (map_remove shape_of old i) ∙ map_remove (λ (x : Shape). x.key) (map shape_of old) i)

  state_removed : state_of new ≡ remove (state_of old) i
  state_removed = ap state_of removed ∙ map_remove slots_of old i

  pub removed_lawful : i < length old → AreLawful (keys_of old) (state_of old) → AreLawful (keys_of new) (state_of new)
  removed_lawful there lawful =
      subst (λ (keys : List ℕ). AreLawful keys (state_of new)) (sym keys_removed)
      (subst (AreLawful (remove (keys_of old) i)) (sym state_removed)
      (AreLawful-remove (keys_of old) (state_of old) (keys_size old) i (omega (arith, there, length-map old slots_of)) lawful))

  pub removed_rows : rows_of_state (keys_of new) (state_of new) ≡ remove (rows_of_state (keys_of old) (state_of old)) i
  removed_rows = ap₂ rows_of_state keys_removed state_removed ∙ rows_of_state-remove (keys_of old) (state_of old) i (keys_size old)

-- ---- the rows of a table that is read

module _ (tables : List LoggedTable) (t : ℕ) (d : LoggedTable) (within : t < length tables) where
  abbrev at_t : LoggedTable
  at_t = get_or tables t d

  read : at_t ≡ get_or tables t at_t
  read = get_or_default tables t d at_t within

  pub slots_at : slots_in tables t ≡ slot_at at_t.rows.places
  slots_at = slots_read tables t at_t within read

  pub small_at : IsWhole at_t.rows → AreSmall (slots_in tables t)
  small_at whole = subst AreSmall (sym slots_at) whole.small

  pub rows_at : IsWhole at_t.rows → AreApart (key_in tables t) (slots_in tables t) → rows_of at_t.rows ≡ rows_in (key_in tables t) (slots_in tables t)
  rows_at whole apart =
      let key : key_in tables t ≡ at_t.rows.key = key_read tables t at_t within read in
      rows_of-slots at_t.rows whole.kept whole.small
      (subst (λ (k : ℕ). AreApart k (slot_at at_t.rows.places)) key (subst (AreApart (key_in tables t)) slots_at apart))
      ∙ sym (ap₂ rows_in key slots_at)

-- ---- a table that was read

pub types_read : (tables : List LoggedTable) (t : ℕ) (x : LoggedTable) → t < length tables → x ≡ get_or tables t x
    → types_at (map shape_of tables) t ≡ x.rows.places.types
types_read tables t x within read =
    get_or-map (λ (y : Shape). y.types) (map shape_of tables) t (shape_of x) [] (subst (λ (n : ℕ). t < n) (sym (length-map tables shape_of)) within)
    ∙ ap (λ (y : Shape). y.types) (get_or-map shape_of tables t x (shape_of x) within ∙ ap shape_of (sym read))

module _ (tables : List LoggedTable) (t : ℕ) (rows : StoredRows) (within : t < length tables) (is : HoldsAt (λ x. rows ≡ x.rows) tables t) where
  abbrev d : LoggedTable
  d = record { rows = rows; owed = record { key = 0; indexes = 0 } }

  abbrev here : LoggedTable
  here = get_or tables t d

  found : here ≡ get_or tables t here
  found = get_or_default tables t d here within

  pub read_slots : slot_at rows.places ≡ slots_in tables t
  read_slots = ap (λ (x : StoredRows). slot_at x.places) (is d) ∙ sym (slots_read tables t here within found)

  pub read_key : rows.key ≡ key_in tables t
  read_key = ap (λ (x : StoredRows). x.key) (is d) ∙ sym (key_read tables t here within found)

  pub read_extent : extent_of rows.places ≡ extent_in tables t
  read_extent = ap (λ (x : StoredRows). extent_of x.places) (is d) ∙ sym (extent_read tables t here within found)

  pub read_types : rows.places.types ≡ types_at (map shape_of tables) t
  read_types = ap (λ (x : StoredRows). x.places.types) (is d) ∙ sym (types_read tables t here within found)

  pub read_rows : IsWhole rows → AreApart (key_in tables t) (slots_in tables t) → rows_of rows ≡ rows_in (key_in tables t) (slots_in tables t)
  read_rows whole apart = ap rows_of (is d) ∙ rows_at tables t d within (subst IsWhole (is d) whole) apart
