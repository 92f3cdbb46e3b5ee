-- The tables of a store and its base tables.
use Rattle.std.proofs.Common.{◌≡◌, ℕ, zero, suc, ◌<◌, List, [], ◌∷◌, length, map, get_or, Some, refl, sym, ap, ◌∙◌, subst, arith}
use Rattle.std.specs.Prelude.{slice_get}
use Rattle.std.specs.List.{All, Contains}
use Rattle.std.proofs.lemmas.List.{get_or-map, get_or_default, length-map}
use Rattle.std.proofs.lemmas.List.Elements.{All-head, All-tail}
use Rattle.mm_base.proofs.Changed.{rows_of-slots}
use Rattle.mm_base.proofs.InBases.{read_key, read_rows, read_slots}
use Rattle.mm_base.specs.Bases.{AreLawful, Base, IsLawful, IsWhole, rows_of_state}
use Rattle.mm_base.specs.RowLists.{rows_in}
use Rattle.mm_indexed.specs.Kept.{StoredRows}
use Rattle.mm_indexed.specs.RowLists.{rows_of}
use Rattle.mm_indexed.specs.Twins.{AreApart}
use Rattle.mm_link.specs.Links.{RefersTo}
use Rattle.mm_partition.specs.Places.{Free, IsLive, Live, slot_at}
use Rattle.mm_row_order.specs.Refs.{HasRow, Slots, row_at}
use Rattle.mm_store.specs.Joined.{IsTable}
use Rattle.mm_store.specs.Tables.{IsAt, Tables, tables_of}
use Rattle.mm_tables.specs.Tables.{HoldsAt, key_in, keys_of, slots_in, slots_of, state_of}
use Rattle.mm_tables.specs.declared.logged_table.LoggedTable.{LoggedTable}
use Rattle.mm_value.specs.declared.row_ref.RowRef.{RowRef}
use Rattle.mm_value.specs.declared.values.Value.{Value}
use Rattle.mm_store.proofs.Joining.{at_index}

abbrev rows : LoggedTable → StoredRows
rows table = table.rows

-- a table with an empty log
abbrev made_of : StoredRows → LoggedTable
made_of stored = record { rows = stored; owed = record { key = 0; indexes = 0 } }

-- a table of the store is one of the base
pub within_base : (b : Base) (store : Tables) (table : ℕ) → tables_of b ≡ store → table < length store.tables → table < length b.stored.tables
within_base b store table is within = omega (arith, within, ap (λ (s : Tables). length s.tables) is, length-map b.stored.tables rows)

-- ---- a table that is read

module _ (tables : List LoggedTable) (place : ℕ) (stored : StoredRows) (within : place < length tables)
    (is : HoldsAt (λ x. stored ≡ x.rows) tables place) where
  pub shown_at : slice_get (map rows tables) place ≡ Some stored
  shown_at =
      at_index (map rows tables) place stored (omega (arith, within, length-map tables rows))
      (sym (get_or-map rows tables place (made_of stored) stored within ∙ sym (is (made_of stored))))

  pub IsTable-shown : AreLawful (keys_of tables) (state_of tables) → IsWhole stored → IsTable stored
  IsTable-shown lawful whole =
      let here : IsLawful (key_in tables place) (slots_in tables place) = lawful place (omega (arith, within, length-map tables slots_of)) in
      record {
        few =
            omega (
              arith,
              here.few,
              ap length (read_rows tables place stored within is whole here.apart),
              length-map stored.refs (row_at (slot_at stored.places)),
            );
        apart =
            subst (λ (key : ℕ). AreApart key (slot_at stored.places)) (sym (read_key tables place stored within is))
            (subst (AreApart (key_in tables place)) (sym (read_slots tables place stored within is)) here.apart);
        kept = whole.kept;
        storable = whole.storable;
      }

-- ---- all tables

module _ (tables : List LoggedTable) (lawful : AreLawful (keys_of tables) (state_of tables)) (whole : All (λ x. IsWhole x.rows) tables) where
  each_table : All (λ x. IsTable x.rows) tables
  each_table k d within =
      IsTable-shown tables k (get_or tables k d).rows within (λ e. ap rows (get_or_default tables k d e within)) lawful (whole k d within)

  pub all_tables : All IsTable (map rows tables)
  all_tables k d within =
      let inside : k < length tables = omega (arith, within, length-map tables rows) in
      subst IsTable (sym (get_or-map rows tables k (made_of d) d inside)) (each_table k (made_of d) inside)

  listed : (xs : List LoggedTable) → All (λ x. rows_of x.rows ≡ rows_in x.rows.key (slot_at x.rows.places)) xs
      → rows_of_state (keys_of xs) (state_of xs) ≡ map rows_of (map rows xs)
  listed [] each = refl
  listed (x ∷ xs) each =
      let P : LoggedTable → Type 0 = λ y. rows_of y.rows ≡ rows_in y.rows.key (slot_at y.rows.places) in
      let first : rows_of x.rows ≡ rows_in x.rows.key (slot_at x.rows.places) = All-head P x xs each in
      let rest : rows_of_state (keys_of xs) (state_of xs) ≡ map rows_of (map rows xs) = listed xs (All-tail P x xs each) in
      λ i. sym first i ∷ rest i

  -- The rows in use are the lists of rows of the store.
  pub rows_shown : rows_of_state (keys_of tables) (state_of tables) ≡ map rows_of (map rows tables)
  rows_shown =
      listed tables
      (λ k d within.
      let kept : IsWhole (get_or tables k d).rows = whole k d within in
      rows_of-slots (get_or tables k d).rows kept.kept kept.small (each_table k d within).apart)

-- ---- references to targets

-- the slots of a table of the store
slots_shown : (tables : List LoggedTable) (place : ℕ) (stored : StoredRows) → slice_get (map rows tables) place ≡ Some stored
    → slots_in tables place ≡ slot_at stored.places
slots_shown [] place stored there = cc
slots_shown (x ∷ xs) zero stored there = let same : x.rows ≡ stored = cc in ap (λ (s : StoredRows). slot_at s.places) same
slots_shown (x ∷ xs) (suc place) stored there = slots_shown xs place stored there

-- a row in use of a table of the store
pub row_shown : (tables : List LoggedTable) (place : ℕ) (at : RowRef) → place < length tables
    → ((stored : StoredRows) → slice_get (map rows tables) place ≡ Some stored → IsLive stored.places at) → HasRow (slots_in tables place) at
row_shown [] place at within live = absurd (omega (arith, within))
row_shown (x ∷ xs) zero at within live = live x.rows refl
row_shown (x ∷ xs) (suc place) at within live = row_shown xs place at (omega (arith, within)) live

-- The row of a reference is in a table of the store.
record Shows (tables : List LoggedTable) (place : ℕ) : Type 0 where
  stored : StoredRows
  there : slice_get (map rows tables) place ≡ Some stored
  key : key_in tables place ≡ stored.key
  slots : slots_in tables place ≡ slot_at stored.places

shows_row : (tables : List LoggedTable) (place : ℕ) (at : RowRef) → HasRow (slots_in tables place) at → Shows tables place
shows_row [] place at live = let both : Live live.0 ≡ Free = sym live.1 in absurd (let no : ⊥ = cc in no)
shows_row (x ∷ xs) zero at live = record { stored = x.rows; there = refl; key = refl; slots = refl }
shows_row (x ∷ xs) (suc place) at live =
    let later = shows_row xs place at live in
    record { stored = later.stored; there = later.there; key = later.key; slots = later.slots }

-- the target of a row in a store
abbrev pub Follows : Tables → ℕ → ℕ → List Value → RowRef → Type 0
Follows store table column row result =
    (target : StoredRows) × (to : ℕ) × Contains store.links (record { from = table; column = column; to = to })
    × IsAt store to target × RefersTo column target.key (slot_at target.places) row result

pub followed : (b : Base) (table column : ℕ) (at result : RowRef) (stored : StoredRows) → IsAt (tables_of b) table stored
    → (to : ℕ) → Contains (tables_of b).links (record { from = table; column = column; to = to })
    → RefersTo column (key_in b.stored.tables to) (slots_in b.stored.tables to) (row_at (slots_in b.stored.tables table) at) result
    → Follows (tables_of b) table column (row_at (slot_at stored.places) at) result
followed b table column at result stored there to reference refers =
    let shows = shows_row b.stored.tables to result refers.live in
    let keyed : RefersTo column shows.stored.key (slots_in b.stored.tables to) (row_at (slots_in b.stored.tables table) at) result =
    subst (λ (key : ℕ). RefersTo column key (slots_in b.stored.tables to) (row_at (slots_in b.stored.tables table) at) result) shows.key refers in
    let placed : RefersTo column shows.stored.key (slot_at shows.stored.places) (row_at (slots_in b.stored.tables table) at) result =
    subst (λ (now : Slots). RefersTo column shows.stored.key now (row_at (slots_in b.stored.tables table) at) result) shows.slots keyed in (
      shows.stored,
      to,
      reference,
      shows.there,
      subst (λ (now : Slots). RefersTo column shows.stored.key (slot_at shows.stored.places) (row_at now at) result)
          (slots_shown b.stored.tables table stored there) placed,
    )
