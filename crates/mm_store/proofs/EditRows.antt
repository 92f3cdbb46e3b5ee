-- The rows of a table after edits, and the refusals of edits.
use Rattle.std.proofs.Common.{◌≡◌, ℕ, List, [], ◌∷◌, Option, Some, refl, sym, ap, ap₂, ◌∙◌}
use Rattle.std.specs.Prelude.{◌==◌, ◌&&◌}
use Rattle.std.specs.List.{All, cons_option, list_any}
use Rattle.std.proofs.lemmas.List.Elements.{All-head, All-tail}
use Rattle.mm_base.specs.Bases.{Base, edit_conditions, references_of, rows_made, rows_now}
use Rattle.mm_base.specs.EditPairs as base
use Rattle.mm_base.specs.Orphans as base_orphans
use Rattle.mm_indexed.specs.Kept.{StoredRows}
use Rattle.mm_link.specs.Targets.{pair_of}
use Rattle.mm_partition.specs.Places.{slot_at}
use Rattle.mm_row_order.specs.Refs.{Slots}
use Rattle.mm_schema.specs.References.{lacks_target_row, lose_targets}
use Rattle.mm_schema.specs.Rows.{Pair, changed, table_rows_conditions}
use Rattle.mm_schema.specs.declared.reference.Reference.{Reference}
use Rattle.mm_store.specs.Edits.{conditions_of, pairs_of, rows_after}
use Rattle.mm_store.specs.Tables.{IsAt, has_orphans, makes_orphans, tables_of}
use Rattle.mm_store.proofs.ListedTables.{IsListed, has_orphans-place, key_there, makes_orphans-place, rows_there, slots_at}
use Rattle.mm_store.proofs.RowsAt.{rows_at-same}
use Rattle.mm_store.proofs.StagedBases.{KeepsTaken}
use Rattle.mm_tables.specs.Edits.{Fits}
use Rattle.mm_tables.specs.Tables.{key_in, slots_in}
use Rattle.mm_tables.specs.declared.edit.Edit.{Edit}
use Rattle.mm_tables.specs.declared.edit.Edit.TheVariants.{Delete, Insert, Move, Stage, Update}
use Rattle.mm_tables.proofs.InTables.{key_same}
use Rattle.mm_value.specs.declared.values.Value.{Value}

-- ---- each edit that fits is a change of a row

pair_fit : (key : ℕ) (now : Slots) (e : Edit) → Fits key now e → base.edit_pair now e ≡ Some (pair_of now e)
pair_fit key now (Stage at) fits = absurd fits
pair_fit key now (Insert at) fits = refl
pair_fit key now (Update at other) fits = refl
pair_fit key now (Move at other) fits = refl
pair_fit key now (Delete at) fits = refl

pub pairs_fit : (key : ℕ) (now : Slots) (es : List Edit) → All (Fits key now) es → base.edit_pairs now es ≡ pairs_of now es
pairs_fit key now [] fits = refl
pairs_fit key now (e ∷ es) fits =
    ap₂ (λ (o : Option Pair) (ps : List Pair). cons_option o ps) (pair_fit key now e (All-head (Fits key now) e es fits))
    (pairs_fit key now es (All-tail (Fits key now) e es fits))

-- ---- a table of a store

module _ (b : Base) (listed : IsListed b) (t : ℕ) (stored : StoredRows) (at : IsAt (tables_of b) t stored) (es : List Edit)
    (fits : All (Fits (key_in b.stored.tables t) (slots_in b.stored.tables t)) es) where
  pairs_there : pairs_of (slot_at stored.places) es ≡ base.edit_pairs (slots_in b.stored.tables t) es
  pairs_there =
      ap (λ (s : Slots). pairs_of s es) (slots_at b t stored at) ∙ sym (pairs_fit (key_in b.stored.tables t) (slots_in b.stored.tables t) es fits)

  pub rows_after-made : rows_after stored es ≡ rows_made b.stored t es
  rows_after-made = λ i. changed (key_there b t stored at i) (pairs_there i) (rows_there b listed t stored at i)

  pub conditions_made : conditions_of (tables_of b) t stored es ≡ edit_conditions b t es
  conditions_made =
      let key = key_there b t stored at in
      let lacks = ap (has_orphans (tables_of b) t) rows_after-made ∙ has_orphans-place b listed t (rows_made b.stored t es) in
      let leaves =
      ap₂ (λ (k : ℕ) (ps : List Pair). makes_orphans (tables_of b) t k ps) key pairs_there
      ∙ makes_orphans-place b listed t (base.edit_pairs (slots_in b.stored.tables t) es) in
      λ i. table_rows_conditions (key i) (rows_after-made i) (lacks i) (leaves i)

-- ---- capacity was reserved

module _ (t : ℕ) (old mid : Base) (kept : KeepsTaken t old mid) (same : slots_in mid.stored.tables t ≡ slots_in old.stored.tables t) (es : List Edit) where
  key : (u : ℕ) → key_in mid.stored.tables u ≡ key_in old.stored.tables u
  key u = key_same old.stored.tables mid.stored.tables u kept.shapes

  rows : (u : ℕ) → base_orphans.rows_at mid.stored.tables u ≡ base_orphans.rows_at old.stored.tables u
  rows u = rows_at-same old mid kept.rows u

  pairs : base.edit_pairs (slots_in mid.stored.tables t) es ≡ base.edit_pairs (slots_in old.stored.tables t) es
  pairs = ap (λ (s : Slots). base.edit_pairs s es) same

  pub rows_made-kept : rows_made mid.stored t es ≡ rows_made old.stored t es
  rows_made-kept = λ i. changed (key t i) (pairs i) (rows t i)

  lacks : base_orphans.has_orphans mid.stored.tables (references_of mid.links) t (rows_made mid.stored t es)
      ≡ base_orphans.has_orphans old.stored.tables (references_of old.links) t (rows_made old.stored t es)
  lacks = λ i.
      list_any
      (λ (r : Reference). (r.from == t) && list_any (lacks_target_row r.column (key r.to i) (rows r.to i)) (rows_made-kept i)) (kept.links i)

  leaves : base_orphans.makes_orphans mid.stored.tables (references_of mid.links) t (base.edit_pairs (slots_in mid.stored.tables t) es)
      ≡ base_orphans.makes_orphans old.stored.tables (references_of old.links) t (base.edit_pairs (slots_in old.stored.tables t) es)
  leaves = λ i. list_any (λ (r : Reference). (r.to == t) && lose_targets r.column (key t i) (rows r.from i) (pairs i)) (kept.links i)

  pub conditions_kept : edit_conditions mid t es ≡ edit_conditions old t es
  conditions_kept = λ i. table_rows_conditions (key t i) (rows_made-kept i) (lacks i) (leaves i)
