-- Rows that are staged, and edits of their slots.
use Rattle.std.proofs.Common.{◌≡◌, ◌≢◌, ℕ, zero, suc, Bool, true, false, List, [], ◌∷◌, ◌++◌, Some, None, length, get_or, set, refl, sym, ap, ap₂, ◌∙◌}
use Rattle.std.proofs.Common.{subst, arith}
use Rattle.std.specs.Prelude.{slice_get}
use Rattle.std.specs.List.{All}
use Rattle.std.proofs.lemmas.List.Elements.{All-head, All-push, All-tail}
use Rattle.std.proofs.lemmas.List.Quantifiers.{all_pairs_push}
use Rattle.mm_base.specs.Bases.{Base}
use Rattle.mm_base.specs.Orphans.{rows_at}
use Rattle.mm_base.proofs.Keeping.{keys_from_shapes}
use Rattle.std.proofs.lemmas.Option.{slice_get_within}
use Rattle.mm_indexed.specs.Index.{SameIndex}
use Rattle.mm_indexed.specs.Kept.{StoredRows}
use Rattle.mm_indexed.specs.RowLists.{rows_of}
use Rattle.mm_indexed.proofs.Turning.{EachTurns-twice}
use Rattle.mm_link.specs.Targets.{pair_of}
use Rattle.mm_partition.specs.Places.{Content, Free, Hidden, IsTaken, slot_at, row_in}
use Rattle.mm_row_order.specs.Refs.{HasHidden, HasRow, Slots}
use Rattle.mm_schema.specs.Rows.{Pair, column_cmp}
use Rattle.mm_store.specs.Edits.{AreReady, new_slot, old_slot, pairs_of}
use Rattle.mm_store.specs.Staging.{HasStaged, KeepsSlots}
use Rattle.mm_store.specs.Tables.{IsAt, SameForm, Tables, Turns, tables_of}
use Rattle.mm_store.proofs.ListedTables.{marks_kept, read_at, slots_at, turned, turned_at, turned_form, turns}
use Rattle.mm_store.proofs.RowsAt.{rows_at-same}
use Rattle.mm_store.proofs.StagedBases.{KeepsTaken, apart_if_free, apart_if_live, log_longer, taken_if_hidden, taken_if_live}
use Rattle.mm_store.proofs.Forms.{SameForm-refl}
use Rattle.mm_store.proofs.Joining.{get_set_same, one_relation}
use Rattle.mm_store.proofs.MarkLaws.{KeepsMarks-same, marks_then}
use Rattle.mm_tables.specs.Commands.{IsApart, IsCommand, LeavesOut}
use Rattle.mm_tables.specs.Edits.{Fits}
use Rattle.mm_tables.specs.Tables.{HoldsAt, slots_in}
use Rattle.mm_tables.specs.declared.edit.Edit.{Edit}
use Rattle.mm_tables.specs.declared.edit.Edit.TheVariants.{Delete, Insert, Move, Stage, Update}
use Rattle.mm_tables.specs.declared.logged_table.LoggedTable.{LoggedTable}
use Rattle.mm_tables.proofs.InTables.{size_from_shapes}
use Rattle.mm_value.specs.declared.row_ref.RowRef.{RowRef}
use Rattle.mm_value.specs.declared.values.Value.{Value}

-- ---- from base tables

-- the rows of a table are those of its slots
pub record IsRead (b : Base) (t : ℕ) : Type 0 where
  pub rows : StoredRows
  pub there : HoldsAt (λ x. rows ≡ x.rows) b.stored.tables t
  pub are : rows_of rows ≡ rows_at b.stored.tables t

rows_read : (b : Base) (t : ℕ) → IsRead b t → (stored : StoredRows) → IsAt (tables_of b) t stored → rows_of stored ≡ rows_at b.stored.tables t
rows_read b t is stored at =
    let d : LoggedTable = record { rows = stored; owed = record { key = 0; indexes = 0 } } in
    ap rows_of (sym (read_at b t stored at d) ∙ sym (is.there d)) ∙ is.are

module _ (t : ℕ) (old new : Base) (kept : KeepsTaken t old new) (was : IsRead old t) (is : IsRead new t) where
  size : length new.stored.tables ≡ length old.stored.tables
  size = size_from_shapes old.stored.tables new.stored.tables kept.shapes

  module _ (stored : StoredRows) (at : IsAt (tables_of old) t stored) where
    abbrev then : StoredRows
    then = turned old new size t stored at kept.others

    slots_now : slot_at then.places ≡ slots_in new.stored.tables t
    slots_now = slots_at new t then (turned_at old new size t stored at kept.others)

    kept_there : KeepsSlots stored then
    kept_there =
        let form : SameForm stored then = turned_form old new size t stored at kept.others kept.shapes in
        record {
          taken = λ r taken.
              ap (λ (s : Slots). s r) slots_now
              ∙ (kept.taken r (subst (λ (s : Slots). IsTaken (s r)) (slots_at old t stored at) taken)
              ∙ ap (λ (s : Slots). s r) (sym (slots_at old t stored at)));
          rows_are =
              rows_read new t is then (turned_at old new size t stored at kept.others)
              ∙ (rows_at-same old new kept.rows t ∙ sym (rows_read old t was stored at));
          types = form.types;
          key = form.key;
          indexes = form.indexes;
        }

  pub HasStaged-from : HasStaged t (tables_of old) (tables_of new)
  HasStaged-from = record {
    kept = λ stored at. (then stored at, turns old new size t stored at kept.others, kept_there stored at);
    links = kept.links;
    longer = log_longer t old new kept;
    marks = λ mark within.
        marks_kept old new mark (keys_from_shapes old.stored.tables new.stored.tables kept.shapes) (kept.marks mark within)
        (λ low. omega (arith, low, log_longer t old new kept));
  }

-- ---- lists of tables

set_same : (xs : List StoredRows) (t : ℕ) (x : StoredRows) → slice_get xs t ≡ Some x → set xs t x ≡ xs
set_same [] t x is = refl
set_same (y ∷ ys) zero x is = ap (λ (z : StoredRows). z ∷ ys) (sym (one_relation y x is))
set_same (y ∷ ys) (suc t) x is = ap (λ (zs : List StoredRows). y ∷ zs) (set_same ys t x is)

set_twice : (xs : List StoredRows) (t : ℕ) (x y : StoredRows) → set (set xs t x) t y ≡ set xs t y
set_twice [] t x y = refl
set_twice (z ∷ zs) zero x y = refl
set_twice (z ∷ zs) (suc t) x y = ap (λ (us : List StoredRows). z ∷ us) (set_twice zs t x y)

at_turned : (old new : Tables) (t : ℕ) (stored now : StoredRows) → IsAt old t stored → Turns old t now new → IsAt new t now
at_turned old new t stored now at turns =
    ap (λ (tables : List StoredRows). slice_get tables t) turns ∙ get_set_same old.tables t now (slice_get_within old.tables t stored at)

-- ---- one change after another

KeepsSlots-both : (a b c : StoredRows) → KeepsSlots a b → KeepsSlots b c → KeepsSlots a c
KeepsSlots-both a b c first second = record {
  taken = λ at taken.
      second.taken at (subst IsTaken (sym (first.taken at taken)) taken) ∙ first.taken at taken;
  rows_are = second.rows_are ∙ first.rows_are;
  types = second.types ∙ first.types;
  key = second.key ∙ first.key;
  indexes =
      EachTurns-twice SameIndex SameIndex SameIndex (λ x y z one two. (two.0 ∙ one.0, two.1 ∙ one.1)) a.indexes b.indexes c.indexes first.indexes
      second.indexes;
}

pub KeepsSlots-same : (stored : StoredRows) → KeepsSlots stored stored
KeepsSlots-same stored = record { taken = λ at taken. refl; rows_are = refl; types = refl; key = refl; indexes = (SameForm-refl stored).indexes }

-- Nothing was staged.
pub HasStaged-none : (table : ℕ) (store : Tables) → HasStaged table store store
HasStaged-none table store = record {
  kept = λ stored at. (stored, sym (set_same store.tables table stored at), KeepsSlots-same stored);
  links = refl;
  longer = omega arith;
  marks = λ mark within. KeepsMarks-same store mark;
}

-- More rows were staged.
pub HasStaged-both : (table : ℕ) (a b c : Tables) → HasStaged table a b → HasStaged table b c → HasStaged table a c
HasStaged-both table a b c first second = record {
  kept = λ stored at.
      let (mid, turns_mid, kept_mid) = first.kept stored at in
      let at_mid : IsAt b table mid = at_turned a b table stored mid at turns_mid in
      let (now, turns_now, kept_now) = second.kept mid at_mid in (
        now,
        turns_now ∙ (ap (λ (tables : List StoredRows). set tables table now) turns_mid ∙ set_twice a.tables table mid now),
        KeepsSlots-both stored mid now kept_mid kept_now,
      );
  links = second.links ∙ first.links;
  longer = omega (arith, first.longer, second.longer);
  marks = marks_then a b c first.longer first.marks second.marks;
}

-- The table after staging.
pub staged_at : (table : ℕ) (old new : Tables) (staged : HasStaged table old new) (stored : StoredRows) (at : IsAt old table stored)
    → IsAt new table (staged.kept stored at).0
staged_at table old new staged stored at = at_turned old new table stored (staged.kept stored at).0 at (staged.kept stored at).1

-- ---- edits that are ready remain so while rows are staged, and change the same rows

module _ (key : ℕ) (now next : Slots) (kept : (at : RowRef) → IsTaken (now at) → next at ≡ now at) where
  row_next : (at : RowRef) → HasRow now at → HasRow next at
  row_next at live = (live.0, kept at (taken_if_live now at live) ∙ live.1)

  hidden_next : (at : RowRef) → HasHidden now at → HasHidden next at
  hidden_next at hidden = (hidden.0, kept at (taken_if_hidden now at hidden) ∙ hidden.1)

  live_kept : (at : RowRef) → HasRow now at → next at ≡ now at
  live_kept at live = kept at (taken_if_live now at live)

  hidden_kept : (at : RowRef) → HasHidden now at → next at ≡ now at
  hidden_kept at hidden = kept at (taken_if_hidden now at hidden)

  fits_next : (e : Edit) → Fits key now e → Fits key next e
  fits_next (Stage at) fits = absurd fits
  fits_next (Insert at) fits = hidden_next at fits
  fits_next (Update at other) (live, hidden, same) = (
    row_next at live,
    hidden_next other hidden,
    ap₂ (λ (c d : Content). column_cmp key (row_in c) (row_in d)) (live_kept at live) (hidden_kept other hidden) ∙ same,
  )
  fits_next (Move at other) (live, hidden) = (row_next at live, hidden_next other hidden)
  fits_next (Delete at) fits = row_next at fits

  pair_next : (e : Edit) → Fits key now e → pair_of next e ≡ pair_of now e
  pair_next (Stage at) fits = refl
  pair_next (Insert at) fits = ap {B = Pair} (λ (c : Content). (None, Some (row_in c))) (hidden_kept at fits)
  pair_next (Update at other) (live, hidden, same) =
      ap₂ {C = Pair} (λ (c d : Content). (Some (row_in c), Some (row_in d))) (live_kept at live) (hidden_kept other hidden)
  pair_next (Move at other) (live, hidden) =
      ap₂ {C = Pair} (λ (c d : Content). (Some (row_in c), Some (row_in d))) (live_kept at live) (hidden_kept other hidden)
  pair_next (Delete at) fits = ap {B = Pair} (λ (c : Content). (Some (row_in c), None)) (live_kept at fits)

  pub pairs_next : (es : List Edit) → All (Fits key now) es → pairs_of next es ≡ pairs_of now es
  pairs_next [] fits = refl
  pairs_next (e ∷ es) fits =
      ap₂ (λ (p : Pair) (ps : List Pair). p ∷ ps) (pair_next e (All-head (Fits key now) e es fits)) (pairs_next es (All-tail (Fits key now) e es fits))

  pub command_next : (es : List Edit) → IsCommand key es now → IsCommand key es next
  command_next es is = record { fits = λ k d within. fits_next (get_or es k d) (is.fits k d within); apart = is.apart }

pub ready_next : (old new : StoredRows) (es : List Edit) → KeepsSlots old new → AreReady old es → AreReady new es
ready_next old new es kept ready =
    subst (λ (k : ℕ). IsCommand k es (slot_at new.places)) (sym kept.key)
    (command_next old.key (slot_at old.places) (slot_at new.places) kept.taken es ready)

pub pairs_kept : (old new : StoredRows) (es : List Edit) → KeepsSlots old new → AreReady old es
    → pairs_of (slot_at new.places) es ≡ pairs_of (slot_at old.places) es
pairs_kept old new es kept ready = pairs_next old.key (slot_at old.places) (slot_at new.places) kept.taken es ready.fits

-- ---- one more edit

abbrev is_no_stage : Edit → Bool
is_no_stage (Stage at) = false
is_no_stage (Insert at) = true
is_no_stage (Update at other) = true
is_no_stage (Move at other) = true
is_no_stage (Delete at) = true

fits_no_stage : (key : ℕ) (now : Slots) (e : Edit) → Fits key now e → is_no_stage e ≡ true
fits_no_stage key now (Stage at) fits = absurd fits
fits_no_stage key now (Insert at) fits = refl
fits_no_stage key now (Update at other) fits = refl
fits_no_stage key now (Move at other) fits = refl
fits_no_stage key now (Delete at) fits = refl

-- No edit names the slot as that of its old row.
abbrev pub NamesNone : List Edit → RowRef → Type 0
NamesNone es r = All (λ e. (at : RowRef) → old_slot e ≡ Some at → at ≢ r) es

module _ (key : ℕ) (was : Slots) where
  leaves_free : (e : Edit) → Fits key was e → (r : RowRef) → was r ≡ Free → LeavesOut e r
  leaves_free (Stage at) fits r free = absurd fits
  leaves_free (Insert at) fits r free = apart_if_free was at r (taken_if_hidden was at fits) free
  leaves_free (Update at other) (live, hidden, same) r free =
      (apart_if_free was at r (taken_if_live was at live) free, apart_if_free was other r (taken_if_hidden was other hidden) free)
  leaves_free (Move at other) (live, hidden) r free =
      (apart_if_free was at r (taken_if_live was at live) free, apart_if_free was other r (taken_if_hidden was other hidden) free)
  leaves_free (Delete at) fits r free = apart_if_free was at r (taken_if_live was at fits) free

  leaves_live : (e : Edit) → Fits key was e → (r : RowRef) → HasRow was r → ((at : RowRef) → old_slot e ≡ Some at → at ≢ r) → LeavesOut e r
  leaves_live (Stage at) fits r live out = absurd fits
  leaves_live (Insert at) fits r live out = apart_if_live was at r fits live
  leaves_live (Update at other) (had, hidden, same) r live out = (out at refl, apart_if_live was other r hidden live)
  leaves_live (Move at other) (had, hidden) r live out = (out at refl, apart_if_live was other r hidden live)
  leaves_live (Delete at) fits r live out = out at refl

  -- The new row of the further edit is in a slot that was free, and its old row is that of no other edit.
  module _ (f : Edit) (fresh : (at : RowRef) → new_slot f ≡ Some at → was at ≡ Free)
      (live : (at : RowRef) → old_slot f ≡ Some at → HasRow was at) where
    apart_from : (e : Edit) → Fits key was e → ((at : RowRef) → old_slot f ≡ Some at → (own : RowRef) → old_slot e ≡ Some own → own ≢ at)
        → is_no_stage f ≡ true → IsApart e f
    apart_from e fits out no_stage = by f fresh live out no_stage
      where
        by : (g : Edit) → ((at : RowRef) → new_slot g ≡ Some at → was at ≡ Free) → ((at : RowRef) → old_slot g ≡ Some at → HasRow was at)
            → ((at : RowRef) → old_slot g ≡ Some at → (own : RowRef) → old_slot e ≡ Some own → own ≢ at) → is_no_stage g ≡ true → IsApart e g
        by (Stage at) free had other not_stage = let both : ⊥ = cc in absurd both
        by (Insert at) free had other not_stage = leaves_free e fits at (free at refl)
        by (Update at next) free had other not_stage = (leaves_live e fits at (had at refl) (other at refl), leaves_free e fits next (free next refl))
        by (Move at next) free had other not_stage = (leaves_live e fits at (had at refl) (other at refl), leaves_free e fits next (free next refl))
        by (Delete at) free had other not_stage = leaves_live e fits at (had at refl) (other at refl)

-- Edits that were ready are still ready with one more, once its row is staged.
pub ready_push : (old new : StoredRows) (es : List Edit) (f : Edit) → KeepsSlots old new → AreReady old es → Fits new.key (slot_at new.places) f
    → ((at : RowRef) → new_slot f ≡ Some at → slot_at old.places at ≡ Free)
    → ((at : RowRef) → old_slot f ≡ Some at → HasRow (slot_at old.places) at)
    → ((at : RowRef) → old_slot f ≡ Some at → NamesNone es at) → AreReady new (es ++ f ∷ [])
ready_push old new es f kept ready fits fresh live out =
    let was : Slots = slot_at old.places in
    let is : Slots = slot_at new.places in
    let before : AreReady new es = ready_next old new es kept ready in
    record {
      fits = All-push (Fits new.key is) es f before.fits fits;
      apart = all_pairs_push IsApart es f ready.apart
          (λ k d within.
          apart_from old.key was f fresh live (get_or es k d) (ready.fits k d within) (λ at here. out at here k d within)
          (fits_no_stage new.key is f fits));
    }
