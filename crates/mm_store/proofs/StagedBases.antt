-- Base tables while rows are staged.
use Rattle.std.proofs.Common.{◌≡◌, ◌≢◌, ℕ, ◌<◌, ◌≤◌, true, false, List, [], ◌∷◌, ◌++◌, length, map, get_or, set, refl, sym, ap, ap₂, ◌∙◌, arith}
use Rattle.std.specs.Prelude.{drop}
use Rattle.std.proofs.lemmas.List.{append-nil, length-append, length-map}
use Rattle.mm_base.specs.Bases.{Base, references_of, rows_now}
use Rattle.mm_base.proofs.InBases.{rows_from_state}
use Rattle.mm_partition.specs.Places.{Free, Hidden, IsTaken, Live, holds_row}
use Rattle.mm_row_order.specs.Refs.{HasHidden, HasRow, Slots}
use Rattle.mm_tables.specs.Edits.{put}
use Rattle.mm_tables.specs.Log.{before}
use Rattle.mm_tables.specs.Tables.{KeepsOthers, at_mark, back, logged, no_slots, shape_of, slots_in, slots_of, state_of}
use Rattle.mm_tables.specs.declared.edit.Edit.TheVariants.{Stage}
use Rattle.mm_tables.specs.declared.log_record.LogRecord.{LogRecord}
use Rattle.mm_tables.proofs.InTables.{slots_next}
use Rattle.mm_tables.proofs.Slots.{put_other}
use Rattle.mm_value.specs.declared.row_ref.RowRef.{RowRef}
use Rattle.mm_value.specs.declared.values.Value.{Value}

-- ---- the contents of slots

pub taken_if_live : (now : Slots) (at : RowRef) → HasRow now at → IsTaken (now at)
taken_if_live now at live = ap holds_row live.1

pub taken_if_hidden : (now : Slots) (at : RowRef) → HasHidden now at → IsTaken (now at)
taken_if_hidden now at hidden = ap holds_row hidden.1

-- a slot with a row is not a free slot
pub apart_if_free : (now : Slots) (a b : RowRef) → IsTaken (now a) → now b ≡ Free → a ≢ b
apart_if_free now a b taken free same =
    let both : true ≡ false = sym taken ∙ (ap (λ (r : RowRef). holds_row (now r)) same ∙ ap holds_row free) in cc

pub apart_if_live : (now : Slots) (a b : RowRef) → HasHidden now a → HasRow now b → a ≢ b
apart_if_live now a b hidden live same =
    let both : Hidden hidden.0 ≡ Live live.0 = sym hidden.1 ∙ (ap now same ∙ live.1) in cc

-- ---- what stays

-- Each slot of a table that has a row is unchanged, and so are all rows in use, all other tables, and the earlier log.
pub record KeepsTaken (table : ℕ) (old new : Base) : Type 0 where
  pub taken : (at : RowRef) → IsTaken (slots_in old.stored.tables table at) → slots_in new.stored.tables table at ≡ slots_in old.stored.tables table at
  pub rows : rows_now new.stored ≡ rows_now old.stored
  pub log : (records : List LogRecord) × (new.stored.log ≡ old.stored.log ++ records)
  pub marks : (mark : ℕ) → mark ≤ length old.stored.log → at_mark new.stored mark ≡ at_mark old.stored mark
  pub others : KeepsOthers table old.stored.tables new.stored.tables
  pub shapes : map shape_of new.stored.tables ≡ map shape_of old.stored.tables
  pub links : references_of new.links ≡ references_of old.links

pub log_longer : (t : ℕ) (a b : Base) → KeepsTaken t a b → length a.stored.log ≤ length b.stored.log
log_longer t a b kept =
    omega (arith, ap (λ (rs : List LogRecord). length rs) kept.log.1, length-append a.stored.log kept.log.0)

-- capacity was reserved
pub KeepsTaken-reserved : (t : ℕ) (old new : Base) → state_of new.stored.tables ≡ state_of old.stored.tables → new.stored.log ≡ old.stored.log
    → map shape_of new.stored.tables ≡ map shape_of old.stored.tables → KeepsOthers t old.stored.tables new.stored.tables
    → references_of new.links ≡ references_of old.links → KeepsTaken t old new
KeepsTaken-reserved t old new state log shapes others links = record {
  taken = λ at taken. ap (λ (s : List Slots). get_or s t no_slots at) state;
  rows = rows_from_state old.stored.tables new.stored.tables shapes (state_of old.stored.tables) state;
  log = ([], log ∙ sym (append-nil old.stored.log));
  marks = λ mark within. ap₂ (λ (rs : List LogRecord) (s : List Slots). before back (drop mark rs) s) log state;
  others = others;
  shapes = shapes;
  links = links;
}

-- a row was staged
module _ (t : ℕ) (old new : Base) (within : t < length old.stored.tables) (at : RowRef) (row : List Value) (free : slots_in old.stored.tables t at ≡ Free)
    (staged : state_of new.stored.tables ≡ set (state_of old.stored.tables) t (put at (Hidden row) (slots_in old.stored.tables t))) where
  pub slots_staged : slots_in new.stored.tables t ≡ put at (Hidden row) (slots_in old.stored.tables t)
  slots_staged =
      slots_next (state_of old.stored.tables) (state_of new.stored.tables) t (put at (Hidden row) (slots_in old.stored.tables t))
      (omega (arith, within, length-map old.stored.tables slots_of)) staged

  pub KeepsTaken-staged : rows_now new.stored ≡ rows_now old.stored → new.stored.log ≡ old.stored.log ++ logged t (Stage at) ∷ []
      → ((mark : ℕ) → mark ≤ length old.stored.log → at_mark new.stored mark ≡ at_mark old.stored mark)
      → KeepsOthers t old.stored.tables new.stored.tables → map shape_of new.stored.tables ≡ map shape_of old.stored.tables → new.links ≡ old.links
      → KeepsTaken t old new
  KeepsTaken-staged rows log marks others shapes links = record {
    taken = λ r taken.
        ap (λ (s : Slots). s r) slots_staged
        ∙ put_other at r (Hidden row) (slots_in old.stored.tables t)
        (λ same. apart_if_free (slots_in old.stored.tables t) r at taken free (sym same));
    rows = rows;
    log = (logged t (Stage at) ∷ [], log);
    marks = marks;
    others = others;
    shapes = shapes;
    links = ap references_of links;
  }
