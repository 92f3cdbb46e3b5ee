-- The edits of a command with the refusals of the foreign keys.
use Rattle.std.proofs.Common.{◌≡◌, ◌<◌, ◌≤◌, ℕ, Bool, true, false, cond, List, ◌++◌, Option, Some, None, length, map, take, get_or, set, refl, ap}
use Rattle.std.proofs.Common.{ap₂, ◌∙◌, subst, arith}
use Rattle.std.specs.Bool.{OnFalse}
use Rattle.std.specs.List.{All, list_any}
use Rattle.std.specs.Prelude.{nat_lt}
use Rattle.std.proofs.lemmas.List.{drop_all, length-map, take_all}
use Rattle.mm_indexed.specs.Twins.{AreApart}
use Rattle.mm_link.specs.declared.link.Link.{Link}
use Rattle.mm_schema.specs.Refused.{first_refusal}
use Rattle.mm_schema.specs.Rows.{has_duplicate_keys, most_rows, table_rows_conditions}
use Rattle.mm_tables.specs.Commands.{after, IsCommand}
use Rattle.mm_tables.specs.Log.{before}
use Rattle.mm_tables.specs.Tables.{Stored, at_mark, back, extents_of, key_in, keys_of, logged, shape_of, slots_in, slots_of, state_of}
use Rattle.mm_tables.specs.declared.edit.Edit.{Edit}
use Rattle.mm_tables.specs.declared.log_record.LogRecord.{LogRecord}
use Rattle.mm_tables.proofs.InTables.{key_same, size_from_shapes, slots_next}
use Rattle.mm_tables.proofs.Slots.{on_false}
use Rattle.mm_value.specs.declared.refusal.Refusal.{Refusal}
use Rattle.mm_value.specs.declared.refusal.Refusal.TheVariants.{DuplicateKey, NoTargetRow, RowIsReferenced, TableFull}
use Rattle.mm_value.specs.declared.values.Value.{Value}
use Rattle.mm_base.specs.Bases.{AreLawful, IsSound, edit_conditions, rows_made}
use Rattle.mm_base.specs.Joined.{BehindEdits, IsBehindIn, IsJoined}
use Rattle.mm_base.specs.Orphans.{BringsTargets, SparesAll, brings_orphan, leaves_orphan}
use Rattle.mm_base.proofs.Due.{due_after}
use Rattle.mm_base.proofs.Joining.{behind_made, joined_same}
use Rattle.mm_base.proofs.OrphanRows.{losses_found, orphans_found}
use Rattle.mm_base.proofs.Staged.{made_back}

-- ---- the end of a log

pub at_end : (s : Stored) (mark : ℕ) → mark ≡ length s.log → at_mark s mark ≡ state_of s.tables
at_end s mark is = ap (λ (rs : List LogRecord). before back rs (state_of s.tables)) (drop_all mark s.log (omega (arith, is)))

pub log_end : (s : Stored) (mark : ℕ) → mark ≡ length s.log → take mark s.log ≡ s.log
log_end s mark is = take_all mark s.log (omega (arith, is))

-- ---- no refusal is due

none_of_four : (duplicates lacks leaves full : Bool)
    → cond duplicates (Some DuplicateKey) (cond lacks (Some NoTargetRow) (cond leaves (Some RowIsReferenced) (cond full (Some TableFull) None))) ≡ None
    → (lacks ≡ false) × (leaves ≡ false)
none_of_four true lacks leaves full none = let no : ⊥ = cc in absurd no
none_of_four false true leaves full none = let no : ⊥ = cc in absurd no
none_of_four false false true full none = let no : ⊥ = cc in absurd no
none_of_four false false false full none = (refl, refl)

pub full_none : (lacks leaves full : Bool) → due_after lacks leaves full ≡ None → full ≡ false
full_none true leaves full none = let no : ⊥ = cc in absurd no
full_none false true full none = let no : ⊥ = cc in absurd no
full_none false false true none = let no : ⊥ = cc in absurd no
full_none false false false none = refl

pub none_due : (key : ℕ) (rows : List (List Value)) (lacks leaves : Bool) → first_refusal (table_rows_conditions key rows lacks leaves) ≡ None
    → (lacks ≡ false) × (leaves ≡ false)
none_due key rows lacks leaves none = none_of_four (has_duplicate_keys key rows) lacks leaves (nat_lt most_rows (length rows)) none

-- ---- a command

module _ (old : Stored) (links : List Link) (sound : IsSound old links) (t : ℕ) (within : t < length old.tables) (edits : List Edit)
    (command : IsCommand (key_in old.tables t) edits (slots_in old.tables t)) (lacks leaves : Bool)
    (brings : lacks ≡ list_any (λ link. brings_orphan old.tables t edits link.reference) links)
    (loses : leaves ≡ list_any (λ link. leaves_orphan old.tables t edits link.reference) links) where
  pub due_same : first_refusal (table_rows_conditions (key_in old.tables t) (rows_made old t edits) lacks leaves)
      ≡ first_refusal (edit_conditions (record { stored = old; links = links }) t edits)
  due_same =
      ap₂ {C = Option Refusal} (λ (a b : Bool). first_refusal (table_rows_conditions (key_in old.tables t) (rows_made old t edits) a b))
      (brings ∙ orphans_found old.tables old.log sound.lawful t within edits command links sound.joined)
      (loses ∙ losses_found old.tables t edits links)

  module _ (new : Stored) (shapes : map shape_of new.tables ≡ map shape_of old.tables) (extents : extents_of new.tables ≡ extents_of old.tables) where
    -- the command is refused
    pub joined_refused : state_of new.tables ≡ state_of old.tables → new.log ≡ old.log → All (IsJoined new.tables new.log) links
    joined_refused state log k d inside =
        joined_same old.tables new.tables shapes (get_or links k d) old.log new.log extents state log (sound.joined k d inside)

    -- the command is made
    pub behind_all : state_of new.tables ≡ set (state_of old.tables) t (after edits (slots_in old.tables t))
        → new.log ≡ old.log ++ map (logged t) edits → ((mark : ℕ) → mark ≤ length old.log → at_mark new mark ≡ at_mark old mark)
        → AreLawful (keys_of new.tables) (state_of new.tables)
        → first_refusal (table_rows_conditions (key_in old.tables t) (rows_made old t edits) lacks leaves) ≡ None
        → OnFalse lacks (All (BringsTargets old.tables t edits) links) → OnFalse leaves (All (SparesAll old.tables t edits) links)
        → All (IsBehindIn (BehindEdits new.tables edits) t new.tables new.log) links
    behind_all made log marks lawful none come spare k d inside =
        let there : t < length (state_of old.tables) = omega (arith, within, length-map old.tables slots_of) in
        let still : t < length (state_of new.tables) =
        omega (arith, within, size_from_shapes old.tables new.tables shapes, length-map new.tables slots_of) in
        let keys_apart : AreApart (key_in old.tables t) (after edits (slots_in old.tables t)) =
        subst (AreApart (key_in old.tables t))
        (slots_next (state_of old.tables) (state_of new.tables) t (after edits (slots_in old.tables t)) there made)
        (subst (λ (key : ℕ). AreApart key (slots_in new.tables t)) (key_same old.tables new.tables t shapes) (lawful t still).apart) in
        let neither = none_due (key_in old.tables t) (rows_made old t edits) lacks leaves none in
        behind_made old.tables new.tables shapes (get_or links k d) t edits within command made old.log new.log log
        (made_back old new (map (logged t) edits) log marks) extents
        (on_false (All (BringsTargets old.tables t edits) links) lacks neither.0 come k d inside)
        (on_false (All (SparesAll old.tables t edits) links) leaves neither.1 spare k d inside) keys_apart (sound.joined k d inside)
