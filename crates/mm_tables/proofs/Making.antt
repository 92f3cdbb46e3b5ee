-- The edits of a command, one after the other, and adding and dropping tables.
use Rattle.std.proofs.Common.{◌≡◌, ℕ, ◌+◌, ◌^◌, ◌<◌, ◌≤◌, ⊎_elim, zero, suc}
use Rattle.std.proofs.Common.{List, [], ◌∷◌, ◌++◌, length, map, get_or, set, drop, take, refl, sym, ap, ◌∙◌, subst, arith, add-one, length-set}
use Rattle.std.specs.Prelude.{remove}
use Rattle.std.specs.List.{All, sum_by}
use Rattle.std.proofs.lemmas.Bool.{cases_lt}
use Rattle.std.proofs.lemmas.List.{length-map, length-append, map-append, map_push, append_assoc, take_more, get_or_append_left}
use Rattle.std.proofs.lemmas.List.Edits.{length-remove, get_or-remove_below, get_or-remove_above}
use Rattle.std.proofs.lemmas.List.Elements.{All-cons}
use Rattle.std.proofs.Math.Seq.{drop-cons, get_or-append_seam}
use Rattle.mm_row_order.specs.Refs.{Slots}
use Rattle.mm_tables.specs.Edits.{step, NoneHidden, key_places, places}
use Rattle.mm_tables.specs.Log.{before, StandsBack}
use Rattle.mm_tables.specs.Tables.{Stored, no_slots, slots_of, shape_of, state_of, slots_in, keys_of, key_in, back, logged}
use Rattle.mm_tables.specs.Tables.{Holds, HasSpare, HasRoom, HasRoomFor, HasCounted, IsLogged}
use Rattle.mm_tables.specs.Commands.{after, FitsForth}
use Rattle.mm_tables.specs.declared.edit.Edit.{Edit}
use Rattle.mm_tables.specs.declared.log_record.LogRecord.{LogRecord}
use Rattle.mm_tables.specs.declared.logged_table.LoggedTable.{LoggedTable}
use Rattle.mm_tables.proofs.InTables.{slots_read, key_read, key_same, state_next, slots_next}
use Rattle.mm_tables.proofs.Room.{HasRoom-fewer, HasRoomFor-cons}

-- the item that a loop has reached
pub dropped : {X : Type 0} (xs : List X) (i : ℕ) (x : X) → i < length xs → x ≡ get_or xs i x → drop i xs ≡ x ∷ drop (i + 1) xs
dropped xs i x within is = rw (add-one i, drop-cons xs i x within) (ap (λ y. y ∷ drop (suc i) xs) (sym is))

-- the log has one more edit
pub log_more : (i : ℕ) (log : List LogRecord) (edits : List Edit) (k : ℕ) (e : Edit) → k < length edits → e ≡ get_or edits k e
    → (log ++ map (logged i) (take k edits)) ++ logged i e ∷ [] ≡ log ++ map (logged i) (take (k + 1) edits)
log_more i log edits k e within is =
    append_assoc log (map (logged i) (take k edits)) (logged i e ∷ [])
    ∙ ap (λ (rs : List LogRecord). log ++ rs)
    (sym (ap (map (logged i)) (take_more edits k e within ∙ ap (λ x. take k edits ++ x ∷ []) (sym is)) ∙ map_push (logged i) (take k edits) e))

-- the capacity for the remaining edits is for the next one and the others
pub room_ahead : (edits : List Edit) (i : ℕ) (e : Edit) (t : LoggedTable) → i < length edits → e ≡ get_or edits i e → HasRoomFor (drop i edits) t
    → HasRoom 0 (sum_by key_places (drop (i + 1) edits) + key_places e) (sum_by places (drop (i + 1) edits) + places e) t
room_ahead edits i e t within is was =
    HasRoomFor-cons e (drop (i + 1) edits) t (subst (λ (es : List Edit). HasRoomFor es t) (dropped edits i e within is) was)

pub room_next : (edits : List Edit) (i : ℕ) (e : Edit) (t : LoggedTable) → i < length edits → e ≡ get_or edits i e → HasRoomFor (drop i edits) t
    → HasRoom 0 (key_places e) (places e) t
room_next edits i e t within is was =
    HasRoom-fewer 0 (sum_by key_places (drop (i + 1) edits) + key_places e) (sum_by places (drop (i + 1) edits) + places e) 0 (key_places e) (places e) t
    (omega arith) (omega arith) (omega arith) (room_ahead edits i e t within is was)

-- one more edit is made
pub change_more : (t : ℕ) (log : List LogRecord) (old new : Stored) (edits : List Edit) (i : ℕ) (final : List Slots) (e : Edit)
    → new.log ≡ old.log ++ logged t e ∷ [] → state_of new.tables ≡ set (state_of old.tables) t (step e (slots_in old.tables t))
    → i < length edits → e ≡ get_or edits i e → t < length old.tables → map shape_of new.tables ≡ map shape_of old.tables
    → FitsForth (key_in old.tables t) (drop i edits) (slots_in old.tables t)
    → set (state_of old.tables) t (after (drop i edits) (slots_in old.tables t)) ≡ final → old.log ≡ log ++ map (logged t) (take i edits)
    → FitsForth (key_in new.tables t) (drop (i + 1) edits) (slots_in new.tables t)
    × (set (state_of new.tables) t (after (drop (i + 1) edits) (slots_in new.tables t)) ≡ final)
    × (new.log ≡ log ++ map (logged t) (take (i + 1) edits))
change_more t log old new edits i final e pushed made below is within shapes fits state so_far =
    let slots : Slots = slots_in old.tables t in
    let rest : List Edit = drop (i + 1) edits in
    let front : drop i edits ≡ e ∷ rest = dropped edits i e below is in
    let there : t < length (state_of old.tables) = omega (arith, within, length-map old.tables slots_of) in
    let next : slots_in new.tables t ≡ step e slots = slots_next (state_of old.tables) (state_of new.tables) t (step e slots) there made in
    let fit : FitsForth (key_in old.tables t) (e ∷ rest) slots = subst (λ (es : List Edit). FitsForth (key_in old.tables t) es slots) front fits in (
      subst (λ (k : ℕ). FitsForth k rest (slots_in new.tables t)) (sym (key_same old.tables new.tables t shapes))
          (subst (λ (s : Slots). FitsForth (key_in old.tables t) rest s) (sym next) fit.1),
      state_next (state_of old.tables) (state_of new.tables) t (step e slots) (after rest) there made
          ∙ (ap (λ (es : List Edit). set (state_of old.tables) t (after es slots)) (sym front) ∙ state),
      pushed ∙ (ap (λ (rs : List LogRecord). rs ++ logged t e ∷ []) so_far ∙ log_more t log edits i e below is),
    )

-- the slots of a table once the edits of a command are made
pub slots_made : (old new : List LoggedTable) (i : ℕ) (edits : List Edit) (table : LoggedTable) → i < length old → length new ≡ length old
    → state_of new ≡ set (state_of old) i (after edits (slots_in old i)) → table ≡ get_or new i table → slots_of table ≡ after edits (slots_in old i)
slots_made old new i edits table within size made read =
    let here : i < length new = omega (arith, within, size) in
    let there : i < length (state_of old) = omega (arith, within, length-map old slots_of) in
    sym (slots_read new i table here read) ∙ slots_next (state_of old) (state_of new) i (after edits (slots_in old i)) there made

-- a property of a table that was read
pub as_read : (tables : List LoggedTable) (i : ℕ) (table : LoggedTable) → i < length tables → table ≡ get_or tables i table → (P : ℕ → Slots → Type 0)
    → P table.rows.key (slots_of table) → P (key_in tables i) (slots_in tables i)
as_read tables i table within read P holds =
    subst (λ (k : ℕ). P k (slots_in tables i)) (sym (key_read tables i table within read))
    (subst (P table.rows.key) (sym (slots_read tables i table within read)) holds)

-- ---- the records of the log name tables that exist

length_before : (rs : List LogRecord) (s : List Slots) → length (before back rs s) ≡ length s
length_before [] s = refl
length_before (r ∷ rs) s = length-set (before back rs s) r.table _ ∙ length_before rs s

within_from : (keys : List ℕ) (rs : List LogRecord) (s : List Slots) → StandsBack back (Holds keys) rs s → All (λ r. r.table < length s) rs
within_from keys [] s stands = λ k d within. absurd (let no : ⊥ = omega (arith, within) in no)
within_from keys (r ∷ rs) s (rest, here) =
    All-cons (λ (x : LogRecord). x.table < length s) r rs (omega (arith, here.within, length_before rs s)) (within_from keys rs s rest)

pub all_within : (tables : List LoggedTable) (log : List LogRecord) → IsLogged tables log → All (λ r. r.table < length tables) log
all_within tables log is k d within =
    let there : (get_or log k d).table < length (state_of tables) = within_from (keys_of tables) log (state_of tables) is.stands k d within in
    omega (arith, there, length-map tables slots_of)

-- ---- a table is added or dropped while the log is empty

past_end : (ss : List Slots) (n : ℕ) → get_or (ss ++ no_slots ∷ []) n no_slots ≡ get_or ss n no_slots
past_end [] zero = refl
past_end [] (suc n) = refl
past_end (s ∷ ss) zero = refl
past_end (s ∷ ss) (suc n) = past_end ss n

pub no_entries : (t : LoggedTable) → t.owed.key ≡ 0 → t.owed.indexes ≡ 0 → HasSpare t.owed.key t.owed.indexes t.rows
no_entries t no_keys none = record { key = omega (arith, no_keys); indexes = λ k d within. omega (arith, none) }

pub IsLogged-added : (tables all : List LoggedTable) (log : List LogRecord) (t : LoggedTable) → all ≡ tables ++ t ∷ [] → log ≡ [] → length tables < 2 ^ 16
    → slots_of t ≡ no_slots → t.owed.key ≡ 0 → t.owed.indexes ≡ 0 → IsLogged tables log → IsLogged all log
IsLogged-added tables all log t added empty few free no_keys none was =
    let were : IsLogged tables [] = subst (IsLogged tables) empty was in
    let more : List LoggedTable = tables ++ t ∷ [] in
    let size : length more ≡ length tables + 1 = omega (arith, length-append tables (t ∷ [])) in
    let state : state_of more ≡ state_of tables ++ no_slots ∷ [] =
    map-append slots_of tables (t ∷ []) ∙ ap (λ (s : Slots). state_of tables ++ s ∷ []) free in
    subst (λ ts. IsLogged ts log) (sym added) (subst (IsLogged more) (sym empty) (record {
      few = omega (arith, few, size);
      stands = tt;
      clean = λ n. subst NoneHidden (sym (ap (λ (s : List Slots). get_or s n no_slots) state ∙ past_end (state_of tables) n)) (were.clean n);
      counted = λ n within d.
          ⊎_elim
          (λ (low : n < length tables). subst (HasCounted [] n) (sym (get_or_append_left tables (t ∷ []) d n low)) (were.counted n low d))
          (λ (high : length tables ≤ n).
          let last : n ≡ length tables = omega (arith, high, within, size) in
          let here : get_or more n d ≡ t = ap (λ (k : ℕ). get_or more k d) last ∙ get_or-append_seam tables t [] d in
          let counted : HasCounted [] n t = record { key = no_keys; indexes = none; spare = no_entries t no_keys none } in
          subst (HasCounted [] n) (sym here) counted)
          (cases_lt n (length tables));
    }))

map_remove : (tables : List LoggedTable) (i : ℕ) → state_of (remove tables i) ≡ remove (state_of tables) i
map_remove [] zero = refl
map_remove [] (suc i) = refl
map_remove (t ∷ ts) zero = refl
map_remove (t ∷ ts) (suc i) = ap (λ (ss : List Slots). slots_of t ∷ ss) (map_remove ts i)

pub IsLogged-removed : (tables rest : List LoggedTable) (log : List LogRecord) (i : ℕ) → rest ≡ remove tables i → log ≡ [] → i < length tables
    → IsLogged tables log → IsLogged rest log
IsLogged-removed tables rest log i removed empty within was =
    let were : IsLogged tables [] = subst (IsLogged tables) empty was in
    let size : length (remove tables i) + 1 ≡ length tables = length-remove tables i within in
    let there : i < length (state_of tables) = omega (arith, within, length-map tables slots_of) in
    subst (λ ts. IsLogged ts log) (sym removed) (subst (IsLogged (remove tables i)) (sym empty) (record {
      few = omega (arith, were.few, size);
      stands = tt;
      clean = λ n. subst (λ (ss : List Slots). NoneHidden (get_or ss n no_slots)) (sym (map_remove tables i))
          (⊎_elim
          (λ (low : n < i). subst NoneHidden (sym (get_or-remove_below (state_of tables) i no_slots n low there)) (were.clean n))
          (λ (high : i ≤ n). subst NoneHidden (sym (get_or-remove_above (state_of tables) i no_slots n high there)) (were.clean (n + 1)))
          (cases_lt n i));
      counted = λ n inside d.
          ⊎_elim
          (λ (low : n < i). subst (HasCounted [] n) (sym (get_or-remove_below tables i d n low within)) (were.counted n (omega (arith, low, within)) d))
          (λ (high : i ≤ n).
          let next : HasCounted [] (n + 1) (get_or tables (n + 1) d) = were.counted (n + 1) (omega (arith, inside, size)) d in
          let same : HasCounted [] n (get_or tables (n + 1) d) = record { key = next.key; indexes = next.indexes; spare = next.spare } in
          subst (HasCounted [] n) (sym (get_or-remove_above tables i d n high within)) same)
          (cases_lt n i);
    }))
