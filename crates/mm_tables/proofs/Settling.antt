-- The hidden rows are those that edits have hidden.
use Rattle.std.proofs.Common.{◌≡◌, ◌≢◌, ℕ, ◌+◌, ◌<◌, ◌≤◌, ◌⊎◌, ⊎_elim, inl, inr}
use Rattle.std.proofs.Common.{List, [], ◌∷◌, drop, length, map, get_or, set, Some, refl, sym, ap, ◌∙◌, subst, arith}
use Rattle.std.specs.List.{All, Contains}
use Rattle.std.proofs.lemmas.Bool.{cases_eq, cases_lt}
use Rattle.std.proofs.lemmas.List.{get_or-set_same, get_or-set_other, get_or_default}
use Rattle.std.proofs.lemmas.List.Elements.{Contains-append_left, Contains-append_right}
use Rattle.mm_value.specs.declared.row_ref.RowRef.{RowRef}
use Rattle.mm_value.specs.declared.values.Value.{Value}
use Rattle.mm_partition.specs.Places.{Content, Free, Live, Hidden}
use Rattle.mm_row_order.specs.Refs.{Slots, HasRow, HasHidden, row_at}
use Rattle.mm_tables.specs.Edits.{put, exchanged, step_back, Stands, NoneHidden, kept_by, Owes, IsCleared, DropsHidden}
use Rattle.mm_tables.specs.Log.{before, StandsBack}
use Rattle.mm_tables.specs.Tables.{no_slots, slots_of, shape_of, state_of, slots_in, keys_of, back, logged}
use Rattle.mm_tables.specs.Tables.{Holds, HasSpare, HasCounted, HasFewSpares, HoldsAt, IsLogged}
use Rattle.mm_tables.specs.declared.edit.Edit.{Edit}
use Rattle.mm_tables.specs.declared.edit.Edit.TheVariants.{Stage, Insert, Update, Move, Delete}
use Rattle.mm_tables.specs.declared.log_record.LogRecord.{LogRecord}
use Rattle.mm_tables.specs.declared.logged_table.LoggedTable.{LoggedTable}
use Rattle.mm_tables.proofs.Slots.{same_or_apart, holds_at, put_other, put_here}
use Rattle.mm_tables.proofs.InTables.{size_from_shapes, slots_read, slots-here, slots-other, shapes-set}
use Rattle.mm_tables.proofs.Logging.{counted-forgotten}
use Rattle.mm_tables.proofs.Making.{dropped}

not_both : (now : Slots) (a b : RowRef) → HasRow now a → HasHidden now b → a ≢ b
not_both now a b (x, live) (y, hidden) same = let both : Live x ≡ Hidden y = sym live ∙ (ap now same ∙ hidden) in cc

exchange_hides : (a b : RowRef) (now : Slots) (at : RowRef) → HasRow now a → HasHidden now at → HasHidden (exchanged a b now) at
exchange_hides a b now at live (row, is) =
    let left : exchanged a b now at ≡ put b (Hidden (row_at now a)) now at =
    put_other a at (Live (row_at now b)) (put b (Hidden (row_at now a)) now) (not_both now a at live (row, is)) in
    ⊎_elim
    (λ (same : b ≡ at). (row_at now a, left ∙ put_here b at (Hidden (row_at now a)) now same))
    (λ (apart : b ≢ at). (row, left ∙ (put_other b at (Hidden (row_at now a)) now apart ∙ is)))
    (same_or_apart b at)

-- an edit that is undone leaves a row hidden, or had hidden it
step_hidden : (key : ℕ) (e : Edit) (now : Slots) (at : RowRef) → Stands key now e → HasHidden now at → HasHidden (step_back e now) at ⊎ (kept_by e ≡ Some at)
step_hidden key (Stage r) now at stands (row, is) =
    ⊎_elim (λ (same : r ≡ at). inr (ap Some same)) (λ (apart : r ≢ at). inl (row, put_other r at Free now apart ∙ is)) (same_or_apart r at)
step_hidden key (Insert r) now at stands (row, is) =
    inl (row, put_other r at (Hidden (row_at now r)) now (not_both now r at stands (row, is)) ∙ is)
step_hidden key (Update a b) now at (live, hidden, same_key) is = inl (exchange_hides a b now at live is)
step_hidden key (Move a b) now at (live, hidden) is = inl (exchange_hides a b now at live is)
step_hidden key (Delete r) now at stands (row, is) =
    ⊎_elim
    (λ (same : r ≡ at). inr (ap Some same))
    (λ (apart : r ≢ at). inl (row, put_other r at (Live (row_at now r)) now apart ∙ is))
    (same_or_apart r at)

-- an edit of the log has hidden the slot of a table
abbrev pub KeptIn : List LogRecord → ℕ → RowRef → Type 0
KeptIn rs t at = (r : LogRecord) × Contains rs r × (r.table ≡ t) × (kept_by r.edit ≡ Some at)

-- .. and the same for all tables
back_hidden : (keys : List ℕ) (r : LogRecord) (s : List Slots) (t : ℕ) (at : RowRef) → Holds keys s r → HasHidden (get_or s t no_slots) at
    → HasHidden (get_or (back r s) t no_slots) at ⊎ ((r.table ≡ t) × (kept_by r.edit ≡ Some at))
back_hidden keys r s t at holds hidden =
    let undone : Slots = step_back r.edit (get_or s r.table no_slots) in
    ⊎_elim
    (λ (same : t ≡ r.table).
    ⊎_elim
    (λ (still : HasHidden undone at).
    inl (still.0, ap (λ (x : Slots). x at) (ap (λ n. get_or (back r s) n no_slots) same ∙ get_or-set_same s r.table undone no_slots holds.within) ∙ still.1))
    (λ (kept : kept_by r.edit ≡ Some at). inr (sym same, kept))
    (step_hidden (get_or keys r.table 0) r.edit (get_or s r.table no_slots) at holds.stands
    (subst (λ (n : ℕ). HasHidden (get_or s n no_slots) at) same hidden)))
    (λ (apart : t ≢ r.table). inl (hidden.0, ap (λ (x : Slots). x at) (get_or-set_other s r.table t undone no_slots apart) ∙ hidden.1))
    (cases_eq t r.table)

hidden_before : (keys : List ℕ) (rs : List LogRecord) (s : List Slots) (t : ℕ) (at : RowRef) → StandsBack back (Holds keys) rs s
    → HasHidden (get_or s t no_slots) at → HasHidden (get_or (before back rs s) t no_slots) at ⊎ KeptIn rs t at
hidden_before keys [] s t at stands hidden = inl hidden
hidden_before keys (r ∷ rs) s t at (rest, here) hidden =
    ⊎_elim
    (λ (still : HasHidden (get_or (before back rs s) t no_slots) at).
    ⊎_elim
    (λ (h : HasHidden (get_or (back r (before back rs s)) t no_slots) at). inl h)
    (λ (kept : (r.table ≡ t) × (kept_by r.edit ≡ Some at)). inr (r, Contains-append_left (r ∷ []) rs r (0, omega arith, refl), kept.0, kept.1))
    (back_hidden keys r (before back rs s) t at here still))
    (λ (kept : KeptIn rs t at). inr (kept.0, Contains-append_right (r ∷ []) rs kept.0 kept.1, kept.2, kept.3))
    (hidden_before keys rs s t at rest hidden)

-- each hidden row was hidden by an edit of the log
hidden_is_kept : (tables : List LoggedTable) (log : List LogRecord) (t : ℕ) (at : RowRef) → IsLogged tables log → HasHidden (slots_in tables t) at
    → KeptIn log t at
hidden_is_kept tables log t at logged hidden =
    ⊎_elim
    (λ (h : HasHidden (get_or (before back log (state_of tables)) t no_slots) at). absurd (logged.clean t at h))
    (λ (kept : KeptIn log t at). kept)
    (hidden_before (keys_of tables) log (state_of tables) t at logged.stands hidden)

-- the slot that an edit of the log has hidden is not hidden in its table
abbrev pub ClearedIn : List LoggedTable → LogRecord → Type 0
ClearedIn tables r = IsCleared (slots_in tables r.table) r.edit

-- so no row is hidden once those are dropped
pub none_hidden : (old new : List LoggedTable) (log : List LogRecord) → IsLogged old log → All (ClearedIn new) log
    → ((t : ℕ) → DropsHidden (slots_in old t) (slots_in new t)) → (t : ℕ) → NoneHidden (slots_in new t)
none_hidden old new log logged cleared drops t at (row, is) =
    ⊎_elim
    (λ (same : slots_in new t at ≡ slots_in old t at).
    let kept : KeptIn log t at = hidden_is_kept old log t at logged (row, sym same ∙ is) in
    holds_at (ClearedIn new) log kept.0 cleared kept.1 at kept.3 (row, ap (λ (n : ℕ). slots_in new n at) kept.2 ∙ is))
    (λ (dropped : HasHidden (slots_in old t) at × (slots_in new t at ≡ Free)).
    let both : Hidden row ≡ Free = sym is ∙ dropped.1 in let no : ⊥ = cc in absurd no)
    (drops t at)

-- rows in use stay, and every other slot is free
pub settled_live : (old new : Slots) → DropsHidden old new → (at : RowRef) → HasRow old at → new at ≡ old at
settled_live old new drops at (row, live) =
    ⊎_elim
    (λ (same : new at ≡ old at). same)
    (λ (dropped : HasHidden old at × (new at ≡ Free)). let both : Live row ≡ Hidden dropped.0.0 = sym live ∙ dropped.0.1 in let no : ⊥ = cc in absurd no)
    (drops at)

content_cases : (c : Content) → (c ≡ Free) ⊎ (((row : List Value) × (c ≡ Live row)) ⊎ ((row : List Value) × (c ≡ Hidden row)))
content_cases Free = inl refl
content_cases (Live row) = inr (inl (row, refl))
content_cases (Hidden row) = inr (inr (row, refl))

pub settled_free : (old new : Slots) → DropsHidden old new → NoneHidden new → (at : RowRef) → (HasRow old at → ⊥) → new at ≡ Free
settled_free old new drops none at no_row =
    ⊎_elim
    (λ (same : new at ≡ old at).
    ⊎_elim (λ (free : new at ≡ Free). free)
    (λ (rest : HasRow new at ⊎ HasHidden new at).
    ⊎_elim (λ (live : HasRow new at). absurd (no_row (live.0, sym same ∙ live.1))) (λ (hidden : HasHidden new at). absurd (none at hidden)) rest)
    (content_cases (new at)))
    (λ (dropped : HasHidden old at × (new at ≡ Free)). dropped.1)
    (drops at)

-- one more drop
pub DropsHidden-more : (old mid new : Slots) → DropsHidden old mid → DropsHidden mid new → DropsHidden old new
DropsHidden-more old mid new first second at =
    ⊎_elim
    (λ (same : mid at ≡ old at).
    ⊎_elim
    (λ (again : new at ≡ mid at). inl (again ∙ same))
    (λ (dropped : HasHidden mid at × (new at ≡ Free)). inr ((dropped.0.0, sym same ∙ dropped.0.1), dropped.1))
    (second at))
    (λ (dropped : HasHidden old at × (mid at ≡ Free)).
    ⊎_elim
    (λ (again : new at ≡ mid at). inr (dropped.0, again ∙ dropped.1))
    (λ (later : HasHidden mid at × (new at ≡ Free)). let both : Free ≡ Hidden later.0.0 = sym dropped.1 ∙ later.0.1 in let no : ⊥ = cc in absurd no)
    (second at))
    (first at)

pub IsCleared-kept : (mid new : Slots) (e : Edit) → DropsHidden mid new → IsCleared mid e → IsCleared new e
IsCleared-kept mid new e drops cleared at kept (row, is) =
    ⊎_elim
    (λ (same : new at ≡ mid at). cleared at kept (row, sym same ∙ is))
    (λ (dropped : HasHidden mid at × (new at ≡ Free)). let both : Hidden row ≡ Free = sym is ∙ dropped.1 in let no : ⊥ = cc in absurd no)
    (drops at)

-- ---- one table of several drops a hidden row

module _ (tables : List LoggedTable) (i : ℕ) (old new : LoggedTable) (within : i < length tables) (read : old ≡ get_or tables i old)
    (drops : DropsHidden (slots_of old) (slots_of new)) where
  pub drops-set : (t : ℕ) → DropsHidden (slots_in tables t) (slots_in (set tables i new) t)
  drops-set t =
      ⊎_elim
      (λ (same : t ≡ i).
      subst (λ (n : ℕ). DropsHidden (slots_in tables n) (slots_in (set tables i new) n)) (sym same)
      (subst (λ (s : Slots). DropsHidden s (slots_in (set tables i new) i)) (sym (slots_read tables i old within read))
      (subst (λ (s : Slots). DropsHidden (slots_of old) s) (sym (slots-here tables i old new within read)) drops)))
      (λ (apart : t ≢ i). λ at. inl (ap (λ (s : Slots). s at) (slots-other tables i old new within read t apart)))
      (cases_eq t i)

  pub cleared-set : (r : LogRecord) → r.table ≡ i → IsCleared (slots_of new) r.edit → ClearedIn (set tables i new) r
  cleared-set r here cleared =
      subst (λ (n : ℕ). IsCleared (slots_in (set tables i new) n) r.edit) (sym here)
      (subst (λ (s : Slots). IsCleared s r.edit) (sym (slots-here tables i old new within read)) cleared)

  -- slots that were cleared before still are
  pub still_cleared : (r : LogRecord) → ClearedIn tables r → ClearedIn (set tables i new) r
  still_cleared r was = IsCleared-kept (slots_in tables r.table) (slots_in (set tables i new) r.table) r.edit (drops-set r.table) was

-- ---- one more edit of the log is forgotten

pub forget_more : (start tables : List LoggedTable) (log : List LogRecord) (i t : ℕ) (e : Edit) (old new : LoggedTable) → old ≡ get_or tables t old
    → DropsHidden (slots_of old) (slots_of new) → IsCleared (slots_of new) e → Owes e new.owed old.owed → HasSpare new.owed.key new.owed.indexes new.rows
    → shape_of new ≡ shape_of old → i < length log → logged t e ≡ get_or log i (logged t e) → All (λ r. r.table < length start) log
    → ((k : ℕ) (d : LogRecord) → k < i → ClearedIn tables (get_or log k d)) → ((n : ℕ) → DropsHidden (slots_in start n) (slots_in tables n))
    → ((n : ℕ) → n < length tables → HoldsAt (HasCounted (drop i log) n) tables n) → map shape_of tables ≡ map shape_of start
    → ((k : ℕ) (d : LogRecord) → k < i + 1 → ClearedIn (set tables t new) (get_or log k d))
    × ((n : ℕ) → DropsHidden (slots_in start n) (slots_in (set tables t new) n))
    × ((n : ℕ) → n < length (set tables t new) → HoldsAt (HasCounted (drop (i + 1) log) n) (set tables t new) n)
    × (map shape_of (set tables t new) ≡ map shape_of start)
forget_more start tables log i t e old new read drops clears owed spare shape below is names cleared others counted shapes =
    let r : LogRecord = logged t e in
    let rest : List LogRecord = drop (i + 1) log in
    let there : t < length start = subst (λ (x : LogRecord). x.table < length start) (sym is) (names i r below) in
    let within : t < length tables = omega (arith, there, size_from_shapes start tables shapes) in
    let front : drop i log ≡ r ∷ rest = dropped log i r below is in (
      λ k d inside.
          ⊎_elim
          (λ (before_it : k < i). still_cleared tables t old new within read drops (get_or log k d) (cleared k d before_it))
          (λ (after_it : i ≤ k).
          let same : k ≡ i = omega (arith, after_it, inside) in
          let item : get_or log k d ≡ r = ap (λ (n : ℕ). get_or log n d) same ∙ (get_or_default log i d r below ∙ sym is) in
          subst (ClearedIn (set tables t new)) (sym item) (cleared-set tables t old new within read drops r (λ j. t) clears))
          (cases_lt k i),
      λ n. DropsHidden-more (slots_in start n) (slots_in tables n) (slots_in (set tables t new) n) (others n)
          (drops-set tables t old new within read drops n),
      counted-forgotten tables r rest old new within read owed spare
          (λ n inside. subst (λ (rs : List LogRecord). HoldsAt (HasCounted rs n) tables n) front (counted n inside)),
      shapes-set tables t old new within read shape ∙ shapes,
    )

-- ---- the state stays while trees are trimmed

pub cleared-same : (old new : List LoggedTable) (log : List LogRecord) → state_of new ≡ state_of old → All (ClearedIn old) log → All (ClearedIn new) log
cleared-same old new log same was =
    subst (λ (ss : List Slots). All (λ (r : LogRecord). IsCleared (get_or ss r.table no_slots) r.edit) log) (sym same) was

pub drops-same : (start old new : List LoggedTable) → state_of new ≡ state_of old → ((t : ℕ) → DropsHidden (slots_in start t) (slots_in old t))
    → (t : ℕ) → DropsHidden (slots_in start t) (slots_in new t)
drops-same start old new same was t = subst (λ (ss : List Slots). DropsHidden (slots_in start t) (get_or ss t no_slots)) (sym same) (was t)

-- a property of the table that was trimmed last
pub last_is : (x t : ℕ) (P : ℕ → Type 0) → Some x ≡ Some t → P x → P t
last_is x t P is here = subst P (let same : x ≡ t = cc in same) here

-- one more record names a table that was trimmed
pub trim_more : (tables new : List LoggedTable) (log : List LogRecord) (i t : ℕ) (e : Edit) → i < length log → logged t e ≡ get_or log i (logged t e)
    → HoldsAt (HasFewSpares 64) new t → ((n : ℕ) → HoldsAt (HasFewSpares 64) tables n → HoldsAt (HasFewSpares 64) new n)
    → ((k : ℕ) (d : LogRecord) → k < i → HoldsAt (HasFewSpares 64) tables (get_or log k d).table)
    → (k : ℕ) (d : LogRecord) → k < i + 1 → HoldsAt (HasFewSpares 64) new (get_or log k d).table
trim_more tables new log i t e below is few kept done k d inside =
    ⊎_elim
    (λ (earlier : k < i). kept (get_or log k d).table (done k d earlier))
    (λ (last : i ≤ k).
    let same : k ≡ i = omega (arith, last, inside) in
    let item : get_or log k d ≡ logged t e = ap (λ (n : ℕ). get_or log n d) same ∙ (get_or_default log i d (logged t e) below ∙ sym is) in
    subst (λ (r : LogRecord). HoldsAt (HasFewSpares 64) new r.table) (sym item) few)
    (cases_lt k i)
