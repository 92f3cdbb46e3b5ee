-- The edits of a command that are made at once, and their undo.
use Rattle.std.proofs.Common.{◌≡◌, ◌≢◌, ℕ, ◌<◌, List, [], ◌∷◌, ◌++◌, length, map, get_or, set, refl, sym, ap, ap₂, ◌∙◌}
use Rattle.std.proofs.Common.{subst, arith, length-set}
use Rattle.std.specs.List.{sum_by}
use Rattle.std.proofs.lemmas.List.{length-map, get_or-set_same, set-get_or}
use Rattle.std.proofs.lemmas.List.Sums.{sum_by-append, sum_by-cons}
use Rattle.mm_value.specs.declared.row_ref.RowRef.{RowRef}
use Rattle.mm_schema.specs.Rows.{column_cmp}
use Rattle.mm_partition.specs.Places.{Live, Hidden, row_in}
use Rattle.mm_row_order.specs.Refs.{Slots, HasRow, HasHidden, row_at}
use Rattle.mm_indexed.proofs.Steps.{live_not_hidden}
use Rattle.mm_tables.specs.Edits.{same_ref, put, exchanged, step, step_back, Fits, Stands, NoneHidden, key_places_back, places_back}
use Rattle.mm_tables.specs.Commands.{after, FitsForth, IsCommand, OwesAll, Suits}
use Rattle.mm_tables.specs.Log.{before, StandsBack}
use Rattle.mm_tables.specs.Tables.{no_slots, slots_of, state_of, slots_in, keys_of, key_in, back, logged, places_in}
use Rattle.mm_tables.specs.Tables.{Holds, HasSpare, HasCounted, HoldsAt, IsLogged}
use Rattle.mm_tables.specs.declared.bulk.Bulk.{Bulk}
use Rattle.mm_tables.specs.declared.edit.Edit.{Edit}
use Rattle.mm_tables.specs.declared.edit.Edit.TheVariants.{Stage, Insert, Update, Move, Delete}
use Rattle.mm_tables.specs.declared.log_record.LogRecord.{LogRecord}
use Rattle.mm_tables.specs.declared.logged_table.LoggedTable.{LoggedTable}
use Rattle.mm_tables.proofs.Commands.{step_leaves}
use Rattle.mm_tables.proofs.InTables.{from_HoldsAt, key_read, slots_read, state-set, state_next, keys-set, each-set}
use Rattle.mm_tables.proofs.Logging.{counted_read, places-here, places-elsewhere}
use Rattle.mm_tables.proofs.Logs.{before-append, StandsBack-append}
use Rattle.mm_tables.proofs.Slots.{same_from_test, apart_from_test, equal_turns, picked, put_here, put_other}

-- ---- the undo of an edit

-- a row is exchanged with a hidden row
pub exchanged_there : (a b : RowRef) (now : Slots) → a ≢ b → exchanged a b now b ≡ Hidden (row_at now a)
exchanged_there a b now apart =
    put_other a b (Live (row_at now b)) (put b (Hidden (row_at now a)) now) apart ∙ put_here b b (Hidden (row_at now a)) now refl

pub exchanged_here : (a b : RowRef) (now : Slots) → exchanged a b now a ≡ Live (row_at now b)
exchanged_here a b now = put_here a a (Live (row_at now b)) (put b (Hidden (row_at now a)) now) refl

exchange_undone : (a b : RowRef) (now : Slots) → HasRow now a → HasHidden now b → exchanged a b (exchanged a b now) ≡ now
exchange_undone a b now live hidden = λ i r.
    picked (same_ref a r) _ _ (now r)
    (λ at_a. ap (λ c. Live (row_in c)) (exchanged_there a b now (live_not_hidden now a b live hidden))
    ∙ (ap (λ c. Live (row_in c)) live.1 ∙ (sym live.1 ∙ ap now (same_from_test a r at_a))))
    (λ not_a. picked (same_ref b r) _ _ (now r)
    (λ at_b. ap (λ c. Hidden (row_in c)) (exchanged_here a b now)
    ∙ (ap (λ c. Hidden (row_in c)) hidden.1 ∙ (sym hidden.1 ∙ ap now (same_from_test b r at_b))))
    (λ not_b. step_leaves (Update a b) now r (λ same. apart_from_test a r not_a (sym same), λ same. apart_from_test b r not_b (sym same))))
    i

pub edit_undone : (key : ℕ) (e : Edit) (now : Slots) → Fits key now e → step_back e (step e now) ≡ now
edit_undone key (Stage s) now fits = absurd fits
edit_undone key (Insert s) now hidden = λ i r.
    picked (same_ref s r) _ _ (now r)
    (λ here. ap (λ c. Hidden (row_in c)) (put_here s s (Live (row_in (now s))) now refl)
    ∙ (ap (λ c. Hidden (row_in c)) hidden.1 ∙ (sym hidden.1 ∙ ap now (same_from_test s r here))))
    (λ away. put_other s r (Live (row_in (now s))) now (λ same. apart_from_test s r away (sym same)))
    i
edit_undone key (Update a b) now (live, hidden, same) = exchange_undone a b now live hidden
edit_undone key (Move a b) now (live, hidden) = exchange_undone a b now live hidden
edit_undone key (Delete s) now live = λ i r.
    picked (same_ref s r) _ _ (now r)
    (λ here. ap (λ c. Live (row_in c)) (put_here s s (Hidden (row_in (now s))) now refl)
    ∙ (ap (λ c. Live (row_in c)) live.1 ∙ (sym live.1 ∙ ap now (same_from_test s r here))))
    (λ away. put_other s r (Hidden (row_in (now s))) now (λ same. apart_from_test s r away (sym same)))
    i

-- an edit leaves its slots as its undo requires them
pub edit_stands : (key : ℕ) (e : Edit) (now : Slots) → Fits key now e → Stands key (step e now) e
edit_stands key (Stage s) now fits = absurd fits
edit_stands key (Insert s) now hidden = (row_in (now s), put_here s s (Live (row_in (now s))) now refl)
edit_stands key (Update a b) now (live, hidden, same) =
    let there : exchanged a b now b ≡ Hidden (row_at now a) = exchanged_there a b now (live_not_hidden now a b live hidden) in (
      (row_at now b, exchanged_here a b now),
      (row_at now a, there),
      ap₂ (λ c d. column_cmp key (row_in c) (row_in d)) (exchanged_here a b now) there ∙ equal_turns key (row_at now a) (row_at now b) same,
    )
edit_stands key (Move a b) now (live, hidden) = (
  (row_at now b, exchanged_here a b now),
  (row_at now a, exchanged_there a b now (live_not_hidden now a b live hidden)),
)
edit_stands key (Delete s) now live = (row_in (now s), put_here s s (Hidden (row_in (now s))) now refl)

-- ---- the undo of all edits

edits_undone : (t key : ℕ) (es : List Edit) (state : List Slots) (now : Slots) → t < length state → FitsForth key es now
    → before back (map (logged t) es) (set state t (after es now)) ≡ set state t now
edits_undone t key [] state now within fits = refl
edits_undone t key (e ∷ es) state now within (fit, fits) =
    let next : Slots = step e now in
    state_next state (before back (map (logged t) es) (set state t (after es next))) t next (step_back e) within (edits_undone t key es state next within fits)
    ∙ ap (set state t) (edit_undone key e now fit)

edits_stand : (t key : ℕ) (keys : List ℕ) → get_or keys t 0 ≡ key → (es : List Edit) (state : List Slots) (now : Slots) → t < length state
    → FitsForth key es now → StandsBack back (Holds keys) (map (logged t) es) (set state t (after es now))
edits_stand t key keys is [] state now within fits = tt
edits_stand t key keys is (e ∷ es) state now within (fit, fits) =
    let next : Slots = step e now in
    let here : Holds keys (set state t next) (logged t e) = record {
      within = omega (arith, within, length-set state t next);
      stands = subst (λ (k : ℕ). Stands k (get_or (set state t next) t no_slots) e) (sym is)
          (subst (λ (s : Slots). Stands key s e) (sym (get_or-set_same state t next no_slots within)) (edit_stands key e now fit));
    } in (
      edits_stand t key keys is es state next within fits,
      subst (λ (ss : List Slots). Holds keys ss (logged t e)) (sym (edits_undone t key es state next within fits)) here,
    )

-- ---- the capacity that a table owes

counted_here : (count : Edit → ℕ) (t : ℕ) (es : List Edit) → sum_by (places_in count t) (map (logged t) es) ≡ sum_by count es
counted_here count t [] = refl
counted_here count t (e ∷ es) =
    omega (
      arith,
      sum_by-cons (places_in count t) (logged t e) (map (logged t) es),
      sum_by-cons count e es,
      places-here count t (logged t e) refl,
      counted_here count t es,
    )

counted_elsewhere : (count : Edit → ℕ) (t i : ℕ) → t ≢ i → (es : List Edit) → sum_by (places_in count t) (map (logged i) es) ≡ 0
counted_elsewhere count t i apart [] = refl
counted_elsewhere count t i apart (e ∷ es) =
    omega (
      arith,
      sum_by-cons (places_in count t) (logged i e) (map (logged i) es),
      places-elsewhere count t (logged i e) apart,
      counted_elsewhere count t i apart es,
    )

-- ---- the log of all tables

module _ (tables : List LoggedTable) (i : ℕ) (old new : LoggedTable) (within : i < length tables) (read : old ≡ get_or tables i old)
    (es : List Edit) (fits : FitsForth old.rows.key es (slots_of old))
    (made : slots_of new ≡ after es (slots_of old)) where
  there : i < length (state_of tables)
  there = omega (arith, within, length-map tables slots_of)

  state_made : state_of (set tables i new) ≡ set (state_of tables) i (after es (slots_of old))
  state_made = state-set tables i old new within read (after es (slots_of old)) made

  pub state_undone : before back (map (logged i) es) (state_of (set tables i new)) ≡ state_of tables
  state_undone =
      ap (before back (map (logged i) es)) state_made
      ∙ (edits_undone i old.rows.key es (state_of tables) (slots_of old) there fits
      ∙ (ap (set (state_of tables) i) (sym (slots_read tables i old within read)) ∙ set-get_or (state_of tables) i no_slots))

  pub IsLogged-edits : (log new_log : List LogRecord) → new_log ≡ log ++ map (logged i) es → new.rows.key ≡ old.rows.key
      → OwesAll es old.owed new.owed → HasSpare new.owed.key new.owed.indexes new.rows → IsLogged tables log → IsLogged (set tables i new) new_log
  IsLogged-edits log new_log pushed key owed spare before_it =
      let rs : List LogRecord = map (logged i) es in
      let now : List Slots = state_of (set tables i new) in
      let keys : List ℕ = keys_of tables in
      subst (IsLogged (set tables i new)) (sym pushed) (record {
        few = omega (arith, before_it.few, length-set tables i new);
        stands = subst (λ (ks : List ℕ). StandsBack back (Holds ks) (log ++ rs) now) (sym (keys-set tables i old new within read key))
            (StandsBack-append back (Holds keys) log rs now
            (subst (StandsBack back (Holds keys) log) (sym state_undone) before_it.stands)
            (subst (StandsBack back (Holds keys) rs) (sym state_made)
            (edits_stand i old.rows.key keys (key_read tables i old within read) es (state_of tables) (slots_of old) there fits)));
        clean = λ t. subst (λ (s : List Slots). NoneHidden (get_or s t no_slots)) (sym (before-append back log rs now ∙ ap (before back log) state_undone))
            (before_it.clean t);
        counted = each-set tables i old new within read (HasCounted (log ++ rs))
            (let here : HasCounted log i old = counted_read tables log i old within read before_it in record {
              key = omega (arith, owed.key, here.key, sum_by-append (places_in key_places_back i) log rs, counted_here key_places_back i es);
              indexes = omega (arith, owed.indexes, here.indexes, sum_by-append (places_in places_back i) log rs, counted_here places_back i es);
              spare = spare;
            })
            (λ t apart inside d. let other : HasCounted log t (get_or tables t d) = before_it.counted t inside d in record {
              key = omega (
                arith,
                other.key,
                sum_by-append (places_in key_places_back t) log rs,
                counted_elsewhere key_places_back t i apart es,
              );
              indexes = omega (arith, other.indexes, sum_by-append (places_in places_back t) log rs, counted_elsewhere places_back t i apart es);
              spare = other.spare;
            });
      })

-- ---- the table that was read

module _ (tables now : List LoggedTable) (t : ℕ) (old : LoggedTable) (es : List Edit) (same : tables ≡ now) (within : t < length tables)
    (read : old ≡ get_or tables t old) where
  pub command_here : IsCommand (key_in now t) es (slots_in now t) → IsCommand old.rows.key es (slots_of old)
  command_here command =
      subst (λ (k : ℕ). IsCommand k es (slots_of old)) (key_read tables t old within read)
      (subst (λ (s : Slots). IsCommand (key_in tables t) es s) (slots_read tables t old within read)
      (subst (λ (ts : List LoggedTable). IsCommand (key_in ts t) es (slots_in ts t)) (sym same) command))

  pub suits_here : (bulk : Bulk) → HoldsAt (λ x. Suits es x.rows bulk) now t → Suits es old.rows bulk
  suits_here bulk all =
      from_HoldsAt (λ (x : LoggedTable). Suits es x.rows bulk) tables t old read
      (subst (λ (ts : List LoggedTable). HoldsAt (λ x. Suits es x.rows bulk) ts t) (sym same) all)
