-- The log of all tables while edits are made and undone.
use Rattle.std.proofs.Common.{◌≡◌, ◌≢◌, ℕ, ◌+◌, ◌<◌, ◌≤◌, true, false, cond, eqb}
use Rattle.std.proofs.Common.{List, [], ◌∷◌, ◌++◌, length, get_or, set, refl, sym, ap, ◌∙◌, subst, arith, length-set}
use Rattle.std.specs.List.{sum_by}
use Rattle.std.proofs.lemmas.List.{length-map}
use Rattle.std.proofs.lemmas.List.Sums.{sum_by-append, sum_by-cons}
use Rattle.std.proofs.lemmas.Bool.{eqb-true, eq-eqb}
use Rattle.mm_row_order.specs.Refs.{Slots}
use Rattle.mm_tables.specs.Edits.{step_back, Stands, NoneHidden, key_places_back, places_back, Owes}
use Rattle.mm_tables.specs.Log.{before, StandsBack}
use Rattle.mm_tables.specs.Tables.{Shape, no_slots, slots_of, shape_of, state_of, slots_in, keys_of, key_in, back, logged}
use Rattle.mm_tables.specs.Tables.{Holds, places_in, HasSpare, HasCounted, HoldsAt, IsLogged}
use Rattle.mm_tables.specs.declared.edit.Edit.{Edit}
use Rattle.mm_tables.specs.declared.edit.Edit.TheVariants.{Stage, Insert, Update, Move, Delete}
use Rattle.mm_tables.specs.declared.index_room.IndexRoom.{IndexRoom}
use Rattle.mm_tables.specs.declared.log_record.LogRecord.{LogRecord}
use Rattle.mm_tables.specs.declared.logged_table.LoggedTable.{LoggedTable}
use Rattle.mm_tables.proofs.InTables.{from_HoldsAt, slots_read, key_read, state-set, state-same, state-back, slots-here, keys-set, each-set}
use Rattle.mm_tables.proofs.Logs.{before-append, StandsBack-push, StandsBack-pop}

-- ---- how many entries the undo inserts

key_places_back_few : (e : Edit) → key_places_back e ≤ 1
key_places_back_few (Stage r) = omega arith
key_places_back_few (Insert r) = omega arith
key_places_back_few (Update a b) = omega arith
key_places_back_few (Move a b) = omega arith
key_places_back_few (Delete r) = omega arith

places_back_few : (e : Edit) → places_back e ≤ 1
places_back_few (Stage r) = omega arith
places_back_few (Insert r) = omega arith
places_back_few (Update a b) = omega arith
places_back_few (Move a b) = omega arith
places_back_few (Delete r) = omega arith

module _ (count : Edit → ℕ) where
  pub places-push : (t : ℕ) (log : List LogRecord) (r : LogRecord)
      → sum_by (places_in count t) (log ++ r ∷ []) ≡ sum_by (places_in count t) log + places_in count t r
  places-push t log r = omega (arith, sum_by-append (places_in count t) log (r ∷ []))

  pub places-here : (t : ℕ) (r : LogRecord) → t ≡ r.table → places_in count t r ≡ count r.edit
  places-here t r same = ap {B = ℕ} (λ b. cond b (count r.edit) 0) (eq-eqb t r.table same)

  pub places-elsewhere : (t : ℕ) (r : LogRecord) → t ≢ r.table → places_in count t r ≡ 0
  places-elsewhere t r apart =
      elim (eqb t r.table) as (λ b. eqb t r.table ≡ b → cond b (count r.edit) 0 ≡ 0)
      [ true ↦ λ is. absurd (apart (eqb-true t r.table is)) | false ↦ λ is. refl ] refl

  module _ (few : (e : Edit) → count e ≤ 1) where
    places_in_few : (t : ℕ) (r : LogRecord) → places_in count t r ≤ 1
    places_in_few t r =
        elim (eqb t r.table) as (λ b. cond b (count r.edit) 0 ≤ 1) [ true ↦ few r.edit | false ↦ let none : 0 ≤ 1 = omega arith in none ]

    pub places_few : (t : ℕ) (log : List LogRecord) → sum_by (places_in count t) log ≤ length log
    places_few t [] = omega arith
    places_few t (r ∷ rs) = omega (arith, sum_by-cons (places_in count t) r rs, places_in_few t r, places_few t rs)

-- ---- a table that was read

module _ (tables : List LoggedTable) (log : List LogRecord) (i : ℕ) (old : LoggedTable) (within : i < length tables) (read : old ≡ get_or tables i old)
    (logged_all : IsLogged tables log) where
  pub counted_read : HasCounted log i old
  counted_read = from_HoldsAt (HasCounted log i) tables i old read (logged_all.counted i within)

  pub few_keys_owed : old.owed.key ≤ length log
  few_keys_owed = omega (arith, counted_read.key, places_few key_places_back key_places_back_few i log)

  pub few_owed : old.owed.indexes ≤ length log
  few_owed = omega (arith, counted_read.indexes, places_few places_back places_back_few i log)

-- ---- an edit was made, and logged

module _ (tables : List LoggedTable) (i : ℕ) (old new : LoggedTable) (within : i < length tables) (read : old ≡ get_or tables i old)
    (key : new.rows.key ≡ old.rows.key) where
  holds_here : (e : Edit) → Stands old.rows.key (slots_of new) e → Holds (keys_of tables) (state_of (set tables i new)) (logged i e)
  holds_here e stands = record {
    within = omega (arith, within, length-map (set tables i new) slots_of, length-set tables i new);
    stands = subst (λ (k : ℕ). Stands k (slots_in (set tables i new) i) e) (sym (key_read tables i old within read))
        (subst (λ (s : Slots). Stands old.rows.key s e) (sym (slots-here tables i old new within read)) stands);
  }

  pub IsLogged-push : (log new_log : List LogRecord) (e : Edit) → new_log ≡ log ++ logged i e ∷ [] → step_back e (slots_of new) ≡ slots_of old
      → Stands old.rows.key (slots_of new) e → Owes e old.owed new.owed → HasSpare new.owed.key new.owed.indexes new.rows
      → IsLogged tables log → IsLogged (set tables i new) new_log
  IsLogged-push log new_log e pushed was stands owed spare before_it =
      let r : LogRecord = logged i e in
      let now : List Slots = state_of (set tables i new) in
      let undone : back r now ≡ state_of tables = state-back tables i old new within read e was in
      subst (IsLogged (set tables i new)) (sym pushed) (record {
        few = omega (arith, before_it.few, length-set tables i new);
        stands = subst (λ (ks : List ℕ). StandsBack back (Holds ks) (log ++ r ∷ []) now) (sym (keys-set tables i old new within read key))
            (StandsBack-push back (Holds (keys_of tables)) log r now (holds_here e stands)
            (subst (StandsBack back (Holds (keys_of tables)) log) (sym undone) before_it.stands));
        clean = λ t. subst (λ (s : List Slots). NoneHidden (get_or s t no_slots)) (sym (before-append back log (r ∷ []) now ∙ ap (before back log) undone))
            (before_it.clean t);
        counted = each-set tables i old new within read (HasCounted (log ++ r ∷ []))
            (let here : HasCounted log i old = counted_read tables log i old within read before_it in record {
              key = omega (arith, owed.key, here.key, places-push key_places_back i log r, places-here key_places_back i r refl);
              indexes = omega (arith, owed.indexes, here.indexes, places-push places_back i log r, places-here places_back i r refl);
              spare = spare;
            })
            (λ t apart inside d. let there : HasCounted log t (get_or tables t d) = before_it.counted t inside d in record {
              key = omega (arith, there.key, places-push key_places_back t log r, places-elsewhere key_places_back t r apart);
              indexes = omega (arith, there.indexes, places-push places_back t log r, places-elsewhere places_back t r apart);
              spare = there.spare;
            });
      })

  pub counted-same : (log : List LogRecord) → new.owed ≡ old.owed → HasSpare new.owed.key new.owed.indexes new.rows
      → ((t : ℕ) → t < length tables → HoldsAt (HasCounted log t) tables t)
      → (t : ℕ) → t < length (set tables i new) → HoldsAt (HasCounted log t) (set tables i new) t
  counted-same log owed spare counted =
      let here : HasCounted log i old = from_HoldsAt (HasCounted log i) tables i old read (counted i within) in
      each-set tables i old new within read (HasCounted log) (record {
        key = ap (λ (r : IndexRoom). r.key) owed ∙ here.key;
        indexes = ap (λ (r : IndexRoom). r.indexes) owed ∙ here.indexes;
        spare = spare;
      })
      (λ t apart inside. counted t inside)

  -- the slots and the numbers of entries stay, and there is capacity for the undo
  pub IsLogged-same : (log : List LogRecord) → slots_of new ≡ slots_of old → new.owed ≡ old.owed → HasSpare new.owed.key new.owed.indexes new.rows
      → IsLogged tables log → IsLogged (set tables i new) log
  IsLogged-same log same owed spare before_it = record {
    few = omega (arith, before_it.few, length-set tables i new);
    stands = subst (λ (ks : List ℕ). StandsBack back (Holds ks) log (state_of (set tables i new))) (sym (keys-set tables i old new within read key))
        (subst (StandsBack back (Holds (keys_of tables)) log) (sym (state-same tables i old new within read same)) before_it.stands);
    clean = λ t. subst (λ (s : List Slots). NoneHidden (get_or (before back log s) t no_slots)) (sym (state-same tables i old new within read same))
        (before_it.clean t);
    counted = counted-same log owed spare before_it.counted;
  }

-- ---- the newest edit was undone

module _ (tables : List LoggedTable) (log old_log : List LogRecord) (r : LogRecord) (popped : old_log ≡ log ++ r ∷ [])
    (logged_all : IsLogged tables old_log) where
  last : Holds (keys_of tables) (state_of tables) r × StandsBack back (Holds (keys_of tables)) log (back r (state_of tables))
  last =
      StandsBack-pop back (Holds (keys_of tables)) log r (state_of tables)
      (subst (λ rs. StandsBack back (Holds (keys_of tables)) rs (state_of tables)) popped logged_all.stands)

  pub last_within : r.table < length tables
  last_within = omega (arith, last.0.within, length-map tables slots_of)

  module _ (old new : LoggedTable) (read : old ≡ get_or tables r.table old) where
    pub last_stands : Stands old.rows.key (slots_of old) r.edit
    last_stands =
        subst (λ (k : ℕ). Stands k (slots_of old) r.edit) (key_read tables r.table old last_within read)
        (subst (λ (s : Slots). Stands (key_in tables r.table) s r.edit) (slots_read tables r.table old last_within read) last.0.stands)

    last_sum : (count : Edit → ℕ) → sum_by (places_in count r.table) old_log ≡ sum_by (places_in count r.table) log + count r.edit
    last_sum count =
        ap (sum_by (places_in count r.table)) popped
        ∙ (places-push count r.table log r ∙ ap (λ n. sum_by (places_in count r.table) log + n) (places-here count r.table r refl))

    pub last_keys_owed : old.owed.key ≡ sum_by (places_in key_places_back r.table) log + key_places_back r.edit
    last_keys_owed = (counted_read tables old_log r.table old last_within read logged_all).key ∙ last_sum key_places_back

    pub last_owed : old.owed.indexes ≡ sum_by (places_in places_back r.table) log + places_back r.edit
    last_owed = (counted_read tables old_log r.table old last_within read logged_all).indexes ∙ last_sum places_back

    pub state-undone : slots_of new ≡ step_back r.edit (slots_of old) → state_of (set tables r.table new) ≡ back r (state_of tables)
    state-undone undone = state-set tables r.table old new last_within read (step_back r.edit (slots_in tables r.table))
        (undone ∙ ap (step_back r.edit) (sym (slots_read tables r.table old last_within read)))

    pub IsLogged-pop : slots_of new ≡ step_back r.edit (slots_of old) → shape_of new ≡ shape_of old → Owes r.edit new.owed old.owed
        → HasSpare new.owed.key new.owed.indexes new.rows → IsLogged (set tables r.table new) log
    IsLogged-pop undone shape owed spare =
        let now : List Slots = state_of (set tables r.table new) in
        let is : now ≡ back r (state_of tables) = state-undone undone in
        record {
          few = omega (arith, logged_all.few, length-set tables r.table new);
          stands = subst (λ (ks : List ℕ). StandsBack back (Holds ks) log now)
              (sym (keys-set tables r.table old new last_within read (ap (λ (x : Shape). x.key) shape)))
              (subst (StandsBack back (Holds (keys_of tables)) log) (sym is) last.1);
          clean = λ t. subst (λ (s : List Slots). NoneHidden (get_or s t no_slots))
              (ap (λ rs. before back rs (state_of tables)) popped ∙ (before-append back log (r ∷ []) (state_of tables) ∙ ap (before back log) (sym is)))
              (logged_all.clean t);
          counted = each-set tables r.table old new last_within read (HasCounted log)
              (record { key = omega (arith, owed.key, last_keys_owed); indexes = omega (arith, owed.indexes, last_owed); spare = spare })
              (λ t apart inside d. let was : HasCounted old_log t (get_or tables t d) = logged_all.counted t inside d in record {
                key = omega (
                  arith,
                  was.key,
                  ap (sum_by (places_in key_places_back t)) popped,
                  places-push key_places_back t log r,
                  places-elsewhere key_places_back t r apart,
                );
                indexes = omega (
                  arith,
                  was.indexes,
                  ap (sum_by (places_in places_back t)) popped,
                  places-push places_back t log r,
                  places-elsewhere places_back t r apart,
                );
                spare = was.spare;
              });
        }

-- ---- an edit at the front of the log is forgotten

pub counted-forgotten : (tables : List LoggedTable) (r : LogRecord) (rest : List LogRecord) (old new : LoggedTable) → r.table < length tables
    → old ≡ get_or tables r.table old → Owes r.edit new.owed old.owed → HasSpare new.owed.key new.owed.indexes new.rows
    → ((t : ℕ) → t < length tables → HoldsAt (HasCounted (r ∷ rest) t) tables t)
    → (t : ℕ) → t < length (set tables r.table new) → HoldsAt (HasCounted rest t) (set tables r.table new) t
counted-forgotten tables r rest old new within read owed spare was =
    let here : HasCounted (r ∷ rest) r.table old = from_HoldsAt (HasCounted (r ∷ rest) r.table) tables r.table old read (was r.table within) in
    each-set tables r.table old new within read (HasCounted rest)
    (record {
      key = omega (
        arith,
        owed.key,
        here.key,
        sum_by-cons (places_in key_places_back r.table) r rest,
        places-here key_places_back r.table r refl,
      );
      indexes = omega (arith, owed.indexes, here.indexes, sum_by-cons (places_in places_back r.table) r rest, places-here places_back r.table r refl);
      spare = spare;
    })
    (λ t apart inside d. let other : HasCounted (r ∷ rest) t (get_or tables t d) = was t inside d in record {
      key = omega (arith, other.key, sum_by-cons (places_in key_places_back t) r rest, places-elsewhere key_places_back t r apart);
      indexes = omega (arith, other.indexes, sum_by-cons (places_in places_back t) r rest, places-elsewhere places_back t r apart);
      spare = other.spare;
    })

-- the numbers of entries to forget are at most those that the table has counted
pub owed-front : (r : LogRecord) (rest : List LogRecord) (table : LoggedTable) → HasCounted (r ∷ rest) r.table table
    → (key_places_back r.edit ≤ table.owed.key) × (places_back r.edit ≤ table.owed.indexes)
owed-front r rest table counted = (
  omega (arith, counted.key, sum_by-cons (places_in key_places_back r.table) r rest, places-here key_places_back r.table r refl),
  omega (arith, counted.indexes, sum_by-cons (places_in places_back r.table) r rest, places-here places_back r.table r refl),
)

-- a table owes no capacity for an empty log
pub owes_nothing : (t : ℕ) (table : LoggedTable) → HasCounted [] t table → (table.owed.key ≡ 0) × (table.owed.indexes ≡ 0)
owes_nothing t table counted = (counted.key, counted.indexes)
