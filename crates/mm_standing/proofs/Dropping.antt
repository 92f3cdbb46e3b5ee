-- What remains sound when a change is prepared or dropped, or the log is emptied.
use Rattle.std.proofs.Common.{◌≡◌, ◌≢◌, ℕ, zero, suc, pos, ◌+ℤ◌, ◌<◌, ◌≤◌, ◌⊎◌, inl, inr, ⊎_elim, Bool, true, false, true≢false, not, cond, ◌||◌, List, []}
use Rattle.std.proofs.Common.{◌∷◌, ◌++◌}
use Rattle.std.proofs.Common.{length, map, get_or, set, take, drop, refl, sym, ap, ◌∙◌, subst, append_assoc, arith}
use Rattle.std.specs.Prelude.{◌==◌}
use Rattle.std.specs.List.{All, list_any}
use Rattle.std.proofs.lemmas.Bool.{cases_eq}
use Rattle.std.proofs.lemmas.Int.{ints}
use Rattle.std.proofs.lemmas.List.{append-nil, get_or-set_other, length-map, map-append}
use Rattle.std.proofs.lemmas.List.Elements.{All-map, All-nil, All-push, All-weaker}
use Rattle.std.proofs.lemmas.List.Folds.{list_any-append}
use Rattle.mm_value.specs.Equality.{same_row}
use Rattle.mm_value.specs.EqualityLaws.{same_row_equiv}
use Rattle.mm_value.specs.declared.values.Value.{Value}
use Rattle.mm_partition.specs.Places.{Content, Free, Live, row_in}
use Rattle.mm_multiset.specs.Counts.{Counts, IsEntry, count_in, has_entry, row_at, total_of}
use Rattle.mm_standing.specs.Bags.{AreFirst, AreSame, CanAdd, CanMake, IsLean, IsSound, IsThere, IsWithin, Purged, Puts}
use Rattle.mm_standing.specs.Bags.{brings_entry, change_of, changes_in, count_with, done_of, entries_at, is_named, names, opposite, row_change}
use Rattle.mm_standing.specs.Bags.{feeds_of, row_of, slots_at, steps_of, sum_over, types_of, undos}
use Rattle.mm_standing.specs.declared.change.ListChange.{ListChange}
use Rattle.mm_standing.specs.declared.change.RowChange.{RowChange}
use Rattle.mm_standing.proofs.Adding.{at_map, eq_itself}
use Rattle.mm_standing.proofs.Named.{named_is, named_one, none_named, none_summed, not_named}
use Rattle.mm_standing.proofs.Stages.{count_still, nothing_to_add, within_still}
use Rattle.mm_standing.proofs.Steps.{All_each, All_left, All_parts, Step, brought_named, changes_are, done_push, done_still, either_left, either_right}
use Rattle.mm_standing.proofs.Steps.{first_pop, first_push}
use Rattle.mm_standing.proofs.Steps.{in_front, named_undos, slot_same, steps_push, steps_still, take_cases, take_found, there_still, undos_are, undos_still}

-- Changes of other rows leave a count unchanged.
count_alone : (bags : List Counts) (cs : List ListChange) (list : ℕ) (row : List Value) → is_named list row (done_of bags cs) ≡ false
    → count_with bags (undos bags cs) list row ≡ pos 0 → count_in row (entries_at bags list) ≡ 0
count_alone bags cs list row none is_0 =
    alone (count_in row (entries_at bags list)) (sum_over (row_change list row) (undos bags cs))
    (ap (sum_over (row_change list row)) (undos_are bags cs) ∙ none_summed list row (done_of bags cs) none) is_0
  where
    alone : (n : ℕ) (s : _) → s ≡ pos 0 → pos n +ℤ s ≡ pos 0 → n ≡ 0
    alone n s p q = omega (arith, ints)

-- If nothing is prepared, the log names each row whose count is 0.
pub lean_sound : (bags : List Counts) (log : List ListChange) → IsSound bags [] log → IsLean bags (undos bags log)
lean_sound bags log sound list row has is_0 = by (is_named list row (done_of bags log)) refl
  where
    zero_with : is_named list row (done_of bags log) ≡ false → count_with bags (undos bags log) list row ≡ pos 0
    zero_with none =
        both (count_in row (entries_at bags list)) (sum_over (row_change list row) (undos bags log)) is_0
        (ap (sum_over (row_change list row)) (undos_are bags log) ∙ none_summed list row (done_of bags log) none)
      where
        both : (n : ℕ) (s : _) → n ≡ 0 → s ≡ pos 0 → pos n +ℤ s ≡ pos 0
        both n s p q = omega (arith, ints)

    by : (b : Bool) → is_named list row (done_of bags log) ≡ b → is_named list row (undos bags log) ≡ true
    by true e = named_undos bags list row log ∙ e
    by false e =
        let brought = sound.based list row has (zero_with e) in
        let named : is_named list row (done_of bags log) ≡ true =
        ap (is_named list row) (ap (done_of bags) (sym (append-nil log)) ∙ sym (changes_are bags (log ++ [])))
        ∙ brought_named list row (steps_of bags (log ++ [])) brought in
        absurd (true≢false (sym named ∙ e))

-- ---- the last prepared change is dropped

module _ (bags : List Counts) (rest log : List ListChange) (c : ListChange) (sound : IsSound bags (rest ++ c ∷ []) log) where
  abbrev others : List ListChange
  others = log ++ rest

  abbrev step : Step
  step = (change_of bags c, c.is_new)

  whole : log ++ (rest ++ c ∷ []) ≡ others ++ c ∷ []
  whole = sym (append_assoc log rest (c ∷ []))

  there : All (IsThere bags) others × IsThere bags c
  there = All_left (IsThere bags) others c (subst (All (IsThere bags)) whole sound.there)

  pub last_there : IsThere bags c
  last_there = there.1

  steps_is : steps_of bags (log ++ (rest ++ c ∷ [])) ≡ steps_of bags others ++ step ∷ []
  steps_is = ap (steps_of bags) whole ∙ steps_push bags others c

  first : AreFirst [] (steps_of bags others) × (c.is_new ≡ true → is_named c.list (row_of bags c) (changes_in (steps_of bags others)) ≡ false)
  first = first_pop [] (steps_of bags others) step (subst (AreFirst []) steps_is sound.first)

  make_less : CanMake bags (done_of bags rest)
  make_less k =
      let r = take_found k (done_of bags rest) (change_of bags c) in
      subst (IsWithin bags) (ap (take r.0) (done_push bags rest c) ∙ r.1) (sound.make r.0)

  -- the entry of a row was inserted for a step other than the last
  brought_before : (list : ℕ) (row : List Value) → brings_entry list row step ≡ false
      → list_any (brings_entry list row) (steps_of bags (log ++ (rest ++ c ∷ []))) ≡ true → list_any (brings_entry list row) (steps_of bags others) ≡ true
  brought_before list row apart h =
      in_front (list_any (brings_entry list row) (steps_of bags others)) (brings_entry list row step) apart
      (sym (ap (list_any (brings_entry list row)) steps_is ∙ list_any-append (brings_entry list row) (steps_of bags others) (step ∷ [])) ∙ h)

  -- An entry that was not inserted for the change stays.
  pub sound_less : c.is_new ≡ false → IsSound bags rest log
  sound_less old = record {
    there = there.0;
    make = make_less;
    undo = sound.undo;
    first = first.0;
    based = λ list row has is_0.
        brought_before list row (ap (λ b. cond b (names list row (change_of bags c)) false) old) (sound.based list row has is_0);
  }

  -- An entry that was inserted for the change is removed.
  module _ (new : List Counts) (is_new : c.is_new ≡ true) (purged : Purged c bags new) where
    alone : is_named c.list (row_of bags c) (done_of bags others) ≡ false
    alone = ap (is_named c.list (row_of bags c)) (sym (changes_are bags others)) ∙ first.1 is_new

    apart : All (λ (d : RowChange). names c.list (row_of bags c) d ≡ false) (done_of bags others)
    apart = none_named c.list (row_of bags c) (done_of bags others) alone

    log_alone : is_named c.list (row_of bags c) (done_of bags log) ≡ false
    log_alone =
        front (is_named c.list (row_of bags c) (done_of bags log)) _
        (sym (ap (is_named c.list (row_of bags c)) (map-append (change_of bags) log rest)
        ∙ list_any-append (names c.list (row_of bags c)) (done_of bags log) (done_of bags rest)) ∙ alone)
      where
        front : (a b : Bool) → a || b ≡ false → a ≡ false
        front true b h = absurd (true≢false h)
        front false b h = refl

    entry_still : (d : ListChange) → IsThere bags d → names c.list (row_of bags c) (change_of bags d) ≡ false
        → IsEntry (slots_at new d.list) d.entry (row_of bags d)
    entry_still d it other = ⊎_elim (λ same. subst (λ (ss : List Content). IsEntry ss d.entry (row_of bags d)) (sym same) it.entry) freed (purged.slots d.list)
      where
        freed : (c.list ≡ d.list) × (slots_at new d.list ≡ set (slots_at bags d.list) c.entry.slot.slot Free)
            × (has_entry (row_of bags c) (entries_at new d.list) ≡ false) → IsEntry (slots_at new d.list) d.entry (row_of bags d)
        freed f =
            ⊎_elim
            (λ (same : d.entry.slot.slot ≡ c.entry.slot.slot).
            let rows : row_of bags c ≡ row_of bags d = λ i. row_in (get_or (slots_at bags (f.0 i)) (sym same i) Free) in
            let named : names c.list (row_of bags c) (change_of bags d) ≡ true =
            (λ i. cond (d.list == f.0 i) (same_row (row_of bags c) (sym rows i)) false)
            ∙ ap (λ b. cond b (same_row (row_of bags c) (row_of bags c)) false) (eq_itself d.list) ∙ same_row_equiv.refl (row_of bags c) in
            absurd (true≢false (sym named ∙ other)))
            (λ (differs : d.entry.slot.slot ≢ c.entry.slot.slot).
            let content : get_or (slots_at new d.list) d.entry.slot.slot Free ≡ get_or (slots_at bags d.list) d.entry.slot.slot Free =
            ap (λ (ss : List Content). get_or ss d.entry.slot.slot Free) f.1
            ∙ get_or-set_other (slots_at bags d.list) c.entry.slot.slot d.entry.slot.slot Free Free differs in
            record { live = content ∙ it.entry.live; hash = it.entry.hash })
            (cases_eq d.entry.slot.slot c.entry.slot.slot)

    still : (d : ListChange) → IsThere bags d → names c.list (row_of bags c) (change_of bags d) ≡ false → IsThere new d
    still d it other =
        there_still bags new d it purged.size (entry_still d it other)
        (purged.beside d.list (row_of bags d) (not_named (change_of bags c) (change_of bags d) other) ∙ it.has)

    each_apart : (k : ℕ) (d : ListChange) → k < length others → names c.list (row_of bags c) (change_of bags (get_or others k d)) ≡ false
    each_apart k d within =
        subst (λ (x : RowChange). names c.list (row_of bags c) x ≡ false) (at_map (change_of bags) others k d (change_of bags d) within)
        (apart k (change_of bags d) (omega (arith, within, length-map others (change_of bags))))

    all_there : All (IsThere new) others
    all_there k d within = still (get_or others k d) (there.0 k d within) (each_apart k d within)

    rows : All (λ (d : ListChange). row_of new d ≡ row_of bags d) others
    rows k d within =
        let it = there.0 k d within in
        slot_same bags new (get_or others k d) it purged.size (entry_still (get_or others k d) it (each_apart k d within))

    log_rows : All (λ (d : ListChange). row_of new d ≡ row_of bags d) log
    log_rows = (All_parts (λ (d : ListChange). row_of new d ≡ row_of bags d) log rest rows).0

    rest_rows : All (λ (d : ListChange). row_of new d ≡ row_of bags d) rest
    rest_rows = (All_parts (λ (d : ListChange). row_of new d ≡ row_of bags d) log rest rows).1

    pub undos_dropped : undos new log ≡ undos bags log
    undos_dropped = undos_still bags new log log_rows

    steps : steps_of new others ≡ steps_of bags others
    steps = steps_still bags new others rows

    based : (list : ℕ) (row : List Value) → has_entry row (entries_at new list) ≡ true → count_with new (undos new log) list row ≡ pos 0
        → list_any (brings_entry list row) (steps_of new others) ≡ true
    based list row has is_0 = by (names list row (change_of bags c)) refl
      where
        was : count_with bags (undos bags log) list row ≡ pos 0
        was =
            sym (count_still bags new purged.counts purged.totals (undos bags log) list row)
            ∙ ap (λ (cs : List RowChange). count_with new cs list row) (sym undos_dropped) ∙ is_0

        by : (b : Bool) → names list row (change_of bags c) ≡ b → list_any (brings_entry list row) (steps_of new others) ≡ true
        by true e =
            let is = named_is list row (change_of bags c) e in
            let none : count_in (row_of bags c) (entries_at bags c.list) ≡ 0 =
            count_alone bags log c.list (row_of bags c) log_alone
            ((λ i. count_with bags (undos bags log) (is.0 i) (sym is.1 i)) ∙ was) in
            let gone : has_entry row (entries_at new list) ≡ false =
            (λ i. has_entry (is.1 i) (entries_at new (sym is.0 i))) ∙ purged.gone there.1 none in
            absurd (true≢false (sym has ∙ gone))
        by false e =
            ap (list_any (brings_entry list row)) steps
            ∙ brought_before list row (ap (λ b. cond c.is_new b false) e ∙ never c.is_new)
            (sound.based list row (purged.others list row has) was)
          where
            never : (b : Bool) → cond b false false ≡ false
            never true = refl
            never false = refl

    pub sound_dropped : IsSound new rest log
    sound_dropped = record {
      there = all_there;
      make = λ k.
          subst (λ (ds : List RowChange). IsWithin new (take k ds)) (sym (done_still bags new rest rest_rows))
          (within_still bags new purged.counts purged.totals (take k (done_of bags rest)) (make_less k));
      undo = λ k.
          subst (λ (us : List RowChange). IsWithin new (drop k us)) (sym undos_dropped)
          (within_still bags new purged.counts purged.totals (drop k (undos bags log)) (sound.undo k));
      first = subst (AreFirst []) (sym steps) first.0;
      based = based;
    }

  -- An entry is removed if it was inserted for the change, and stays otherwise.
  module _ (new : List Counts) (removed : c.is_new ≡ true → Purged c bags new) (kept : c.is_new ≡ false → new ≡ bags) where
    cases : {P : Type 0} → (c.is_new ≡ true → P) → (c.is_new ≡ false → P) → P
    cases {P} came stays = by c.is_new refl
      where
        by : (b : Bool) → c.is_new ≡ b → P
        by true e = came e
        by false e = stays e

    pub sound_removed : IsSound new rest log
    sound_removed =
        cases (λ e. sound_dropped new e (removed e)) (λ e. subst (λ (bs : List Counts). IsSound bs rest log) (sym (kept e)) (sound_less e))

    pub undos_removed : undos new log ≡ undos bags log
    undos_removed = cases (λ e. undos_dropped new e (removed e)) (λ e. ap (λ (bs : List Counts). undos bs log) (kept e))

    pub counts_removed : (list : ℕ) (row : List Value) → count_in row (entries_at new list) ≡ count_in row (entries_at bags list)
    counts_removed list row = cases (λ e. (removed e).counts list row) (λ e. ap (λ (bs : List Counts). count_in row (entries_at bs list)) (kept e))

    pub types_removed : types_of new ≡ types_of bags
    types_removed = cases (λ e. (removed e).types) (λ e. ap types_of (kept e))

    pub feeds_removed : feeds_of new ≡ feeds_of bags
    feeds_removed = cases (λ e. (removed e).feeds) (λ e. ap feeds_of (kept e))

    pub size_removed : length new ≡ length bags
    size_removed = cases (λ e. (removed e).size) (λ e. ap (λ (bs : List Counts). length bs) (kept e))

-- ---- one more change is prepared

module _ (bags new : List Counts) (prepared log : List ListChange) (change : RowChange) (c : ListChange) (list_is : c.list ≡ change.list)
    (by_is : c.by ≡ change.change.count) (sound : IsSound bags prepared log) (puts : Puts change c.entry c.is_new bags new)
    (within : change.list < length bags) where
  abbrev all : List ListChange
  all = log ++ prepared

  entry_of : (d : ListChange) → IsThere bags d → IsEntry (slots_at new d.list) d.entry (row_of bags d)
  entry_of d it = puts.kept d.list d.entry (row_of bags d) it.entry

  has_still : (list : ℕ) (row : List Value) → has_entry row (entries_at bags list) ≡ true → has_entry row (entries_at new list) ≡ true
  has_still list row had = puts.entries list row ∙ ap (cond (names list row change) true) had ∙ always (names list row change)
    where
      always : (b : Bool) → cond b true true ≡ true
      always true = refl
      always false = refl

  put_there : (d : ListChange) → IsThere bags d → IsThere new d
  put_there d it = there_still bags new d it puts.size (entry_of d it) (has_still d.list (row_of bags d) it.has)

  rows_put : (cs : List ListChange) → All (IsThere bags) cs → All (λ (d : ListChange). row_of new d ≡ row_of bags d) cs
  rows_put cs are = All-weaker (IsThere bags) (λ (d : ListChange). row_of new d ≡ row_of bags d) (λ d it. slot_same bags new d it puts.size (entry_of d it)) cs
      are

  parts : All (IsThere bags) log × All (IsThere bags) prepared
  parts = All_parts (IsThere bags) log prepared sound.there

  own_row : row_of new c ≡ change.change.row
  own_row = ap (λ (l : ℕ). row_at (slots_at new l) c.entry) list_is ∙ ap row_in puts.found.live

  own_change : change_of new c ≡ change
  own_change = λ i. record { list = list_is i; change = record { row = own_row i; count = by_is i } }

  itself : names change.list change.change.row change ≡ true
  itself =
      ap (λ b. cond b (same_row change.change.row change.change.row) false) (eq_itself change.list) ∙ same_row_equiv.refl change.change.row

  own_there : IsThere new c
  own_there = record {
    list = omega (arith, list_is, within, puts.size);
    entry = subst (λ (l : ℕ). IsEntry (slots_at new l) c.entry (row_of new c)) (sym list_is)
        (subst (IsEntry (slots_at new change.list) c.entry) (sym own_row) puts.found);
    has = (λ i. has_entry (own_row i) (entries_at new (list_is i))) ∙ puts.entries change.list change.change.row
        ∙ ap (λ b. cond b true (has_entry change.change.row (entries_at bags change.list))) itself;
  }

  pub undos_put : undos new log ≡ undos bags log
  undos_put = undos_still bags new log (rows_put log parts.0)

  pub done_put : done_of new (prepared ++ c ∷ []) ≡ done_of bags prepared ++ change ∷ []
  done_put = done_push new prepared c ∙ (λ i. done_still bags new prepared (rows_put prepared parts.1) i ++ own_change i ∷ [])

  whole_put : log ++ (prepared ++ c ∷ []) ≡ all ++ c ∷ []
  whole_put = sym (append_assoc log prepared (c ∷ []))

  steps_put : steps_of new (log ++ (prepared ++ c ∷ [])) ≡ steps_of bags all ++ (change, c.is_new) ∷ []
  steps_put =
      ap (steps_of new) whole_put ∙ steps_push new all c
      ∙ (λ i. steps_still bags new all (rows_put all sound.there) i ++ (own_change i, c.is_new) ∷ [])

  not_false : (b : Bool) → not b ≡ true → b ≡ false
  not_false true h = absurd (true≢false (sym h))
  not_false false h = refl

  fresh : c.is_new ≡ true → is_named change.list change.change.row (changes_in ([] ++ steps_of bags all)) ≡ false
  fresh is = by (is_named change.list change.change.row (done_of bags all)) refl
    where
      lacks : has_entry change.change.row (entries_at bags change.list) ≡ false
      lacks = not_false _ (sym puts.tells ∙ is)

      by : (b : Bool) → is_named change.list change.change.row (done_of bags all) ≡ b
          → is_named change.list change.change.row (changes_in (steps_of bags all)) ≡ false
      by true e =
          let had = named_one (λ list row. has_entry row (entries_at bags list) ≡ true) (done_of bags all)
          (All-map (λ (d : RowChange). has_entry d.change.row (entries_at bags d.list) ≡ true) (change_of bags) all
          (All-weaker (IsThere bags) (λ (d : ListChange). has_entry (row_of bags d) (entries_at bags d.list) ≡ true) (λ d it. it.has) all sound.there))
          change.list change.change.row e in
          absurd (true≢false (sym had ∙ lacks))
      by false e = ap (is_named change.list change.change.row) (changes_are bags all) ∙ e

  based_put : (list : ℕ) (row : List Value) → has_entry row (entries_at new list) ≡ true → count_with new (undos new log) list row ≡ pos 0
      → list_any (brings_entry list row) (steps_of new (log ++ (prepared ++ c ∷ []))) ≡ true
  based_put list row has is_0 =
      ap (list_any (brings_entry list row)) steps_put
      ∙ list_any-append (brings_entry list row) (steps_of bags all) ((change, c.is_new) ∷ [])
      ∙ by (has_entry row (entries_at bags list)) refl
    where
      was : count_with bags (undos bags log) list row ≡ pos 0
      was =
          sym (count_still bags new puts.counts puts.totals (undos bags log) list row)
          ∙ ap (λ (cs : List RowChange). count_with new cs list row) (sym undos_put) ∙ is_0

      named_here : (b : Bool) → cond b true false ≡ true → b ≡ true
      named_here true h = refl
      named_here false h = h

      by : (b : Bool) → has_entry row (entries_at bags list) ≡ b
          → list_any (brings_entry list row) (steps_of bags all) || (brings_entry list row (change, c.is_new) || false) ≡ true
      by true had = either_left (list_any (brings_entry list row) (steps_of bags all)) _ (sound.based list row had was)
      by false lacks =
          let named : names list row change ≡ true =
          named_here (names list row change) (ap (cond (names list row change) true) (sym lacks) ∙ sym (puts.entries list row) ∙ has) in
          let is = named_is list row change named in
          let new_one : c.is_new ≡ true =
          puts.tells ∙ ap not ((λ i. has_entry (sym is.1 i) (entries_at bags (is.0 i))) ∙ lacks) in
          either_right (list_any (brings_entry list row) (steps_of bags all)) (brings_entry list row (change, c.is_new))
          ((λ i. cond (new_one i) (names list row change) false) ∙ named)

  pub sound_put : IsWithin bags (done_of bags prepared ++ change ∷ []) → IsSound new (prepared ++ c ∷ []) log
  sound_put w = record {
    there = subst (All (IsThere new)) (sym whole_put)
        (All-push (IsThere new) all c (All-weaker (IsThere bags) (IsThere new) put_there all sound.there) own_there);
    make = λ k.
        subst (λ (ds : List RowChange). IsWithin new (take k ds)) (sym done_put)
        (⊎_elim (λ e. subst (IsWithin new) (sym e) (within_still bags new puts.counts puts.totals (take k (done_of bags prepared)) (sound.make k)))
        (λ e. subst (IsWithin new) (sym e) (within_still bags new puts.counts puts.totals (done_of bags prepared ++ change ∷ []) w))
        (take_cases k (done_of bags prepared) change));
    undo = λ k.
        subst (λ (us : List RowChange). IsWithin new (drop k us)) (sym undos_put)
        (within_still bags new puts.counts puts.totals (drop k (undos bags log)) (sound.undo k));
    first = subst (AreFirst []) (sym steps_put) (first_push [] (steps_of bags all) (change, c.is_new) sound.first fresh);
    based = based_put;
  }

-- ---- the same entries in the same slots

module _ (old new : List Counts) (same : AreSame old new) where
  same_rows : (cs : List ListChange) → All (λ (c : ListChange). row_of new c ≡ row_of old c) cs
  same_rows cs = All_each (λ (c : ListChange). row_of new c ≡ row_of old c) (λ c. ap (λ (ss : List Content). row_at ss c.entry) (same.slots c.list)) cs

  pub same_counts : (list : ℕ) (row : List Value) → count_in row (entries_at new list) ≡ count_in row (entries_at old list)
  same_counts list row = ap (count_in row) (same.entries list)

  same_totals : (list : ℕ) → total_of (entries_at new list) ≡ total_of (entries_at old list)
  same_totals list = ap total_of (same.entries list)

  same_within : (cs : List RowChange) → IsWithin old cs → IsWithin new cs
  same_within = within_still old new same_counts same_totals

  pub same_undos : (log : List ListChange) → undos new log ≡ undos old log
  same_undos log = undos_still old new log (same_rows log)

  pub same_done : (prepared : List ListChange) → done_of new prepared ≡ done_of old prepared
  same_done prepared = done_still old new prepared (same_rows prepared)

  pub sound_same : (prepared log : List ListChange) → IsSound old prepared log → IsSound new prepared log
  sound_same prepared log s = record {
    there = All-weaker (IsThere old) (IsThere new)
        (λ c it. there_still old new c it same.size
        (subst (λ (ss : List Content). IsEntry ss c.entry (row_of old c)) (sym (same.slots c.list)) it.entry)
        (ap (has_entry (row_of old c)) (same.entries c.list) ∙ it.has)) (log ++ prepared) s.there;
    make = λ k. subst (λ (ds : List RowChange). IsWithin new (take k ds)) (sym (same_done prepared)) (same_within (take k (done_of old prepared)) (s.make k));
    undo = λ k. subst (λ (us : List RowChange). IsWithin new (drop k us)) (sym (same_undos log)) (same_within (drop k (undos old log)) (s.undo k));
    first = subst (AreFirst []) (sym (steps_still old new (log ++ prepared) (same_rows (log ++ prepared)))) s.first;
    based = λ list row has is_0.
        ap (list_any (brings_entry list row)) (steps_still old new (log ++ prepared) (same_rows (log ++ prepared)))
        ∙ s.based list row (ap (has_entry row) (sym (same.entries list)) ∙ has)
        (sym (count_still old new same_counts same_totals (undos old log) list row)
        ∙ ap (λ (us : List RowChange). count_with new us list row) (sym (same_undos log)) ∙ is_0);
  }

-- ---- with nothing prepared and an empty log

pub sound_empty : (bags : List Counts) → IsWithin bags [] → IsLean bags [] → IsSound bags [] []
sound_empty bags w lean = record {
  there = All-nil (IsThere bags);
  make = λ k. subst (IsWithin bags) (nothing k) w;
  undo = nothing_to_add bags w;
  first = tt;
  based = λ list row has is_0. absurd (true≢false (sym (lean list row has (none (count_in row (entries_at bags list)) is_0))));
}
  where
    nothing : (k : ℕ) → ◌≡◌ {A = List RowChange} [] (take k [])
    nothing zero = refl
    nothing (suc k) = refl

    none : (n : ℕ) → pos n +ℤ pos 0 ≡ pos 0 → n ≡ 0
    none n h = omega (arith, ints)
