-- The numbers that were told, by row, when a slot changes.
use Rattle.std.proofs.Common.{◌≡◌, ◌≢◌, ℕ, zero, suc, ◌+◌, ◌<◌, ◌≤◌, Bool, true, false, true≢false, cond, ℤ, pos, ◌+ℤ◌, List, [], ◌∷◌, ◌++◌, Option}
use Rattle.std.proofs.Common.{Some, None}
use Rattle.std.specs.Prelude.{◌==◌, IsPermutation}
use Rattle.std.proofs.lemmas.Int.{ints}
use Rattle.std.proofs.Common.{get_or, is_some, length, map, replicate, set, inl, inr, max, refl, sym, ap, ◌∙◌, subst, ⊎_elim, arith}
use Rattle.std.specs.Map.{keys_of, lookup}
use Rattle.std.specs.Option.{option_map, unwrap_or}
use Rattle.std.proofs.lemmas.Bool.{cases_eq, cases_lt}
use Rattle.std.proofs.lemmas.List.{ext_get_or, get_or-set_other, get_or-set_same, get_or_append_left, get_or_past, get_or_push, length-map}
use Rattle.std.proofs.lemmas.List.{length-set, length_push}
use Rattle.std.proofs.lemmas.Map.{lookup-none}
use Rattle.std.proofs.lemmas.Map.Entries.{none_past_head}
use Rattle.std.proofs.lemmas.Map.Keys.{IsDistinct-tail}
use Rattle.mm_value.specs.Equality.{same_row}
use Rattle.mm_value.specs.EqualityLaws.{same_row_equiv}
use Rattle.mm_value.specs.declared.row_ref.RowRef.{RowRef}
use Rattle.mm_value.specs.declared.values.Value.{Value}
use Rattle.mm_partition.specs.Places.{ChangesOnly, Content, Free, Hidden, Live, Places, extent_of, holds_row, row_in, slot_at}
use Rattle.slot_counts.specs.Numbers.{IsAllTold, IsTaken, IsToldSame, Numbers, Telling, change_of, grown, shown_count, told_at, with_told}
use Rattle.slot_counts.proofs.Telling.{shown_at, shown_zero}
use Rattle.mm_multiset.specs.Counts.{Entries, Feed, IsEntry, IsOnce, IsStarted, IsThere, IsTold, IsUpToDate, count_in, number_in, row_at, signed_count}
use Rattle.mm_multiset.specs.RowHash.{row_hash}
use Rattle.mm_multiset.specs.declared.entry_ref.EntryRef.{EntryRef}
use Rattle.mm_multiset.specs.Slots.{AreMarked, HasTold, IsFed, IsKept, IsMarked, entries_of, entry_of}
use Rattle.mm_multiset.specs.Slots.{feed_of, in_use, left_by, pair_of, pairs_from, told_of, told_part}
use Rattle.mm_multiset.proofs.SlotLists.{live_inside, slots_push, slots_set}

-- ---- lists

-- A slot has another content, of the same row, or 0 was told for it.
pub told_turn : (slots : List Content) (told : List ℕ) (i : ℕ) (s : Content)
    → told_part s (get_or told i 0) ≡ told_part (get_or slots i Free) (get_or told i 0) → told_of (set slots i s) told ≡ told_of slots told
told_turn [] told i s e = refl
told_turn (p ∷ ps) [] zero s e = refl
told_turn (p ∷ ps) [] (suc i) s e = refl
told_turn (p ∷ ps) (n ∷ ns) zero s e = ap (λ l. l ++ told_of ps ns) e
told_turn (p ∷ ps) (n ∷ ns) (suc i) s e = ap (λ l. told_part p n ++ l) (told_turn ps ns i s e)

-- A slot is appended, for which 0 was told.
pub told_push : (slots : List Content) (told : List ℕ) (s : Content) → length told ≡ length slots
    → told_of (slots ++ s ∷ []) (told ++ 0 ∷ []) ≡ told_of slots told
told_push [] [] s size = refl
told_push [] (n ∷ ns) s size = absurd (let no : ⊥ = omega (arith, size) in no)
told_push (p ∷ ps) [] s size = absurd (let no : ⊥ = omega (arith, size) in no)
told_push (p ∷ ps) (n ∷ ns) s size = ap (λ l. told_part p n ++ l) (told_push ps ns s (omega (arith, size)))

-- If 0 was told for each slot, nothing was told.
pub told_nothing : (slots : List Content) (n : ℕ) → told_of slots (replicate n 0) ≡ []
told_nothing [] n = refl
told_nothing (p ∷ ps) zero = refl
told_nothing (p ∷ ps) (suc n) = told_nothing ps n

-- ---- numbers

-- the number told for a slot, if it has the row
abbrev pub one : List Value → Content → ℕ → ℕ
one row s n = cond (same_row row (row_in s)) n 0

one_zero : (row : List Value) (s : Content) → one row s 0 ≡ 0
one_zero row s = either (same_row row (row_in s))
  where
    either : (b : Bool) → cond {A = ℕ} b 0 0 ≡ 0
    either true = refl
    either false = refl

number_part : (row : List Value) (s : Content) (n : ℕ) (rest : Entries)
    → number_in row (told_part s n ++ rest) ≡ one row s n + number_in row rest
number_part row s n rest = by (n == 0) refl
  where
    by : (b : Bool) → (n == 0) ≡ b → number_in row (cond {A = Entries} b [] ((row_in s, n) ∷ []) ++ rest) ≡ one row s n + number_in row rest
    by true is = let zero_is : n ≡ 0 = grind (arith, is) in omega (arith, ap (one row s) zero_is, one_zero row s)
    by false is = refl

-- Another number is told for a slot.
pub number_write : (slots : List Content) (told : List ℕ) (i n : ℕ) (row : List Value) → length told ≡ length slots → i < length told
    → number_in row (told_of slots (set told i n)) + one row (get_or slots i Free) (get_or told i 0)
    ≡ number_in row (told_of slots told) + one row (get_or slots i Free) n
number_write [] [] i n row size within = absurd (let no : ⊥ = omega (arith, within) in no)
number_write [] (m ∷ ms) i n row size within = absurd (let no : ⊥ = omega (arith, size) in no)
number_write (p ∷ ps) [] i n row size within = absurd (let no : ⊥ = omega (arith, size) in no)
number_write (p ∷ ps) (m ∷ ms) zero n row size within =
    omega (arith, number_part row p n (told_of ps ms), number_part row p m (told_of ps ms))
number_write (p ∷ ps) (m ∷ ms) (suc i) n row size within =
    let rest = number_write ps ms i n row (omega (arith, size)) (omega (arith, within)) in
    omega (arith, rest, number_part row p m (told_of ps (set ms i n)), number_part row p m (told_of ps ms))

-- ---- slots

pub live_in_use : (slots : List Content) (i : ℕ) (row : List Value) → get_or slots i Free ≡ Live row → get_or (map in_use slots) i Free ≡ Live row
live_in_use [] i row is = is
live_in_use (s ∷ ss) zero row is = ap in_use is
live_in_use (s ∷ ss) (suc i) row is = live_in_use ss i row is

live_content : (s : Content) (row : List Value) → in_use s ≡ Live row → s ≡ Live row
live_content Free row is = is
live_content (Live r) row is = is
live_content (Hidden r) row is = let e : Free ≡ Live row = is in absurd (let no : ⊥ = cc in no)

pub in_use_live : (slots : List Content) (i : ℕ) (row : List Value) → get_or (map in_use slots) i Free ≡ Live row → get_or slots i Free ≡ Live row
in_use_live [] i row is = is
in_use_live (s ∷ ss) zero row is = live_content s row is
in_use_live (s ∷ ss) (suc i) row is = in_use_live ss i row is

-- An entry is in a slot in use.
pub there_in_use : (slots : List Content) (entry : EntryRef) → IsThere slots entry → IsThere (map in_use slots) entry
there_in_use slots entry it =
    let here = live_in_use slots entry.slot.slot (row_at slots entry) it.live in
    let same : row_at slots entry ≡ row_at (map in_use slots) entry = sym (ap row_in here) in
    record { live = here ∙ ap Live same; hash = it.hash ∙ ap row_hash same }

pub there_of_use : (slots : List Content) (entry : EntryRef) → IsThere (map in_use slots) entry → IsThere slots entry
there_of_use slots entry it =
    let here = in_use_live slots entry.slot.slot (row_at (map in_use slots) entry) it.live in
    let same : row_at (map in_use slots) entry ≡ row_at slots entry = sym (ap row_in here) in
    record { live = here ∙ ap Live same; hash = it.hash ∙ ap row_hash same }

-- The slot of a hidden row is freed: the entries, their pairs and the slots in use are the same.
pub entries_freed : (slots : List Content) (counts : List ℕ) (i : ℕ) (row : List Value) → get_or slots i Free ≡ Hidden row
    → entries_of (set slots i Free) counts ≡ entries_of slots counts
entries_freed [] counts i row is = refl
entries_freed (s ∷ ss) [] zero row is = refl
entries_freed (s ∷ ss) [] (suc i) row is = refl
entries_freed (s ∷ ss) (n ∷ ns) zero row is = ap (λ p. entry_of p n ++ entries_of ss ns) (sym is)
entries_freed (s ∷ ss) (n ∷ ns) (suc i) row is = ap (λ l. entry_of s n ++ l) (entries_freed ss ns i row is)

pub pairs_freed : (k : ℕ) (slots : List Content) (i : ℕ) (row : List Value) → get_or slots i Free ≡ Hidden row
    → pairs_from k (set slots i Free) ≡ pairs_from k slots
pairs_freed k [] i row is = refl
pairs_freed k (s ∷ ss) zero row is = ap (λ p. pair_of k p ++ pairs_from (suc k) ss) (sym is)
pairs_freed k (s ∷ ss) (suc i) row is = ap (λ l. pair_of k s ++ l) (pairs_freed (suc k) ss i row is)

pub in_use_freed : (slots : List Content) (i : ℕ) (row : List Value) → get_or slots i Free ≡ Hidden row
    → map in_use (set slots i Free) ≡ map in_use slots
in_use_freed [] i row is = refl
in_use_freed (s ∷ ss) zero row is = ap (λ p. in_use p ∷ map in_use ss) (sym is)
in_use_freed (s ∷ ss) (suc i) row is = ap (λ l. in_use s ∷ l) (in_use_freed ss i row is)

-- The slot of a hidden row exists.
pub hidden_inside : (slots : List Content) (i : ℕ) (row : List Value) → get_or slots i Free ≡ Hidden row → i < length slots
hidden_inside slots i row is =
    ⊎_elim
    (λ (h : i < length slots). h)
    (λ (h : length slots ≤ i). let no : Free ≡ Hidden row = sym (get_or_past slots i Free h) ∙ is in absurd (let f : ⊥ = cc in f))
    (cases_lt i (length slots))

-- A free slot in place of a hidden row.
pub kept_freed : (slots : List Content) (counts : List ℕ) (pairs : List (ℕ × RowRef)) (i : ℕ) (row : List Value) → get_or slots i Free ≡ Hidden row
    → IsKept slots counts pairs → IsKept (set slots i Free) counts pairs
kept_freed slots counts pairs i row is kept = record {
  marked = record {
    size = kept.marked.size ∙ sym (length-set slots i Free);
    each = λ k.
        ⊎_elim
        (λ (e : k ≡ i).
        subst (λ (n : ℕ). IsMarked (get_or (set slots i Free) n Free) (get_or counts n 0)) (sym e)
        (subst (λ s. IsMarked s (get_or counts i 0)) (sym (get_or-set_same slots i Free Free (hidden_inside slots i row is)))
        (subst (λ s. IsMarked s (get_or counts i 0)) is (kept.marked.each i))))
        (λ (apart : k ≢ i). subst (λ s. IsMarked s (get_or counts k 0)) (sym (get_or-set_other slots i k Free Free apart)) (kept.marked.each k))
        (cases_eq k i);
  };
  once = subst IsOnce (sym (entries_freed slots counts i row is)) kept.once;
  hashed = subst (IsPermutation pairs) (sym (pairs_freed 0 slots i row is)) kept.hashed;
}

-- A slot has another content.
told_set : (slots : List Content) (told : List ℕ) (i : ℕ) (s : Content) → HasTold slots told → i < length slots → (s ≡ Free → get_or told i 0 ≡ 0)
    → HasTold (set slots i s) told
told_set slots told i s are within zero_if = record {
  size = are.size ∙ sym (length-set slots i s);
  free = λ k is.
      ⊎_elim
      (λ (e : k ≡ i).
      ap (λ (n : ℕ). get_or told n 0) e
      ∙ zero_if (sym (get_or-set_same slots i s Free within) ∙ (ap (λ (n : ℕ). get_or (set slots i s) n Free) (sym e) ∙ is)))
      (λ (apart : k ≢ i). are.free k (sym (get_or-set_other slots i k s Free apart) ∙ is))
      (cases_eq k i);
}

-- A slot is appended.
told_grown : (slots : List Content) (told : List ℕ) (s : Content) → HasTold slots told → HasTold (slots ++ s ∷ []) (told ++ 0 ∷ [])
told_grown slots told s are = record {
  size = length_push told 0 ∙ (ap (λ (n : ℕ). n + 1) are.size ∙ sym (length_push slots s));
  free = λ k is.
      ⊎_elim
      (λ (h : k < length slots).
      get_or_append_left told (0 ∷ []) 0 k (omega (arith, h, are.size))
      ∙ are.free k (sym (get_or_append_left slots (s ∷ []) Free k h) ∙ is))
      (λ (h : length slots ≤ k).
      ⊎_elim
      (λ (e : k ≡ length slots). get_or_push told 0 0 k (are.size ∙ sym e))
      (λ (apart : k ≢ length slots). get_or_past (told ++ 0 ∷ []) k 0 (omega (arith, h, apart, are.size, length_push told 0)))
      (cases_eq k (length slots)))
      (cases_lt k (length slots));
}

-- Another number is told for a slot that has a row.
pub told_written : (slots : List Content) (told : List ℕ) (i n : ℕ) → HasTold slots told → get_or slots i Free ≢ Free → HasTold slots (set told i n)
told_written slots told i n are holds = record {
  size = length-set told i n ∙ are.size;
  free = λ k is.
      ⊎_elim
      (λ (e : k ≡ i). absurd (holds (ap (λ (m : ℕ). get_or slots m Free) (sym e) ∙ is)))
      (λ (apart : k ≢ i). get_or-set_other told i k n 0 apart ∙ are.free k is)
      (cases_eq k i);
}

-- ---- the feed

-- A slot has another content.
pub feed_turn : (slots : List Content) (i : ℕ) (s : Content) (feed : Option Telling) → i < length slots → IsFed slots feed
    → (s ≡ Free → told_at feed i ≡ 0) → told_part s (told_at feed i) ≡ told_part (get_or slots i Free) (told_at feed i)
    → IsFed (set slots i s) feed × (feed_of (set slots i s) feed ≡ feed_of slots feed)
feed_turn slots i s None within fed zero_if same = (tt, refl)
feed_turn slots i s (Some t) within fed zero_if same = (
  told_set slots t.told i s fed within zero_if,
  λ j. Some (record { distinct = t.distinct; told = told_turn slots t.told i s same j }),
)

feed_push : (slots : List Content) (s : Content) (feed : Option Telling) → IsFed slots feed
    → IsFed (slots ++ s ∷ []) (option_map grown feed) × (feed_of (slots ++ s ∷ []) (option_map grown feed) ≡ feed_of slots feed)
feed_push slots s None fed = (tt, refl)
feed_push slots s (Some t) fed = (
  told_grown slots t.told s fed,
  λ j. Some (record { distinct = t.distinct; told = told_push slots t.told s fed.size j }),
)

zero_for_free : (slots : List Content) (i : ℕ) (feed : Option Telling) → IsFed slots feed → get_or slots i Free ≡ Free → told_at feed i ≡ 0
zero_for_free slots i None fed is = refl
zero_for_free slots i (Some t) fed is = fed.free i is

no_part : (s p : Content) (n : ℕ) → n ≡ 0 → told_part s n ≡ told_part p n
no_part s p n nothing = ap (told_part s) nothing ∙ sym (ap (told_part p) nothing)

-- A row is put into a free slot.
module _ (old new : Places) (at : RowRef) (row : List Value) (numbers : Numbers) (size : length numbers.counts ≡ length old.slots)
    (free : slot_at old at ≡ Free) (placed : ChangesOnly old new at (Live row))
    (extent : extent_of new ≡ max (extent_of old) (at.slot + 1)) (within : at.slot ≤ extent_of old) (fed : IsFed old.slots numbers.feed) where
  pub feed_put : (feed : Option Telling) → IsToldSame at.slot numbers feed
      → IsFed new.slots feed × (feed_of new.slots feed ≡ feed_of old.slots numbers.feed)
  feed_put feed (inl (there, same)) =
      let i : ℕ = at.slot in
      let inside : i < length old.slots = omega (arith, there, size) in
      let slots : new.slots ≡ set old.slots i (Live row) = slots_set old new at (Live row) placed (omega (arith, inside, extent)) inside in
      let nothing = zero_for_free old.slots i numbers.feed fed free in
      let now = feed_turn old.slots i (Live row) numbers.feed inside fed (λ _. nothing)
      (no_part (Live row) (get_or old.slots i Free) (told_at numbers.feed i) nothing) in
      subst (λ (o : Option Telling). IsFed new.slots o × (feed_of new.slots o ≡ feed_of old.slots numbers.feed)) (sym same)
      (subst (λ (l : List Content). IsFed l numbers.feed × (feed_of l numbers.feed ≡ feed_of old.slots numbers.feed)) (sym slots) now)
  feed_put feed (inr (past, same)) =
      let end : at.slot ≡ length old.slots = omega (arith, within, past, size) in
      let slots : new.slots ≡ old.slots ++ Live row ∷ [] = slots_push old new at (Live row) placed (omega (arith, end, extent)) end in
      subst (λ (o : Option Telling). IsFed new.slots o × (feed_of new.slots o ≡ feed_of old.slots numbers.feed)) (sym same)
      (subst (λ (l : List Content). IsFed l (option_map grown numbers.feed) × (feed_of l (option_map grown numbers.feed) ≡ feed_of old.slots numbers.feed))
      (sym slots) (feed_push old.slots (Live row) numbers.feed fed))

-- An entry leaves its slot.
pub feed_left : (slots : List Content) (i : ℕ) (row : List Value) (owed : Bool) (feed : Option Telling) → get_or slots i Free ≡ Live row
    → IsFed slots feed → (owed ≡ false → told_at feed i ≡ 0)
    → IsFed (set slots i (left_by owed row)) feed × (feed_of (set slots i (left_by owed row)) feed ≡ feed_of slots feed)
feed_left slots i row true feed live fed zero_if =
    feed_turn slots i (Hidden row) feed (live_inside slots i row live) fed (λ e. absurd (let no : ⊥ = cc in no))
    (ap (λ s. told_part s (told_at feed i)) (sym live))
feed_left slots i row false feed live fed zero_if =
    feed_turn slots i Free feed (live_inside slots i row live) fed (λ _. zero_if refl)
    (no_part Free (get_or slots i Free) (told_at feed i) (zero_if refl))

-- The slot of a hidden row, for which 0 was told, is freed.
pub feed_freed : (slots : List Content) (i : ℕ) (row : List Value) (feed : Option Telling) → get_or slots i Free ≡ Hidden row
    → IsFed slots feed → told_at feed i ≡ 0
    → IsFed (set slots i Free) feed × (feed_of (set slots i Free) feed ≡ feed_of slots feed)
feed_freed slots i row feed hidden fed nothing =
    feed_turn slots i Free feed (hidden_inside slots i row hidden) fed (λ _. nothing)
    (no_part Free (get_or slots i Free) (told_at feed i) nothing)

-- ---- all is told

module _ (f : ℕ → ℕ) (at_zero : f 0 ≡ 0) (row : List Value) where
  one_live : (r : List Value) (n : ℕ) (es : Entries) (rest : ℕ) → IsOnce ((r, n) ∷ es) → rest ≡ f (count_in row es)
      → one row (Live r) (f n) + rest ≡ f (count_in row ((r, n) ∷ es))
  one_live r n es rest once is = by (same_row row r) refl
    where
      by : (b : Bool) → same_row row r ≡ b → cond b (f n) 0 + rest ≡ f (unwrap_or (cond b (Some n) (lookup (same_row row) es)) 0)
      by true e =
          let none : count_in row es ≡ 0 =
          ap (λ o. unwrap_or o 0) (lookup-none (same_row row) es (none_past_head same_row_equiv row (r, n) es once e))
          in
          omega (arith, is, ap f none, at_zero)
      by false e = omega (arith, is)

  one_slot : (s : Content) (n : ℕ) (es : Entries) (rest : ℕ) → IsMarked s n → IsOnce (entry_of s n ++ es) → (IsOnce es → rest ≡ f (count_in row es))
      → one row s (f n) + rest ≡ f (count_in row (entry_of s n ++ es))
  one_slot Free n es rest is once so_far = omega (arith, ap (one row Free) (ap f is ∙ at_zero), one_zero row Free, so_far once)
  one_slot (Live r) n es rest is once so_far = one_live r n es rest once (so_far (IsDistinct-tail same_row r (keys_of es) once))
  one_slot (Hidden r) n es rest is once so_far = omega (arith, ap (one row (Hidden r)) (ap f is ∙ at_zero), one_zero row (Hidden r), so_far once)

  -- If each slot's number is that of its count, each row's number is that of its count.
  pub told_counts : (slots : List Content) (counts : List ℕ) → length counts ≡ length slots
      → ((i : ℕ) → IsMarked (get_or slots i Free) (get_or counts i 0)) → IsOnce (entries_of slots counts)
      → number_in row (told_of slots (map f counts)) ≡ f (count_in row (entries_of slots counts))
  told_counts [] counts size marked once = sym at_zero
  told_counts (s ∷ ss) [] size marked once = absurd (let no : ⊥ = omega (arith, size) in no)
  told_counts (s ∷ ss) (n ∷ ns) size marked once =
      number_part row s (f n) (told_of ss (map f ns))
      ∙ one_slot s n (entries_of ss ns) (number_in row (told_of ss (map f ns))) (marked zero) once
      (λ o. told_counts ss ns (omega (arith, size)) (λ i. marked (suc i)) o)

-- If no slot owes a change, the reader is up to date.
pub up_to_date : (slots : List Content) (counts : List ℕ) (feed : Option Telling) → AreMarked slots counts → IsOnce (entries_of slots counts)
    → IsFed slots feed → IsAllTold feed counts → IsUpToDate (feed_of slots feed) (entries_of slots counts)
up_to_date slots counts None marked once fed all = tt
up_to_date slots counts (Some t) marked once fed all = λ row.
    let f = shown_count t.distinct in
    let same : t.told ≡ map f counts =
    ext_get_or 0 t.told (map f counts) (fed.size ∙ (sym marked.size ∙ sym (length-map counts f))) (λ k below. all k ∙ sym (shown_at t.distinct counts k))
    in
    ap (λ l. number_in row (told_of slots l)) same ∙ told_counts f (shown_zero t.distinct) row slots counts marked.size marked.each once

-- The change of a slot is told.
pub told_change : (slots : List Content) (counts : List ℕ) (i : ℕ) (by : ℤ) (t : Telling) → HasTold slots t.told → length counts ≡ length slots
    → i < length counts → by ≡ change_of (Some t) i (get_or counts i 0)
    → (row : List Value) → pos (number_in row (told_of slots (with_told i counts t).told))
    ≡ pos (number_in row (told_of slots t.told)) +ℤ signed_count row (record { row = row_in (get_or slots i Free); count = by } ∷ [])
told_change slots counts i by t are size within is row = either (same_row row (row_in (get_or slots i Free)))
    (number_write slots t.told i (shown_count t.distinct (get_or counts i 0)) row are.size (omega (arith, within, size, are.size)))
  where
    either : (b : Bool) → number_in row (told_of slots (set t.told i (shown_count t.distinct (get_or counts i 0)))) + cond b (get_or t.told i 0) 0
        ≡ number_in row (told_of slots t.told) + cond b (shown_count t.distinct (get_or counts i 0)) 0
        → pos (number_in row (told_of slots (set t.told i (shown_count t.distinct (get_or counts i 0)))))
        ≡ pos (number_in row (told_of slots t.told)) +ℤ (cond b by (pos 0) +ℤ pos 0)
    either true e = omega (arith, ints, e, is)
    either false e = omega (arith, ints, e)

-- A slot with a change has a row.
pub change_holds : (slots : List Content) (counts : List ℕ) (i : ℕ) (by : ℤ) (t : Telling) → HasTold slots t.told → AreMarked slots counts
    → by ≡ change_of (Some t) i (get_or counts i 0) → by ≢ pos 0 → get_or slots i Free ≢ Free
change_holds slots counts i by t are marked is some free =
    let none : get_or counts i 0 ≡ 0 = subst (λ s. IsMarked s (get_or counts i 0)) free (marked.each i) in
    let told : get_or t.told i 0 ≡ 0 = are.free i free in
    let shown : shown_count t.distinct (get_or counts i 0) ≡ 0 = ap (shown_count t.distinct) none ∙ shown_zero t.distinct in
    some (omega (arith, ints, is, told, shown))

-- A feed is started.
pub started : (slots : List Content) (feed new_feed : Option Telling) (distinct : Bool) (n : ℕ) → is_some feed ≡ false
    → new_feed ≡ Some (record { distinct = distinct; told = replicate n 0 }) → IsStarted distinct (feed_of slots feed) (feed_of slots new_feed)
started slots None new_feed distinct n none is =
    ap (feed_of slots) is ∙ (λ j. Some (record { distinct = distinct; told = told_nothing slots n j }))
started slots (Some t) new_feed distinct n none is = absurd (true≢false none)

-- The change of a slot was told.
pub is_told : (slots : List Content) (numbers new : Numbers) (at : RowRef) (by : ℤ) (before : Option Feed) → AreMarked slots numbers.counts
    → IsFed slots numbers.feed → before ≡ feed_of slots numbers.feed → IsTaken at.slot by numbers new
    → IsTold slots at by before (feed_of slots new.feed)
is_told slots numbers new at by before marked fed same taken =
    let t = taken.before in
    let are : HasTold slots t.told = subst (IsFed slots) taken.was fed in
    record {
      holds = holds_if (get_or slots at.slot Free) (change_holds slots numbers.counts at.slot by t are marked taken.change taken.some);
      some = taken.some;
      before = record { distinct = t.distinct; told = told_of slots t.told };
      was = same ∙ ap (feed_of slots) taken.was;
      after = record { distinct = t.distinct; told = told_of slots (with_told at.slot numbers.counts t).told };
      now = ap (feed_of slots) taken.now;
      same = refl;
      told = told_change slots numbers.counts at.slot by t are marked.size taken.within taken.change;
    }
  where
    holds_if : (s : Content) → s ≢ Free → holds_row s ≡ true
    holds_if Free some = absurd (some refl)
    holds_if (Live row) some = refl
    holds_if (Hidden row) some = refl

-- An entry keeps its slot when a row is put into a free one.
pub entry_kept : (old new : Places) (at : RowRef) (row : List Value) → slot_at old at ≡ Free → ChangesOnly old new at (Live row)
    → (entry : EntryRef) (other : List Value) → IsEntry (map in_use old.slots) entry other → IsEntry (map in_use new.slots) entry other
entry_kept old new at row free placed entry other it =
    let live = in_use_live old.slots entry.slot.slot other it.live in
    record {
      live = live_in_use new.slots entry.slot.slot other (placed.others entry.slot (λ e.
          let no : Free ≡ Live other = sym free ∙ (ap (slot_at old) (sym e) ∙ live) in
          let f : ⊥ = cc in absurd f) ∙ live);
      hash = it.hash;
    }
