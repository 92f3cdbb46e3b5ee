-- The rows and their indexes after each change of slots.
use Rattle.std.proofs.Common.{◌≡◌, ◌≢◌, ℕ, ◌<◌, ◌≤◌, ◌+◌, ◌⊎◌, inl, inr, ⊎_elim, Bool, true, false, List, [], ◌∷◌, Option, None, Some}
use Rattle.std.proofs.Common.{length, get_or, refl, sym, ap, ◌∙◌, subst, arith}
use Rattle.std.specs.Prelude.{IsPermutation, map, slice_get, Result, Ok, Err, OnOk}
use Rattle.std.specs.List.{All, Contains, remove}
use Rattle.std.specs.declared.cmp.Ordering.TheVariants.{Equal}
use Rattle.std.proofs.lemmas.List.Elements.{All-cons, All-contains, All-weaker, Contains-get_or, Contains-append_left, Contains-append_right}
use Rattle.std.proofs.lemmas.List.Elements.{Contains-append_cases, Contains-push}
use Rattle.std.proofs.lemmas.List.Sorted.{IsPermutation-sym, IsPermutation-remove, Contains-permutation, All-permutation}
use Rattle.mm_value.specs.declared.col_type.ColType.{ColType}
use Rattle.mm_value.specs.declared.row_ref.RowRef.{RowRef}
use Rattle.mm_value.specs.declared.values.Value.{Value}
use Rattle.mm_partition.specs.Places.{Content, Places, Live, Hidden, row_in, slot_at, IsUnchanged, ChangesOnly, ChangesTwo}
use Rattle.mm_partition.specs.Types.{HasTypes}
use Rattle.mm_row_order.specs.Refs.{Slots, HasRow, HasHidden, IsWide, row_at}
use Rattle.mm_row_order.specs.InOrder.{InOrder}
use Rattle.mm_indexed.specs.Index.{Keeps, EachTurns, Grown, GrownTo, SameEntries, SameIndex, column_of, tie_column, spare_of}
use Rattle.mm_indexed.specs.HashedPairs.{hashed_pair}
use Rattle.mm_indexed.specs.Kept.{IsKept, StoredRows, SameTable, UsesRoom}
use Rattle.mm_indexed.specs.Stays.{Removes, Inserts, agrees, stays, beside}
use Rattle.mm_indexed.specs.Twins.{keys_by}
use Rattle.mm_indexed.specs.declared.indexes.index.Index.{Index}
use Rattle.mm_indexed.proofs.Entries.{wide_from, absent_without}
use Rattle.mm_indexed.proofs.Levels.{IsLevel, Same, one_value, agrees_swapped, level_swapped, levels_same, InOrder-level, InOrder-stays, Keeps-level}
use Rattle.mm_indexed.proofs.Levels.{Keeps-permutation, Keeps-stays, tie_same}
use Rattle.mm_indexed.proofs.RefTests.{only, same_or_apart}
use Rattle.mm_indexed.specs.declared.indexes.index.Index.TheVariants.{Tree, Hash}
use Rattle.mm_indexed.proofs.Turning.{All-turned, EachTurns-weaker, EachTurns-twice}

abbrev pub Typed : List ColType → Slots → Type 0
Typed types now = (at : RowRef) (row : List Value) → now at ≡ Live row → HasTypes types row

-- a row in use is not a hidden one
pub live_not_hidden : (now : Slots) (a b : RowRef) → HasRow now a → HasHidden now b → a ≢ b
live_not_hidden now a b live hidden same =
    let both : Live live.0 ≡ Hidden hidden.0 = sym live.1 ∙ (ap now same ∙ hidden.1) in cc

-- a list with one more reference
pub in_more : (refs more : List RowRef) (at r : RowRef) → IsPermutation more (at ∷ refs) → (r ≡ at) ⊎ Contains refs r → Contains more r
in_more refs more at r moved which =
    Contains-permutation (at ∷ refs) more r (IsPermutation-sym more (at ∷ refs) moved)
    (⊎_elim
    (λ (same : r ≡ at). Contains-append_left (at ∷ []) refs r (subst (Contains (at ∷ [])) (sym same) (Contains-push [] at)))
    (λ (old : Contains refs r). Contains-append_right (at ∷ []) refs r old)
    which)

pub from_more : (refs more : List RowRef) (at r : RowRef) → IsPermutation more (at ∷ refs) → Contains more r → (r ≡ at) ⊎ Contains refs r
from_more refs more at r moved here =
    ⊎_elim
    (λ (first : Contains (at ∷ []) r). inl (sym (only at r first)))
    (λ (rest : Contains refs r). inr rest)
    (Contains-append_cases (at ∷ []) refs r (Contains-permutation more (at ∷ refs) r moved here))

-- the column of an index that changed is still a column of the table
pub columns_removed : (types : List ColType) (key : ℕ) (now : Slots) (at : RowRef) (other : Option RowRef) (old new : List Index)
    → EachTurns (Removes key now at other) old new → All (λ x. column_of x < length types) old → All (λ x. column_of x < length types) new
columns_removed types key now at other old new turned all =
    All-turned (Removes key now at other) (λ x. column_of x < length types) (λ x. column_of x < length types) old new turned
    (λ x y within t. omega (arith, within, t.same.0)) all

pub columns_inserted : (types : List ColType) (key : ℕ) (now : Slots) (at : RowRef) (other : Option RowRef) (old new : List Index)
    → EachTurns (Inserts key now at other) old new → All (λ x. column_of x < length types) old → All (λ x. column_of x < length types) new
columns_inserted types key now at other old new turned all =
    All-turned (Inserts key now at other) (λ x. column_of x < length types) (λ x. column_of x < length types) old new turned
    (λ x y within t. omega (arith, within, t.same.0)) all

-- the indexes contain the references of a list without one of them, and that one
pub keep_beside : (types : List ColType) (key : ℕ) (now : Slots) (refs : List RowRef) (indexes : List Index) → IsKept types key now refs indexes
    → (at : RowRef) (less : List RowRef) → IsPermutation refs (at ∷ less) → All (Keeps key now (at ∷ less)) indexes
keep_beside types key now refs indexes was at less moved =
    All-weaker (Keeps key now refs) (Keeps key now (at ∷ less)) (Keeps-permutation key now refs (at ∷ less) moved) indexes was.keep

module _ (types new_types : List ColType) (same_types : new_types ≡ types) (key : ℕ) (old new : Places) (refs : List RowRef) (indexes : List Index)
    (was : IsKept types key (slot_at old) refs indexes) (typed : Typed new_types (slot_at new)) where
  pub key_now : key < length new_types
  key_now = subst (λ ts. key < length ts) (sym same_types) was.key_in

  pub columns_now : All (λ x. column_of x < length new_types) indexes
  columns_now = subst (λ (ts : List ColType). All (λ x. column_of x < length ts) indexes) (sym same_types) was.columns

  live_refs : (r : RowRef) → Contains refs r → HasRow (slot_at old) r
  live_refs r here = (was.held r).0 here

  -- ---- a slot changes that has no row in use

  module _ (at : RowRef) (now : Content) (changes : ChangesOnly old new at now)
      (no_old : (row : List Value) → slot_at old at ≢ Live row) (no_new : (row : List Value) → now ≢ Live row) where
    same_aside : Same (slot_at old) (slot_at new) refs
    same_aside k d within =
        let live : HasRow (slot_at old) (get_or refs k d) = live_refs (get_or refs k d) (Contains-get_or refs k d within) in
        changes.others (get_or refs k d) (λ same. no_old live.0 (ap (slot_at old) (sym same) ∙ live.1))

    pub IsKept-aside : IsKept new_types key (slot_at new) refs indexes
    IsKept-aside = record {
      key_in = key_now;
      columns = columns_now;
      typed = typed;
      held = λ r. (
        λ here. let live : HasRow (slot_at old) r = live_refs r here in
            (live.0, changes.others r (λ same. no_old live.0 (ap (slot_at old) (sym same) ∙ live.1)) ∙ live.1),
        λ live. (was.held r).1
            (live.0, sym (changes.others r (λ same. no_new live.0 (sym changes.changed ∙ (ap (slot_at new) (sym same) ∙ live.1)))) ∙ live.1),
      );
      by_key = InOrder-stays key key (slot_at old) (slot_at new) refs same_aside was.by_key;
      keep = λ k d within. Keeps-stays key (slot_at old) (slot_at new) refs same_aside (get_or indexes k d) (was.keep k d within);
    }

  -- ---- a hidden row is used

  module _ (at : RowRef) (row : List Value) (hidden : HasHidden (slot_at old) at) (changes : ChangesOnly old new at (Live row)) where
    pub absent_shown : All (λ a. a ≢ at) refs
    absent_shown k d within =
        live_not_hidden (slot_at old) (get_or refs k d) at (live_refs (get_or refs k d) (Contains-get_or refs k d within)) hidden

    same_shown : Same (slot_at old) (slot_at new) refs
    same_shown k d within = changes.others (get_or refs k d) (absent_shown k d within)

    pub ordered_shown : InOrder key key (slot_at new) refs
    ordered_shown = InOrder-stays key key (slot_at old) (slot_at new) refs same_shown was.by_key

    pub keep_shown : All (λ x. Keeps key (slot_at new) (beside (stays key (slot_at new) at None x) at refs) x) indexes
    keep_shown k d within = Keeps-stays key (slot_at old) (slot_at new) refs same_shown (get_or indexes k d) (was.keep k d within)

    pub IsKept-shown : (more : List RowRef) (full : List Index) → IsPermutation more (at ∷ refs) → InOrder key key (slot_at new) more
        → EachTurns (Inserts key (slot_at new) at None) indexes full → IsKept new_types key (slot_at new) more full
    IsKept-shown more full moved ordered turned = record {
      key_in = key_now;
      columns = columns_inserted new_types key (slot_at new) at None indexes full turned columns_now;
      typed = typed;
      held = λ r. (
        λ here. ⊎_elim
            (λ (same : r ≡ at). (row, ap (slot_at new) same ∙ changes.changed))
            (λ (in_refs : Contains refs r). let live : HasRow (slot_at old) r = live_refs r in_refs in
            (live.0, changes.others r (live_not_hidden (slot_at old) r at live hidden) ∙ live.1))
            (from_more refs more at r moved here),
        λ live. in_more refs more at r moved
            (⊎_elim
            (λ (same : r ≡ at). inl same)
            (λ (apart : r ≢ at). inr ((was.held r).1 (live.0, sym (changes.others r apart) ∙ live.1)))
            (same_or_apart r at)),
      );
      by_key = ordered;
      keep =
          All-turned (Inserts key (slot_at new) at None) (Keeps key (slot_at new) refs) (Keeps key (slot_at new) more) indexes full turned
          (λ x y keeps t. Keeps-permutation key (slot_at new) (at ∷ refs) more (IsPermutation-sym more (at ∷ refs) moved) y (t.keeps refs keeps))
          keep_shown;
    }

  -- ---- a row leaves: it is hidden, or changes places with a hidden one

  module _ (at : RowRef) (less : List RowRef) (moved : IsPermutation refs (at ∷ less)) where
    beside_all : All (Keeps key (slot_at old) (at ∷ less)) indexes
    beside_all = keep_beside types key (slot_at old) refs indexes was at less moved

    live_less : (r : RowRef) → Contains less r → HasRow (slot_at old) r
    live_less r here = live_refs r (in_more less refs at r moved (inr here))

    module _ (absent : All (λ a. a ≢ at) less) where
      pub IsKept-hidden : (row : List Value) → ChangesOnly old new at (Hidden row) → (rest : List Index) → InOrder key key (slot_at old) less
          → EachTurns (Removes key (slot_at old) at None) indexes rest → IsKept new_types key (slot_at new) less rest
      IsKept-hidden row changes rest ordered turned =
          let same : Same (slot_at old) (slot_at new) less = λ k d within. changes.others (get_or less k d) (absent k d within) in
          record {
            key_in = key_now;
            columns = columns_removed new_types key (slot_at old) at None indexes rest turned columns_now;
            typed = typed;
            held = λ r. (
              λ here. let live : HasRow (slot_at old) r = live_less r here in
                  (live.0, changes.others r (All-contains (λ a. a ≢ at) less r absent here) ∙ live.1),
              λ live.
                  let apart : r ≢ at = λ at_r.
                  let both : Hidden row ≡ Live live.0 = sym changes.changed ∙ (ap (slot_at new) (sym at_r) ∙ live.1) in cc in
                  ⊎_elim
                  (λ (at_r : r ≡ at). absurd (apart at_r))
                  (λ (in_less : Contains less r). in_less)
                  (from_more less refs at r moved ((was.held r).1 (live.0, sym (changes.others r apart) ∙ live.1))),
            );
            by_key = InOrder-stays key key (slot_at old) (slot_at new) less same ordered;
            keep =
                All-turned (Removes key (slot_at old) at None) (Keeps key (slot_at old) (at ∷ less)) (Keeps key (slot_at new) less) indexes rest turned
                (λ x y keeps t. Keeps-stays key (slot_at old) (slot_at new) less same y (t.keeps less keeps)) beside_all;
          }

      module _ (other : RowRef) (x y : List Value) (live : slot_at old at ≡ Live x) (hidden : slot_at old other ≡ Hidden y)
          (changes : ChangesTwo old new at other (Live y) (Hidden x)) where
        row_first : row_at (slot_at new) at ≡ row_at (slot_at old) other
        row_first = ap row_in changes.first ∙ ap row_in (sym hidden)

        row_second : row_at (slot_at new) other ≡ row_at (slot_at old) at
        row_second = ap row_in changes.second ∙ ap row_in (sym live)

        away : (r : RowRef) → HasRow (slot_at old) r → r ≢ other
        away r in_use = live_not_hidden (slot_at old) r other in_use (y, hidden)

        same_less : Same (slot_at old) (slot_at new) less
        same_less k d within =
            changes.others (get_or less k d) (absent k d within) (away (get_or less k d) (live_less (get_or less k d) (Contains-get_or less k d within)))

        pub ordered_less : InOrder key key (slot_at old) less → InOrder key key (slot_at new) less
        ordered_less ordered = InOrder-stays key key (slot_at old) (slot_at new) less same_less ordered

        live_after : (r : RowRef) → HasRow (slot_at old) r → HasRow (slot_at new) r
        live_after r in_use =
            ⊎_elim
            (λ (same : r ≡ at). (y, ap (slot_at new) same ∙ changes.first))
            (λ (apart : r ≢ at). (in_use.0, changes.others r apart (away r in_use) ∙ in_use.1))
            (same_or_apart r at)

        live_before : (r : RowRef) → HasRow (slot_at new) r → HasRow (slot_at old) r
        live_before r in_use =
            let apart_other : r ≢ other = λ same.
            let both : Hidden x ≡ Live in_use.0 = sym changes.second ∙ (ap (slot_at new) (sym same) ∙ in_use.1) in cc in
            ⊎_elim
            (λ (same : r ≡ at). (x, ap (slot_at old) same ∙ live))
            (λ (apart : r ≢ at). (in_use.0, sym (changes.others r apart apart_other) ∙ in_use.1))
            (same_or_apart r at)

        wide_after : (column : ℕ) → column < length new_types → (r : RowRef) → HasRow (slot_at old) r → IsWide column key (slot_at new) r
        wide_after column within r in_use = wide_from new_types column key (slot_at new) r (live_after r in_use) (typed r) within key_now

        -- an index from which the entry was removed, or in which it stays, keeps the rows as they are now
        level_beside : (z : Index) → column_of z < length new_types → (stay : Bool) → stay ≡ stays key (slot_at old) at (Some other) z
            → Keeps key (slot_at old) (beside stay at less) z → Keeps key (slot_at new) (beside stay at less) z
        level_beside z within false is keeps = Keeps-stays key (slot_at old) (slot_at new) less same_less z keeps
        level_beside z within true is keeps =
            Keeps-level key (slot_at old) (slot_at new) (at ∷ less) z
            (All-cons (IsLevel (column_of z) (tie_column key z) (slot_at old) (slot_at new)) at less
            (level_swapped (column_of z) (tie_column key z) (slot_at old) (slot_at new) at other row_first (sym is))
            (levels_same (column_of z) (tie_column key z) (slot_at old) (slot_at new) less same_less))
            (All-cons (IsWide (column_of z) key (slot_at new)) at less (wide_after (column_of z) within at (x, live))
            (λ k d below. wide_after (column_of z) within (get_or less k d) (live_less (get_or less k d) (Contains-get_or less k d below))))
            keeps

        stays_same : (w z : Index) → SameIndex w z → stays key (slot_at old) at (Some other) z ≡ stays key (slot_at old) at (Some other) w
        stays_same w z same =
            ap (λ c. agrees c (tie_column key z) (slot_at old) at (Some other)) same.0
            ∙ ap (λ t. agrees (column_of w) t (slot_at old) at (Some other)) (tie_same key w z same.0 same.1)

        module _ (rest : List Index) (removed : EachTurns (Removes key (slot_at old) at (Some other)) indexes rest) where
          pub columns_rest : All (λ z. column_of z < length new_types) rest
          columns_rest = columns_removed new_types key (slot_at old) at (Some other) indexes rest removed columns_now

          keep_old : All (λ z. Keeps key (slot_at old) (beside (stays key (slot_at old) at (Some other) z) at less) z) rest
          keep_old =
              All-turned (Removes key (slot_at old) at (Some other)) (Keeps key (slot_at old) (at ∷ less))
              (λ z. Keeps key (slot_at old) (beside (stays key (slot_at old) at (Some other) z) at less) z) indexes rest removed
              (λ w z keeps t. subst (λ stay. Keeps key (slot_at old) (beside stay at less) z) (sym (stays_same w z t.same)) (t.keeps less keeps))
              beside_all

          pub keep_rest : All (λ z. Keeps key (slot_at new) (beside (stays key (slot_at new) at (Some other) z) at less) z) rest
          keep_rest k d within =
              let z : Index = get_or rest k d in
              subst (λ stay. Keeps key (slot_at new) (beside stay at less) z)
              (sym (agrees_swapped (column_of z) (tie_column key z) (slot_at old) (slot_at new) at other row_first row_second))
              (level_beside z (columns_rest k d within) (stays key (slot_at old) at (Some other) z) refl (keep_old k d within))

          pub IsKept-exchanged : (more : List RowRef) (full : List Index) → IsPermutation more (at ∷ less) → InOrder key key (slot_at new) more
              → EachTurns (Inserts key (slot_at new) at (Some other)) rest full → IsKept new_types key (slot_at new) more full
          IsKept-exchanged more full again ordered inserted = record {
            key_in = key_now;
            columns = columns_inserted new_types key (slot_at new) at (Some other) rest full inserted columns_rest;
            typed = typed;
            held = λ r. (
              λ here. live_after r (⊎_elim
                  (λ (same : r ≡ at). (x, ap (slot_at old) same ∙ live))
                  (λ (in_less : Contains less r). live_less r in_less)
                  (from_more less more at r again here)),
              λ in_use. in_more less more at r again (from_more less refs at r moved ((was.held r).1 (live_before r in_use))),
            );
            by_key = ordered;
            keep =
                All-turned (Inserts key (slot_at new) at (Some other))
                (λ z. Keeps key (slot_at new) (beside (stays key (slot_at new) at (Some other) z) at less) z) (Keeps key (slot_at new) more) rest full inserted
                (λ w z keeps t. Keeps-permutation key (slot_at new) (at ∷ less) more (IsPermutation-sym more (at ∷ less) again) z (t.keeps less keeps))
                keep_rest;
          }

        -- rows of one key leave the order of the key as it is
        pub ordered_kept : keys_by key (slot_at old) at other ≡ Equal → InOrder key key (slot_at new) refs
        ordered_kept same_key =
            let value : slice_get (row_at (slot_at new) at) key ≡ slice_get (row_at (slot_at old) at) key =
            ap (λ r. slice_get r key) row_first ∙ sym (one_value key (row_at (slot_at old) at) (row_at (slot_at old) other) same_key) in
            let level : All (IsLevel key key (slot_at old) (slot_at new)) (at ∷ less) =
            All-cons (IsLevel key key (slot_at old) (slot_at new)) at less (value, value) (levels_same key key (slot_at old) (slot_at new) less same_less) in
            InOrder-level key key (slot_at old) (slot_at new) refs
            (All-permutation (IsLevel key key (slot_at old) (slot_at new)) (at ∷ less) refs (IsPermutation-sym refs (at ∷ less) moved) level)
            (λ k d within. wide_after key key_now (get_or refs k d) (live_refs (get_or refs k d) (Contains-get_or refs k d within)))
            was.by_key

-- only more capacity
pub same_index : (x y : Index) → SameEntries x y → SameIndex x y
same_index (Tree column refs) (Tree other more) same = (same.0, refl)
same_index (Tree column refs) (Hash other more) same = absurd same
same_index (Hash column pairs) (Tree other more) same = absurd same
same_index (Hash column pairs) (Hash other more) same = (same.0, refl)

pub Keeps-grown : (key : ℕ) (now : Slots) (held : List RowRef) (x y : Index) → SameEntries x y → Keeps key now held x → Keeps key now held y
Keeps-grown key now held (Tree column refs) (Tree other more) same keeps =
    subst (λ c. InOrder c key now more.refs × IsPermutation more.refs held) (sym same.0)
    (subst (λ xs. InOrder column key now xs × IsPermutation xs held) (sym same.1) keeps)
Keeps-grown key now held (Tree column refs) (Hash other more) same keeps = absurd same
Keeps-grown key now held (Hash column pairs) (Tree other more) same keeps = absurd same
Keeps-grown key now held (Hash column pairs) (Hash other more) same keeps =
    subst (λ c. IsPermutation more.entries (map (hashed_pair c now) held)) (sym same.0)
    (subst (λ xs. IsPermutation xs (map (hashed_pair column now) held)) (sym same.1) keeps)

pub IsKept-entries : (types : List ColType) (key : ℕ) (now : Slots) (refs : List RowRef) (indexes full : List Index) → IsKept types key now refs indexes
    → EachTurns SameEntries indexes full → IsKept types key now refs full
IsKept-entries types key now refs indexes full was turned = record {
  key_in = was.key_in;
  columns =
      All-turned SameEntries (λ x. column_of x < length types) (λ x. column_of x < length types) indexes full turned
      (λ x y within t. let same : column_of y ≡ column_of x = (same_index x y t).0 in omega (arith, within, same)) was.columns;
  typed = was.typed;
  held = was.held;
  by_key = was.by_key;
  keep = All-turned SameEntries (Keeps key now refs) (Keeps key now refs) indexes full turned (λ x y keeps t. Keeps-grown key now refs x y t keeps) was.keep;
}

pub IsKept-grown : (types : List ColType) (key : ℕ) (now : Slots) (refs : List RowRef) (indexes full : List Index) → IsKept types key now refs indexes
    → EachTurns Grown indexes full → IsKept types key now refs full
IsKept-grown types key now refs indexes full was turned =
    IsKept-entries types key now refs indexes full was (EachTurns-weaker Grown SameEntries (λ x y t. t.same) indexes full turned)

-- no slot changes
pub IsKept-same : (types new_types : List ColType) → new_types ≡ types → (key : ℕ) (old new : Places) (refs more : List RowRef) (indexes : List Index)
    → more ≡ refs → IsUnchanged old new → IsKept types key (slot_at old) refs indexes → IsKept new_types key (slot_at new) more indexes
IsKept-same types new_types same_types key old new refs more indexes same_refs unchanged was =
    let slots : slot_at new ≡ slot_at old = λ i r. unchanged r i in
    subst (λ ts. IsKept ts key (slot_at new) more indexes) (sym same_types)
    (subst (λ xs. IsKept types key (slot_at new) xs indexes) (sym same_refs) (subst (λ now. IsKept types key now refs indexes) (sym slots) was))

-- the list without a reference that it contains
abbrev pub without : (refs : List RowRef) (at : RowRef) → Contains refs at → List RowRef
without refs at here = remove refs here.0

pub without_moved : (refs : List RowRef) (at : RowRef) (here : Contains refs at) → IsPermutation refs (at ∷ without refs at here)
without_moved refs at here = IsPermutation-remove refs here.0 at here.1 (sym here.2)

pub without_absent : (key : ℕ) (now : Slots) (refs : List RowRef) (at : RowRef) (here : Contains refs at) → InOrder key key now refs
    → All (λ a. a ≢ at) (without refs at here)
without_absent key now refs at here ordered = absent_without key key now at refs here.0 here.1 (sym here.2) ordered

-- ---- the rest of the table stays

-- a table of these parts
abbrev pub stored : ℕ → Places → List RowRef → ℕ → List Index → StoredRows
stored key places refs spare indexes = record { key = key; places = places; refs = refs; spare = spare; indexes = indexes }

pub table_same : (n m key : ℕ) (rows then : Places) (refs more : List RowRef) (spare left : ℕ) (indexes full : List Index) (old : StoredRows)
    → stored key rows refs spare indexes ≡ old → then.types ≡ rows.types → spare ≤ left + n
    → EachTurns (UsesRoom m) indexes full
    → SameTable n m old (stored key then more left full)
table_same n m key rows then refs more spare left indexes full old view types room turned = record {
  key = ap (λ (t : StoredRows). t.key) view;
  types = types ∙ ap (λ (t : StoredRows). t.places.types) view;
  spare = subst (λ (t : StoredRows). t.spare ≤ left + n) view room;
  indexes = subst (λ (t : StoredRows). EachTurns (UsesRoom m) t.indexes full) view turned;
}

UsesRoom-refl : (x : Index) → UsesRoom 0 x x
UsesRoom-refl x = record { same = (refl, refl); spare = omega arith }

pub all_same : (indexes : List Index) → EachTurns (UsesRoom 0) indexes indexes
all_same indexes = record { size = refl; each = λ k d within. UsesRoom-refl (get_or indexes k d) }

pub removed_room : (key : ℕ) (now : Slots) (at : RowRef) (other : Option RowRef) (old new : List Index) → EachTurns (Removes key now at other) old new
    → EachTurns (UsesRoom 0) old new
removed_room key now at other old new turned =
    EachTurns-weaker (Removes key now at other) (UsesRoom 0) (λ x y t. record { same = t.same; spare = omega (arith, t.spare) }) old new turned

pub inserted_room : (key : ℕ) (now : Slots) (at : RowRef) (other : Option RowRef) (old new : List Index) → EachTurns (Inserts key now at other) old new
    → EachTurns (UsesRoom 1) old new
inserted_room key now at other old new turned =
    EachTurns-weaker (Inserts key now at other) (UsesRoom 1) (λ x y t. record { same = t.same; spare = t.spare }) old new turned

pub exchanged_room : (key : ℕ) (before after : Slots) (at : RowRef) (other : Option RowRef) (old rest new : List Index)
    → EachTurns (Removes key before at other) old rest → EachTurns (Inserts key after at other) rest new → EachTurns (UsesRoom 1) old new
exchanged_room key before after at other old rest new removed inserted =
    EachTurns-twice (Removes key before at other) (Inserts key after at other) (UsesRoom 1)
    (λ x y z t u. record { same = (u.same.0 ∙ t.same.0, u.same.1 ∙ t.same.1); spare = omega (arith, t.spare, u.spare) }) old rest new removed inserted

-- each index from which an entry was removed has capacity left
pub spares_rest : (key : ℕ) (now : Slots) (at : RowRef) (other : Option RowRef) (old new : List Index) → EachTurns (Removes key now at other) old new
    → All (λ x. 1 ≤ spare_of x) old → All (λ x. 1 ≤ spare_of x) new
spares_rest key now at other old new turned all =
    All-turned (Removes key now at other) (λ x. 1 ≤ spare_of x) (λ x. 1 ≤ spare_of x) old new turned (λ x y room t. omega (arith, room, t.spare)) all

pub grown_room : (old new : List Index) → EachTurns Grown old new → EachTurns (UsesRoom 0) old new
grown_room old new turned =
    EachTurns-weaker Grown (UsesRoom 0) (λ x y t. record { same = same_index x y t.same; spare = omega (arith, t.spare) }) old new turned

-- a row in use has the key
pub wide_here : (types : List ColType) (key : ℕ) (now : Slots) (refs : List RowRef) (indexes : List Index) → IsKept types key now refs indexes
    → (at : RowRef) → HasRow now at → IsWide key key now at
wide_here types key now refs indexes was at live = wide_from types key key now at live (was.typed at) was.key_in was.key_in

-- each index that grew has the capacity
pub grown_entries : (n : ℕ) (old new : List Index) → EachTurns (GrownTo n) old new → All (λ x. n ≤ spare_of x) new
grown_entries n old new turned k d within =
    let size : length new ≡ length old = turned.size in
    (turned.each k d (omega arith)).room

-- a consequence of a success
pub on_ok : {T E : Type 0} (r : Result T E) {P Q : Type 0} → (P → Q) → OnOk r P → OnOk r Q
on_ok (Ok x) follows holds = follows holds
on_ok (Err e) follows holds = holds
