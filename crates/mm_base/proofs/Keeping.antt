-- Lawful tables, and their rows, when slots change.
use Rattle.std.proofs.Common.{◌≡◌, ◌≢◌, ℕ, zero, suc, ◌<◌, ◌≤◌, ⊎_elim, true, false}
use Rattle.std.proofs.Common.{List, [], ◌∷◌, ◌++◌, length, map, get_or, set, refl, sym, ap, ap₂, ◌∙◌, subst, arith, length-set}
use Rattle.std.specs.Prelude.{remove}
use Rattle.std.proofs.lemmas.Bool.{cases_Bool, cases_eq}
use Rattle.std.proofs.lemmas.List.{get_or-set_same, get_or-set_other, length-map}
use Rattle.std.proofs.lemmas.List.Elements.{filter_agree, Contains-get_or}
use Rattle.mm_order.proofs.Filtered.{filter-none}
use Rattle.mm_value.specs.declared.row_ref.RowRef.{RowRef}
use Rattle.mm_value.specs.declared.values.Value.{Value}
use Rattle.mm_schema.specs.Rows.{column_cmp, most_rows}
use Rattle.mm_schema.specs.Sorting.{in_order}
use Rattle.mm_partition.specs.Places.{Content, Free, Live, Hidden, row_in}
use Rattle.mm_row_order.specs.Refs.{Slots, HasRow, row_at}
use Rattle.mm_tables.specs.Edits.{put}
use Rattle.mm_tables.specs.Tables.{Shape, no_slots, slots_of, shape_of, state_of, keys_of}
use Rattle.mm_tables.specs.declared.logged_table.LoggedTable.{LoggedTable}
use Rattle.mm_tables.proofs.Slots.{same_or_apart, put_here, put_other}
use Rattle.mm_base.specs.Bases.{IsLawful, AreLawful, rows_of_state}
use Rattle.mm_base.specs.RowLists.{is_live, every_reference, live_references, rows_in}
use Rattle.mm_base.proofs.AfterEdits.{map_same}
use Rattle.mm_base.proofs.References.{row_from_live, out_of_filter}

-- ---- the same rows in use

-- each row in use of the one is in use in the other at the same reference
pub record SameLive (old new : Slots) : Type 0 where
  pub stays : (at : RowRef) → HasRow old at → new at ≡ old at
  pub was : (at : RowRef) → HasRow new at → new at ≡ old at

module _ (old new : Slots) (same : SameLive old new) where
  same_test : (at : RowRef) → is_live (new at) ≡ is_live (old at)
  same_test at =
      ⊎_elim
      (λ (live : is_live (old at) ≡ true). ap is_live (same.stays at (row_from_live (old at) live)))
      (λ (not_old : is_live (old at) ≡ false).
      ⊎_elim
      (λ (live : is_live (new at) ≡ true). ap is_live (same.was at (row_from_live (new at) live)))
      (λ (not_new : is_live (new at) ≡ false). not_new ∙ sym not_old)
      (cases_Bool (is_live (new at))))
      (cases_Bool (is_live (old at)))

  same_references : live_references new ≡ live_references old
  same_references = filter_agree (λ at. is_live (new at)) (λ at. is_live (old at)) same_test every_reference

  pub rows_in-same : (key : ℕ) → rows_in key new ≡ rows_in key old
  rows_in-same key =
      ap (λ (refs : List RowRef). in_order (column_cmp key) (map (row_at new) refs)) same_references
      ∙ ap (in_order (column_cmp key))
      (sym (map_same old new (live_references old)
      (λ k d within.
      let found = out_of_filter (λ r. is_live (old r)) every_reference (get_or (live_references old) k d)
      (Contains-get_or (live_references old) k d within) in
      same.stays (get_or (live_references old) k d) (row_from_live (old (get_or (live_references old) k d)) found.1))))

  had_row : (at : RowRef) → HasRow new at → HasRow old at
  had_row at row = (row.0, sym (same.was at row) ∙ row.1)

  pub IsLawful-same : (key : ℕ) → IsLawful key old → IsLawful key new
  IsLawful-same key lawful = record {
    apart = λ at live twin.
        lawful.apart at (had_row at live) (
          twin.0,
          had_row twin.0 twin.1,
          twin.2,
          sym (ap₂ (λ c d. column_cmp key (row_in c) (row_in d)) (same.was twin.0 twin.1) (same.was at live)) ∙ twin.3,
        );
    few = subst (λ (rows : List (List Value)). length rows ≤ most_rows) (sym (rows_in-same key)) lawful.few;
    small = λ at live. lawful.small at (had_row at live);
  }

-- a row is hidden in a free slot
pub SameLive-staged : (now : Slots) (r : RowRef) (row : List Value) → now r ≡ Free → SameLive now (put r (Hidden row) now)
SameLive-staged now r row free = record {
  stays = λ at live.
      put_other r at (Hidden row) now
      (λ is. let both : Live live.0 ≡ Free = sym live.1 ∙ (ap now (sym is) ∙ free) in let no : ⊥ = cc in no);
  was = λ at live.
      ⊎_elim
      (λ (is : r ≡ at). let both : Live live.0 ≡ Hidden row = sym live.1 ∙ put_here r at (Hidden row) now is in let no : ⊥ = cc in absurd no)
      (λ (apart : r ≢ at). put_other r at (Hidden row) now apart)
      (same_or_apart r at);
}

not_live : (c : Content) → is_live c ≡ false → ((row : List Value) × (c ≡ Live row)) → ⊥
not_live c other row = let both : true ≡ false = sym (ap is_live row.1) ∙ other in cc

-- rows in use stay, and every other slot is free
pub SameLive-settled : (old new : Slots) → ((at : RowRef) → HasRow old at → new at ≡ old at) → ((at : RowRef) → (HasRow old at → ⊥) → new at ≡ Free)
    → SameLive old new
SameLive-settled old new live rest = record {
  stays = live;
  was = λ at row.
      ⊎_elim
      (λ (yes : is_live (old at) ≡ true). live at (row_from_live (old at) yes))
      (λ (no : is_live (old at) ≡ false).
      let both : Live row.0 ≡ Free = sym row.1 ∙ rest at (not_live (old at) no) in let none : ⊥ = cc in absurd none)
      (cases_Bool (is_live (old at)));
}

-- ---- tables without rows

none_live : live_references no_slots ≡ []
none_live = filter-none (λ at. is_live (no_slots at)) every_reference (λ k d within. refl)

pub rows_in-none : (key : ℕ) → rows_in key no_slots ≡ []
rows_in-none key = ap (λ (refs : List RowRef). in_order (column_cmp key) (map (row_at no_slots) refs)) none_live

no_row : (at : RowRef) → HasRow no_slots at → ⊥
no_row at row = let both : Free ≡ Live row.0 = row.1 in let no : ⊥ = cc in no

pub IsLawful-none : (key : ℕ) → IsLawful key no_slots
IsLawful-none key = record {
  apart = λ at live twin. no_row at live;
  few = subst (λ (rows : List (List Value)). length rows ≤ most_rows) (sym (rows_in-none key)) (omega arith);
  small = λ at live. absurd (no_row at live);
}

-- ---- one table of several

pub AreLawful-set : (keys : List ℕ) (state : List Slots) (t : ℕ) (now : Slots) → AreLawful keys state
    → (t < length state → IsLawful (get_or keys t 0) now) → AreLawful keys (set state t now)
AreLawful-set keys state t now lawful here n inside =
    let within : n < length state = omega (arith, inside, length-set state t now) in
    ⊎_elim
    (λ (same : n ≡ t).
    let there : t < length state = omega (arith, within, same) in
    subst (λ (m : ℕ). IsLawful (get_or keys m 0) (get_or (set state t now) m no_slots)) (sym same)
    (subst (IsLawful (get_or keys t 0)) (sym (get_or-set_same state t now no_slots there)) (here there)))
    (λ (apart : n ≢ t). subst (IsLawful (get_or keys n 0)) (sym (get_or-set_other state t n now no_slots apart)) (lawful n within))
    (cases_eq n t)

pub rows_of_state-set : (keys : List ℕ) (state : List Slots) (t : ℕ) (now : Slots)
    → rows_of_state keys (set state t now) ≡ set (rows_of_state keys state) t (rows_in (get_or keys t 0) now)
rows_of_state-set [] state t now = refl
rows_of_state-set (key ∷ keys) [] t now = refl
rows_of_state-set (key ∷ keys) (s ∷ ss) zero now = refl
rows_of_state-set (key ∷ keys) (s ∷ ss) (suc t) now = ap (λ (rest : List (List (List Value))). rows_in key s ∷ rest) (rows_of_state-set keys ss t now)

-- the rows of each table are the same
pub rows_of_state-same : (keys : List ℕ) (old new : List Slots) → length new ≡ length old
    → ((t : ℕ) → t < length old → rows_in (get_or keys t 0) (get_or new t no_slots) ≡ rows_in (get_or keys t 0) (get_or old t no_slots))
    → rows_of_state keys new ≡ rows_of_state keys old
rows_of_state-same [] old new size same = refl
rows_of_state-same (key ∷ keys) [] [] size same = refl
rows_of_state-same (key ∷ keys) [] (n ∷ ns) size same = absurd (omega (arith, size))
rows_of_state-same (key ∷ keys) (o ∷ os) [] size same = absurd (omega (arith, size))
rows_of_state-same (key ∷ keys) (o ∷ os) (n ∷ ns) size same =
    ap₂ (λ (x : List (List Value)) (xs : List (List (List Value))). x ∷ xs) (same 0 (omega arith))
    (rows_of_state-same keys os ns (omega (arith, size)) (λ t within. same (suc t) (omega (arith, within))))

pub rows_of_state-push : (keys : List ℕ) (state : List Slots) (key : ℕ) (now : Slots) → length keys ≡ length state
    → rows_of_state (keys ++ key ∷ []) (state ++ now ∷ []) ≡ rows_of_state keys state ++ rows_in key now ∷ []
rows_of_state-push [] [] key now size = refl
rows_of_state-push [] (s ∷ ss) key now size = absurd (omega (arith, size))
rows_of_state-push (k ∷ ks) [] key now size = absurd (omega (arith, size))
rows_of_state-push (k ∷ ks) (s ∷ ss) key now size =
    ap (λ (rest : List (List (List Value))). rows_in k s ∷ rest) (rows_of_state-push ks ss key now (omega (arith, size)))

pub rows_of_state-remove : (keys : List ℕ) (state : List Slots) (t : ℕ) → length keys ≡ length state
    → rows_of_state (remove keys t) (remove state t) ≡ remove (rows_of_state keys state) t
rows_of_state-remove [] [] zero size = refl
rows_of_state-remove [] [] (suc t) size = refl
rows_of_state-remove [] (s ∷ ss) t size = absurd (omega (arith, size))
rows_of_state-remove (k ∷ ks) [] t size = absurd (omega (arith, size))
rows_of_state-remove (k ∷ ks) (s ∷ ss) zero size = refl
rows_of_state-remove (k ∷ ks) (s ∷ ss) (suc t) size =
    ap (λ (rest : List (List (List Value))). rows_in k s ∷ rest) (rows_of_state-remove ks ss t (omega (arith, size)))

-- ---- keys of tables

pub keys_from_shapes : (old new : List LoggedTable) → map shape_of new ≡ map shape_of old → keys_of new ≡ keys_of old
keys_from_shapes old new same = ap (map (λ (x : Shape). x.key)) same

pub keys_size : (tables : List LoggedTable) → length (keys_of tables) ≡ length (state_of tables)
keys_size tables =
    length-map (map shape_of tables) (λ (x : Shape). x.key) ∙ (length-map tables shape_of ∙ sym (length-map tables slots_of))

pub map_remove : {X Y : Type 0} (f : X → Y) (xs : List X) (i : ℕ) → map f (remove xs i) ≡ remove (map f xs) i
map_remove f [] zero = refl
map_remove f [] (suc i) = refl
map_remove f (x ∷ xs) zero = refl
map_remove f (x ∷ xs) (suc i) = ap (λ ys. f x ∷ ys) (map_remove f xs i)
