-- The references found for a combination include all that fit.
use Rattle.std.proofs.Common.{◌≡◌, ℕ, suc, ◌<◌, ◌≤◌, Bool, true, false, cond, List, [], ◌∷◌, ◌++◌, Some, inl, inr, get_or, length, map, refl, sym, ap, ◌∙◌}
use Rattle.std.proofs.Common.{subst, arith}
use Rattle.std.specs.List.{count_by, filter}
use Rattle.std.specs.List.Sorted.{IsPermutation}
use Rattle.std.specs.Option.{option_map_or}
use Rattle.std.proofs.lemmas.Bool.{cases_Bool, false≢true}
use Rattle.std.proofs.lemmas.List.Elements.{Contains-get_or}
use Rattle.std.proofs.lemmas.List.Sorted.{All-permutation, IsPermutation-sym, length_permutation}
use Rattle.mm_order.proofs.Filtered.{filter-all}
use Rattle.mm_partition.specs.Places.{IsLive, slot_at}
use Rattle.mm_query.specs.Atoms.{value_in}
use Rattle.mm_query.specs.Queries.{Partial, none_fails}
use Rattle.mm_query.specs.declared.atom.Atom.{Atom}
use Rattle.mm_query.specs.declared.bound_query.FieldPlace.{FieldPlace}
use Rattle.mm_indexed.specs.Kept.{IsKept, StoredRows}
use Rattle.mm_row_order.specs.Refs.{row_at}
use Rattle.mm_indexed.specs.RowLists.{rows_of}
use Rattle.mm_select.proofs.Along.{filter_moved}
use Rattle.mm_select.proofs.Covered.{live_there}
use Rattle.mm_select.proofs.Fits.{row_here, rows_along}
use Rattle.mm_select.specs.Matches.{Covers}
use Rattle.mm_store.proofs.Shown.{table_seen}
use Rattle.mm_store.specs.Seen.{Seen}
use Rattle.mm_store.specs.Tables.{IsAt, Tables, rows_at}
use Rattle.mm_templist.specs.Combos.{AreLive, row_of, rows_of_combo}
use Rattle.mm_value.specs.declared.row_ref.RowRef.{RowRef}
use Rattle.mm_join.proofs.Found.{all_live, counted, have_live}
use Rattle.mm_join.proofs.JoinSteps.{Row}
use Rattle.mm_join.specs.Equated.{HaveMatches, IsJoin, sought}
use Rattle.mm_join.specs.Reads.{any_row}
use Rattle.mm_join.specs.AccessMethods.{AreCandidates, Finds, may_be}
use Rattle.mm_join.specs.declared.key.JoinKey.{JoinKey}
use Rattle.mm_join.specs.declared.look_up.Among.{Among}

-- Filtering first by a weaker test changes nothing.
module _ {X : Type 0} (p q : X → Bool) where
  passed : (x : X) (xs : List X) (b : Bool) → b ≡ q x → (p x ≡ true → b ≡ true) → filter p (filter q xs) ≡ filter p xs
      → filter p (cond b (x ∷ filter q xs) (filter q xs)) ≡ cond (p x) (x ∷ filter p xs) (filter p xs)
  passed x xs true is implies same = ap (λ ys. cond (p x) (x ∷ ys) ys) same
  passed x xs false is implies same =
      elim (cases_Bool (p x)) [
        | inl met ↦ absurd (false≢true (implies met))
        | inr unmet ↦ same ∙ sym (ap (λ b. cond b (x ∷ filter p xs) (filter p xs)) unmet)
      ]

  filter_within : (xs : List X) → ((k : ℕ) (d : X) → k < length xs → p (get_or xs k d) ≡ true → q (get_or xs k d) ≡ true)
      → filter p (filter q xs) ≡ filter p xs
  filter_within [] implies = refl
  filter_within (x ∷ xs) implies =
      passed x xs (q x) refl (implies 0 x (omega arith)) (filter_within xs (λ k d within. implies (suc k) d (omega (arith, within))))

pub length_rows : (store : Tables) (tables : List ℕ) (front : List RowRef) → AreLive store tables front
    → length (rows_of_combo store tables front) ≡ length tables
length_rows store [] [] live = refl
length_rows store [] (r ∷ refs) live = absurd live
length_rows store (t ∷ tables) [] live = absurd live
length_rows store (t ∷ tables) (r ∷ refs) live = ap suc (length_rows store tables refs live.1)

module _ (seen : Seen) (table : ℕ) (stored : StoredRows) (here : IsAt seen.store table stored) (atoms : List (Atom FieldPlace)) (outers : List ℕ)
    (front : List RowRef) (live : AreLive seen.store outers front) where
  abbrev store : Tables
  store = seen.store

  kept : IsKept stored.places.types stored.key (slot_at stored.places) stored.refs stored.indexes
  kept = (table_seen seen table stored here).kept

  abbrev rows : List Row
  rows = rows_of_combo store outers front

  -- the row of the reference fits with the combination
  abbrev met : RowRef → Bool
  met at = none_fails atoms (map Some rows ++ Some (row_of store table at) ∷ [])

  -- References of all rows with the value that a key requires include those of all rows that fit.
  have_cover : (key : JoinKey) → IsJoin atoms outers key → (found : List RowRef)
      → HaveMatches key.column (slot_at stored.places) (sought key (map Some rows)) stored.refs found → Covers store table atoms (map Some rows) found
  have_cover key joins found (passes, all, same) =
      let has : (at : RowRef) → met at ≡ true → value_in key.column (row_at (slot_at stored.places) at) ≡ sought key (map Some rows) = λ at fits.
      ap (value_in key.column) (sym (row_here store table stored here at)) ∙ joins rows (row_of store table at) (length_rows store outers front live) fits in (
        stored.refs,
        rows_along store table stored here stored.refs refl,
        subst (IsPermutation (filter met found))
            (filter_within met passes stored.refs
            (λ k d within fits. all (get_or stored.refs k d) (Contains-get_or stored.refs k d within) (has (get_or stored.refs k d) fits)))
            (filter_moved met found (filter passes stored.refs) same),
      )

  -- So they are candidates.
  pub have_candidates : (key : JoinKey) → IsJoin atoms outers key → (most : ℕ) (found : List RowRef)
      → HaveMatches key.column (slot_at stored.places) (sought key (map Some rows)) stored.refs found → length found ≤ most
      → AreCandidates store table atoms rows most found
  have_candidates key joins most found have few = record {
    live = live_there store table stored here found (have_live stored kept key.column (sought key (map Some rows)) found have);
    cover = have_cover key joins found have;
    few = few;
  }

  rows_here : rows_of stored ≡ rows_at store.tables table
  rows_here = sym (ap (λ o. option_map_or rows_of o []) here)

  -- The references that a look-up of this value finds are also candidates.
  pub found_candidates : (key : JoinKey) → IsJoin atoms outers key → (from : Among) (partial : Partial) → partial ≡ map Some rows → (found : List RowRef)
      → Finds stored key.column from (sought key partial) found
      → AreCandidates store table atoms rows
      (count_by (λ row. may_be from (sought key (map Some rows)) (value_in key.column row)) (rows_at store.tables table)) found
  found_candidates key joins from partial chosen found finds =
      let told = subst (λ (p : Partial). Finds stored key.column from (sought key p) found) chosen finds in
      have_candidates key joins
      (count_by (λ (row : Row). may_be from (sought key (map Some rows)) (value_in key.column row)) (rows_at store.tables table)) found told.matches
      (subst (λ (rs : List Row). length found ≤ count_by (λ (row : Row). may_be from (sought key (map Some rows)) (value_in key.column row)) rs) rows_here
      told.few)

  -- All references of the table are candidates.
  pub all_candidates : (found : List RowRef) → IsPermutation found stored.refs
      → AreCandidates store table atoms rows (count_by (any_row (map Some rows)) (rows_at store.tables table)) found
  all_candidates found same = record {
    live = live_there store table stored here found
        (All-permutation (IsLive stored.places) stored.refs found (IsPermutation-sym found stored.refs same) (all_live stored kept));
    cover = (stored.refs, rows_along store table stored here stored.refs refl, filter_moved met found stored.refs same);
    few = omega (
      arith,
      length_permutation found stored.refs same,
      ap length (filter-all (λ (at : RowRef). true) stored.refs (λ k d within. refl)),
      counted (λ (row : Row). true) (row_at (slot_at stored.places)) stored.refs,
      ap (λ (rs : List Row). count_by (λ (row : Row). true) rs) rows_here,
    );
  }
