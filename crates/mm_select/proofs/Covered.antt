-- The rows along an access path include all that match, and each is found once.
use Rattle.std.proofs.Common.{◌≡◌, ℕ, ◌≤◌, Bool, true, false, List, [], ◌∷◌, ◌++◌, ◌&&◌, get_or, length, take, Some, refl, sym, ap, ◌∙◌, subst}
use Rattle.std.specs.List.{All, count_by, filter, list_any}
use Rattle.std.specs.List.Sorted.{IsPermutation}
use Rattle.std.specs.Option.{option_copied, option_map_or}
use Rattle.std.proofs.lemmas.List.{append-nil, drop_all, length-map}
use Rattle.std.proofs.lemmas.List.Elements.{All-filter}
use Rattle.std.proofs.lemmas.List.Sums.{length-filter}
use Rattle.std.proofs.lemmas.List.Sorted.{length_permutation}
use Rattle.mm_partition.specs.Places.{IsLive, slot_at}
use Rattle.mm_query.specs.Atoms.{value_in}
use Rattle.mm_query.specs.Queries.{none_fails}
use Rattle.mm_query.specs.declared.atom.Atom.{Atom}
use Rattle.mm_query.specs.declared.bound_query.FieldPlace.{FieldPlace}
use Rattle.mm_indexed.proofs.Matches.{Keeping}
use Rattle.mm_indexed.specs.Kept.{StoredRows}
use Rattle.mm_row_order.specs.Refs.{row_at}
use Rattle.mm_indexed.specs.RowLists.{rows_of}
use Rattle.mm_select.proofs.Along.{filter_moved, filter_within}
use Rattle.mm_select.proofs.Asking.{told_equal, told_high, told_low}
use Rattle.mm_select.proofs.Found.{lie_along}
use Rattle.mm_select.proofs.Fits.{filter-map, row_here}
use Rattle.mm_select.proofs.Meeting.{all_admit}
use Rattle.mm_select.specs.Accesses.{AreAlong, Asks, asks_along, is_along, is_from, is_up_to, refs_along}
use Rattle.mm_select.specs.Matches.{matching}
use Rattle.mm_select.specs.declared.access.Access.{Access}
use Rattle.mm_select.specs.declared.access.Access.TheVariants as access
use Rattle.mm_store.proofs.Joining.{one_relation}
use Rattle.mm_store.specs.Tables.{IsAt, Tables, rows_at}
use Rattle.mm_templist.specs.Combos.{row_of}
use Rattle.mm_value.specs.declared.row_ref.RowRef.{RowRef}
use Rattle.mm_value.specs.declared.values.Value.{Value}
use Rattle.mm_order.proofs.Filtered.{filter-all}

-- A relation at a position is the only one there.
pub live_there : (store : Tables) (table : ℕ) (relation : StoredRows) → IsAt store table relation → (found : List RowRef)
    → All (IsLive relation.places) found → (stored : StoredRows) → IsAt store table stored → All (IsLive stored.places) found
live_there store table relation here found live stored at =
    subst (λ (s : StoredRows). All (IsLive s.places) found) (one_relation relation stored (sym here ∙ at)) live

both_true : (a b : Bool) → a ≡ true → b ≡ true → (a && b) ≡ true
both_true a b first second = ap (λ x. x && b) first ∙ second

-- A row that fits is along the access path.
along_told : (atoms : List (Atom FieldPlace)) (a : Access) → Asks atoms a → (row : List Value) → none_fails atoms (Some row ∷ []) ≡ true
    → is_along a row ≡ true
along_told atoms access.Scan asks row fits = refl
along_told atoms (access.Equal index column value) asks row fits = told_equal atoms column row fits value.now asks
along_told atoms (access.Range index column low high) asks row fits =
    both_true (is_from (option_copied low) (value_in column row)) (is_up_to (option_copied high) (value_in column row))
    (told_low atoms column row fits (option_copied low) asks.0) (told_high atoms column row fits (option_copied high) asks.1)

-- The matches along an access path are all matches.
pub matching_along : (store : Tables) (table : ℕ) (stored : StoredRows) → IsAt store table stored → (a : Access) (atoms : List (Atom FieldPlace))
    → Asks atoms a → matching store table atoms [] (refs_along stored a) ≡ matching store table atoms [] stored.refs
matching_along store table stored here a atoms asks =
    filter_within (λ at. none_fails atoms (Some (row_of store table at) ∷ [])) (λ at. is_along a (row_at (slot_at stored.places) at)) stored.refs
    (λ at fits. subst (λ row. is_along a row ≡ true) (row_here store table stored here at) (along_told atoms a asks (row_of store table at) fits))

-- A candidate is live, and its row is along the access path.
abbrev pub IsCandidate : Tables → ℕ → Access → RowRef → Type 0
IsCandidate store table a at = ((stored : StoredRows) → IsAt store table stored → IsLive stored.places at) × (is_along a (row_of store table at) ≡ true)

-- If the access path implies all atoms on the table, all candidates match.
pub all_match : (store : Tables) (table : ℕ) (a : Access) (atoms : List (Atom FieldPlace)) (found : List RowRef) → All (IsCandidate store table a) found
    → list_any (asks_along a) atoms ≡ false → matching store table atoms [] found ≡ found
all_match store table a atoms found candidates silent =
    filter-all (λ at. none_fails atoms (Some (row_of store table at) ∷ [])) found
    (λ k d within. all_admit (row_of store table (get_or found k d)) a (candidates k d within).1 atoms silent)

-- At the end the elements that match are kept.
pub kept_match : {X : Type 0} (p : X → Bool) (P : X → Type 0) (old out : List X) (kept i : ℕ) → Keeping p P 0 old out kept i → length out ≤ i
    → take kept out ≡ filter p old
kept_match p P old out kept i was ends =
    sym (append-nil (take kept out)) ∙ (ap (λ l. take kept out ++ filter p l) (sym (drop_all i out ends)) ∙ was.result)

module _ (store : Tables) (table : ℕ) (stored : StoredRows) (here : IsAt store table stored) (a : Access) (found : List RowRef)
    (along : AreAlong stored a found) where
  abbrev along_at : RowRef → Bool
  along_at at = is_along a (row_at (slot_at stored.places) at)

  -- The matches among the candidates are all matches.
  pub matching_found : (atoms : List (Atom FieldPlace)) → Asks atoms a
      → IsPermutation (matching store table atoms [] found) (matching store table atoms [] stored.refs)
  matching_found atoms asks =
      let met : RowRef → Bool = λ at. none_fails atoms (Some (row_of store table at) ∷ []) in
      subst (IsPermutation (filter met found)) (matching_along store table stored here a atoms asks)
      (filter_moved met found (filter along_at stored.refs) along)

  -- There are as many candidates as rows along the access path.
  pub counted : length found ≡ count_by (is_along a) (rows_at store.tables table)
  counted =
      sym (length_permutation found (filter along_at stored.refs) along)
      ∙ sym (length-map (filter along_at stored.refs) (row_at (slot_at stored.places)))
      ∙ ap length (sym (filter-map (is_along a) (row_at (slot_at stored.places)) stored.refs))
      ∙ length-filter (is_along a) (rows_of stored)
      ∙ ap (λ o. count_by (is_along a) (option_map_or rows_of o [])) (sym here)

  -- Each live reference found is a candidate.
  pub candidates : All (IsLive stored.places) found → All (IsCandidate store table a) found
  candidates live k d within = (
    λ other at. live_there store table stored here found live other at k d within,
    subst (λ row. is_along a row ≡ true) (sym (row_here store table stored here (get_or found k d))) (lie_along stored a found along k d within),
  )

  -- The kept references are the result.
  module _ (atoms : List (Atom FieldPlace)) (asks : Asks atoms a) (new : List RowRef) (is : new ≡ matching store table atoms [] found) where
    pub selected : IsPermutation new (matching store table atoms [] stored.refs)
    selected = subst (λ l. IsPermutation l (matching store table atoms [] stored.refs)) (sym is) (matching_found atoms asks)

    -- They are in key order if the candidates are.
    pub selected_in_order : found ≡ refs_along stored a → new ≡ matching store table atoms [] stored.refs
    selected_in_order same = is ∙ (ap (matching store table atoms []) same ∙ matching_along store table stored here a atoms asks)

    -- They are live if the candidates are.
    pub selected_live : All (IsLive stored.places) found → All (IsLive stored.places) new
    selected_live live =
        subst (All (IsLive stored.places)) (sym is)
        (All-filter (λ at. none_fails atoms (Some (row_of store table at) ∷ [])) (IsLive stored.places) found live)

-- All rows are along a scan.
all_along : (rows : List (List Value)) → filter (is_along access.Scan) rows ≡ rows
all_along [] = refl
all_along (row ∷ rows) = ap (λ l. row ∷ l) (all_along rows)

pub scan_counted : (rows : List (List Value)) → count_by (is_along access.Scan) rows ≡ length rows
scan_counted rows = sym (length-filter (is_along access.Scan) rows) ∙ ap length (all_along rows)
