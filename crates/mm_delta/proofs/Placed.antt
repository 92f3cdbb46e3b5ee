-- The rows that are read at a place.
use Rattle.std.proofs.Common.{◌≡◌, ℕ, ◌+◌, ◌≤◌, ◌<◌, Bool, true, false, cond, nat_lt, List, [], ◌∷◌, ◌++◌, length, map, get_or, take, append_assoc, Option}
use Rattle.std.proofs.Common.{Some, None, refl, sym, ap, ◌∙◌, arith}
use Rattle.std.specs.List.{cons_option, filter, filter_map, sum_by}
use Rattle.std.specs.List.Sorted.{IsPermutation}
use Rattle.std.specs.Option.{option_map_or}
use Rattle.std.proofs.lemmas.List.{length-map, map-append, take_more}
use Rattle.std.proofs.lemmas.List.Elements.{filter-append, filter_map-append}
use Rattle.std.proofs.lemmas.List.Sums.{sum_by-append}
use Rattle.std.proofs.lemmas.List.Sorted.{length_permutation, sum_by-IsPermutation}
use Rattle.mm_partition.specs.Places.{slot_at}
use Rattle.mm_store.specs.Edits.{AreReady, rows_after, rows_come}
use Rattle.mm_indexed.specs.Kept.{StoredRows}
use Rattle.mm_row_order.specs.Refs.{Slots, row_at}
use Rattle.mm_indexed.specs.RowLists.{rows_of}
use Rattle.mm_tables.specs.declared.edit.Edit.{Edit}
use Rattle.mm_tables.specs.declared.edit.Edit.TheVariants.{Delete, Insert, Move, Stage, Update}
use Rattle.mm_store.proofs.Shown.{table_seen}
use Rattle.mm_store.specs.Joined.{IsTable}
use Rattle.mm_store.specs.Seen.{Seen}
use Rattle.mm_store.specs.Tables.{IsAt, Tables}
use Rattle.mm_value.specs.declared.row_ref.RowRef.{RowRef}
use Rattle.mm_value.specs.declared.values.Value.{Value}
use Rattle.mm_delta.specs.Candidates.{Required, having, passes}
use Rattle.mm_delta.specs.Edited.{before_at, edits_at, walked}
use Rattle.mm_delta.specs.Steps.{AreAlike, EachFit, coming, edits_walked, stays}
use Rattle.mm_delta.specs.declared.edited.TableChange.{TableChange}
use Rattle.mm_delta.proofs.SumOfTerms.{sum_by-filter}
use Rattle.mm_delta.proofs.Goes.{after_edits}
use Rattle.mm_delta.proofs.Product.{filter-map}
use Rattle.mm_delta.proofs.Sums.{sum_by-map, sum_by_same}

pub fit_nothing : (stored : StoredRows) → AreReady stored []
fit_nothing stored = record {
  fits = λ k d within. absurd (omega arith);
  apart = λ i j d before within. absurd (omega arith);
}

-- The edits that apply at a place fit.
pub fit_walked : (store : Tables) (changes : List TableChange) (k j table : ℕ) (stored : StoredRows) → EachFit store changes → IsAt store table stored
    → AreReady stored (edits_walked changes k j table)
fit_walked store changes k j table stored fit at = by (nat_lt j k)
  where
    by : (b : Bool) → AreReady stored (cond b (edits_at changes table) [])
    by true = fit table stored at
    by false = fit_nothing stored

-- The rows at a place are those after the edits that apply there.
pub walked_is : (store : Tables) (changes : List TableChange) (tables : List ℕ) (k j : ℕ) (stored : StoredRows) → IsAt store (get_or tables j 0) stored
    → walked store changes tables k j ≡ rows_after stored (edits_walked changes k j (get_or tables j 0))
walked_is store changes tables k j stored at =
    (λ i. cond (nat_lt j k) (option_map_or (λ s. rows_after s (edits_at changes (get_or tables j 0))) (at i) []) (option_map_or rows_of (at i) []))
    ∙ by (nat_lt j k)
  where
    by : (b : Bool) → cond b (rows_after stored (edits_at changes (get_or tables j 0))) (rows_of stored)
        ≡ rows_after stored (cond b (edits_at changes (get_or tables j 0)) [])
    by true = refl
    by false = refl

one_coming : (r : Option Required) (now : Slots) (row : List Value) (edits : List Edit) (b : Bool)
    → filter_map (coming r now) edits ≡ having r (rows_come now edits)
    → cons_option (cond b (Some row) None) (filter_map (coming r now) edits) ≡ cond b (row ∷ having r (rows_come now edits)) (having r (rows_come now edits))
one_coming r now row edits true h = ap (λ l. row ∷ l) h
one_coming r now row edits false h = h

-- The new rows that have the required value, edit by edit.
pub coming_all : (r : Option Required) (now : Slots) (edits : List Edit) → filter_map (coming r now) edits ≡ having r (rows_come now edits)
coming_all r now [] = refl
coming_all r now (Stage at ∷ edits) = coming_all r now edits
coming_all r now (Insert at ∷ edits) = one_coming r now (row_at now at) edits (passes r (row_at now at)) (coming_all r now edits)
coming_all r now (Update at other ∷ edits) = one_coming r now (row_at now other) edits (passes r (row_at now other)) (coming_all r now edits)
coming_all r now (Move at other ∷ edits) = one_coming r now (row_at now other) edits (passes r (row_at now other)) (coming_all r now edits)
coming_all r now (Delete at ∷ edits) = coming_all r now edits

-- One more edit.
pub coming_more : {X : Type 0} (g : Edit → Option X) (edits : List Edit) (i : ℕ) (d : Edit) (first rows next : List X) → i < length edits
    → rows ≡ first ++ filter_map g (take i edits) → next ≡ rows ++ cons_option (g (get_or edits i d)) []
    → next ≡ first ++ filter_map g (take (i + 1) edits)
coming_more g edits i d first rows next inside so_far last =
    let edit : Edit = get_or edits i d in
    last ∙ ap (λ l. l ++ cons_option (g edit) []) so_far ∙ append_assoc first (filter_map g (take i edits)) (cons_option (g edit) [])
    ∙ ap (λ l. first ++ l) (sym (filter_map-append g (take i edits) (edit ∷ [])))
    ∙ ap (λ l. first ++ filter_map g l) (sym (take_more edits i d inside))

-- One more row.
pub having_more : {X : Type 0} (read : X → List Value) (r : Option Required) (xs : List X) (i : ℕ) (x : X) (first rows next : List (List Value))
    → i < length xs → x ≡ get_or xs i x → rows ≡ first ++ having r (map read (take i xs)) → next ≡ rows ++ having r (read x ∷ [])
    → next ≡ first ++ having r (map read (take (i + 1) xs))
having_more read r xs i x first rows next inside is so_far last =
    last ∙ ap (λ l. l ++ having r (read x ∷ [])) so_far ∙ append_assoc first (having r (map read (take i xs))) (having r (read x ∷ []))
    ∙ ap (λ l. first ++ l) (sym (filter-append (passes r) (map read (take i xs)) (read x ∷ [])))
    ∙ ap (λ l. first ++ having r l) (sym (map-append read (take i xs) (x ∷ [])))
    ∙ ap (λ l. first ++ having r (map read l)) (ap (λ e. take i xs ++ e ∷ []) is ∙ sym (take_more xs i x inside))

pub before_is : (store : Tables) (table : ℕ) (stored : StoredRows) → IsAt store table stored → before_at store table ≡ rows_of stored
before_is store table stored at = ap (λ o. option_map_or rows_of o []) at

swapped : (a b : Bool) (n : ℕ) → cond a (cond b n 0) 0 ≡ cond b (cond a n 0) 0
swapped true true n = refl
swapped true false n = refl
swapped false true n = refl
swapped false false n = refl

module _ (stored : StoredRows) (is_table : IsTable stored) (r : Option Required) (refs : List RowRef)
    (found : IsPermutation refs (filter (λ at. passes r (row_at (slot_at stored.places) at)) stored.refs)) where
  abbrev now : Slots
  now = slot_at stored.places

  abbrev test : RowRef → Bool
  test at = passes r (row_at now at)

  -- The found references that stay and the new rows with the required value are the rows that have it after the edits.
  pub found_alike : (edits : List Edit) → AreReady stored edits → (rows all : List (List Value))
      → rows ≡ map (row_at now) (filter (stays edits) refs) → all ≡ rows ++ having r (rows_come now edits)
      → AreAlike all (having r (rows_after stored edits))
  found_alike edits fit rows all is sum f =
      let h : RowRef → ℕ = λ at. cond (stays edits at) (f (row_at now at)) 0 in
      let g : List Value → ℕ = λ x. cond (passes r x) (f x) 0 in
      omega (
        arith,
        ap (sum_by f) (sum ∙ ap (λ l. l ++ having r (rows_come now edits)) is),
        sum_by-append f (map (row_at now) (filter (stays edits) refs)) (having r (rows_come now edits)),
        sum_by-map f (row_at now) (filter (stays edits) refs),
        sum_by-filter (λ at. f (row_at now at)) (stays edits) refs,
        sum_by-IsPermutation h refs (filter test stored.refs) found,
        sum_by-filter h test stored.refs,
        sum_by_same (λ at. cond (test at) (h at) 0) (λ at. cond (stays edits at) (g (row_at now at)) 0) stored.refs
            (λ at. swapped (test at) (stays edits at) (f (row_at now at))),
        sum_by-filter (λ at. g (row_at now at)) (stays edits) stored.refs,
        sum_by-map g (row_at now) (filter (stays edits) stored.refs),
        after_edits stored is_table edits fit g,
        sum_by-filter f (passes r) (rows_after stored edits),
        sum_by-filter f (passes r) (rows_come now edits),
      )

  -- As many references are found as rows have the required value.
  pub found_count : length refs ≡ length (having r (rows_of stored))
  found_count =
      sym (length_permutation refs (filter test stored.refs) found)
      ∙ sym (ap length (filter-map (passes r) (row_at now) stored.refs) ∙ length-map (filter test stored.refs) (row_at now))

fewer : {X : Type 0} (p : X → Bool) (xs : List X) → length (filter p xs) ≤ length xs
fewer p [] = omega arith
fewer p (x ∷ xs) = by (p x) (fewer p xs)
  where
    by : (b : Bool) → length (filter p xs) ≤ length xs → length (cond b (x ∷ filter p xs) (filter p xs)) ≤ length (x ∷ xs)
    by true h = omega (arith, h)
    by false h = omega (arith, h)

-- No more rows are read than have the required value.
pub few_read : (seen : Seen) (table : ℕ) (stored : StoredRows) → IsAt seen.store table stored → (r r' : Option Required) (refs : List RowRef)
    → IsPermutation refs (filter (λ at. passes r (row_at (slot_at stored.places) at)) stored.refs) → r ≡ r' → (edits : List Edit) (left : List RowRef)
    → left ≡ filter (stays edits) refs → length left ≤ length (having r' (before_at seen.store table))
few_read seen table stored at r r' refs found same edits left is =
    let alike : length (having r (rows_of stored)) ≡ length (having r' (before_at seen.store table)) =
    λ i. length (having (same i) (sym (before_is seen.store table stored at) i)) in
    omega (
      arith,
      ap length is,
      fewer (stays edits) refs,
      found_count stored (table_seen seen table stored at) r refs found,
      alike,
    )
