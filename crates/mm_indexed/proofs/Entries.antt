-- One reference that is inserted into an index or removed from it.
use Rattle.std.proofs.Common.{◌≡◌, ◌≢◌, ℕ, ◌+◌, ◌<◌, ◌≤◌, ⊎_elim, Bool, true, false, List, [], ◌∷◌, length, get_or, refl, sym, ap, ◌∙◌, subst, arith}
use Rattle.std.specs.Prelude.{IsPermutation, map}
use Rattle.std.specs.Bool.{OnTrue}
use Rattle.std.specs.List.{All, Contains, remove}
use Rattle.std.specs.Ordering.{ordering_then}
use Rattle.std.specs.declared.cmp.Ordering.{Ordering}
use Rattle.std.specs.declared.cmp.Ordering.TheVariants.{Less, Equal, Greater}
use Rattle.std.proofs.lemmas.Bool.{cases_lt}
use Rattle.std.proofs.lemmas.List.{get_or_default}
use Rattle.std.proofs.lemmas.List.Edits.{length-remove, get_or-remove_below, get_or-remove_above}
use Rattle.std.proofs.lemmas.List.Elements.{All-append, Contains-append_left, Contains-push}
use Rattle.std.proofs.lemmas.List.Sorted.{IsPermutation-trans, IsPermutation-sym, IsPermutation-cons, Contains-permutation}
use Rattle.std.proofs.lemmas.Map.Lookups.{exact_unsigned}
use Rattle.mm_value.specs.declared.col_type.ColType.{ColType}
use Rattle.mm_value.specs.declared.row_ref.RowRef.{RowRef}
use Rattle.mm_value.specs.declared.values.Value.{Value}
use Rattle.mm_order.specs.Refs.{AddsInOrder}
use Rattle.mm_partition.specs.Places.{Live}
use Rattle.mm_partition.specs.Types.{HasTypes}
use Rattle.mm_schema.specs.Rows.{rows_by}
use Rattle.mm_row_order.specs.Refs.{Slots, HasRow, IsWide, row_at, refs_by}
use Rattle.mm_row_order.specs.Orders.{refs_by_total}
use Rattle.mm_row_order.specs.InOrder.{InOrder}
use Rattle.mm_indexed.specs.Stays.{beside}
use Rattle.mm_indexed.proofs.Bags.{IsPermutation-uncons}
use Rattle.mm_indexed.proofs.Ordered.{less_than_itself}
use Rattle.mm_indexed.proofs.RefTests.{same_ref, same_from_test, test_from_same, same_pair, pair_from_test, pair_itself}
use Rattle.mm_indexed.proofs.Typed.{HasTypes-length}

pub on_true : (P : Type 0) (b : Bool) → b ≡ true → OnTrue b P → P
on_true P true e h = h
on_true P false e h = let no : ⊥ = cc in absurd no

then_second : (a b : Ordering) → ordering_then a b ≡ Equal → b ≡ Equal
then_second Less b p = cc
then_second Equal b p = p
then_second Greater b p = cc

-- a row in use has both columns
pub wide_from : (types : List ColType) (column key : ℕ) (now : Slots) (at : RowRef) → HasRow now at
    → ((row : List Value) → now at ≡ Live row → HasTypes types row) → column < length types → key < length types → IsWide column key now at
wide_from types column key now at live typed column_in key_in =
    let size : length live.0 ≡ length types = HasTypes-length types live.0 (typed live.0 live.1) in
    record { row = live.0; live = live.1; column_in = omega arith; key_in = omega arith }

module _ (column key : ℕ) (now : Slots) (at : RowRef) where
  -- references that are apart do not compare equal
  pub apart_compared : (refs : List RowRef) → All (λ a. a ≢ at) refs → All (λ a. refs_by column key now a at ≢ Equal) refs
  apart_compared refs apart k d within equal =
      let slot : (get_or refs k d).slot ≡ at.slot =
      exact_unsigned _ _ (then_second (rows_by column key (row_at now (get_or refs k d)) (row_at now at)) _ equal) in
      apart k d within (λ i. record { slot = slot i })

  -- nothing is before itself
  not_before_itself : refs_by column key now at at ≢ Less
  not_before_itself less = less_than_itself (refs_by column key now at at) ((refs_by_total column key now).antisymm at at) less

  before_apart : (a : RowRef) → refs_by column key now a at ≡ Less → a ≢ at
  before_apart a less same = not_before_itself (ap (λ x. refs_by column key now x at) (sym same) ∙ less)

  behind_apart : (a : RowRef) → refs_by column key now at a ≡ Less → a ≢ at
  behind_apart a less same = not_before_itself (ap (λ x. refs_by column key now at x) (sym same) ∙ less)

  -- the references that remain are apart from the one that was removed
  pub absent_after : (less refs : List RowRef) → AddsInOrder (refs_by column key now) less at refs → All (λ a. a ≢ at) less
  absent_after less refs adds =
      subst (All (λ a. a ≢ at)) (sym adds.refs_are)
      (All-append (λ a. a ≢ at) adds.front adds.back
      (λ k d within. before_apart (get_or adds.front k d) (adds.above_front k d within))
      (λ k d within. behind_apart (get_or adds.back k d) (adds.below_back k d within)))

  -- .. also if it is left out of the list
  pub absent_without : (refs : List RowRef) (i : ℕ) → i < length refs → at ≡ get_or refs i at → InOrder column key now refs
      → All (λ a. a ≢ at) (remove refs i)
  absent_without refs i inside here ordered k d within =
      let size = length-remove refs i inside in
      ⊎_elim
      (λ (below : k < i).
      let less : refs_by column key now (get_or refs k at) at ≡ Less =
      ap (refs_by column key now (get_or refs k at)) here ∙ ordered.ascending k i at below inside in
      let is : get_or (remove refs i) k d ≡ get_or refs k at = get_or-remove_below refs i d k below inside ∙ get_or_default refs k d at (omega arith) in
      subst (λ (x : RowRef). x ≢ at) (sym is) (before_apart (get_or refs k at) less))
      (λ (above : i ≤ k).
      let there : k + 1 < length refs = omega (arith, size) in
      let less : refs_by column key now at (get_or refs (k + 1) at) ≡ Less =
      ap (λ x. refs_by column key now x (get_or refs (k + 1) at)) here ∙ ordered.ascending i (k + 1) at (omega arith) there in
      let is : get_or (remove refs i) k d ≡ get_or refs (k + 1) at = get_or-remove_above refs i d k above inside ∙ get_or_default refs (k + 1) d at there in
      subst (λ (x : RowRef). x ≢ at) (sym is) (behind_apart (get_or refs (k + 1) at) less))
      (cases_lt k i)

-- multisets of references cancel
pub refs_uncons : (at : RowRef) (xs ys : List RowRef) → IsPermutation (at ∷ xs) (at ∷ ys) → IsPermutation xs ys
refs_uncons at xs ys moved = IsPermutation-uncons same_ref same_from_test (λ a. test_from_same a a refl) at xs ys moved

pub front_held : {X : Type 0} (refs rest : List X) (at : X) → IsPermutation refs (at ∷ rest) → Contains refs at
front_held refs rest at moved = Contains-permutation (at ∷ rest) refs at (IsPermutation-sym refs (at ∷ rest) moved)
    (Contains-append_left (at ∷ []) rest at (Contains-push [] at))

-- a reference was removed, or it stays
pub removed_beside : (at : RowRef) (refs less held : List RowRef) (stay : Bool) → stay ≡ false → IsPermutation refs (at ∷ less)
    → IsPermutation refs (at ∷ held) → IsPermutation less (beside stay at held)
removed_beside at refs less held true is removed was = let no : ⊥ = cc in absurd no
removed_beside at refs less held false is removed was =
    refs_uncons at less held (IsPermutation-trans (at ∷ less) refs (at ∷ held) (IsPermutation-sym refs (at ∷ less) removed) was)

pub stayed_beside : {X : Type 0} (f : List RowRef → List X) (at : RowRef) (refs : List X) (held : List RowRef) (stay : Bool) → stay ≡ true
    → IsPermutation refs (f (at ∷ held)) → IsPermutation refs (f (beside stay at held))
stayed_beside f at refs held true is was = was
stayed_beside f at refs held false is was = let no : ⊥ = cc in absurd no

pub beside_stayed : {X : Type 0} (f : List RowRef → List X) (at : RowRef) (refs : List X) (held : List RowRef) (stay : Bool) → stay ≡ true
    → IsPermutation refs (f (beside stay at held)) → IsPermutation refs (f (at ∷ held))
beside_stayed f at refs held true is was = was
beside_stayed f at refs held false is was = let no : ⊥ = cc in absurd no

pub without_moved : {X : Type 0} (f : List RowRef → List X) (at : RowRef) (refs : List X) (held : List RowRef) (stay : Bool) → stay ≡ false
    → IsPermutation refs (f (beside stay at held)) → IsPermutation refs (f held)
without_moved f at refs held true is was = let no : ⊥ = cc in absurd no
without_moved f at refs held false is was = was

pub inserted_beside : (at : RowRef) (refs more held : List RowRef) → IsPermutation more (at ∷ refs) → IsPermutation refs held
    → IsPermutation more (at ∷ held)
inserted_beside at refs more held inserted was = IsPermutation-trans more (at ∷ refs) (at ∷ held) inserted (IsPermutation-cons at refs held was)

-- the same for pairs
pub pair_removed_beside : (f : RowRef → ℕ × RowRef) (at : RowRef) (pairs less : List (ℕ × RowRef)) (held : List RowRef) (stay : Bool) → stay ≡ false
    → IsPermutation pairs (f at ∷ less) → IsPermutation pairs (map f (at ∷ held)) → IsPermutation less (map f (beside stay at held))
pair_removed_beside f at pairs less held true is removed was = let no : ⊥ = cc in absurd no
pair_removed_beside f at pairs less held false is removed was =
    IsPermutation-uncons same_pair pair_from_test pair_itself (f at) less (map f held)
    (IsPermutation-trans (f at ∷ less) pairs (f at ∷ map f held) (IsPermutation-sym pairs (f at ∷ less) removed) was)

pub pair_inserted_beside : (f : RowRef → ℕ × RowRef) (at : RowRef) (pairs more : List (ℕ × RowRef)) (held : List RowRef)
    → IsPermutation more (f at ∷ pairs) → IsPermutation pairs (map f held) → IsPermutation more (map f (at ∷ held))
pair_inserted_beside f at pairs more held inserted was =
    IsPermutation-trans more (f at ∷ pairs) (f at ∷ map f held) inserted (IsPermutation-cons (f at) pairs (map f held) was)
