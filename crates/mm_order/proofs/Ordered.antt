-- Ordered lists of references: the effects of edits, the results of searches, and the entries of ranges.
use Rattle.std.proofs.Common.{◌≡◌, ◌≢◌, ℕ, ◌<◌, ◌≤◌, Bool, true, false, ◌&&◌, List, [], ◌∷◌, ◌++◌, length, get_or, take, drop, suc, ◌⊎◌, refl, sym, ap, ◌∙◌}
use Rattle.std.proofs.Common.{subst, ⊎_elim, arith, add-zero, length-take, length-drop}
use Rattle.std.proofs.lemmas.Bool.{cases_order}
use Rattle.std.proofs.lemmas.List.{take-append-drop, get_or-drop, get_or-take, append-nil}
use Rattle.std.proofs.lemmas.List.Elements.{All-append, All-cons, All-head, All-tail, filter-append}
use Rattle.std.proofs.Math.Seq.{drop-cons}
use Rattle.std.specs.List.{All, AllPairs, Contains, filter}
use Rattle.std.specs.List.Sorted.{IsNonDecreasingBy, IsPermutation}
use Rattle.std.proofs.lemmas.List.Sorted.{IsPermutation-middle}
use Rattle.std.specs.Ordering.{ordering_reverse, ordering_index, is_le, is_ge}
use Rattle.std.specs.declared.cmp.Ordering.{Ordering}
use Rattle.std.specs.declared.cmp.Ordering.TheVariants.{Less, Equal, Greater}
use Rattle.mm_value.specs.declared.row_ref.RowRef.{RowRef}
use Rattle.mm_order.specs.Order.{IsTotalOrderOn, IsOrdered}
use Rattle.mm_order.specs.Probe.{is_between, entries_between, IsMonotone}
use Rattle.mm_order.specs.Refs.{AddsInOrder}
use Rattle.mm_order.proofs.Filtered.{filter-all, filter-none}
use Rattle.mm_order.proofs.Pairs.{All-append_left, All-append_right, AllPairs-append, AllPairs-append_left, AllPairs-append_right, AllPairs-append_across}
use Rattle.mm_order.proofs.Pairs.{AllPairs-single}

-- ---- ranges

inside : (low high : Ordering) → low ≢ Less → high ≢ Greater → (is_ge low && is_le high) ≡ true
inside Less high l h = absurd (l refl)
inside Equal Less l h = refl
inside Equal Equal l h = refl
inside Equal Greater l h = absurd (h refl)
inside Greater Less l h = refl
inside Greater Equal l h = refl
inside Greater Greater l h = absurd (h refl)

too_low : (low high : Ordering) → low ≡ Less → (is_ge low && is_le high) ≡ false
too_low Less high e = refl
too_low Equal high e = (cc)
too_low Greater high e = (cc)

too_high : (low high : Ordering) → high ≡ Greater → (is_ge low && is_le high) ≡ false
too_high Less high e = refl
too_high Equal Less e = (cc)
too_high Equal Equal e = (cc)
too_high Equal Greater e = refl
too_high Greater Less e = (cc)
too_high Greater Equal e = (cc)
too_high Greater Greater e = refl

-- of three parts of a list, the first before the range and the last after it, the entries of the range are the middle part
pub entries_between-found_parts : (low high : RowRef → Ordering) (before middle after : List RowRef) → All (λ a. low a ≡ Less) before
    → All (λ a. low a ≢ Less) middle → All (λ a. high a ≢ Greater) middle → All (λ a. high a ≡ Greater) after
    → entries_between low high (before ++ (middle ++ after)) ≡ middle
entries_between-found_parts low high before middle after low_before low_middle high_middle high_after =
    let between : RowRef → Bool = is_between low high in
    let none_before : filter between before ≡ [] = filter-none between before (λ k d below. too_low _ _ (low_before k d below)) in
    let all_middle : filter between middle ≡ middle = filter-all between middle (λ k d below. inside _ _ (low_middle k d below) (high_middle k d below)) in
    let none_after : filter between after ≡ [] = filter-none between after (λ k d below. too_high _ _ (high_after k d below)) in
    filter-append between before (middle ++ after)
    ∙ ap (λ xs. xs ++ filter between (middle ++ after)) none_before
    ∙ filter-append between middle after
    ∙ ap (λ xs. xs ++ filter between after) all_middle
    ∙ ap (λ xs. middle ++ xs) none_after
    ∙ append-nil middle

-- the entries of a range are those from the first that is not before it up to the first that is after it
pub entries_between-found : (low high : RowRef → Ordering) (refs : List RowRef) (from count : ℕ) → All (λ a. low a ≡ Less) (take from refs)
    → All (λ a. low a ≢ Less) (drop from refs) → All (λ a. high a ≢ Greater) (take count (drop from refs))
    → All (λ a. high a ≡ Greater) (drop count (drop from refs)) → entries_between low high refs ≡ take count (drop from refs)
entries_between-found low high refs from count low_before low_rest high_middle high_after =
    let rest : List RowRef = drop from refs in
    let split_rest : take count rest ++ drop count rest ≡ rest = take-append-drop count rest in
    let split : take from refs ++ (take count rest ++ drop count rest) ≡ refs = ap (λ xs. take from refs ++ xs) split_rest ∙ take-append-drop from refs in
    let low_middle : All (λ a. low a ≢ Less) (take count rest) =
    All-append_left (λ a. low a ≢ Less) (take count rest) (drop count rest) (subst (All (λ a. low a ≢ Less)) (sym split_rest) low_rest) in
    sym (ap (entries_between low high) split) ∙ entries_between-found_parts low high (take from refs) (take count rest)
    (drop count rest) low_before low_middle high_middle high_after

-- along an ordered list the results of a monotone probe are ascending
pub IsNonDecreasingBy-places : (Covers : RowRef → Type 0) (cmp : RowRef → RowRef → Ordering) (refs : List RowRef) → IsOrdered Covers cmp refs
    → (Reaches : RowRef → Type 0) (place : RowRef → Ordering) → IsMonotone Covers cmp Reaches place → IsNonDecreasingBy (λ a. ordering_index (place a)) refs
IsNonDecreasingBy-places Covers cmp refs was Reaches place monotone i j d upto within =
    ⊎_elim
    (λ (same : i ≡ j). subst (λ k. ordering_index (place (get_or refs i d)) ≤ ordering_index (place (get_or refs k d))) same (omega arith))
    (λ (apart : (i < j) ⊎ (j < i)).
    let before : i < j = ⊎_elim (λ (h : i < j). h) (λ (h : j < i). omega arith) apart in
    monotone.rises (get_or refs i d) (get_or refs j d) (was.covered i d (omega arith)) (was.covered j d within) (was.ascending i j d before within))
    (cases_order i j)

-- ---- edits

module _ (cmp : RowRef → RowRef → Ordering) (refs : List RowRef) (added : RowRef) (more : List RowRef) (adds : AddsInOrder cmp refs added more) where
  -- a property of the new reference and of the old ones holds for all
  pub All-added : (P : RowRef → Type 0) → All P refs → P added → All P more
  All-added P all here =
      let parts : All P (adds.front ++ adds.back) = subst (All P) adds.refs_are all in
      subst (All P) (sym adds.more_are) (All-append P adds.front (added ∷ adds.back) (All-append_left P adds.front adds.back parts)
      (All-cons P added adds.back here (All-append_right P adds.front adds.back parts)))

  -- a property of all references holds without one
  pub All-removed : (P : RowRef → Type 0) → All P more → All P refs
  All-removed P all =
      let parts : All P (adds.front ++ added ∷ adds.back) = subst (All P) adds.more_are all in
      subst (All P) (sym adds.refs_are) (All-append P adds.front adds.back (All-append_left P adds.front (added ∷ adds.back) parts)
      (All-tail P added adds.back (All-append_right P adds.front (added ∷ adds.back) parts)))

  -- the new list has the new reference and the old ones
  pub IsPermutation-added : IsPermutation more (added ∷ refs)
  IsPermutation-added =
      subst (λ xs. IsPermutation xs (added ∷ refs)) (sym adds.more_are)
      (subst (λ xs. IsPermutation (adds.front ++ added ∷ adds.back) (added ∷ xs)) (sym adds.refs_are) (IsPermutation-middle adds.front added adds.back))

module _ (Covers : RowRef → Type 0) (cmp : RowRef → RowRef → Ordering) where
  Below : RowRef → RowRef → Type 0
  Below a b = cmp a b ≡ Less

  -- an ordered list with a covered reference inserted in order is ordered
  pub IsOrdered-added : (refs : List RowRef) (added : RowRef) (more : List RowRef) → IsOrdered Covers cmp refs → Covers added → AddsInOrder cmp refs added more
      → IsOrdered Covers cmp more
  unfolding Below
  IsOrdered-added refs added more was covered adds =
      let ascend : AllPairs Below (adds.front ++ adds.back) = subst (AllPairs Below) adds.refs_are was.ascending in
      let across : All (λ a. All (Below a) adds.back) adds.front = AllPairs-append_across Below adds.front adds.back ascend in
      let back_ascends : AllPairs Below (added ∷ adds.back) = AllPairs-append Below (added ∷ []) adds.back (AllPairs-single Below added)
      (AllPairs-append_right Below adds.front adds.back ascend)
      (All-cons (λ a. All (Below a) adds.back) added [] adds.below_back (λ k d below. absurd (omega arith))) in
      record {
        covered = All-added cmp refs added more adds Covers was.covered covered;
        ascending = subst (AllPairs Below) (sym adds.more_are)
            (AllPairs-append Below adds.front (added ∷ adds.back) (AllPairs-append_left Below adds.front adds.back ascend) back_ascends
            (λ k d below. All-cons (Below (get_or adds.front k d)) added adds.back (adds.above_front k d below) (across k d below)));
      }

  -- an ordered list without one of its references is ordered
  pub IsOrdered-removed : (refs : List RowRef) (gone : RowRef) (more : List RowRef) → IsOrdered Covers cmp more → AddsInOrder cmp refs gone more
      → IsOrdered Covers cmp refs
  unfolding Below
  IsOrdered-removed refs gone more was adds =
      let ascend : AllPairs Below (adds.front ++ gone ∷ adds.back) = subst (AllPairs Below) adds.more_are was.ascending in
      let across : All (λ a. All (Below a) (gone ∷ adds.back)) adds.front = AllPairs-append_across Below adds.front (gone ∷ adds.back) ascend in
      let back_ascends : AllPairs Below (gone ∷ adds.back) = AllPairs-append_right Below adds.front (gone ∷ adds.back) ascend in
      record {
        covered = All-removed cmp refs gone more adds Covers was.covered;
        ascending = subst (AllPairs Below) (sym adds.refs_are)
            (AllPairs-append Below adds.front adds.back (AllPairs-append_left Below adds.front (gone ∷ adds.back) ascend)
            (AllPairs-append_right Below (gone ∷ []) adds.back back_ascends)
            (λ k d below. All-tail (Below (get_or adds.front k d)) gone adds.back (across k d below)));
      }

  -- ---- a search that found the position of a reference

  reverse_self : (o : Ordering) → o ≡ ordering_reverse o → o ≢ Less
  reverse_self Less e = λ _. cc
  reverse_self Equal e = λ f. cc
  reverse_self Greater e = λ f. cc

  module _ (total : IsTotalOrderOn Covers cmp) (refs : List RowRef) (was : IsOrdered Covers cmp refs) (sought : RowRef) (covered : Covers sought) (at : ℕ)
      (before : All (λ a. cmp a sought ≡ Less) (take at refs)) (rest : All (λ a. cmp a sought ≢ Less) (drop at refs)) where
    not_before : (k : ℕ) → k < length refs → get_or refs k sought ≡ sought → k < at → ⊥
    not_before k within is early =
        let there : cmp (get_or (take at refs) k sought) sought ≡ Less = before k sought (omega (arith, length-take at refs)) in
        let itself : cmp sought sought ≡ Less = sym (ap (λ a. cmp a sought) (get_or-take at refs k sought early ∙ is)) ∙ there in
        reverse_self (cmp sought sought) (total.antisymm sought sought covered covered) itself

    not_after : (k : ℕ) → k < length refs → get_or refs k sought ≡ sought → at < k → ⊥
    not_after k within is late =
        let here : cmp (get_or refs at sought) sought ≡ Less = ap (cmp (get_or refs at sought)) (sym is) ∙ was.ascending at k sought late within in
        let at_first : get_or (drop at refs) 0 sought ≡ get_or refs at sought = get_or-drop at refs 0 sought ∙ ap (λ n. get_or refs n sought) (add-zero at) in
        rest 0 sought (omega (arith, length-drop at refs)) (ap (λ a. cmp a sought) at_first ∙ here)

    -- a reference of the list is at its position
    pub stands_at_place : Contains refs sought → (at < length refs) × (get_or refs at sought ≡ sought)
    stands_at_place (k, within, is) =
        ⊎_elim
        (λ (same : k ≡ at). (subst (λ n. n < length refs) same within, subst (λ n. get_or refs n sought ≡ sought) same is))
        (λ (apart : (k < at) ⊎ (at < k)). absurd (⊎_elim (not_before k within is) (not_after k within is) apart))
        (cases_order k at)

    -- removing the reference at its position
    pub AddsInOrder-found : at < length refs → get_or refs at sought ≡ sought → AddsInOrder cmp (take at refs ++ drop (suc at) refs) sought refs
    AddsInOrder-found within is =
        let split : refs ≡ take at refs ++ sought ∷ drop (suc at) refs = sym (take-append-drop at refs)
        ∙ ap (λ xs. take at refs ++ xs) (drop-cons refs at sought within ∙ ap (λ a. a ∷ drop (suc at) refs) is) in
        let parts_ascend : AllPairs (λ a b. cmp a b ≡ Less) (take at refs ++ sought ∷ drop (suc at) refs) =
        subst (AllPairs (λ a b. cmp a b ≡ Less)) split was.ascending in
        record {
          front = take at refs;
          back = drop (suc at) refs;
          refs_are = refl;
          more_are = split;
          above_front = before;
          below_back = All-head (λ a. All (λ b. cmp a b ≡ Less) (drop (suc at) refs)) sought []
              (AllPairs-append_across (λ a b. cmp a b ≡ Less) (sought ∷ []) (drop (suc at) refs)
              (AllPairs-append_right (λ a b. cmp a b ≡ Less) (take at refs) (sought ∷ drop (suc at) refs) parts_ascend));
        }
