-- The counts of the rows of lists through the steps of a case.
use Rattle.std.proofs.Common.{◌≡◌, ◌⊎◌, ℕ, ℤ, zero, suc, pos, ◌<◌, ◌≤◌, ◌+ℤ◌, Result, Ok, Err, OnOk, List, [], ◌∷◌, ◌++◌, Some, None, cond, Bool, true, false}
use Rattle.std.proofs.Common.{inl, inr, drop, length, map, nat_lt, slice_get, slice_index_or, take, refl, sym, ap, subst, ◌∙◌, ⊎_elim, add-zero, arith}
use Rattle.std.specs.List.{All, AllByRecursion, list_any, remove}
use Rattle.std.proofs.lemmas.Bool.{ltb-false, or_parts}
use Rattle.std.proofs.lemmas.Bool.Decides.{nat_tests}
use Rattle.std.proofs.lemmas.List.Elements.{All-cons, All-from_recursion, All-nil, All-weaker, recursion_from_All}
use Rattle.mm_multiset.specs.Counts.{Counts, Entries, count_in, count_of}
use Rattle.mm_schema.specs.Refused.{AnswersDue, first_refusal}
use Rattle.mm_standing.specs.Bags.{Made, count_with, entries_at, row_change, sum_over}
use Rattle.mm_standing.specs.Queries.{AreCounts, IsBagOf, IsServed, RowsByPlace, StandingQuery, bag_over, change_conditions, is_too_large, list_conditions}
use Rattle.mm_standing.specs.State.{AreServed, FitNow, FitPrepared, Lists, count_at, count_now}
use Rattle.mm_standing.specs.declared.change.RowChange.{RowChange}
use Rattle.mm_store.specs.Tables.{Tables}
use Rattle.mm_value.specs.declared.refusal.Refusal.{Refusal}
use Rattle.mm_value.specs.declared.refusal.Refusal.TheVariants.{StandingListTooLarge}
use Rattle.mm_value.specs.declared.values.Value.{Value}

-- The bags have the same counts.
abbrev pub SameCounts : List Counts → List Counts → Type 0
SameCounts old new = (list : ℕ) (row : List Value) → count_in row (entries_at new list) ≡ count_in row (entries_at old list)

-- ---- counts

-- Without changes to add, a count is unchanged.
pub count_plain : (bags : List Counts) (list : ℕ) (row : List Value) → count_with bags [] list row ≡ pos (count_in row (entries_at bags list))
count_plain bags list row = ap (λ n. pos n) (add-zero (count_in row (entries_at bags list)))

-- Bags with the same counts have the same current counts, ..
pub same_now : (old new : Lists) → SameCounts old.bags new.bags → (list : ℕ) (row : List Value)
    → count_now new list row ≡ count_now old list row
same_now old new same list row = ap (λ n. pos n) (same list row)

-- .. and the same at each mark, if they have the same log.
pub same_at : (old new : Lists) → SameCounts old.bags new.bags → new.log ≡ old.log → (mark list : ℕ) (row : List Value)
    → count_at mark list row new ≡ count_at mark list row old
same_at old new same log mark list row =
    λ i. pos (same list row i) +ℤ sum_over (row_change list row) (drop mark (log i))

-- If a mark is at the end of the log, a count at it is the current one.
pub count_last : (lists : Lists) (mark : ℕ) → drop mark lists.log ≡ [] → (list : ℕ) (row : List Value)
    → count_at mark list row lists ≡ count_now lists list row
count_last lists mark none list row = ap (λ cs. count_with lists.bags cs list row) none ∙ count_plain lists.bags list row

pub drop_all : {X : Type 0} (xs : List X) (n : ℕ) → length xs ≤ n → drop n xs ≡ []
drop_all [] zero past = refl
drop_all [] (suc n) past = refl
drop_all (x ∷ xs) zero past = absurd (omega arith)
drop_all (x ∷ xs) (suc n) past = drop_all xs n (omega arith)

pub length_taken : {X : Type 0} (xs : List X) (n : ℕ) → n ≤ length xs → length (take n xs) ≡ n
length_taken [] zero within = refl
length_taken [] (suc n) within = absurd (omega arith)
length_taken (x ∷ xs) zero within = refl
length_taken (x ∷ xs) (suc n) within = ap (λ m. suc m) (length_taken xs n (omega arith))

-- Unchanged counts are those of the same queries over the same rows.
pub counts_still : (f g : ℕ → List Value → ℤ) (rows : RowsByPlace) (old new : List StandingQuery) → new ≡ old
    → ((list : ℕ) (row : List Value) → g list row ≡ f list row) → AreCounts f rows old → AreCounts g rows new
counts_still f g rows old new same equal are =
    λ list standing there row. equal list row ∙ are list standing (subst (λ (qs : List StandingQuery). slice_get qs list ≡ Some standing) same there) row

-- ---- applied changes

module _ (old mid new : Lists) (made : Made mid.bags mid.prepared mid.log new.bags [] new.log) where
  -- At each mark each list is unchanged.
  pub undone_made : SameCounts old.bags mid.bags → mid.log ≡ old.log → (mark : ℕ) → mark ≤ length old.log → (list : ℕ) (row : List Value)
      → count_at mark list row new ≡ count_at mark list row old
  undone_made entries log mark within list row =
      made.undone mark (subst (λ (cs : List RowChange). mark ≤ length cs) (sym log) within) list row ∙ same_at old mid entries log mark list row

  pub older_made : mid.log ≡ old.log → length old.log ≤ length new.log
  older_made log = subst (λ (cs : List RowChange). length cs ≤ length new.log) log made.older

  -- What was prepared for some rows is the list of them once it is applied.
  pub fit_made : (rows : RowsByPlace) → FitPrepared rows mid → new.queries ≡ mid.queries → FitNow rows new
  fit_made rows fits queries =
      counts_still _ (count_now new) rows mid.queries new.queries queries (λ list row. sym (count_plain new.bags list row) ∙ made.counts list row) fits

  -- If nothing was prepared, nothing changes.
  pub none_made : SameCounts old.bags mid.bags → mid.prepared ≡ [] → (list : ℕ) (row : List Value) → count_now new list row
      ≡ count_now old list row
  none_made entries none list row =
      sym (count_plain new.bags list row) ∙ made.counts list row
      ∙ ap (λ ps. count_with mid.bags ps list row) none
      ∙ count_plain mid.bags list row ∙ same_now old mid entries list row

-- ---- the same number of tables

pub served_still : (store new : Tables) (old later : List StandingQuery) → length new.tables ≡ length store.tables → later ≡ old
    → AreServed store old → AreServed new later
served_still store new old later many same served =
    subst (AreServed new) (sym same)
    (All-weaker (IsServed store) (IsServed new)
    (λ (s : StandingQuery) p. record { there = subst (λ (n : ℕ). All (λ table. table < n) s.tables) (sym many) p.there; few = p.few }) old served)

-- ---- one more list

at_or_last : {X : Type 0} (xs : List X) (x y : X) (k : ℕ) → slice_get (xs ++ x ∷ []) k ≡ Some y
    → ((k < length xs) × (slice_get xs k ≡ Some y)) ⊎ ((k ≡ length xs) × (x ≡ y))
at_or_last [] x y zero at = inr (refl, cc)
at_or_last [] x y (suc k) at = cc
at_or_last (z ∷ zs) x y zero at = inl (omega arith, at)
at_or_last (z ∷ zs) x y (suc k) at =
    ⊎_elim (λ h. let below = h.0 in inl (omega arith, h.1)) (λ h. inr (ap (λ n. suc n) h.0, h.1)) (at_or_last zs x y k at)

entries_before : (bags : List Counts) (bag : Counts) (k : ℕ) → k < length bags → entries_at (bags ++ bag ∷ []) k ≡ entries_at bags k
entries_before [] bag k below = absurd (omega arith)
entries_before (b ∷ bs) bag zero below = refl
entries_before (b ∷ bs) bag (suc k) below = entries_before bs bag k (omega arith)

entries_last : (bags : List Counts) (bag : Counts) → entries_at (bags ++ bag ∷ []) (length bags) ≡ bag.entries
entries_last [] bag = refl
entries_last (b ∷ bs) bag = entries_last bs bag

-- One more list that fits, after lists that do.
pub fit_behind : (rows : RowsByPlace) (queries : List StandingQuery) (bags : List Counts) (new : StandingQuery) (bag : Counts)
    → length queries ≡ length bags → AreCounts (λ list row. pos (count_in row (entries_at bags list))) rows queries
    → IsBagOf bag.entries (bag_over rows new)
    → AreCounts (λ list row. pos (count_in row (entries_at (bags ++ bag ∷ []) list))) rows (queries ++ new ∷ [])
fit_behind rows queries bags new bag many fits is list s at row =
    ⊎_elim
    (λ h. let below = h.0 in
    ap (λ (e : Entries). pos (count_in row e)) (entries_before bags bag list (omega arith)) ∙ fits list s h.1 row)
    (λ h.
    ap (λ k. pos (count_in row (entries_at (bags ++ bag ∷ []) k))) (h.0 ∙ many)
    ∙ ap (λ (e : Entries). pos (count_in row e)) (entries_last bags bag) ∙ ap (λ n. pos n) (is row)
    ∙ ap (λ t. pos (count_of row (bag_over rows t))) h.1)
    (at_or_last queries new s list at)

-- ---- one list less

-- A place in a list after the element at another place was removed, as a place in the old list.
skip : ℕ → ℕ → ℕ
skip zero k = suc k
skip (suc p) zero = zero
skip (suc p) (suc k) = suc (skip p k)

get_removed : {X : Type 0} (xs : List X) (p k : ℕ) → slice_get (remove xs p) k ≡ slice_get xs (skip p k)
unfolding skip
get_removed [] zero k = refl
get_removed [] (suc p) k = refl
get_removed (x ∷ xs) zero k = refl
get_removed (x ∷ xs) (suc p) zero = refl
get_removed (x ∷ xs) (suc p) (suc k) = get_removed xs p k

entries_removed : (bags : List Counts) (p k : ℕ) → entries_at (remove bags p) k ≡ entries_at bags (skip p k)
unfolding skip
entries_removed [] zero k = refl
entries_removed [] (suc p) k = refl
entries_removed (b ∷ bs) zero k = refl
entries_removed (b ∷ bs) (suc p) zero = refl
entries_removed (b ∷ bs) (suc p) (suc k) = entries_removed bs p k

each_removed : {X : Type 0} (P : X → Type 0) (xs : List X) (p : ℕ) → AllByRecursion P xs → AllByRecursion P (remove xs p)
each_removed P [] zero all = tt
each_removed P [] (suc p) all = tt
each_removed P (x ∷ xs) zero all = all.1
each_removed P (x ∷ xs) (suc p) all = (all.0, each_removed P xs p all.1)

pub all_removed : {X : Type 0} (P : X → Type 0) (xs : List X) (p : ℕ) → All P xs → All P (remove xs p)
all_removed P xs p all = All-from_recursion P (remove xs p) (each_removed P xs p (recursion_from_All P xs all))

-- The other lists still fit.
pub fit_left : (rows : RowsByPlace) (queries : List StandingQuery) (bags : List Counts) (place : ℕ)
    → AreCounts (λ list row. pos (count_in row (entries_at bags list))) rows queries
    → AreCounts (λ list row. pos (count_in row (entries_at (remove bags place) list))) rows (remove queries place)
fit_left rows queries bags place fits = λ list s at row.
    ap (λ (e : Entries). pos (count_in row e)) (entries_removed bags place list)
    ∙ fits (skip place list) s (sym (get_removed queries place list) ∙ at) row
