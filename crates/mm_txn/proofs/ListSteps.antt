-- The lists of standing queries through changes of rows, commits and rollbacks.
use Rattle.std.proofs.Common.{◌≡◌, ℕ, ◌≤◌, pos, ◌+ℤ◌, List, [], Some, drop, length, slice_get, sym, ap, subst}
use Rattle.std.proofs.Common.{◌∙◌, add-zero, arith}
use Rattle.mm_multiset.specs.Counts.{Counts, count_in}
use Rattle.mm_schema.specs.Instance.{Instance}
use Rattle.mm_schema.specs.Schema.{Schema}
use Rattle.mm_standing.specs.Bags.{Made, count_with, entries_at, row_change, sum_over}
use Rattle.mm_standing.specs.Queries.{RowsByPlace, StandingQuery}
use Rattle.mm_standing.specs.State.{FitPrepared, Lists, count_at, count_now}
use Rattle.mm_value.specs.declared.values.Value.{Value}
use Rattle.mm_txn.specs.Saved.{AreSaved}
use Rattle.mm_txn.specs.Listed.{AreListed, ArePlaced, rows_by_place}

-- The bags have the same counts.
abbrev pub SameCounts : List Counts → List Counts → Type 0
SameCounts old new = (list : ℕ) (row : List Value) → count_in row (entries_at new list) ≡ count_in row (entries_at old list)

-- Without changes to add, a count is unchanged.
pub count_plain : (bags : List Counts) (list : ℕ) (row : List Value) → count_with bags [] list row ≡ pos (count_in row (entries_at bags list))
count_plain bags list row = ap (λ n. pos n) (add-zero (count_in row (entries_at bags list)))

-- Bags with the same counts have the same current counts.
pub same_counts : (old new : Lists) → SameCounts old.bags new.bags → (list : ℕ) (row : List Value)
    → count_now new list row ≡ count_now old list row
same_counts old new same list row = ap (λ n. pos n) (same list row)

-- They have the same counts at each mark, if they have the same log.
pub same_at : (mark : ℕ) (old new : Lists) → SameCounts old.bags new.bags → new.log ≡ old.log → (list : ℕ) (row : List Value)
    → count_at mark list row new ≡ count_at mark list row old
same_at mark old new same log list row =
    λ i. pos (same list row i) +ℤ sum_over (row_change list row) (drop mark (log i))

-- ---- lists that keep their counts

module _ (rows : Instance) (old new : Lists) (queries : new.queries ≡ old.queries) where
  -- Lists that keep their counts keep their rows.
  pub listed_still : AreListed rows old → ((list : ℕ) (row : List Value) → count_now new list row ≡ count_now old list row) → new.prepared ≡ []
      → AreListed rows new
  listed_still listed counts ready = record {
    fits = λ list standing there row. counts list row
        ∙ listed.fits list standing (subst (λ qs. slice_get qs list ≡ Some standing) queries there) row;
    ready = ready;
  }

  -- Lists that keep their counts at a mark keep the saved rows.
  saved_still : (mark : ℕ) → AreSaved mark rows old → ((list : ℕ) (row : List Value) → count_at mark list row new ≡ count_at mark list row old)
      → AreSaved mark rows new
  saved_still mark saved counts = record {
    fits = λ list standing there row. counts list row
        ∙ saved.fits list standing (subst (λ qs. slice_get qs list ≡ Some standing) queries there) row;
  }

  -- Lists whose counts are those at a mark, with nothing to undo after it, have the saved rows.
  pub listed_back : (mark : ℕ) → AreSaved mark rows old → ((list : ℕ) (row : List Value) → count_at mark list row new ≡ count_at mark list row old)
      → drop mark new.log ≡ [] → new.prepared ≡ [] → AreListed rows new
  listed_back mark saved counts log ready = record {
    fits = λ list standing there row.
        sym (count_plain new.bags list row)
        ∙ ap (λ cs. count_with new.bags cs list row) (sym log)
        ∙ counts list row
        ∙ saved.fits list standing (subst (λ qs. slice_get qs list ≡ Some standing) queries there) row;
    ready = ready;
  }

-- Lists keep the saved rows if these are written in another way.
pub saved_through : (mark : ℕ) (rows later : Instance) (old new : Lists) → new.queries ≡ old.queries → later ≡ rows → AreSaved mark rows old
    → ((list : ℕ) (row : List Value) → count_at mark list row new ≡ count_at mark list row old) → AreSaved mark later new
saved_through mark rows later old new queries same saved counts =
    subst (λ (r : Instance). AreSaved mark r new) (sym same) (saved_still rows old new queries mark saved counts)

-- With nothing to undo, the current rows are the saved ones.
pub saved_now : (mark : ℕ) (rows : Instance) (lists : Lists) → drop mark lists.log ≡ [] → AreListed rows lists → AreSaved mark rows lists
saved_now mark rows lists log listed = record {
  fits = λ list standing there row.
      ap (λ cs. count_with lists.bags cs list row) log ∙ count_plain lists.bags list row ∙ listed.fits list standing there row;
}

-- Each standing query keeps its list, if neither changes.
pub placed_still : (schema : Schema) (old new : List StandingQuery) → new ≡ old → ArePlaced schema old → ArePlaced schema new
placed_still schema old new same placed = subst (ArePlaced schema) (sym same) placed

-- ---- an applied change

module _ (old mid new : Lists) (counts : SameCounts old.bags mid.bags) (made : Made mid.bags mid.prepared mid.log new.bags [] new.log) where
  -- Lists that were prepared for the rows after a change have these rows once the change is applied.
  pub listed_made : (rows : Instance) (after : RowsByPlace) → after ≡ rows_by_place rows → FitPrepared after mid → new.queries ≡ mid.queries
      → new.prepared ≡ [] → AreListed rows new
  listed_made rows after is fits queries ready = record {
    fits = λ list standing there row.
        sym (count_plain new.bags list row)
        ∙ made.counts list row
        ∙ subst (λ (r : RowsByPlace). FitPrepared r mid) is fits list standing (subst (λ qs. slice_get qs list ≡ Some standing) queries there) row;
    ready = ready;
  }

  -- At each mark each list is unchanged, ..
  pub undone_made : mid.log ≡ old.log → (mark : ℕ) → mark ≤ length old.log → (list : ℕ) (row : List Value)
      → count_at mark list row new ≡ count_at mark list row old
  undone_made log mark within list row =
      made.undone mark (omega (arith, within, ap length log)) list row ∙ same_at mark old mid counts log list row

  -- .. and the log is at least as long.
  pub longer_made : mid.log ≡ old.log → length old.log ≤ length new.log
  longer_made log = omega (arith, made.older, ap length log)
