-- Changes that are prepared one after another, from the last to the first.
use Rattle.std.proofs.Common.{◌≡◌, ℕ, ℤ, pos, ◌+ℤ◌, ◌≤ℤ◌, List, [], ◌∷◌, ◌++◌, length, drop, get_or, refl, sym, ap, ◌∙◌, subst, append_assoc, arith}
use Rattle.std.specs.List.{All}
use Rattle.std.proofs.lemmas.Int.{ints}
use Rattle.std.proofs.lemmas.List.{append-nil}
use Rattle.std.proofs.lemmas.List.Elements.{All-weaker}
use Rattle.std.proofs.Math.Seq.{drop-append_seam}
use Rattle.mm_value.specs.declared.col_type.ColType.{ColType}
use Rattle.mm_value.specs.declared.values.Value.{Value}
use Rattle.mm_multiset.specs.Counts.{Counts, count_in, total_of}
use Rattle.mm_standing.specs.Bags.{CanAdd, IsTyped, IsWithin, count_with, entries_at, list_change, row_change, sum_over, total_with, types_of}
use Rattle.mm_standing.specs.declared.change.RowChange.{RowChange}
use Rattle.mm_standing.proofs.Stages.{sum_push}
use Rattle.mm_schema.specs.Rows.{most_rows}

-- A change is typed if the types of the columns are unchanged.
pub still_typed : (old new : List Counts) → types_of new ≡ types_of old → (cs : List RowChange) → All (IsTyped old) cs → All (IsTyped new) cs
still_typed old new types cs typed =
    All-weaker (IsTyped old) (IsTyped new) (λ d h. h ∙ sym (ap (λ (ts : List (List ColType)). get_or ts d.list []) types)) cs typed

-- Some of all changes are left, and those after them have the same sums as those that are prepared.
pub record AreSplit (all left done : List RowChange) : Type 0 where
  pub later : List RowChange
  pub is : all ≡ left ++ later
  pub sums : (f : RowChange → ℤ) → sum_over f later ≡ sum_over f done

pub split_none : (all : List RowChange) → AreSplit all all []
split_none all = record { later = []; is = sym (append-nil all); sums = λ f. refl }

module _ (all rest done : List RowChange) (c : RowChange) (split : AreSplit all (rest ++ c ∷ []) done) where
  joined : all ≡ rest ++ (c ∷ split.later)
  joined = split.is ∙ append_assoc rest (c ∷ []) split.later

  sums : (f : RowChange → ℤ) → sum_over f (c ∷ split.later) ≡ sum_over f (done ++ c ∷ [])
  sums f = swapped (f c) (sum_over f split.later) (sum_over f done) (sum_over f (done ++ c ∷ [])) (split.sums f) (sum_push f done c)
    where
      swapped : (a b d e : ℤ) → b ≡ d → e ≡ d +ℤ a → a +ℤ b ≡ e
      swapped a b d e p q = omega (arith, ints)

  -- One more change is prepared.
  pub split_more : AreSplit all rest (done ++ c ∷ [])
  split_more = record { later = c ∷ split.later; is = joined; sums = sums }

  -- The change can be prepared.
  pub split_within : (old new : List Counts) → CanAdd old all
      → ((list : ℕ) (row : List Value) → count_in row (entries_at new list) ≡ count_in row (entries_at old list))
      → ((list : ℕ) → total_of (entries_at new list) ≡ total_of (entries_at old list)) → IsWithin new (done ++ c ∷ [])
  split_within old new can counts totals = record {
    counts = λ list row.
        subst (λ z. pos 0 ≤ℤ z) (λ i. pos (sym (counts list row) i) +ℤ sums (row_change list row) i) (stage.counts list row);
    totals = λ list.
        subst (λ z. z ≤ℤ pos most_rows) (λ i. pos (sym (totals list) i) +ℤ sums (list_change list) i) (stage.totals list);
  }
    where
      stage : IsWithin old (c ∷ split.later)
      stage = subst (IsWithin old) (ap (drop (length rest)) joined ∙ drop-append_seam rest (c ∷ split.later)) (can (length rest))

-- In the end all changes are prepared.
pub split_all : (all done : List RowChange) (old new : List Counts) → AreSplit all [] done
    → ((list : ℕ) (row : List Value) → count_in row (entries_at new list) ≡ count_in row (entries_at old list))
    → (list : ℕ) (row : List Value) → count_with new done list row ≡ count_with old all list row
split_all all done old new split counts list row = λ i.
    pos (counts list row i) +ℤ (sym (split.sums (row_change list row)) ∙ ap (sum_over (row_change list row)) (sym split.is)) i
