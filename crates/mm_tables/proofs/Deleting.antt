-- All rows of a table are deleted at once.
use Rattle.std.proofs.Common.{◌≡◌, ◌≢◌, true, ℕ, ◌+◌, ◌<◌, ◌≤◌, ⊎_elim, inr, List, [], ◌∷◌, length, get_or, refl, sym, ap, ◌∙◌}
use Rattle.std.proofs.Common.{arith}
use Rattle.std.specs.Prelude.{◌↔◌, IsPermutation, remove}
use Rattle.std.specs.List.{All, AllPairs, Contains, list_all, sum_by}
use Rattle.std.proofs.lemmas.Bool.{cases_lt, false≢true}
use Rattle.std.proofs.lemmas.List.{get_or_default}
use Rattle.std.proofs.lemmas.List.Edits.{length-remove, get_or-remove_below, get_or-remove_above}
use Rattle.std.proofs.lemmas.List.Quantifiers.{all_pairs_remove}
use Rattle.std.proofs.lemmas.List.Sorted.{IsPermutation-remove}
use Rattle.std.proofs.lemmas.List.Sums.{sum_by-cons}
use Rattle.mm_value.specs.declared.row_ref.RowRef.{RowRef}
use Rattle.mm_partition.specs.Places.{Live, Hidden, row_in}
use Rattle.mm_row_order.specs.Refs.{Slots, HasRow}
use Rattle.mm_indexed.specs.Hiding.{out_of_use}
use Rattle.mm_indexed.proofs.Hiding.{stays_out}
use Rattle.mm_indexed.proofs.Steps.{in_more, from_more}
use Rattle.mm_tables.specs.Edits.{step}
use Rattle.mm_tables.specs.Commands.{after, FitsForth, is_delete}
use Rattle.mm_tables.specs.declared.edit.Edit.{Edit}
use Rattle.mm_tables.specs.declared.edit.Edit.TheVariants.{Stage, Insert, Update, Move, Delete}
use Rattle.mm_tables.proofs.Slots.{same_or_apart, holds_at, put_here, put_other}

-- a list of different references without one of them
apart_without : (refs : List RowRef) (i : ℕ) (at : RowRef) → i < length refs → get_or refs i at ≡ at → AllPairs (λ a b. a ≢ b) refs
    → All (λ a. a ≢ at) (remove refs i)
apart_without refs i at inside is apart k d within =
    let size : length (remove refs i) + 1 ≡ length refs = length-remove refs i inside in
    ⊎_elim
    (λ (below : k < i) (same : get_or (remove refs i) k d ≡ at).
    apart k i d below inside (sym (get_or-remove_below refs i d k below inside) ∙ (same ∙ (sym is ∙ get_or_default refs i at d inside))))
    (λ (above : i ≤ k) (same : get_or (remove refs i) k d ≡ at).
    apart i (k + 1) d (omega (arith, above)) (omega (arith, size, within))
    (get_or_default refs i d at inside ∙ (is ∙ (sym same ∙ get_or-remove_above refs i d k above inside))))
    (cases_lt k i)

-- a row that is deleted is out of use
step_out : (s r : RowRef) (now : Slots) → HasRow now s → out_of_use (step (Delete s) now r) ≡ out_of_use (now r)
step_out s r now live =
    ⊎_elim
    (λ (same : s ≡ r).
    ap out_of_use (put_here s r (Hidden (row_in (now s))) now same)
    ∙ (ap (λ c. Hidden (row_in c)) live.1 ∙ sym (ap out_of_use (ap now (sym same) ∙ live.1))))
    (λ (apart : s ≢ r). ap out_of_use (put_other s r (Hidden (row_in (now s))) now apart))
    (same_or_apart s r)

-- the references of rows in use, once one of the rows is deleted
held_next : (s : RowRef) (now : Slots) (refs : List RowRef) (i : ℕ) → i < length refs → get_or refs i s ≡ s → AllPairs (λ a b. a ≢ b) refs
    → ((r : RowRef) → Contains refs r ↔ HasRow now r) → (r : RowRef) → Contains (remove refs i) r ↔ HasRow (step (Delete s) now) r
held_next s now refs i inside is apart held r =
    let rest : List RowRef = remove refs i in
    let moved : IsPermutation refs (s ∷ rest) = IsPermutation-remove refs i s inside (sym is) in
    let stays : s ≢ r → step (Delete s) now r ≡ now r = put_other s r (Hidden (row_in (now s))) now in (
      λ here.
          let away : s ≢ r = λ same. holds_at (λ a. a ≢ s) rest r (apart_without refs i s inside is apart) here (sym same) in
          let live : HasRow now r = (held r).0 (in_more rest refs s r moved (inr here)) in
          (live.0, stays away ∙ live.1),
      λ live.
          let away : s ≢ r = λ same.
          let both : Hidden (row_in (now s)) ≡ Live live.0 = sym (put_here s r (Hidden (row_in (now s))) now same) ∙ live.1 in cc in
          ⊎_elim
          (λ (same : r ≡ s). absurd (away (sym same)))
          (λ (here : Contains rest r). here)
          (from_more rest refs s r moved ((held r).1 (live.0, sym (stays away) ∙ live.1))),
    )

-- As many deletions as there are rows in use, one after the other, leave none in use.
pub after_deletions : (key : ℕ) (es : List Edit) (now : Slots) (refs : List RowRef) → list_all is_delete es ≡ true → FitsForth key es now
    → length es ≡ length refs → AllPairs (λ a b. a ≢ b) refs → ((r : RowRef) → Contains refs r ↔ HasRow now r)
    → (r : RowRef) → after es now r ≡ out_of_use (now r)
after_deletions key [] now refs only fits as_many apart held r =
    stays_out (now r) (λ row is. let here : Contains refs r = (held r).1 (row, is) in omega (arith, here.1, as_many))
after_deletions key (Stage s ∷ es) now refs only fits as_many apart held r = absurd (false≢true only)
after_deletions key (Insert s ∷ es) now refs only fits as_many apart held r = absurd (false≢true only)
after_deletions key (Update a b ∷ es) now refs only fits as_many apart held r = absurd (false≢true only)
after_deletions key (Move a b ∷ es) now refs only fits as_many apart held r = absurd (false≢true only)
after_deletions key (Delete s ∷ es) now refs only (live, fits) as_many apart held r =
    let here : Contains refs s = (held s).1 live in
    after_deletions key es (step (Delete s) now) (remove refs here.0) only fits
    (omega (arith, as_many, length-remove refs here.0 here.1)) (all_pairs_remove (λ a b. a ≢ b) refs here.0 here.1 apart)
    (held_next s now refs here.0 here.1 here.2 apart held) r
    ∙ step_out s r now live

-- ---- the capacity that a table owes

pub count_deletions : (count : Edit → ℕ) → ((s : RowRef) → count (Delete s) ≡ 1) → (es : List Edit) → list_all is_delete es ≡ true
    → sum_by count es ≡ length es
count_deletions count one [] only = refl
count_deletions count one (Stage s ∷ es) only = absurd (false≢true only)
count_deletions count one (Insert s ∷ es) only = absurd (false≢true only)
count_deletions count one (Update a b ∷ es) only = absurd (false≢true only)
count_deletions count one (Move a b ∷ es) only = absurd (false≢true only)
count_deletions count one (Delete s ∷ es) only =
    omega (arith, sum_by-cons count (Delete s) es, one s, count_deletions count one es only)
