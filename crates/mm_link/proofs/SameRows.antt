-- Ties if both tables keep their rows in use.
use Rattle.std.proofs.Common.{◌≡◌, ℕ, List, Option, None, refl, sym, ap, ◌∙◌, subst}
use Rattle.std.specs.Prelude.{slice_get}
use Rattle.mm_foreign_key.specs.Ties.{KeepsTargets, Ties, target_at}
use Rattle.mm_partition.specs.Places.{Content, Free, Live, Hidden, row_in}
use Rattle.mm_row_order.specs.Refs.{HasRow, Slots}
use Rattle.mm_value.specs.declared.row_ref.RowRef.{RowRef}
use Rattle.mm_value.specs.declared.values.Value.{Value}
use Rattle.mm_link.specs.Links.{Follows, IsTied, RefersTo, SameRows}

module _ (column key : ℕ) where
  refers_still : (then later : Slots) → SameRows then later → (row : List Value) (t : RowRef) → RefersTo column key then row t
      → RefersTo column key later row t
  refers_still then later same row t refers =
      let live : later t ≡ Live refers.live.0 = (same t refers.live.0).0 refers.live.1 in
      record {
        live = (refers.live.0, live);
        same = refers.same ∙ (ap (λ (c : Content). slice_get (row_in c) key) refers.live.1 ∙ ap (λ (c : Content). slice_get (row_in c) key) (sym live));
      }

  tied_still : (was now : Content) (then later : Slots) (target : Option RowRef)
      → ((row : List Value) → (was ≡ Live row → now ≡ Live row) × (now ≡ Live row → was ≡ Live row)) → SameRows then later
      → IsTied column key then was target → IsTied column key later now target
  tied_still (Live row) now then later target own same tied =
      subst (λ (c : Content). IsTied column key later c target) (sym ((own row).0 refl))
      (tied.0, tied.1, refers_still then later same row tied.0 tied.2)
  tied_still Free Free then later target own same tied = tied
  tied_still Free (Hidden x) then later target own same tied = tied
  tied_still Free (Live x) then later target own same tied = let both : Free ≡ Live x = (own x).1 refl in let no : ⊥ = cc in absurd no
  tied_still (Hidden y) Free then later target own same tied = tied
  tied_still (Hidden y) (Hidden x) then later target own same tied = tied
  tied_still (Hidden y) (Live x) then later target own same tied = let both : Hidden y ≡ Live x = (own x).1 refl in let no : ⊥ = cc in absurd no

  -- changes that neither hide, free nor bring a row in use keep the ties: staging or releasing a row, and the end of a transaction
  pub Follows-same_rows : (was now then later : Slots) (ties : Ties) → SameRows was now → SameRows then later → Follows column key was then ties
      → Follows column key now later ties
  Follows-same_rows was now then later ties own same follows at = tied_still (was at) (now at) then later (target_at ties at) (own at) same (follows at)

  -- added entries and counts keep them too
  pub Follows-grown : (now then : Slots) (old new : Ties) → KeepsTargets old new → Follows column key now then old → Follows column key now then new
  Follows-grown now then old new kept follows at = subst (IsTied column key then (now at)) (sym (kept at)) (follows at)

  -- without a row in use there is nothing to tie
  pub Follows-empty : (now then : Slots) (ties : Ties) → ((at : RowRef) → HasRow now at → ⊥) → ((at : RowRef) → target_at ties at ≡ None)
      → Follows column key now then ties
  Follows-empty now then ties empty untied at = none_here (now at) refl
    where
      none_here : (content : Content) → now at ≡ content → IsTied column key then (now at) (target_at ties at)
      none_here Free is = subst (λ (c : Content). IsTied column key then c (target_at ties at)) (sym is) (untied at)
      none_here (Hidden row) is = subst (λ (c : Content). IsTied column key then c (target_at ties at)) (sym is) (untied at)
      none_here (Live row) is = absurd (empty at (row, is))
