-- Edits that only delete rows.
use Rattle.std.proofs.Common.{◌≡◌, ℕ, ◌≤◌, ⊎_elim, false, List, [], ◌∷◌, None, length, map, refl, sym, ap, ap₂, ◌∙◌, subst, arith}
use Rattle.std.specs.List.{All, Contains, cons_option}
use Rattle.std.proofs.lemmas.List.{length-append, length-map}
use Rattle.std.proofs.lemmas.List.Elements.{All-head, All-tail}
use Rattle.std.proofs.lemmas.List.Sorted.{length_permutation}
use Rattle.std.proofs.lemmas.List.Sums.{count_by-le-length, length-filter}
use Rattle.mm_value.specs.declared.row_ref.RowRef.{RowRef}
use Rattle.mm_schema.specs.Rows.{column_cmp, has_duplicate_keys}
use Rattle.mm_partition.specs.Places.{row_in}
use Rattle.mm_row_order.specs.Refs.{Slots, HasRow, row_at}
use Rattle.mm_indexed.specs.Twins.{AreApart}
use Rattle.mm_tables.specs.Commands.{after, IsCommand}
use Rattle.mm_tables.specs.Edits.{came_by}
use Rattle.mm_tables.specs.declared.edit.Edit.{Edit}
use Rattle.mm_base.specs.EditPairs.{edit_pairs, rows_with}
use Rattle.mm_base.specs.RowLists.{live_references, rows_in, AreSmall}
use Rattle.mm_base.proofs.AfterEdits.{Stayed, came, come_or_stayed, kept, stays_in, stays_there}
use Rattle.mm_base.proofs.Changed.{are, changed_left, left, none_if_apart-after, sorted}
use Rattle.mm_base.proofs.References.{none_in}

none_come : (edits : List Edit) → All (λ e. came_by e ≡ None) edits → came edits ≡ []
none_come [] only = refl
none_come (e ∷ es) only =
    ap (λ o. cons_option o (came es)) (All-head (λ x. came_by x ≡ None) e es only) ∙ none_come es (All-tail (λ x. came_by x ≡ None) e es only)

module _ (key : ℕ) (now : Slots) (apart : AreApart key now) (small : AreSmall now) (edits : List Edit) (command : IsCommand key edits now)
    (only : All (λ e. came_by e ≡ None) edits) where
  -- each row in use afterwards was in use before
  still : (at : RowRef) → HasRow (after edits now) at → after edits now at ≡ now at
  still at live =
      ⊎_elim
      (λ (comes : Contains (came edits) at). absurd (none_in at (subst (λ (refs : List RowRef). Contains refs at) (none_come edits only) comes)))
      (λ (stayed : Stayed key now edits command at). stays_there key now edits command at stayed.0 stayed.1)
      (come_or_stayed key now edits command at live)

  had : (at : RowRef) → HasRow (after edits now) at → HasRow now at
  had at live = (live.0, sym (still at live) ∙ live.1)

  apart_still : AreApart key (after edits now)
  apart_still at live twin =
      apart at (had at live) (
        twin.0,
        had twin.0 twin.1,
        twin.2,
        sym (ap₂ (λ c d. column_cmp key (row_in c) (row_in d)) (still twin.0 twin.1) (still at live)) ∙ twin.3,
      )

  -- So deletions leave no two rows with one key ..
  pub none_if_deleted : has_duplicate_keys key (rows_with key now edits) ≡ false
  none_if_deleted = none_if_apart-after key now apart small edits command apart_still

  -- .. and no more rows than before.
  pub fewer_if_deleted : length (rows_with key now edits) ≤ length (rows_in key now)
  fewer_if_deleted =
      let refs : List RowRef = live_references now in
      let stay : List RowRef = kept key now edits command apart refs (are key now apart small) in
      let all : List RowRef = left key now apart small edits command in
      omega (
        arith,
        length_permutation (rows_with key now edits) (map (row_at (after edits now)) all) (changed_left key now apart small edits command),
        length-map all (row_at (after edits now)),
        length-append stay (came edits),
        ap (λ (xs : List RowRef). length xs) (none_come edits only),
        length-filter (λ (at : RowRef). stays_in key (edit_pairs now edits) (row_at now at)) refs,
        count_by-le-length (λ (at : RowRef). stays_in key (edit_pairs now edits) (row_at now at)) refs,
        length_permutation (map (row_at now) refs) (rows_in key now) (sorted key now apart small),
        length-map refs (row_at now),
      )
