-- The values of the rows of the next entry.
use Rattle.std.proofs.Common.{◌≡◌, ℕ, ◌+◌, Bool, List, [], ◌∷◌, ◌++◌, replicate, take, sym, ap, ◌∙◌, append_assoc}
use Rattle.std.specs.Prelude.{slice_get, Some}
use Rattle.std.proofs.lemmas.List.{map-append, take_more}
use Rattle.std.proofs.lemmas.List.Concat.{flat_map-append}
use Rattle.std.proofs.lemmas.Option.{get_or_from_slice_get, slice_get_within}
use Rattle.mm_value.specs.Views.{value_of}
use Rattle.mm_value.specs.declared.value_ref.ValueRef.{ValueRef}
use Rattle.mm_value.specs.declared.values.Value.{Value}
use Rattle.mm_multiset.specs.Counts.{Entries}
use Rattle.mm_templist.specs.Runs.{referred}
use Rattle.mm_standing.specs.Showing.{rows_shown, times_shown, values_in_turn}

module _ (es rest : Entries) (row : List Value) (count : ℕ) (is : es ≡ (row, count) ∷ rest) where
  -- The values of the rows are pushed.
  pub pushed_entry : (distinct : Bool) (now new due : List Value) → new ≡ now ++ values_in_turn (replicate (times_shown distinct count) row)
      → now ++ values_in_turn (rows_shown distinct es) ≡ due → new ++ values_in_turn (rows_shown distinct rest) ≡ due
  pushed_entry distinct now new due pushed so_far =
      ap (λ l. l ++ values_in_turn (rows_shown distinct rest)) pushed
      ∙ append_assoc now (values_in_turn (replicate (times_shown distinct count) row)) (values_in_turn (rows_shown distinct rest))
      ∙ ap (λ l. now ++ l) (sym (flat_map-append (λ r. r) (replicate (times_shown distinct count) row) (rows_shown distinct rest)))
      ∙ ap (λ l. now ++ values_in_turn (rows_shown distinct l)) (sym is)
      ∙ so_far

-- One more value of a row is pushed.
pub pushed_value : (start row : List Value) (i : ℕ) (now new : List ValueRef) (value : ValueRef) → slice_get row i ≡ Some (value_of value)
    → new ≡ now ++ value ∷ [] → referred now ≡ start ++ take i row → referred new ≡ start ++ take (i + 1) row
pushed_value start row i now new value at pushed so_far =
    ap (λ (refs : List ValueRef). referred refs) pushed
    ∙ map-append value_of now (value ∷ [])
    ∙ ap (λ l. l ++ value_of value ∷ []) so_far
    ∙ append_assoc start (take i row) (value_of value ∷ [])
    ∙ ap (λ l. start ++ l)
    (sym (take_more row i (value_of value) (slice_get_within row i (value_of value) at)
    ∙ ap (λ v. take i row ++ v ∷ []) (get_or_from_slice_get row i (value_of value) (value_of value) at)))
