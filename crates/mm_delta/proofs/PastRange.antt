-- No row has an integer past 64 bits.
use Rattle.std.proofs.Common.{◌≡◌, ℕ, ℤ, Bool, true, false, cond, List, [], ◌∷◌, Some, refl, sym, ap, subst, ◌∙◌}
use Rattle.std.specs.Prelude.{FitsSigned}
use Rattle.std.specs.Int.{w64}
use Rattle.std.specs.List.{filter}
use Rattle.std.specs.List.Sorted.{IsPermutation}
use Rattle.std.proofs.lemmas.List.Sorted.{IsPermutation-refl}
use Rattle.mm_partition.specs.Places.{AreRowsStorable, slot_at}
use Rattle.mm_query.specs.Atoms.{value_in}
use Rattle.mm_query.proofs.Storables.{value_in_storable}
use Rattle.mm_indexed.specs.Kept.{StoredRows}
use Rattle.mm_row_order.specs.Refs.{row_at}
use Rattle.mm_store.proofs.Storables.{row_storable}
use Rattle.mm_value.specs.Equality.{same_value}
use Rattle.mm_value.specs.Storable.{AreStorable, IsStorable}
use Rattle.mm_value.specs.declared.row_ref.RowRef.{RowRef}
use Rattle.mm_value.specs.declared.values.Value.{Value}
use Rattle.mm_value.specs.declared.values.Value.TheVariants.{Int}
use Rattle.mm_value.proofs.SameRows.{values_exact}
use Rattle.mm_delta.specs.Candidates.{passes}
use Rattle.mm_delta.specs.Steps.{IsFoundOf}

-- The value of a row in a column differs from such a number.
pub apart : (column : ℕ) (row : List Value) (number : ℤ) → AreStorable row → ¬ FitsSigned w64 number → same_value (value_in column row) (Int number) ≡ false
apart column row number all past = by (same_value (value_in column row) (Int number)) refl
  where
    by : (b : Bool) → same_value (value_in column row) (Int number) ≡ b → b ≡ false
    by true e = absurd (past (subst IsStorable ((values_exact (value_in column row) (Int number)).0 e) (value_in_storable column row all)))
    by false e = refl

-- No reference is that of a row with such a number.
pub none_found : (stored : StoredRows) (column : ℕ) (number : ℤ) (found : List RowRef) → AreRowsStorable stored.places → ¬ FitsSigned w64 number
    → found ≡ [] → IsFoundOf (Some (column, Int number)) stored found
none_found stored column number found all past empty =
    subst (λ l. IsPermutation l (filter lies stored.refs)) (sym empty) (subst (λ l. IsPermutation [] l) (sym (none stored.refs)) (IsPermutation-refl []))
  where
    lies : RowRef → Bool
    lies at = passes (Some (column, Int number)) (row_at (slot_at stored.places) at)

    none : (refs : List RowRef) → filter lies refs ≡ []
    none [] = refl
    none (at ∷ refs) =
        ap (λ b. cond b (at ∷ filter lies refs) (filter lies refs))
        (apart column (row_at (slot_at stored.places) at) number (row_storable stored.places at all) past)
        ∙ none refs
