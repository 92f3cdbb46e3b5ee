-- The rows of values, with one more row.
use Rattle.std.proofs.Common.{◌≡◌, Bool, true, false, cond, List, [], ◌∷◌, ◌++◌, map, Some, Vec, refl, sym, ap, ◌∙◌}
use Rattle.std.proofs.lemmas.List.{map-append}
use Rattle.std.specs.Map.{lookup}
use Rattle.std.specs.Option.{option_map_or}
use Rattle.mm_partition.specs.Views.{viewed}
use Rattle.mm_partition.specs.declared.view.RowView.{RowView}
use Rattle.mm_value.specs.Equality.{same_value}
use Rattle.mm_value.specs.declared.values.Value.{Value}
use Rattle.mm_value.proofs.SameRows.{values_exact}
use Rattle.mm_delta.specs.EditIndex.{rows_under}

append_none : {X : Type 0} (xs : List X) → xs ≡ xs ++ []
append_none [] = refl
append_none (x ∷ xs) = ap (λ l. x ∷ l) (append_none xs)

module _ {Z : Type 0} (value : Value) (row : RowView) (old new : List (Value × Vec RowView Z)) where
  -- one more row with a value, and all others unchanged
  abbrev pub IsPut : Type 0
  IsPut = (other : Value) → rows_under other new ≡ rows_under other old ++ cond (same_value value other) (viewed row ∷ []) []

  module _ (list : Vec RowView Z) (put : (q : Value) → lookup (same_value q) new
      ≡ cond (same_value value q) (Some list) (lookup (same_value q) old)) where
    -- The row is after the earlier ones with the value.
    pub put_behind : (was : List RowView) → list.items ≡ was ++ row ∷ [] → rows_under value old ≡ map viewed was → IsPut
    put_behind was items under other = by (same_value value other) refl
      where
        by : (b : Bool) → same_value value other ≡ b → rows_under other new ≡ rows_under other old ++ cond b (viewed row ∷ []) []
        by true e =
            ap (λ o. map viewed (option_map_or (λ l. l.items) o [])) (put other ∙ ap (λ b. cond b (Some list) (lookup (same_value other) old)) e)
            ∙ ap (map viewed) items ∙ map-append viewed was (row ∷ [])
            ∙ ap (λ l. l ++ viewed row ∷ []) (sym under ∙ ap (λ v. rows_under v old) ((values_exact value other).0 e))
        by false e =
            ap (λ o. map viewed (option_map_or (λ l. l.items) o [])) (put other ∙ ap (λ b. cond b (Some list) (lookup (same_value other) old)) e)
            ∙ append_none (rows_under other old)
