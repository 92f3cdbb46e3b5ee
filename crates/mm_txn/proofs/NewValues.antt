-- The values that an UPDATE computes, and their refusal.
use Rattle.std.proofs.Common.{◌≡◌, ℕ, Bool, true, false, cond, ◌||◌, List, [], ◌∷◌, ◌++◌, Some, None, map, refl, sym, ap, ◌∙◌, append-nil}
use Rattle.std.specs.List.{filter, flat_map, list_any}
use Rattle.std.proofs.lemmas.List.Concat.{flat_map-append}
use Rattle.std.proofs.lemmas.List.Folds.{list_any-append}
use Rattle.mm_value.specs.declared.refusal.Refusal.{Refusal}
use Rattle.mm_value.specs.declared.refusal.Refusal.TheVariants.{ArithmeticOutOfRange}
use Rattle.mm_value.specs.declared.row_ref.RowRef.{RowRef}
use Rattle.mm_value.specs.declared.values.Value.{Value}
use Rattle.mm_query.specs.Atoms.{is_past_range, range_conditions, updated_row}
use Rattle.mm_query.specs.Edits.{new_values}
use Rattle.mm_query.specs.declared.atom.Assignment.{Assignment}
use Rattle.mm_schema.specs.Refused.{first_refusal}
use Rattle.mm_row_order.specs.Refs.{Slots, row_at}
use Rattle.mm_select.proofs.Fits.{filter-map}
use Rattle.mm_txn.specs.RowEdits.{updates_of}

module _ (now : Slots) (assignments : List (Assignment ℕ)) where
  -- the values of the updated rows of references
  abbrev pub values_of : List RowRef → List Value
  values_of refs = flat_map (λ at. updated_row assignments (row_at now at)) refs

  new_values-updated : (refs : List RowRef) → new_values (updates_of assignments (map (row_at now) refs)) ≡ values_of refs
  new_values-updated [] = refl
  new_values-updated (x ∷ xs) = ap (λ values. updated_row assignments (row_at now x) ++ values) (new_values-updated xs)

  -- they are the values that the change computes
  pub values-updates : (p : List Value → Bool) (refs : List RowRef)
      → new_values (updates_of assignments (filter p (map (row_at now) refs))) ≡ values_of (filter (λ at. p (row_at now at)) refs)
  values-updates p refs =
      ap (λ rows. new_values (updates_of assignments rows)) (filter-map p (row_at now) refs) ∙ new_values-updated (filter (λ at. p (row_at now at)) refs)

  any-append : (xs ys : List RowRef)
      → list_any is_past_range (values_of (xs ++ ys)) ≡ (list_any is_past_range (values_of xs) || list_any is_past_range (values_of ys))
  any-append xs ys =
      ap (list_any is_past_range) (flat_map-append (λ at. updated_row assignments (row_at now at)) xs ys)
      ∙ list_any-append is_past_range (values_of xs) (values_of ys)

  one_row : (at : RowRef) (row : List Value) → row_at now at ≡ row → values_of (at ∷ []) ≡ updated_row assignments row
  one_row at row is = append-nil (updated_row assignments (row_at now at)) ∙ ap (updated_row assignments) is

  due_some : (b : Bool) (due refusal : Refusal) → cond b (Some due) None ≡ Some refusal → b ≡ true
  due_some true due refusal e = refl
  due_some false due refusal e = cc

  or_true : (a b c : Bool) → b ≡ true → (a || (b || c)) ≡ true
  or_true true b c e = refl
  or_true false true c e = refl
  or_true false false c e = cc

  -- Nothing refuses the values if none is past the range.
  pub none_due : (refs : List RowRef) → list_any is_past_range (values_of refs) ≡ false → first_refusal (range_conditions (values_of refs)) ≡ None
  none_due refs none = ap (λ b. cond b (Some ArithmeticOutOfRange) None) none

  -- If the values of one of the rows are refused, all are.
  pub one_due : (refs done rest : List RowRef) (at : RowRef) (row : List Value) (refusal : Refusal) → row_at now at ≡ row
      → refs ≡ done ++ at ∷ rest → first_refusal (range_conditions (updated_row assignments row)) ≡ Some refusal
      → first_refusal (range_conditions (values_of refs)) ≡ Some refusal
  one_due refs done rest at row refusal is split due =
      let some : list_any is_past_range (updated_row assignments row) ≡ true = due_some _ ArithmeticOutOfRange refusal due in
      let here : list_any is_past_range (values_of (at ∷ [])) ≡ true = ap (list_any is_past_range) (one_row at row is) ∙ some in
      let parts : list_any is_past_range (values_of (done ++ at ∷ rest)) ≡ true =
      any-append done (at ∷ rest)
      ∙ ap (λ b. list_any is_past_range (values_of done) || b) (any-append (at ∷ []) rest)
      ∙ or_true (list_any is_past_range (values_of done)) (list_any is_past_range (values_of (at ∷ []))) (list_any is_past_range (values_of rest)) here in
      let any : list_any is_past_range (values_of refs) ≡ true = ap (λ rs. list_any is_past_range (values_of rs)) split ∙ parts in
      ap (λ b. cond b (Some ArithmeticOutOfRange) None) any ∙ sym (ap (λ b. cond b (Some ArithmeticOutOfRange) None) some) ∙ due

  -- One more row leaves the values in range if its own values are.
  pub none_more : (done : List RowRef) (at : RowRef) (row : List Value) → row_at now at ≡ row → list_any is_past_range (values_of done) ≡ false
      → first_refusal (range_conditions (updated_row assignments row)) ≡ None → list_any is_past_range (values_of (done ++ at ∷ [])) ≡ false
  none_more done at row is none due =
      let own : list_any is_past_range (updated_row assignments row) ≡ false = due_none _ due in
      any-append done (at ∷ []) ∙ ap (λ b. b || list_any is_past_range (values_of (at ∷ []))) none ∙ ap (list_any is_past_range) (one_row at row is) ∙ own
    where
      due_none : (b : Bool) → cond b (Some ArithmeticOutOfRange) None ≡ None → b ≡ false
      due_none true e = cc
      due_none false e = refl
