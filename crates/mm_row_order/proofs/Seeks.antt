-- Searching a value in the order by its column.
use Rattle.std.proofs.Common.{◌≡◌, ◌≢◌, ℕ, ◌≤◌, List, get_or, None, Some, Option, refl, sym, ap, ◌∙◌, subst, arith}
use Rattle.std.specs.Prelude.{slice_get, IfNone, IfSome}
use Rattle.std.specs.List.{All}
use Rattle.std.proofs.lemmas.Option.{IfSome_then}
use Rattle.std.specs.Option.{option_cmp}
use Rattle.std.specs.Cmp.{IsTotalOrder}
use Rattle.std.specs.Cmp.Lexicographic.{options_total}
use Rattle.std.specs.Ordering.{nat_cmp, ordering_then, ordering_reverse, ordering_index}
use Rattle.std.specs.declared.cmp.Ordering.{Ordering}
use Rattle.std.specs.declared.cmp.Ordering.TheVariants.{Less, Equal, Greater}
use Rattle.mm_value.proofs.Orders.{value_cmp_total, value_cmp_exact}
use Rattle.mm_value.specs.Order.{value_cmp}
use Rattle.mm_value.specs.declared.values.Value.{Value}
use Rattle.mm_value.specs.declared.row_ref.RowRef.{RowRef}
use Rattle.mm_schema.specs.Rows.{column_cmp}
use Rattle.mm_order.specs.Probe.{IsMonotone}
use Rattle.mm_row_order.specs.Ends.{end_place}
use Rattle.mm_row_order.specs.Refs.{Slots, row_at, refs_by, place_by, IsWide}
use Rattle.ttree.proofs.Taken.{self_equal}

-- a comparison in three steps that is less is not greater in the first
first_not_greater : (x y z : Ordering) → ordering_then (ordering_then x y) z ≡ Less → x ≢ Greater
first_not_greater Less y z p = λ e. cc
first_not_greater Equal y z p = λ e. cc
first_not_greater Greater y z p = λ e. cc

module _ {K : Type 0} (R : K → K → Ordering) (total : IsTotalOrder R) (x y v : K) where
  by_first : (o p : Ordering) → o ≡ R x v → p ≡ R y v → R x y ≡ Less → ordering_index o ≤ ordering_index p
  by_first Less p in_x in_y less = omega arith
  by_first Equal p in_x in_y less =
      let step : R y v ≡ Greater = total.antisymm y v ∙ ap ordering_reverse (sym (total.congr x v y (sym in_x)) ∙ less) in
      let same : p ≡ Greater = in_y ∙ step in
      subst (λ q. ordering_index Equal ≤ ordering_index q) (sym same) (omega arith)
  by_first Greater p in_x in_y less =
      let back : R v x ≡ Less = total.antisymm v x ∙ ap ordering_reverse (sym in_x) in
      let step : R y v ≡ Greater = total.antisymm y v ∙ ap ordering_reverse (total.trans v x y back less) in
      let same : p ≡ Greater = in_y ∙ step in
      subst (λ q. ordering_index Greater ≤ ordering_index q) (sym same) (omega arith)

  by_step : (o : Ordering) → o ≡ R x y → o ≢ Greater → ordering_index (R x v) ≤ ordering_index (R y v)
  by_step Less is not = by_first (R x v) (R y v) refl refl (sym is)
  by_step Equal is not = let same : R x v ≡ R y v = total.congr x y v (sym is) in subst (λ q. ordering_index (R x v) ≤ ordering_index q) same (omega arith)
  by_step Greater is not = absurd (not refl)

pub IsMonotone-at_value : (column key : ℕ) (places : Slots) (value : Value)
    → IsMonotone (IsWide column key places) (refs_by column key places) (IsWide column key places) (place_by column places value)
IsMonotone-at_value column key places value = record {
  reaches = λ a wide. wide;
  rises = λ a b in_a in_b less.
      by_step (option_cmp value_cmp) (options_total value_cmp_total) (slice_get (row_at places a) column) (slice_get (row_at places b) column) (Some value)
      (column_cmp column (row_at places a) (row_at places b)) refl
      (first_not_greater (column_cmp column (row_at places a) (row_at places b)) (column_cmp key (row_at places a) (row_at places b))
      (nat_cmp a.slot b.slot) less);
}

-- a value is at its own position, and no other value is
pub place_exact : (o : Option Value) (value : Value) → option_cmp value_cmp o (Some value) ≡ Equal → o ≡ Some value
place_exact None value e = cc
place_exact (Some x) value e = ap Some (value_cmp_exact x value e)

pub place_own : (o : Option Value) (value : Value) → o ≡ Some value → option_cmp value_cmp o (Some value) ≡ Equal
place_own o value e =
    let own : option_cmp value_cmp (Some value) (Some value) ≡ Equal = self_equal (value_cmp value value) (value_cmp_total.antisymm value value) in
    subst (λ (x : Option Value). option_cmp value_cmp x (Some value) ≡ Equal) (sym e) own

-- a consequence of finding nothing
pub IfNone_then : {X : Type 0} (r : Option X) {P Q : Type 0} → IfNone r P → (P → Q) → IfNone r Q
IfNone_then None holds then = then holds
IfNone_then (Some x) holds then = tt

-- a reference found by a value has the value, and if none is found, no row has it
pub found_fits : (column : ℕ) (now : Slots) (value : Value) (found : Option RowRef) → IfSome found (λ at. place_by column now value at ≡ Equal)
    → IfSome found (λ at. slice_get (row_at now at) column ≡ Some value)
found_fits column now value found fits = IfSome_then found fits (λ at e. place_exact (slice_get (row_at now at) column) value e)

pub none_fits : (column : ℕ) (now : Slots) (value : Value) (found : Option RowRef) (refs : List RowRef)
    → IfNone found (All (λ at. place_by column now value at ≢ Equal) refs) → IfNone found (All (λ at. slice_get (row_at now at) column ≢ Some value) refs)
none_fits column now value found refs absent =
    IfNone_then found absent (λ all k d within e. all k d within (place_own (slice_get (row_at now (get_or refs k d)) column) value e))

-- an end of a range agrees with the order by its column
pub IsMonotone-at_end : (column key : ℕ) (places : Slots) (end : Option Value)
    → IsMonotone (IsWide column key places) (refs_by column key places) (IsWide column key places) (end_place column places end)
IsMonotone-at_end column key places None = record { reaches = λ a wide. wide; rises = λ a b in_a in_b less. omega arith }
IsMonotone-at_end column key places (Some value) = IsMonotone-at_value column key places value
