-- Probes that agree with an order.
use Rattle.std.proofs.Common.{◌≡◌, ◌≤◌, refl, sym, ap, ◌∙◌, subst, arith}
use Rattle.std.specs.Ordering.{ordering_index, ordering_reverse}
use Rattle.std.specs.declared.cmp.Ordering.{Ordering}
use Rattle.std.specs.declared.cmp.Ordering.TheVariants.{Less, Equal, Greater}
use Rattle.mm_value.specs.declared.row_ref.RowRef.{RowRef}
use Rattle.mm_order.specs.Order.{IsTotalOrderOn}
use Rattle.mm_order.specs.Probe.{IsMonotone}

not_before : (o p : Ordering) → (o ≡ Equal → p ≡ Greater) → (o ≡ Greater → p ≡ Greater) → ordering_index o ≤ ordering_index p
not_before Less p equal greater = omega arith
not_before Equal p equal greater = subst (λ q. ordering_index Equal ≤ ordering_index q) (sym (equal refl)) (omega arith)
not_before Greater p equal greater = subst (λ q. ordering_index Greater ≤ ordering_index q) (sym (greater refl)) (omega arith)

-- the position of a reference agrees with its total order
pub IsMonotone-at : (Covers : RowRef → Type 0) (cmp : RowRef → RowRef → Ordering) → IsTotalOrderOn Covers cmp → (at : RowRef)
    → Covers at → IsMonotone Covers cmp (λ a. Covers a × Covers at) (λ a. cmp a at)
IsMonotone-at Covers cmp total at covered = record {
  reaches = λ a in_a. (in_a, covered);
  rises = λ a b in_a in_b less. not_before (cmp a at) (cmp b at)
      (λ equal. total.antisymm b at in_b covered ∙ ap ordering_reverse (sym (total.congr a at b in_a covered in_b equal) ∙ less))
      (λ greater. total.antisymm b at in_b covered ∙ ap ordering_reverse
      (total.trans at a b covered in_a in_b (total.antisymm at a covered in_a ∙ ap ordering_reverse greater) less));
}
