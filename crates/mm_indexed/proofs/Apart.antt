-- If no two rows have one key, the order of references is that of their rows.
use Rattle.std.proofs.Common.{◌≡◌, ◌≢◌, ℕ, List, get_or, ap, ◌∙◌, arith}
use Rattle.std.specs.List.{All, AllPairs}
use Rattle.std.specs.Ordering.{nat_cmp, ordering_then}
use Rattle.std.specs.declared.cmp.Ordering.{Ordering}
use Rattle.std.specs.declared.cmp.Ordering.TheVariants.{Less, Equal, Greater}
use Rattle.mm_value.specs.declared.row_ref.RowRef.{RowRef}
use Rattle.mm_schema.specs.Rows.{column_cmp, rows_by}
use Rattle.mm_row_order.specs.Refs.{Slots, IsWide, row_at, refs_by}
use Rattle.mm_row_order.specs.Orders.{refs_by_total}
use Rattle.mm_row_order.specs.InOrder.{InOrder, KeysApart}
use Rattle.mm_indexed.specs.Twins.{AreApart}
use Rattle.mm_indexed.proofs.Ordered.{less_than_itself}

-- a comparison by rows and then by slots that is less although no two keys are equal
by_rows : (first second slots : Ordering) → ordering_then (ordering_then first second) slots ≡ Less → second ≢ Equal → ordering_then first second ≡ Less
by_rows Less second slots less apart = less
by_rows Equal Less slots less apart = less
by_rows Equal Equal slots less apart = absurd (apart (λ i. Equal))
by_rows Equal Greater slots less apart = let e : Greater ≡ Less = less in let no : ⊥ = cc in absurd no
by_rows Greater second slots less apart = let e : Greater ≡ Less = less in let no : ⊥ = cc in absurd no

then_less : (first slots : Ordering) → first ≡ Less → ordering_then first slots ≡ Less
then_less first slots less = ap (λ o. ordering_then o slots) less

module _ (column key : ℕ) (now : Slots) (refs : List RowRef) where
  -- references in order are in strict order by their rows
  pub strict_rows : InOrder column key now refs → KeysApart key now refs → AllPairs (λ a b. rows_by column key (row_at now a) (row_at now b) ≡ Less) refs
  strict_rows ordered apart i j d before within =
      let a : RowRef = get_or refs i d in
      let b : RowRef = get_or refs j d in
      by_rows (column_cmp column (row_at now a) (row_at now b)) (column_cmp key (row_at now a) (row_at now b)) (nat_cmp a.slot b.slot)
      (ordered.ascending i j d before within) (apart i j d before within)

  -- .. and the converse
  pub InOrder-from_rows : All (IsWide column key now) refs → AllPairs (λ a b. rows_by column key (row_at now a) (row_at now b) ≡ Less) refs
      → InOrder column key now refs
  InOrder-from_rows wide strict = record {
    covered = wide;
    ascending = λ i j d before within.
        let a : RowRef = get_or refs i d in
        let b : RowRef = get_or refs j d in
        then_less (rows_by column key (row_at now a) (row_at now b)) (nat_cmp a.slot b.slot) (strict i j d before within);
  }

  -- references of rows in use, each once, have their keys apart
  pub KeysApart-refs : AreApart key now → InOrder column key now refs → KeysApart key now refs
  KeysApart-refs apart ordered i j d before within tie =
      let a : RowRef = get_or refs i d in
      let b : RowRef = get_or refs j d in
      let wide_a : IsWide column key now a = ordered.covered i d (omega arith) in
      let wide_b : IsWide column key now b = ordered.covered j d within in
      let differ : a ≢ b = λ same.
      less_than_itself (refs_by column key now a a) ((refs_by_total column key now).antisymm a a)
      (ap (refs_by column key now a) same ∙ ordered.ascending i j d before within) in
      apart b (wide_b.row, wide_b.live) (a, (wide_a.row, wide_a.live), differ, tie)
