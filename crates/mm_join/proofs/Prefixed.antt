-- Prefixes along a column have the order of the values.
use Rattle.std.proofs.Common.{◌≡◌, ◌≢◌, ℕ, ◌+◌, ◌<◌, ◌≤◌, List, Option, None, Some, inl, inr, get_or, length, map, refl, sym, ap, ◌∙◌, subst, arith}
use Rattle.std.proofs.Math.Nat.{min-le_left}
use Rattle.std.specs.Prelude.{MatchOption, min, pos, slice_get}
use Rattle.std.specs.Option.{option_map, unwrap_or}
use Rattle.std.specs.Ordering.{nat_cmp}
use Rattle.std.specs.declared.cmp.Ordering.{Ordering}
use Rattle.std.specs.declared.cmp.Ordering.TheVariants.{Less, Equal, Greater}
use Rattle.std.proofs.lemmas.Bool.{cases_order}
use Rattle.std.proofs.lemmas.List.{get_or-map, length-map}
use Rattle.std.proofs.lemmas.List.Sorted.{IsNonDecreasingBy-from_default}
use Rattle.std.proofs.lemmas.Option.{get_or_from_slice_get, slice_get-get_or}
use Rattle.mm_partition.specs.Places.{slot_at, row_in}
use Rattle.mm_query.specs.Atoms.{value_in}
use Rattle.mm_indexed.specs.Kept.{StoredRows}
use Rattle.mm_indexed.specs.Reads.{IsWalk}
use Rattle.mm_row_order.specs.Refs.{IsWide, Slots, refs_by, row_at}
use Rattle.mm_schema.specs.Rows.{column_cmp}
use Rattle.mm_store.proofs.Seeks.{then_less}
use Rattle.mm_value.proofs.Orders.{value_cmp_exact}
use Rattle.mm_value.proofs.Prefixes.{prefixes_keep}
use Rattle.mm_value.specs.Order.{value_cmp}
use Rattle.mm_value.specs.Prefix.{order_prefix}
use Rattle.mm_value.specs.declared.row_ref.RowRef.{RowRef}
use Rattle.mm_value.specs.declared.values.Value.{Value}
use Rattle.mm_value.specs.declared.values.Value.TheVariants.{Int}
use Rattle.mm_join.specs.Entries.{AreRising, entry_of}
use Rattle.mm_join.specs.declared.entries.Entry.{Entry}

-- ---- values

-- A value that is not greater has a prefix that is not greater.
prefixes_rise : (v w : Value) (o : Ordering) → value_cmp v w ≡ o → o ≢ Greater → order_prefix v ≤ order_prefix w
prefixes_rise v w Less is not = prefixes_keep v w is
prefixes_rise v w Equal is not = let same : order_prefix v ≡ order_prefix w = ap order_prefix (value_cmp_exact v w is) in omega arith
prefixes_rise v w Greater is not = absurd (not refl)

-- ---- along a walk

module _ (column key : ℕ) (slots : Slots) where
  -- the prefix of the row's value in the column
  abbrev prefix_of : RowRef → ℕ
  prefix_of at = order_prefix (value_in column (row_at slots at))

  has_there : (at : RowRef) → IsWide column key slots at → slice_get (row_at slots at) column ≡ Some (value_in column (row_at slots at))
  has_there at wide =
      slice_get-get_or (row_at slots at) column (Int (pos 0)) (subst (λ r. column < length r) (sym (ap row_in wide.live)) wide.column_in)

  prefix_rises : (a b : RowRef) → IsWide column key slots a → IsWide column key slots b → refs_by column key slots a b ≡ Less → prefix_of a ≤ prefix_of b
  prefix_rises a b in_a in_b less =
      let v = value_in column (row_at slots a) in
      let w = value_in column (row_at slots b) in
      let by_column : column_cmp column (row_at slots a) (row_at slots b) ≡ value_cmp v w = rw (has_there a in_a, has_there b in_b) refl in
      prefixes_rise v w (value_cmp v w) refl
      (λ e. then_less (column_cmp column (row_at slots a) (row_at slots b)) (column_cmp key (row_at slots a) (row_at slots b))
      (nat_cmp a.slot b.slot) less (by_column ∙ e))

-- The prefixes along a walk are in ascending order.
pub walk_rises : (column : ℕ) (stored : StoredRows) (walk : List RowRef) → IsWalk column stored walk
    → AreRising (map (entry_of column (slot_at stored.places)) walk)
walk_rises column stored walk is_walk =
    let slots : Slots = slot_at stored.places in
    let made : RowRef → Entry = entry_of column slots in
    let d : RowRef = record { slot = 0 } in
    IsNonDecreasingBy-from_default (λ (e : Entry). e.prefix) (map made walk) (made d) (λ i j upto within.
    let inside : j < length walk = omega (arith, within, length-map walk made) in
    let one : (get_or (map made walk) i (made d)).prefix ≡ prefix_of column stored.key slots (get_or walk i d) =
    ap (λ (e : Entry). e.prefix) (get_or-map made walk i d (made d) (omega (arith, upto, inside))) in
    let other : (get_or (map made walk) j (made d)).prefix ≡ prefix_of column stored.key slots (get_or walk j d) =
    ap (λ (e : Entry). e.prefix) (get_or-map made walk j d (made d) inside) in
    let rises : prefix_of column stored.key slots (get_or walk i d) ≤ prefix_of column stored.key slots (get_or walk j d) =
    elim (cases_order i j) [
      | inl same ↦ subst (λ k. prefix_of column stored.key slots (get_or walk i d) ≤ prefix_of column stored.key slots (get_or walk k d)) same (omega arith)
      | inr (inl before) ↦
          prefix_rises column stored.key slots (get_or walk i d) (get_or walk j d) (is_walk.ordered.covered i d (omega (arith, before, inside)))
          (is_walk.ordered.covered j d inside) (is_walk.ordered.ascending i j d before inside)
      | inr (inr behind) ↦ absurd (omega (arith, upto, behind))
    ] in
    omega (arith, one, other, rises))

-- ---- the value of a prefix

-- A column whose prefix is known has a value, and the prefix is that of the value.
read_from : (row : List Value) (column : ℕ) (prefix : ℕ) (o : Option Value) → slice_get row column ≡ o → option_map order_prefix o ≡ Some prefix
    → order_prefix (value_in column row) ≡ prefix
read_from row column prefix None is has = cc
read_from row column prefix (Some v) is has =
    let read : value_in column row ≡ v = get_or_from_slice_get row column v (Int (pos 0)) is in
    let own : order_prefix v ≡ prefix = cc in
    ap order_prefix read ∙ own

pub prefix_read : (row : List Value) (column : ℕ) (prefix : ℕ) → option_map order_prefix (slice_get row column) ≡ Some prefix
    → order_prefix (value_in column row) ≡ prefix
prefix_read row column prefix has = read_from row column prefix (slice_get row column) refl has

pub unwrapped : (o : Option Value) (prefix : ℕ) → option_map order_prefix o ≡ Some prefix → order_prefix (unwrap_or o (Int (pos 0))) ≡ prefix
unwrapped None prefix is = cc
unwrapped (Some v) prefix is = cc

-- A returned prefix counts as one read.
pub one_read : (most : ℕ) (prefix : Option ℕ) (before after : ℕ) → MatchOption prefix (after ≡ before) (λ p. after ≡ min (before + 1) most) → after ≤ before + 1
one_read most None before after counted = omega (arith, counted)
one_read most (Some p) before after counted = omega (arith, counted, min-le_left (before + 1) most)
