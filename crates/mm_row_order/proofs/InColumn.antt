-- The numbers or prefixes that are kept of a column determine how its values compare.
use Rattle.std.proofs.Common.{◌≡◌, ℕ, ◌<◌, List, Option, length, get_or, sym, ap, ◌∙◌, arith}
use Rattle.std.specs.Option.{option_cmp}
use Rattle.std.specs.Ordering.{ordering_reverse}
use Rattle.std.specs.Prelude.{Some, slice_get}
use Rattle.std.specs.declared.cmp.Ordering.TheVariants.{Less, Greater}
use Rattle.std.proofs.Math.IntN.{ℤ, pos}
use Rattle.std.proofs.lemmas.List.{get_or-map}
use Rattle.std.proofs.lemmas.Option.{slice_get-get_or}
use Rattle.mm_value.proofs.Orders.{value_cmp_total}
use Rattle.mm_value.proofs.Prefixes.{prefixes_tell}
use Rattle.mm_value.specs.Order.{value_cmp}
use Rattle.mm_value.specs.Prefix.{order_prefix}
use Rattle.mm_value.specs.declared.values.Value.{Value}
use Rattle.mm_value.specs.declared.values.Value.TheVariants.{Int}
use Rattle.mm_value.specs.declared.row_ref.RowRef.{RowRef}
use Rattle.mm_partition.specs.Keys.{AreNumbers}
use Rattle.mm_partition.specs.Places.{Places, Live, IsLive, slot_at, row_in}
use Rattle.mm_partition.specs.Prefixes.{ArePrefixes, row_prefix}
use Rattle.mm_row_order.specs.InOrder.{HasColumn}
use Rattle.mm_row_order.specs.Refs.{Slots, row_at}

-- the value of a row that has the column, whose prefix is the row's
pub record Shows (column : ℕ) (row : List Value) (value : Value) : Type 0 where
  pub there : slice_get row column ≡ Some value
  pub prefix : row_prefix column row ≡ order_prefix value

shown : (column : ℕ) (row : List Value) → column < length row → (value : Value) × Shows column row value
shown column row within = (
  get_or row column (Int (pos 0)),
  record { there = slice_get-get_or row column (Int (pos 0)) within; prefix = get_or-map order_prefix row column (Int (pos 0)) 0 within },
)

-- if a reference has the column, it has a value there
value_at : (column : ℕ) (now : Slots) (at : RowRef) (n : ℕ)
    → ((row : List Value) → now at ≡ Live row → n ≡ row_prefix column row) → HasColumn column now at
    → (value : Value) × (slice_get (row_at now at) column ≡ Some value) × (n ≡ order_prefix value)
value_at column now at n prefix has =
    let (value, shows) = shown column has.row has.column_in in
    (value, ap (λ x. slice_get (row_in x) column) has.live ∙ shows.there, prefix has.row has.live ∙ shows.prefix)

-- prefixes of the column are those of the values
pub prefix_at : (column : ℕ) (places : Places) (prefixes : List ℕ) (at : RowRef) (i : ℕ) → ArePrefixes column places prefixes → i ≡ at.slot
    → HasColumn column (slot_at places) at → (value : Value) × (slice_get (row_at (slot_at places) at) column ≡ Some value)
    × (get_or prefixes i 0 ≡ order_prefix value)
prefix_at column places prefixes at i agree place has =
    value_at column (slot_at places) at (get_or prefixes i 0) (λ row live. ap (λ n. get_or prefixes n 0) place ∙ agree.each at row live) has

-- numbers of the column are the values
pub number_at : (column : ℕ) (places : Places) (numbers : List ℤ) (at : RowRef) (i : ℕ) → AreNumbers column places numbers → i ≡ at.slot
    → IsLive places at → slice_get (row_at (slot_at places) at) column ≡ Some (Int (get_or numbers i (pos 0)))
number_at column places numbers at i agree place live =
    ap (λ x. slice_get (row_in x) column) live.1 ∙ (agree.each at live.0 live.1 ∙ ap (λ n. Some (Int (get_or numbers n (pos 0)))) (sym place))

-- two values with different prefixes
pub lesser : (a b : Option Value) (v w : Value) (m n : ℕ) → a ≡ Some v → b ≡ Some w → m ≡ order_prefix v → n ≡ order_prefix w → m < n
    → Less ≡ option_cmp value_cmp a b
lesser a b v w m n a_is b_is m_is n_is less =
    let told : value_cmp v w ≡ Less = prefixes_tell v w (omega (arith, m_is, n_is, less)) in
    rw (a_is, b_is) (sym told)

pub greater : (a b : Option Value) (v w : Value) (m n : ℕ) → a ≡ Some v → b ≡ Some w → m ≡ order_prefix v → n ≡ order_prefix w → n < m
    → Greater ≡ option_cmp value_cmp a b
greater a b v w m n a_is b_is m_is n_is less =
    let told : value_cmp w v ≡ Less = prefixes_tell w v (omega (arith, m_is, n_is, less)) in
    rw (a_is, b_is) (sym (value_cmp_total.antisymm v w ∙ ap ordering_reverse told))
