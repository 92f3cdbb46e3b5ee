-- Orders of references.
use Rattle.std.specs.Prelude.{◌≡◌, List, All, AllPairs}
use Rattle.std.specs.Cmp.{IsTotalOrder}
use Rattle.std.specs.Ordering.{ordering_reverse}
use Rattle.std.specs.declared.cmp.Ordering.{Ordering}
use Rattle.std.specs.declared.cmp.Ordering.TheVariants.{Less, Equal}
use Rattle.mm_value.specs.declared.row_ref.RowRef.{RowRef}

-- A total order on what it covers: std's `IsTotalOrder`, for covered references only.
pub record IsTotalOrderOn (Covers : RowRef → Type 0) (cmp : RowRef → RowRef → Ordering) : Type 0 where
  pub antisymm : (a b : RowRef) → Covers a → Covers b → cmp a b ≡ ordering_reverse (cmp b a)
  pub trans : (a b c : RowRef) → Covers a → Covers b → Covers c → cmp a b ≡ Less → cmp b c ≡ Less → cmp a c ≡ Less
  pub congr : (a b c : RowRef) → Covers a → Covers b → Covers c → cmp a b ≡ Equal → cmp a c ≡ cmp b c

-- an order that is total everywhere is total on all that it covers
pub IsTotalOrderOn-from_total : (Covers : RowRef → Type 0) (cmp : RowRef → RowRef → Ordering) → IsTotalOrder cmp → IsTotalOrderOn Covers cmp
IsTotalOrderOn-from_total Covers cmp total = record {
  antisymm = λ a b _ _. total.antisymm a b;
  trans = λ a b c _ _ _. total.trans a b c;
  congr = λ a b c _ _ _. total.congr a b c;
}

-- The order covers each reference of the list, and each is less than all later ones.
pub record IsOrdered (Covers : RowRef → Type 0) (cmp : RowRef → RowRef → Ordering) (refs : List RowRef) : Type 0 where
  pub covered : All Covers refs
  pub ascending : AllPairs (λ a b. cmp a b ≡ Less) refs
