-- The entries to which a search can be restricted.
use Rattle.std.specs.Prelude.{◌≢◌, ◌≤◌, List, length, Contains, All}
use Rattle.std.specs.declared.cmp.Ordering.{Ordering}
use Rattle.std.specs.declared.cmp.Ordering.TheVariants.{Equal}
use Rattle.mm_value.specs.declared.row_ref.RowRef.{RowRef}
use Rattle.mm_order.specs.Order.{IsOrdered}

-- Part of an ordered list decides the search of the whole: the part is ordered, and if none of its entries matches the probe, no entry of
-- the whole does.
pub record Decides (Covers : RowRef → Type 0) (cmp : RowRef → RowRef → Ordering) (place : RowRef → Ordering) (whole part : List RowRef) : Type 0 where
  pub filled : 1 ≤ length part
  pub ordered : IsOrdered Covers cmp part
  pub within : (r : RowRef) → Contains part r → Contains whole r
  pub none : All (λ a. place a ≢ Equal) part → All (λ a. place a ≢ Equal) whole
