-- Lists of references in an order.
use Rattle.std.proofs.Common.{◌≡◌, List, get_or, ◌∙◌, arith}
use Rattle.std.specs.List.{All, Contains}
use Rattle.std.proofs.lemmas.List.Elements.{Contains-get_or}
use Rattle.std.specs.Ordering.{ordering_reverse}
use Rattle.std.specs.declared.cmp.Ordering.{Ordering}
use Rattle.std.specs.declared.cmp.Ordering.TheVariants.{Less, Equal, Greater}
use Rattle.mm_value.specs.declared.row_ref.RowRef.{RowRef}
use Rattle.mm_order.specs.Order.{IsOrdered}

-- no element is before itself in any order
pub less_than_itself : (o : Ordering) → o ≡ ordering_reverse o → o ≡ Less → ⊥
less_than_itself Less e h = cc
less_than_itself Equal e h = cc
less_than_itself Greater e h = cc

-- a list ordered by one order is ordered by another that covers it and agrees on its elements
pub IsOrdered-agree : (C D : RowRef → Type 0) (cmp other : RowRef → RowRef → Ordering) (refs : List RowRef) → IsOrdered C cmp refs → All D refs
    → ((a b : RowRef) → Contains refs a → Contains refs b → other a b ≡ cmp a b) → IsOrdered D other refs
IsOrdered-agree C D cmp other refs was all agree = record {
  covered = all;
  ascending = λ i j d before within.
      agree (get_or refs i d) (get_or refs j d) (Contains-get_or refs i d (omega arith)) (Contains-get_or refs j d within) ∙ was.ascending i j d before within;
}
