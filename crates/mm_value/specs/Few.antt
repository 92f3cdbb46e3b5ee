-- The items of a list that stores a single item inline.
use Rattle.std.specs.Prelude.{◌≡◌, List, [], ◌∷◌, length}
use Rattle.std.specs.Option.{option_to_list}
use Rattle.std.specs.Vec.Iter.{into_iter_items, into_iter_len}
use Rattle.mm_value.specs.declared.few.Items.{Items}
use Rattle.mm_value.specs.declared.few.Items.TheVariants as kept
use Rattle.mm_value.specs.declared.few.Left.{Left}
use Rattle.mm_value.specs.declared.few.Left.TheVariants as left

module _ {T : Type 0} where
  -- A single item, or those of a vector.
  abbrev pub items_in : Items T → List T
  items_in (kept.One item) = item ∷ []
  items_in (kept.Many items) = items.items

  -- A single item that was not returned yet, or the remaining items of a vector.
  abbrev pub items_to_come : Left T → List T
  items_to_come (left.One item) = option_to_list item
  items_to_come (left.Many items) = into_iter_items items

  -- The counted length of an iterator is the number of its remaining items.
  abbrev pub IsCounted : Left T → Type 0
  IsCounted (left.One item) = Unit {0}
  IsCounted (left.Many items) = length (into_iter_items items) ≡ into_iter_len items
