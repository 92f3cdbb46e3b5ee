use Rattle.std.proofs.Common.{◌≡◌, ℕ, ◌≤◌, List, [], drop, take, length}
use Rattle.mm_value.specs.declared.values.Value.{Value}
use Rattle.mm_standing.specs.Bags.{IsSound, count_with, feeds_of, types_of, undos}
use Rattle.mm_standing.proofs.bags.undo_behind.Given as goal

-- each count is unchanged at each mark, and the rest of the log can be undone
abbrev pub invariant-loop-left : goal.invariant-loop-left
invariant-loop-left l = record {
  sound : IsSound l.bags.items [] (take l.left l.log);
  log : undos l.bags.items (take l.left l.log) ≡ take l.left (undos l.fn.bags.items l.log);
  least : l.mark ≤ l.left;
  most : l.left ≤ length l.log;
  counts : (earlier : ℕ) → earlier ≤ l.left → (list : ℕ) (row : List Value)
      → count_with l.bags.items (drop earlier (undos l.bags.items (take l.left l.log))) list row
      ≡ count_with l.fn.bags.items (drop earlier (undos l.fn.bags.items l.log)) list row;
  types : types_of l.bags.items ≡ types_of l.fn.bags.items;
  feeds : feeds_of l.bags.items ≡ feeds_of l.fn.bags.items;
  size : length l.bags.items ≡ length l.fn.bags.items;
}

abbrev pub decreases-loop-left : goal.decreases-loop-left
decreases-loop-left l = l.left
