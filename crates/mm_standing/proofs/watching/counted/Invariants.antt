use Rattle.std.proofs.Common.{◌≡◌, None, take}
use Rattle.mm_templist.specs.Results.{projected_rows}
use Rattle.mm_standing.specs.Bags.{ArePositive}
use Rattle.mm_standing.specs.Queries.{IsBagOf}
use Rattle.mm_standing.proofs.watching.counted.Given as goal

-- the rows so far are counted
abbrev pub invariant-loop-i : goal.invariant-loop-i
invariant-loop-i l = record {
  counts : IsBagOf l.bag.entries (take l.i (projected_rows l.fn.view.store l.list));
  positive : ArePositive l.bag.entries;
  types : l.bag.types ≡ l.types;
  feed : l.bag.feed ≡ None;
  same : l.view.store ≡ l.fn.view.store;
}
