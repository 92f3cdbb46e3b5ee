use Rattle.std.proofs.Common.{◌≡◌}
use Rattle.mm_multiset.proofs.bag.Bag.stop_feed.Given as goal

-- the entries are the same
abbrev pub invariant-loop : goal.invariant-loop
invariant-loop l = record {
  entries : l.self.entries ≡ l.fn.self.entries;
  slots : l.self.slots ≡ l.fn.self.slots;
  types : l.self.types ≡ l.fn.self.types;
}
