use Rattle.std.proofs.Common.{◌≡◌, ◌+◌, ◌*◌, ◌^◌, ◌+ℤ◌, ◌≤ℤ◌, neg_ℤ, pos, take}
use Rattle.mm_multiset.specs.declared.signed.Signed.{Signed}
use Rattle.mm_standing.specs.Bags.{sum_over}
use Rattle.mm_standing.proofs.prepare.new_total.Given as goal

-- the rows with the changes so far, each of less than 2^64
abbrev pub invariant-loop-change : goal.invariant-loop-change
invariant-loop-change l = record {
  sum : l.rows ≡ pos l.total +ℤ sum_over (λ (change : Signed). change.count) (take l.change-index l.changes);
  least : neg_ℤ (pos (l.change-index * 2 ^ 64)) ≤ℤ l.rows;
  most : l.rows ≤ℤ pos ((l.change-index + 1) * 2 ^ 64);
}
