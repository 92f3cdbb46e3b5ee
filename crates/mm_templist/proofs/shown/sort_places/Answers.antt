-- The comparison is a total order.
use Rattle.std.proofs.Common.{rules, IsPermutation, subst}
use Rattle.std.specs.Ordering.{is_lt}
use Rattle.std.proofs.lemmas.Fn.{always_returns_same}
use Rattle.std.proofs.lemmas.List.Sorted.{ranks_by}
use Rattle.smallvec.proofs.SmallVecLemmas.{items-with_items}
use Rattle.mm_templist.specs.Shown.{placed_cmp}
use Rattle.mm_templist.proofs.Placed.{placed_total}
use Rattle.mm_templist.proofs.shown.sort_places.Goals as goal

pub returns-clause-permutation : goal.returns-clause-permutation
returns-clause-permutation c =
    rw (items-with_items c.args.places.now c.sort_unstable_by.new.self (search rules))
    (subst (λ l. IsPermutation l c.sort_unstable_by.new.self) c.deref_mut.ensures.value c.sort_unstable_by.ensures.permutation)

pub returns-clause-sorted : goal.returns-clause-sorted
returns-clause-sorted c =
    rw (items-with_items c.args.places.now c.sort_unstable_by.new.self (search rules))
    (c.sort_unstable_by.ensures.sorted (λ a b. is_lt (placed_cmp c.args.order.now c.args.width c.args.values.now a b))
    (ranks_by (placed_total c.args.order.now c.args.width c.args.values.now) (λ p. p))
    (always_returns_same _ _ _ (λ a r f k. search rules)))
