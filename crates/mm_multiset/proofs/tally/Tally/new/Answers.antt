use Rattle.std.proofs.Common.{List, inl, sym, subst}
use Rattle.mm_multiset.specs.Tally.{AreListed}
use Rattle.mm_multiset.specs.declared.signed.Signed.{Signed}
use Rattle.mm_multiset.proofs.Merging.{listed_none}
use Rattle.mm_multiset.proofs.tally.Tally.new.Goals as goal

pub invariant_of-result : goal.invariant_of-result
invariant_of-result c = (subst (λ (xs : List Signed). AreListed xs) (sym c.new.ensures.items) listed_none, inl c.new.ensures.items)
