use Rattle.std.proofs.Common.{rules}
use Rattle.std.proofs.lemmas.Fn.{filter_same}
use Rattle.mm_multiset.specs.Tally.{is_some_change}
use Rattle.mm_multiset.specs.declared.signed.Signed.{Signed}
use Rattle.mm_multiset.proofs.few.drop_nothings.Goals as goal

pub returns : goal.returns
returns c = filter_same _ (λ (change : Signed). is_some_change change.count) _ (λ x b f k. search rules) _ _ c.retain.ensures.filtered
