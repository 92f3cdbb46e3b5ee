use Rattle.std.proofs.lemmas.List.Elements.{All-set}
use Rattle.mm_multiset.specs.Tally.{IsSmall}
use Rattle.mm_multiset.specs.declared.signed.Signed.{Signed}
use Rattle.mm_multiset.proofs.few.add_at.Goals as goal

pub returns-clause-small : goal.returns-clause-small
returns-clause-small c =
    All-set (λ (known : Signed). IsSmall known.count) c.args.changes.now.items c.args.i _ (c.is_small.ensures c.if-not-is_small.false) c.requires.known
