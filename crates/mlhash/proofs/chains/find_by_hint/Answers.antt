use Rattle.mlhash.proofs.ChainLemmas.{chain_step}
use Rattle.mlhash.proofs.FindLemmas.{IsFinding-start, Finds-found}
use Rattle.mlhash.proofs.chains.find_by_hint.Goals as goal

pub bounds-nodes-head : goal.bounds-nodes-head
bounds-nodes-head c = (chain_step _ _ c.requires.linked c.if-head-ne-NIL.true).below

pub returns-then-has : goal.returns-then-has
returns-then-has c = record {
  found = Finds-found _ _ _ _ _ c.if-head-ne-NIL.true (c.has.ensures.0 c.if-has.true) (IsFinding-start _ _ _ _ c.requires.linked);
}
