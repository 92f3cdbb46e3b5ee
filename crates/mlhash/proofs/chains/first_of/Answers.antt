use Rattle.std.proofs.Common.{sym, ◌∙◌}
use Rattle.mlhash.proofs.ChainLemmas.{chain_step}
use Rattle.mlhash.proofs.FindLemmas.{chain_falls}
use Rattle.mlhash.proofs.AlongLemmas.{skip_along}
use Rattle.mlhash.proofs.chains.first_of.Goals as goal

pub bounds-nodes-at : goal.bounds-nodes-at
bounds-nodes-at c = (chain_step _ _ c.loop-at.invariant.linked c.loop-at-test.true).below

pub loop-at-smaller : goal.loop-at-smaller
loop-at-smaller c = chain_falls _ _ c.loop-at.invariant.linked c.loop-at-test.true

pub loop-at-preserved : goal.loop-at-preserved
loop-at-preserved c = record {
  linked = (chain_step _ _ c.loop-at.invariant.linked c.loop-at-test.true).next;
  same = sym (skip_along _ _ _ c.loop-at.invariant.linked c.loop-at-test.true c.if-node-hash.false) ∙ c.loop-at.invariant.same;
}
