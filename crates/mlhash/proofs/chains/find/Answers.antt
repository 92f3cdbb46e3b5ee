use Rattle.std.proofs.Common.{sym, ◌∙◌}
use Rattle.std.proofs.lemmas.Bool.{false≢true}
use Rattle.mlhash.proofs.ChainLemmas.{chain_step}
use Rattle.mlhash.proofs.FindLemmas.{IsFinding-more, chain_falls, Finds-found, Finds-none}
use Rattle.mlhash.proofs.chains.find.Goals as goal

pub bounds-nodes-at : goal.bounds-nodes-at
bounds-nodes-at c = (chain_step _ _ c.loop-at.invariant.linked c.loop-at-test.true).below

pub returns-then-has : goal.returns-then-has
returns-then-has c = record {
  found = Finds-found _ _ _ _ _ c.loop-at-test.true (c.has.ensures.0 c.if-has.true) c.loop-at.invariant;
}

pub loop-at-smaller : goal.loop-at-smaller
loop-at-smaller c = chain_falls _ _ c.loop-at.invariant.linked c.loop-at-test.true

pub loop-at-preserved : goal.loop-at-preserved
loop-at-preserved c =
    IsFinding-more _ _ _ _ _ c.loop-at-test.true (λ e. false≢true (sym c.if-has.false ∙ c.has.ensures.1 e)) c.loop-at.invariant

pub returns : goal.returns
returns c = record { found = Finds-none _ _ _ _ _ c.loop-at-test.false c.loop-at.invariant }
