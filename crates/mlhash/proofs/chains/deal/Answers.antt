use Rattle.std.proofs.lemmas.Bool.{eq-eqb, ne_eqb}
use Rattle.mlhash.specs.Pairs.{node_at}
use Rattle.mlhash.proofs.ChainLemmas.{chain_step}
use Rattle.mlhash.proofs.DealLemmas.{IsDealing-start, IsDealing-stay, IsDealing-leave, deal_falls}
use Rattle.mlhash.proofs.chains.deal.Goals as goal

pub loop-at-init : goal.loop-at-init
loop-at-init c =
    IsDealing-start c.args.nodes.now c.args.from c.args.mask c.args.stay c.args.onto c.requires.from c.requires.onto c.requires.apart

pub bounds-nodes-at : goal.bounds-nodes-at
bounds-nodes-at c = (chain_step _ _ c.loop-at.invariant.at_linked c.loop-at-test.true).below

pub loop-at-smaller-then-node-mask : goal.loop-at-smaller-then-node-mask
loop-at-smaller-then-node-mask c =
    deal_falls c.loop-at.nodes c.loop-at.at (record (node_at c.loop-at.nodes c.loop-at.at) { next = c.loop-at.staying })
    c.loop-at.invariant.at_linked c.loop-at-test.true

pub loop-at-preserved-then-node-mask : goal.loop-at-preserved-then-node-mask
loop-at-preserved-then-node-mask c =
    IsDealing-stay c.args.nodes.now c.args.from c.args.mask c.args.stay c.args.onto c.loop-at.nodes c.loop-at.at c.loop-at.staying c.loop-at.leaving
    c.loop-at-test.true (eq-eqb _ _ c.if-node-mask.true) c.loop-at.invariant

pub loop-at-smaller : goal.loop-at-smaller
loop-at-smaller c =
    deal_falls c.loop-at.nodes c.loop-at.at (record (node_at c.loop-at.nodes c.loop-at.at) { next = c.loop-at.leaving })
    c.loop-at.invariant.at_linked c.loop-at-test.true

pub loop-at-preserved : goal.loop-at-preserved
loop-at-preserved c =
    IsDealing-leave c.args.nodes.now c.args.from c.args.mask c.args.stay c.args.onto c.loop-at.nodes c.loop-at.at c.loop-at.staying c.loop-at.leaving
    c.loop-at-test.true (ne_eqb _ _ c.if-node-mask.false) c.loop-at.invariant
