use Rattle.std.proofs.Common.{◌≤◌, ap, arith, length, vec_capacity}
use Rattle.mlhash.specs.Bag.{Bag}
use Rattle.mlhash.proofs.BagLemmas.{length-entries}
use Rattle.mlhash.proofs.NewLemmas.{new_table}
use Rattle.mlhash.proofs.hash_refs.HashRefs.clear.Goals as goal

pub invariant_of-self : goal.invariant_of-self
invariant_of-self c = new_table c.clear.new.self c.clear-2.new.self.items c.clear.ensures c.clear-2.ensures.items

pub returns-clause-spare : goal.returns-clause-spare
returns-clause-spare c =
    let i = c.self.inside in
    let fits : length i.nodes.items ≤ vec_capacity i.nodes = omega (arith, i.nodes.ok.0, i.nodes.ok.1) in
    omega (
      arith,
      fits,
      c.clear-2.ensures.capacity,
      c.self.invariant.counted,
      c.self.invariant.pool.rest,
      c.self.invariant.pool.linked.few,
      length-entries i.nodes.items,
      ap (λ (b : Bag). b.spare) c.self.view_is,
      ap (λ (b : Bag). length b.entries) c.self.view_is,
    )
