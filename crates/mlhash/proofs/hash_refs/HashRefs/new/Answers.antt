use Rattle.mlhash.proofs.NewLemmas.{new_table}
use Rattle.mlhash.proofs.hash_refs.HashRefs.new.Goals as goal

pub invariant_of-result : goal.invariant_of-result
invariant_of-result c = new_table c.new.result c.new-2.result.items c.new.ensures c.new-2.ensures.items
