use Rattle.mlhash.proofs.CopyLemmas.{IsCopying}
use Rattle.std.proofs.Common.{vec_len, vec_capacity}
use Rattle.mlhash.proofs.hash_refs.HashRefs.copy_all.Given as goal

abbrev pub invariant-loop-node : goal.invariant-loop-node
invariant-loop-node l =
    IsCopying l.node-items l.node-index l.fn.out.items l.out.items (vec_len l.out) (vec_capacity l.out)
