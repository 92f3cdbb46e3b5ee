use Rattle.std.proofs.Common.{◌≡◌, ◌++◌}
use Rattle.mlhash.proofs.hash_refs.HashRefs.matches.Given as goal

abbrev pub invariant-loop-reference : goal.invariant-loop-reference
invariant-loop-reference l = record {
  appended : l.out.items ≡ l.initial.out.items ++ l.yielded;
  whole : l.initial.reference-iterator ≡ l.yielded ++ l.reference-iterator;
}
