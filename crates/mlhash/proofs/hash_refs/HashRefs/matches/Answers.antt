use Rattle.std.proofs.Common.{◌++◌, IsPermutation, sym, ap, ◌∙◌, subst}
use Rattle.std.proofs.lemmas.List.{append-nil}
use Rattle.mlhash.specs.Bag.{refs_of}
use Rattle.mlhash.proofs.hash_refs.HashRefs.matches.Goals as goal

pub returns-clause-ok : goal.returns-clause-ok
returns-clause-ok c =
    let yielded = c.loop-reference.yielded in
    let all = c.loop-reference.invariant.whole ∙ ap (λ rest. yielded ++ rest) c.in-None.ensures.steps.0 ∙ append-nil yielded in
    record {
      behind = yielded;
      appends = c.loop-reference.invariant.appended;
      same_bag = subst (λ refs. IsPermutation refs (refs_of c.args.hash c.args.self.now.entries))
          (sym c.into_iter-reference-iterator.ensures.into_iter_gives ∙ all) c.matching-reference-items.ensures;
    }
