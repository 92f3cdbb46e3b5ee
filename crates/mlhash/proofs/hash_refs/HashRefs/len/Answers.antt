use Rattle.std.proofs.Common.{sym, ap, ◌∙◌, length}
use Rattle.mlhash.proofs.BagLemmas.{length-entries}
use Rattle.mlhash.proofs.hash_refs.HashRefs.len.Goals as goal

pub returns : goal.returns
returns c =
    sym c.self.invariant.counted ∙ sym (length-entries c.self.inside.nodes.items) ∙ ap (λ b. length b.entries) c.self.view_is
