use Rattle.std.proofs.Common.{◌≡◌, ◌∙◌, sym, subst}
use Rattle.mm_partition.specs.Places.{AreReferencesSmall}
use Rattle.mm_indexed.specs.Kept.{StoredRows}
use Rattle.mm_store.proofs.Joining.{one_relation}
use Rattle.mm_store.proofs.view.View.are_references_small.Goals as goal

pub returns : goal.returns
returns c = λ stored at.
    let same : c.relation.result.now ≡ stored = one_relation c.relation.result.now stored (sym c.relation.ensures.at ∙ at) in
    subst (λ (s : StoredRows). AreReferencesSmall s.places) same c.are_references_small.ensures
