use Rattle.std.proofs.Common.{◌≡◌, sym, ◌∙◌, subst}
use Rattle.std.specs.List.{All}
use Rattle.mm_partition.specs.Places.{IsLive}
use Rattle.mm_indexed.specs.Kept.{StoredRows}
use Rattle.mm_indexed.specs.Reads.{IsWalk}
use Rattle.mm_store.proofs.Joining.{one_relation}
use Rattle.mm_store.specs.Looked.{IsIndexOn}
use Rattle.mm_store.proofs.view.View.walk.Goals as goal

pub returns-clause-walk : goal.returns-clause-walk
returns-clause-walk c = λ stored column at on.
    let same : c.relation.result.now ≡ stored = one_relation c.relation.result.now stored (sym c.relation.ensures.at ∙ at) in
    subst (λ (s : StoredRows). IsWalk column s c.tree_walk.result) same
    (c.tree_walk.ensures.walk column (subst (λ (s : StoredRows). IsIndexOn s column c.args.index) (sym same) on))

pub returns-clause-keys : goal.returns-clause-keys
returns-clause-keys c = λ is stored at.
    subst (λ (s : StoredRows). c.tree_walk.result ≡ s.refs) (one_relation c.relation.result.now stored (sym c.relation.ensures.at ∙ at))
    (c.tree_walk.ensures.keys is)

pub returns-clause-live : goal.returns-clause-live
returns-clause-live c = λ stored at.
    subst (λ (s : StoredRows). All (IsLive s.places) c.tree_walk.result) (one_relation c.relation.result.now stored (sym c.relation.ensures.at ∙ at))
    c.tree_walk.ensures.live
