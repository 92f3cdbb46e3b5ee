use Rattle.std.proofs.Common.{◌≡◌, ◌≤◌, [], length, refl, sym, ◌∙◌, subst}
use Rattle.std.specs.List.{All, filter}
use Rattle.std.proofs.lemmas.List.Elements.{All-nil}
use Rattle.std.proofs.lemmas.Result.{IfOk-weaker}
use Rattle.mm_value.specs.Views.{value_of}
use Rattle.mm_partition.specs.Places.{IsLive, slot_at}
use Rattle.mm_indexed.specs.Kept.{StoredRows}
use Rattle.mm_indexed.specs.Reads.{AreMatches, HasIndex, has_value}
use Rattle.mm_schema.specs.declared.index.IndexKind.TheVariants as kind
use Rattle.mm_store.proofs.Joining.{one_relation}
use Rattle.mm_store.proofs.Looked.{live_matches}
use Rattle.mm_store.proofs.view.View.find_by_hash.Goals as goal

pub find_by_hash-requires : goal.find_by_hash-requires
find_by_hash-requires c = c.requires.index c.relation.result.now c.relation.ensures.at

pub returns-clause-found : goal.returns-clause-found
returns-clause-found c =
    IfOk-weaker c.find_by_hash.result _ _
    (λ found each stored column at on.
    let same : c.relation.result.now ≡ stored = one_relation c.relation.result.now stored (sym c.relation.ensures.at ∙ at) in
    subst (λ (s : StoredRows). AreMatches column (slot_at s.places) (value_of c.args.value) s.refs found.items) same
    (each column (subst (λ (s : StoredRows). HasIndex s.indexes c.args.index column kind.Hash) (sym same) on)))
    c.find_by_hash.ensures.found

pub returns-clause-live : goal.returns-clause-live
returns-clause-live c =
    IfOk-weaker c.find_by_hash.result _ _
    (λ found each stored at.
    let same : c.relation.result.now ≡ stored = one_relation c.relation.result.now stored (sym c.relation.ensures.at ∙ at) in
    let (column, on) = c.requires.index c.relation.result.now c.relation.ensures.at in
    subst (λ (s : StoredRows). All (IsLive s.places) found.items) same
    (live_matches c.relation.result.now c.relation.ensures.whole.kept column
    (value_of c.args.value) [] found.items (found.items, refl, each column on) (All-nil (IsLive c.relation.result.now.places))))
    c.find_by_hash.ensures.found

pub returns-clause-few : goal.returns-clause-few
returns-clause-few c = λ stored column at on few.
    let same : c.relation.result.now ≡ stored = one_relation c.relation.result.now stored (sym c.relation.ensures.at ∙ at) in
    c.find_by_hash.ensures.few column (subst (λ (s : StoredRows). HasIndex s.indexes c.args.index column kind.Hash) (sym same) on)
    (subst (λ (s : StoredRows). length (filter (has_value column (slot_at s.places) (value_of c.args.value)) s.refs) ≤ 4) (sym same) few)
