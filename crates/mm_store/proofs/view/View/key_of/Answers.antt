use Rattle.std.proofs.Common.{◌≡◌, ◌<◌, length, ap, sym, ◌∙◌, subst}
use Rattle.mm_indexed.specs.Kept.{StoredRows}
use Rattle.mm_store.proofs.Joining.{one_relation}
use Rattle.mm_store.proofs.Shown.{table_seen}
use Rattle.mm_store.proofs.view.View.key_of.Goals as goal

pub returns-clause-within : goal.returns-clause-within
returns-clause-within c = λ stored at.
    let same : c.relation.result.now ≡ stored = one_relation c.relation.result.now stored (sym c.relation.ensures.at ∙ at) in
    subst (λ n. n < length stored.places.types) (sym (c.key.ensures ∙ ap (λ (s : StoredRows). s.key) same))
    (table_seen c.args.self.now c.args.table stored at).kept.key_in
