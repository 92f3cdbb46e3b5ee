use Rattle.std.proofs.Common.{sym, ◌∙◌, subst, ◌≡◌}
use Rattle.std.specs.List.{All}
use Rattle.std.proofs.lemmas.Result.{on_ok_weaker}
use Rattle.mm_value.specs.Views.{value_of}
use Rattle.mm_partition.specs.Places.{IsLive, slot_at}
use Rattle.mm_indexed.specs.Kept.{StoredRows}
use Rattle.mm_indexed.specs.Reads.{Appends, AreMatches}
use Rattle.mm_store.proofs.Joining.{one_relation}
use Rattle.mm_store.proofs.Looked.{live_matches}
use Rattle.mm_store.specs.Looked.{IsIndexOn}
use Rattle.mm_store.proofs.view.View.matches.Goals as goal

pub returns-clause-ok : goal.returns-clause-ok
returns-clause-ok c =
    on_ok_weaker c.append_matches.result
    (λ each stored column at on.
    let same : c.relation.result.now ≡ stored = one_relation c.relation.result.now stored (sym c.relation.ensures.at ∙ at) in
    subst (λ (s : StoredRows). Appends (AreMatches column (slot_at s.places) (value_of c.args.value) s.refs) c.args.out.now.items
    c.append_matches.new.out.items) same
    (each column (subst (λ (s : StoredRows). IsIndexOn s column c.args.index) (sym same) on)))
    c.append_matches.ensures.ok

pub returns-clause-live : goal.returns-clause-live
returns-clause-live c =
    on_ok_weaker c.append_matches.result
    (λ each stored at.
    let same : c.relation.result.now ≡ stored = one_relation c.relation.result.now stored (sym c.relation.ensures.at ∙ at) in
    let (column, on) = c.requires.index stored at in
    subst (λ (s : StoredRows). All (IsLive s.places) c.args.out.now.items → All (IsLive s.places) c.append_matches.new.out.items) same
    (live_matches c.relation.result.now c.relation.ensures.whole.kept column
    (value_of c.args.value) c.args.out.now.items c.append_matches.new.out.items
    (each column (subst (λ (s : StoredRows). IsIndexOn s column c.args.index) (sym same) on))))
    c.append_matches.ensures.ok
