use Rattle.std.proofs.Common.{◌≡◌, sym, ◌∙◌, subst}
use Rattle.std.specs.Option.{option_map}
use Rattle.std.specs.List.{All}
use Rattle.std.proofs.lemmas.Result.{on_ok_weaker}
use Rattle.mm_value.specs.Views.{value_of}
use Rattle.mm_partition.specs.Places.{IsLive}
use Rattle.mm_indexed.specs.Kept.{StoredRows}
use Rattle.mm_indexed.specs.Reads.{Appends, IsRange}
use Rattle.mm_store.proofs.Joining.{one_relation}
use Rattle.mm_store.proofs.Looked.{live_range}
use Rattle.mm_store.specs.Looked.{IsIndexOn}
use Rattle.mm_store.proofs.view.View.range.Goals as goal

pub returns-clause-ok : goal.returns-clause-ok
returns-clause-ok c =
    on_ok_weaker c.append_range.result
    (λ each stored column at on.
    let same : c.relation.result.now ≡ stored = one_relation c.relation.result.now stored (sym c.relation.ensures.at ∙ at) in
    subst (λ (s : StoredRows). Appends (IsRange column s (option_map value_of c.args.low) (option_map value_of c.args.high)) c.args.out.now.items
    c.append_range.new.out.items) same
    (each column (subst (λ (s : StoredRows). IsIndexOn s column c.args.index) (sym same) on)))
    c.append_range.ensures.ok

pub returns-clause-live : goal.returns-clause-live
returns-clause-live c =
    on_ok_weaker c.append_range.result
    (λ each stored at.
    let same : c.relation.result.now ≡ stored = one_relation c.relation.result.now stored (sym c.relation.ensures.at ∙ at) in
    let (column, on, tree) = c.requires.tree stored at in
    subst (λ (s : StoredRows). All (IsLive s.places) c.args.out.now.items → All (IsLive s.places) c.append_range.new.out.items) same
    (live_range c.relation.result.now c.relation.ensures.whole.kept column
    (option_map value_of c.args.low) (option_map value_of c.args.high) c.args.out.now.items
    c.append_range.new.out.items
    (each column (subst (λ (s : StoredRows). IsIndexOn s column c.args.index) (sym same) on))))
    c.append_range.ensures.ok
