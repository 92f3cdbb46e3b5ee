use Rattle.std.proofs.Common.{◌≡◌, sym, subst}
use Rattle.std.specs.Option.{option_map}
use Rattle.std.proofs.lemmas.Result.{on_ok_weaker}
use Rattle.mm_indexed.specs.Reads.{Appends, IsRange}
use Rattle.mm_value.specs.Views.{value_of}
use Rattle.mm_store.specs.Looked.{IsIndexOn}
use Rattle.mm_store.proofs.Looked.{range_of_keys}
use Rattle.mm_store.proofs.index_ref.append_range.Goals as goal

pub returns-in-Key-clause-ok : goal.returns-in-Key-clause-ok
returns-in-Key-clause-ok c =
    let stored = c.args.relation.now in
    let low = option_map value_of c.args.low in
    let high = option_map value_of c.args.high in
    on_ok_weaker c.key_range.result
    (λ each column on.
    let key : column ≡ stored.key = subst (IsIndexOn stored column) c.in-Key.is on in
    subst (λ n. Appends (IsRange n stored low high) c.args.out.now.items c.key_range.new.out.items) (sym key)
    (range_of_keys stored c.is_kept.ensures low high c.args.out.now.items c.key_range.new.out.items (each c.requires.apart)))
    c.key_range.ensures.ok

pub returns-in-Tree-clause-ok : goal.returns-in-Tree-clause-ok
returns-in-Tree-clause-ok c =
    on_ok_weaker c.tree_range.result (λ each column on. each column (subst (IsIndexOn c.args.relation.now column) c.in-Tree.is on)) c.tree_range.ensures.ok
