use Rattle.std.proofs.Common.{subst}
use Rattle.std.proofs.lemmas.Result.{on_ok_weaker}
use Rattle.mm_value.specs.Views.{value_of}
use Rattle.mm_store.specs.Looked.{IsIndexOn}
use Rattle.mm_store.proofs.Looked.{appends_matches}
use Rattle.mm_store.proofs.index_ref.append_matches.Goals as goal

pub returns-in-Tree-clause-ok : goal.returns-in-Tree-clause-ok
returns-in-Tree-clause-ok c =
    let stored = c.args.relation.now in
    on_ok_weaker c.tree_range.result
    (λ each column on.
    appends_matches column stored (value_of c.args.value) c.args.out.now.items c.tree_range.new.out.items
    (each column (subst (IsIndexOn stored column) c.in-Tree.is on)))
    c.tree_range.ensures.ok
