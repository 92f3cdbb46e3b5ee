use Rattle.std.proofs.Common.{refl}
use Rattle.mm_delta.proofs.Refs.{found_by_key}
use Rattle.mm_store.proofs.Shown.{table_seen}
use Rattle.mm_delta.proofs.rows.all_of.Goals as goal

pub range-requires-clause-tree : goal.range-requires-clause-tree
range-requires-clause-tree c = λ stored here. (stored.key, refl, tt)

pub returns : goal.returns
returns c = λ stored at.
    found_by_key stored (table_seen c.args.view.now c.args.table stored at).kept c.new-found.result.items c.range.new.out.items c.new-found.ensures.items
    (c.in_ok-range.ensures.ok stored stored.key at refl)
