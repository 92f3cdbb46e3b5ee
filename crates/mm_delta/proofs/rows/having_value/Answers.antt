use Rattle.mm_value.specs.Views.{value_of}
use Rattle.mm_delta.proofs.Refs.{found_by_value}
use Rattle.mm_store.proofs.Shown.{table_seen}
use Rattle.mm_delta.proofs.rows.having_value.Goals as goal

pub matches-requires-clause-index : goal.matches-requires-clause-index
matches-requires-clause-index c = λ stored at. (c.args.look_up.now.column, c.requires.served stored at)

pub returns : goal.returns
returns c = λ stored at.
    found_by_value stored (table_seen c.args.view.now c.args.table stored at).kept c.args.look_up.now.column c.args.look_up.now.index (value_of c.args.value)
    c.new-found.result.items c.matches.new.out.items (c.requires.served stored at) c.new-found.ensures.items
    (c.in_ok-matches.ensures.ok stored c.args.look_up.now.column at (c.requires.served stored at))
