use Rattle.store_tests.proofs.PlainStores.{plain_indexed}
use Rattle.store_tests.proofs.stores.add_index.Goals as goal

pub returns-clause-count : goal.returns-clause-count
returns-clause-count c =
    (plain_indexed c.args.store.now c.add_index.new.self c.args.table 1 c.args.kind c.requires.there c.requires.plain c.in_ok-add_index.ensures.ok).0

pub returns-clause-plain : goal.returns-clause-plain
returns-clause-plain c =
    (plain_indexed c.args.store.now c.add_index.new.self c.args.table 1 c.args.kind c.requires.there c.requires.plain c.in_ok-add_index.ensures.ok).1
