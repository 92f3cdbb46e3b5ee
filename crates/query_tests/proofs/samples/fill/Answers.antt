use Rattle.std.proofs.Common.{◌<◌, ℕ, sym, ap, subst, arith}
use Rattle.mm_store.specs.Tables.{Tables}
use Rattle.query_tests.proofs.StillSample.{indexed, two_at, unchanged}
use Rattle.query_tests.proofs.samples.fill.Goals as goal

pub add_index-requires-clause-there : goal.add_index-requires-clause-there
add_index-requires-clause-there c = subst (λ (n : ℕ). c.args.table < n) (sym c.insert.ensures.two) c.requires.there

pub add_index-requires-clause-column : goal.add_index-requires-clause-column
add_index-requires-clause-column c =
    λ stored at. subst (λ (n : ℕ). 1 < n) (sym (two_at c.insert.new.store c.args.table c.insert.ensures stored at)) (omega arith)

pub returns-in_err-add_index : goal.returns-in_err-add_index
returns-in_err-add_index c =
    unchanged c.insert.new.store c.add_index.new.self (ap (λ (s : Tables). s.tables) c.in_err-add_index.ensures.err) c.insert.ensures

pub returns : goal.returns
returns c = indexed c.insert.new.store c.add_index.new.self c.args.table 1 c.args.kind c.requires.there c.insert.ensures c.in_ok-add_index.ensures.ok
