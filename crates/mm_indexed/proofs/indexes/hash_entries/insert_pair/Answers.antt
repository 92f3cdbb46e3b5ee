use Rattle.std.proofs.Common.{map, sym, ◌∙◌}
use Rattle.mm_partition.specs.Places.{slot_at}
use Rattle.mm_indexed.specs.HashedPairs.{hashed_pair}
use Rattle.mm_indexed.specs.Stays.{agrees}
use Rattle.mm_indexed.proofs.Entries.{beside_stayed, without_moved, pair_inserted_beside}
use Rattle.mm_indexed.proofs.indexes.hash_entries.insert_pair.Goals as goal

pub returns-then-agree-clause-pairs : goal.returns-then-agree-clause-pairs
returns-then-agree-clause-pairs c held was =
    beside_stayed (map (hashed_pair c.args.column (slot_at c.args.rows.now))) c.args.at c.args.pairs.now.entries held
    (agrees c.args.column c.args.column (slot_at c.args.rows.now) c.args.at c.args.other) (sym c.agree.ensures ∙ c.if-agree.true) was

pub returns-clause-pairs : goal.returns-clause-pairs
returns-clause-pairs c held was =
    pair_inserted_beside (hashed_pair c.args.column (slot_at c.args.rows.now)) c.args.at c.args.pairs.now.entries c.put_pair.new.pairs.entries held
    c.put_pair.ensures.put
    (without_moved (map (hashed_pair c.args.column (slot_at c.args.rows.now))) c.args.at c.args.pairs.now.entries held
    (agrees c.args.column c.args.column (slot_at c.args.rows.now) c.args.at c.args.other) (sym c.agree.ensures ∙ c.if-agree.false) was)
