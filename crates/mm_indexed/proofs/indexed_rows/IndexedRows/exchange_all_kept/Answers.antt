use Rattle.std.proofs.Common.{sym, ◌∙◌}
use Rattle.mm_partition.specs.Places.{slot_at}
use Rattle.mm_indexed.proofs.Exchanging.{after_error, pairs_unchanged}
use Rattle.mm_indexed.proofs.indexed_rows.IndexedRows.exchange_all_kept.Goals as goal

pub exchange_each_kept-requires-then-is_err-clause-pairs : goal.exchange_each_kept-requires-then-is_err-clause-pairs
exchange_each_kept-requires-then-is_err-clause-pairs c =
    pairs_unchanged (slot_at c.args.self.now.places) (slot_at c.exchange_and_rebuild.new.self.places) c.args.exchanges.now
    (after_error c.exchange_and_rebuild.result (sym c.is_err.ensures.value ∙ c.if-is_err.true) c.exchange_and_rebuild.ensures.err) c.requires.pairs
