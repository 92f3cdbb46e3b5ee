use Rattle.std.proofs.Common.{take}
use Rattle.mm_partition.specs.Places.{slot_at}
use Rattle.mm_indexed.specs.Exchanges.{AgreeIn}
use Rattle.mm_indexed.proofs.exchange.agree_in.Given as goal

abbrev pub invariant-loop-exchange : goal.invariant-loop-exchange
invariant-loop-exchange l = AgreeIn l.column (slot_at l.rows) (take l.exchange-index l.exchanges)
