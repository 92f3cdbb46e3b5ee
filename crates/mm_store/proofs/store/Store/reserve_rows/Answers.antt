use Rattle.std.proofs.Common.{subst, arith}
use Rattle.std.proofs.lemmas.Result.{on_ok_weaker}
use Rattle.mm_store.specs.Staging.{HasStaged}
use Rattle.mm_store.specs.Tables.{Tables, tables_of}
use Rattle.mm_store.proofs.StagedBases.{KeepsTaken-reserved}
use Rattle.mm_store.proofs.Staging.{HasStaged-from}
use Rattle.mm_tables.proofs.Slots.{both_ok}
use Rattle.mm_store.proofs.store.Store.reserve_rows.Goals as goal

pub returns-clause-room : goal.returns-clause-room
returns-clause-room c =
    on_ok_weaker c.reserve-result.result
    (λ all. record { capacity = all.0.0; log_room = omega (arith, all.0.1); entries = all.1 })
    (both_ok c.reserve-result.result _ _ (both_ok c.reserve-result.result _ _ c.reserve-result.ensures.capacity c.reserve-result.ensures.log_room)
    c.reserve-result.ensures.entries)

pub returns-clause-kept : goal.returns-clause-kept
returns-clause-kept c =
    subst (λ (s : Tables). HasStaged c.args.table s (tables_of c.reserve-result.new.self)) c.self.view_is
    (HasStaged-from c.args.table c.self.inside.base c.reserve-result.new.self
    (KeepsTaken-reserved c.args.table c.self.inside.base c.reserve-result.new.self c.reserve-result.ensures.state c.reserve-result.ensures.log
    c.reserve-result.ensures.shapes c.reserve-result.ensures.others c.reserve-result.ensures.links)
    (record { rows = c.table.result.now; there = c.table.ensures.table; are = c.table.ensures.rows })
    (record { rows = c.table-2.result.now; there = c.table-2.ensures.table; are = c.table-2.ensures.rows }))
