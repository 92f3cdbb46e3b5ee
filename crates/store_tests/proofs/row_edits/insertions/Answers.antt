use Rattle.std.proofs.Common.{◌+◌, ◌-◌, List, length, sym, subst, arith}
use Rattle.mm_store.proofs.Staging.{HasStaged-both}
use Rattle.mm_tables.specs.declared.edit.Edit.{Edit}
use Rattle.store_tests.specs.RowEdits.{AreReadyAt}
use Rattle.store_tests.proofs.StagedRows.{fewer_rows, none_ready, none_replaced, plain_staged, still_there}
use Rattle.store_tests.proofs.row_edits.insertions.Goals as goal

pub loop-row-init : goal.loop-row-init
loop-row-init c = record {
  staged = c.reserve_rows.ensures.kept;
  room = λ left is. fewer_rows (length c.args.rows.now) left c.args.table c.reserve_rows.new.self (omega (arith, is)) c.in_ok-reserve_rows.ensures.room;
  ready = subst (AreReadyAt c.reserve_rows.new.self c.args.table) (sym c.in_ok-edits.ensures.items) (none_ready c.reserve_rows.new.self c.args.table);
}

pub insertion-requires-clause-there : goal.insertion-requires-clause-there
insertion-requires-clause-there c = still_there c.args.table c.args.store.now c.loop-row.store c.requires.there c.loop-row.invariant.staged

pub insertion-requires-clause-plain : goal.insertion-requires-clause-plain
insertion-requires-clause-plain c =
    plain_staged c.args.table c.args.store.now c.loop-row.store c.requires.there c.loop-row.invariant.staged c.requires.plain

pub insertion-requires-clause-room : goal.insertion-requires-clause-room
insertion-requires-clause-room c =
    let left = length c.args.rows.now - c.loop-row.row-index in
    fewer_rows left 1 c.args.table c.loop-row.store (omega (arith, c.loop-row-test.true))
    (c.loop-row.invariant.room left (omega (arith, c.loop-row-test.true)))

pub returns-in_err-push-clause-staged : goal.returns-in_err-push-clause-staged
returns-in_err-push-clause-staged c =
    HasStaged-both c.args.table c.args.store.now c.loop-row.store c.insertion.new.store c.loop-row.invariant.staged c.insertion.ensures.brings.staged

pub loop-row-preserved : goal.loop-row-preserved
loop-row-preserved c =
    let more = c.insertion.ensures.brings in
    record {
      staged = HasStaged-both c.args.table c.args.store.now c.loop-row.store c.insertion.new.store c.loop-row.invariant.staged more.staged;
      room = λ left is. more.room left (c.loop-row.invariant.room (left + 1) (omega (arith, is)));
      ready = subst (AreReadyAt c.insertion.new.store c.args.table) (sym {A = List Edit} c.in_ok-push.ensures.items)
          (more.ready c.loop-row.edits.items c.loop-row.invariant.ready (none_replaced c.insertion.result c.loop-row.edits.items c.insertion.ensures.replaces));
    }

pub returns-clause-staged : goal.returns-clause-staged
returns-clause-staged c = c.loop-row.invariant.staged

pub returns-clause-ready : goal.returns-clause-ready
returns-clause-ready c = c.loop-row.invariant.ready
