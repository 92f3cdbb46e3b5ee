use Rattle.std.proofs.Common.{Some, []}
use Rattle.mm_partition.specs.Views.{viewed}
use Rattle.mm_delta.specs.EditIndex.{rows_under}
use Rattle.mm_delta.proofs.Placed.{having_more}
use Rattle.mm_delta.proofs.coming_index.ComingIndex.new.Goals as goal

pub loop-row-preserved : goal.loop-row-preserved
loop-row-preserved c = record {
  under = λ value.
      having_more viewed (Some (c.args.column, value)) c.args.come.now c.loop-row.row-index c.row-item.result []
      (rows_under value c.loop-row.rows.entries) (rows_under value c.add_coming.new.rows.entries) c.loop-row-test.true c.row-item.is
      (c.loop-row.invariant.under value) (c.in_ok-add_coming.ensures.added value);
  past = c.in_ok-add_coming.ensures.past c.loop-row.invariant.past;
}
