-- One more value is at the end.
use Rattle.mm_partition.specs.Views.{viewed}
use Rattle.mm_templist.specs.Runs.{referred}
use Rattle.mm_standing.proofs.Pushing.{pushed_value}
use Rattle.mm_standing.proofs.listing.push_row.Goals as goal

pub loop-i-preserved : goal.loop-i-preserved
loop-i-preserved c =
    pushed_value (referred c.args.values.now.items) (viewed c.args.row) c.loop-i.i c.loop-i.values.items c.push.new.self.items c.value.result c.value.ensures
    c.in_ok-push.ensures.items c.loop-i.invariant
