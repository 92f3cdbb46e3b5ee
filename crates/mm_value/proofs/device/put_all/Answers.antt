use Rattle.std.proofs.Common.{rules}
use Rattle.mm_value.proofs.Writing.{Appends-more}
use Rattle.mm_value.specs.Watched.{inner_of}
use Rattle.mm_value.proofs.device.put_all.Goals as goal

pub loop-rest-preserved : goal.loop-rest-preserved
loop-rest-preserved g c = (
  search rules,
  Appends-more _ (g.W.Write.contents (inner_of c.loop-rest.writer)) _ c.args.bytes.now c.loop-rest.rest.now c.in-Ok.taken
      c.in-Ok.ensures.bound c.loop-rest.invariant.1 c.in-Ok.ensures.bytes,
)
