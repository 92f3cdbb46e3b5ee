use Rattle.std.proofs.Common.{length, ap, arith}
use Rattle.mm_partition.proofs.ContentLemmas.{extent_is}
use Rattle.mm_partition.proofs.rows.Partitions.extent.Goals as goal

pub returns : goal.returns
returns c = omega (arith, ap length c.as_slice.ensures.value, extent_is _ _ _ _ c.self.view_is)
