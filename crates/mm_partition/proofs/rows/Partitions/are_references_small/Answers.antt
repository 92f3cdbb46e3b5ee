use Rattle.std.proofs.Common.{arith}
use Rattle.mm_partition.proofs.ContentLemmas.{references_small}
use Rattle.mm_partition.proofs.rows.Partitions.are_references_small.Goals as goal

pub returns : goal.returns
returns c = references_small _ _ _ _ c.self.view_is (omega (arith, c.self.invariant.few))
