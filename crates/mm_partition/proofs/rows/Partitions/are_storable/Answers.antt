use Rattle.mm_partition.proofs.ContentLemmas.{rows_storable}
use Rattle.mm_partition.proofs.rows.Partitions.are_storable.Goals as goal

pub returns : goal.returns
returns c = rows_storable _ _ _ _ c.self.view_is c.self.invariant.storable
