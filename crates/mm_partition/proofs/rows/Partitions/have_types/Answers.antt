use Rattle.mm_partition.proofs.ContentLemmas.{live_typed}
use Rattle.mm_partition.proofs.rows.Partitions.have_types.Goals as goal

pub returns : goal.returns
returns c at row is = live_typed _ _ _ _ at row c.self.view_is is
