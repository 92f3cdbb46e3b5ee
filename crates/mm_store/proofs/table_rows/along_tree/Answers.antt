use Rattle.std.proofs.Common.{subst, sym}
use Rattle.std.specs.List.{All}
use Rattle.mm_partition.specs.Places.{IsLive}
use Rattle.mm_store.proofs.table_rows.along_tree.Goals as goal

pub invariant_of-result : goal.invariant_of-result
invariant_of-result c = subst (All (IsLive c.args.relation.now.places)) (sym c.iter-walk.ensures) c.requires.live
