use Rattle.std.proofs.Common.{suc, subst, arith}
use Rattle.std.specs.List.{All}
use Rattle.mm_partition.specs.Places.{IsLive}
use Rattle.mm_store.proofs.table_rows.StoredRows.next.Goals as goal

pub invariant_of-self-2 : goal.invariant_of-self-2
invariant_of-self-2 c =
    let live = subst (All (IsLive c.self.inside.relation.now.places)) c.in_ok-at.ensures.steps c.self.invariant in
    λ k d within. live (suc k) d (omega (arith, within))
