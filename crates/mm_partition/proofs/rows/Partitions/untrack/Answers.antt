use Rattle.std.proofs.Common.{arith}
use Rattle.mm_partition.proofs.ContentLemmas.{places-same}
use Rattle.mm_partition.proofs.FreeLemmas.{IsStored-column}
use Rattle.mm_partition.proofs.rows.Partitions.untrack.Goals as goal

pub invariant_of-self : goal.invariant_of-self
invariant_of-self c =
    IsStored-column _ _ _ _ _ c.self.inside.columns.items c.args.column c.index_mut.result.now c.untrack.new.self (omega arith) c.index_mut.ensures.value
    c.untrack.ensures.size c.untrack.ensures.room c.untrack.ensures.cells c.self.invariant

pub returns-then-column-len : goal.returns-then-column-len
returns-then-column-len c =
    places-same c.self.inside.columns.items c.self.inside.states.items _ c.args.column c.index_mut.result.now c.untrack.new.self _ c.self.view_is
    c.index_mut.ensures.value c.untrack.ensures.typed c.untrack.ensures.cells
