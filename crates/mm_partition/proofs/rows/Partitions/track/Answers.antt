use Rattle.std.proofs.Common.{arith}
use Rattle.mm_partition.proofs.ContentLemmas.{places-same}
use Rattle.mm_partition.proofs.FreeLemmas.{IsStored-column}
use Rattle.mm_partition.proofs.rows.Partitions.track.Goals as goal

pub invariant_of-self : goal.invariant_of-self
invariant_of-self c =
    IsStored-column _ _ _ _ _ c.self.inside.columns.items c.args.column c.index_mut.result.now c.track.new.self (omega arith) c.index_mut.ensures.value
    c.track.ensures.size c.track.ensures.room c.track.ensures.cells c.self.invariant

pub returns : goal.returns
returns c =
    places-same c.self.inside.columns.items c.self.inside.states.items _ c.args.column c.index_mut.result.now c.track.new.self _ c.self.view_is
    c.index_mut.ensures.value c.track.ensures.typed c.track.ensures.cells
