use Rattle.std.proofs.Common.{◌≡◌, ◌+◌, subst, arith}
use Rattle.std.specs.Prelude.{count_by}
use Rattle.mm_partition.specs.Places.{Places, extent_of, holds_row}
use Rattle.mm_partition.proofs.ContentLemmas.{length-contents}
use Rattle.mm_partition.proofs.TrimLemmas.{count_taken}
use Rattle.mm_partition.proofs.rows.Partitions.free_slots.Goals as goal

pub returns : goal.returns
returns c =
    let columns = c.self.inside.columns.items in
    let states = c.self.inside.states.items in
    subst (λ (p : Places). c.len.result + count_by holds_row p.slots ≡ extent_of p) c.self.view_is
    (omega (arith, count_taken 0 columns states, length-contents 0 columns states, c.self.invariant.free_slots.counted))
