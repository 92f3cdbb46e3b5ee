-- The entry may be removed from the bag of the change's list, and the others are unchanged.
use Rattle.std.proofs.Common.{List, length, ap, arith}
use Rattle.mm_partition.specs.Places.{Content}
use Rattle.mm_standing.proofs.Adding.{purged, slots_here}
use Rattle.mm_standing.proofs.bags.remove.Goals as goal

pub remove_if_zero-requires : goal.remove_if_zero-requires
remove_if_zero-requires c =
    let bag = c.index_mut.result.now in
    let here = slots_here c.args.bags.now.items c.args.change.now.list bag bag c.requires.list c.index_mut.ensures.value in
    omega (arith, c.requires.slot, ap (λ (ss : List Content). length ss) here)

pub returns : goal.returns
returns c =
    let e = c.remove_if_zero.ensures in
    purged c.args.bags.now.items c.args.change.now c.index_mut.result.now c.remove_if_zero.new.self c.requires.list c.index_mut.ensures.value
    e.counts e.total e.gone e.others e.beside e.slots e.types e.feed
