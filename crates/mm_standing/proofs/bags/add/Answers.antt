-- The change is added in the bag of its list, and the others are unchanged.
use Rattle.std.proofs.Common.{◌≡◌, ℤ, pos, ◌-◌, ◌+ℤ◌, ◌≤ℤ◌, ◌<ℤ◌, ◌^◌, List, sym, ap, ◌∙◌, subst, arith}
use Rattle.std.proofs.lemmas.Int.{to_z-of_z}
use mir.Syntax.{w64}
use Rattle.mm_partition.specs.Places.{Content}
use Rattle.mm_multiset.specs.Counts.{Adds, Entries, IsThere, count_in, row_at, total_of}
use Rattle.mm_standing.specs.Bags.{row_of}
use Rattle.mm_standing.specs.declared.change.RowChange.{RowChange}
use Rattle.mm_standing.proofs.Adding.{added, count_here, entries_here, slots_here, total_here}
use Rattle.mm_standing.proofs.bags.add.Goals as goal

pub add_at-requires-clause-entry : goal.add_at-requires-clause-entry
add_at-requires-clause-entry c =
    let bag = c.index_mut.result.now in
    subst (λ (ss : List Content). IsThere ss c.args.change.now.entry) (slots_here c.args.bags.now.items c.args.change.now.list bag bag c.requires.list
    c.index_mut.ensures.value) c.requires.entry

pub add_at-requires-clause-count : goal.add_at-requires-clause-count
add_at-requires-clause-count c =
    let bags = c.args.bags.now.items in
    let list = c.args.change.now.list in
    let bag = c.index_mut.result.now in
    let change : RowChange = record { list = list; change = record { row = row_of bags c.args.change.now; count = c.args.by } } in
    let slots = slots_here bags list bag bag c.requires.list c.index_mut.ensures.value in
    let entries = entries_here bags list bag bag c.requires.list c.index_mut.ensures.value in
    subst (λ (z : ℤ). pos 0 ≤ℤ (pos (count_in (row_at bag.slots c.args.change.now.entry) bag.entries) +ℤ z)) (sym (to_z-of_z w64 c.args.by c.ranges.by))
    (subst (λ (b : List Content × Entries). pos 0 ≤ℤ (pos (count_in (row_at b.0 c.args.change.now.entry) b.1) +ℤ c.args.by))
    (λ i. (slots i, entries i)) (count_here bags change c.requires.within))

pub add_at-requires-clause-total : goal.add_at-requires-clause-total
add_at-requires-clause-total c =
    let bags = c.args.bags.now.items in
    let list = c.args.change.now.list in
    let bag = c.index_mut.result.now in
    let change : RowChange = record { list = list; change = record { row = row_of bags c.args.change.now; count = c.args.by } } in
    subst (λ (z : ℤ). (pos (total_of bag.entries) +ℤ z) <ℤ pos (2 ^ 32 - 1)) (sym (to_z-of_z w64 c.args.by c.ranges.by))
    (subst (λ (es : Entries). (pos (total_of es) +ℤ c.args.by) <ℤ pos (2 ^ 32 - 1)) (entries_here bags list bag bag c.requires.list c.index_mut.ensures.value)
    (total_here bags change c.requires.within))

pub returns : goal.returns
returns c =
    let bags = c.args.bags.now.items in
    let list = c.args.change.now.list in
    let bag = c.index_mut.result.now in
    let new = c.add_at.new.self in
    let change : RowChange = record { list = list; change = record { row = row_of bags c.args.change.now; count = c.args.by } } in
    let cast = to_z-of_z w64 c.args.by c.ranges.by in
    let adds : Adds (record { row = row_at bag.slots c.args.change.now.entry; count = c.args.by }) bag.entries new.entries =
    subst (λ (z : ℤ). Adds (record { row = row_at bag.slots c.args.change.now.entry; count = z }) bag.entries new.entries) cast c.add_at.ensures.added in
    added bags change bag new c.requires.list c.index_mut.ensures.value
    (subst (λ (ss : List Content). Adds (record { row = row_at ss c.args.change.now.entry; count = c.args.by }) bag.entries new.entries)
    (sym (slots_here bags list bag bag c.requires.list c.index_mut.ensures.value)) adds)
    (subst (λ (z : ℤ). pos (total_of new.entries) ≡ pos (total_of bag.entries) +ℤ z) cast c.add_at.ensures.total)
    c.add_at.ensures.entries c.add_at.ensures.slots c.add_at.ensures.types c.add_at.ensures.feed
