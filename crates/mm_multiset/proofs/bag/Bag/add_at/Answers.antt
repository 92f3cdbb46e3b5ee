-- The count of the slot changes.
use Rattle.std.proofs.Common.{get_or, ap, sym, ◌∙◌, subst, arith}
use Rattle.mm_partition.specs.Places.{Free}
use Rattle.mm_multiset.specs.Counts.{row_at}
use Rattle.mm_multiset.specs.Slots.{IsFed, entries_of}
use Rattle.mm_multiset.proofs.BagAdding.{adding, adds_at, at_least, at_most, cast_is, has_at, kept_at, sum_is, total_at, total_is, total_least}
use Rattle.mm_multiset.proofs.Told.{in_use_live}
use Rattle.mm_multiset.proofs.bag.Bag.add_at.Goals as goal

pub changed-self-inside-requires-clause-least : goal.changed-self-inside-requires-clause-least
changed-self-inside-requires-clause-least c =
    let row = row_at c.args.self.now.slots c.args.entry in
    let a = adding row c.args.by (c.self.invariant.0, c.self.invariant.1) (ap (λ v. v.entries) c.self.view_is) c.requires.count c.requires.total
    (let fits = c.self.ranges in omega arith) in
    total_least a (cast_is a)

pub add-requires-clause-least : goal.add-requires-clause-least
add-requires-clause-least c =
    let row = row_at c.args.self.now.slots c.args.entry in
    let a = adding row c.args.by (c.self.invariant.0, c.self.invariant.1) (ap (λ v. v.entries) c.self.view_is) c.requires.count c.requires.total
    (let fits = c.self.ranges in omega arith) in
    let live = in_use_live c.self.inside.rows.slots c.index_of.result row
    ((λ j. get_or (c.self.view_is j).slots (c.index_of.ensures j) Free) ∙ c.requires.entry.live) in
    at_least a (cast_is a) c.index_of.result live

pub add-requires-clause-most : goal.add-requires-clause-most
add-requires-clause-most c =
    let row = row_at c.args.self.now.slots c.args.entry in
    let a = adding row c.args.by (c.self.invariant.0, c.self.invariant.1) (ap (λ v. v.entries) c.self.view_is) c.requires.count c.requires.total
    (let fits = c.self.ranges in omega arith) in
    let live = in_use_live c.self.inside.rows.slots c.index_of.result row
    ((λ j. get_or (c.self.view_is j).slots (c.index_of.ensures j) Free) ∙ c.requires.entry.live) in
    at_most a (cast_is a) c.index_of.result live

pub invariant_of-self : goal.invariant_of-self
invariant_of-self c =
    let row = row_at c.args.self.now.slots c.args.entry in
    let a = adding row c.args.by (c.self.invariant.0, c.self.invariant.1) (ap (λ v. v.entries) c.self.view_is) c.requires.count c.requires.total
    (let fits = c.self.ranges in omega arith) in
    let live = in_use_live c.self.inside.rows.slots c.index_of.result row
    ((λ j. get_or (c.self.view_is j).slots (c.index_of.ensures j) Free) ∙ c.requires.entry.live) in
    let total = total_at a (cast_is a) c.index_of.result live c.add.new.self.counts c.add.ensures.counts in (
      kept_at a (cast_is a) c.index_of.result live c.add.new.self.counts c.add.ensures.counts,
      sum_is a (cast_is a) c.changed-self-inside.result (entries_of c.self.inside.rows.slots c.add.new.self.counts) c.changed-self-inside.ensures total,
      subst (IsFed c.self.inside.rows.slots) (sym c.add.ensures.feed) c.self.invariant.2,
    )

pub returns-clause-added : goal.returns-clause-added
returns-clause-added c =
    let row = row_at c.args.self.now.slots c.args.entry in
    let a = adding row c.args.by (c.self.invariant.0, c.self.invariant.1) (ap (λ v. v.entries) c.self.view_is) c.requires.count c.requires.total
    (let fits = c.self.ranges in omega arith) in
    let live = in_use_live c.self.inside.rows.slots c.index_of.result row
    ((λ j. get_or (c.self.view_is j).slots (c.index_of.ensures j) Free) ∙ c.requires.entry.live) in
    adds_at a (cast_is a) c.index_of.result live c.add.new.self.counts c.add.ensures.counts

pub returns-clause-entries : goal.returns-clause-entries
returns-clause-entries c =
    let row = row_at c.args.self.now.slots c.args.entry in
    let a = adding row c.args.by (c.self.invariant.0, c.self.invariant.1) (ap (λ v. v.entries) c.self.view_is) c.requires.count c.requires.total
    (let fits = c.self.ranges in omega arith) in
    let live = in_use_live c.self.inside.rows.slots c.index_of.result row
    ((λ j. get_or (c.self.view_is j).slots (c.index_of.ensures j) Free) ∙ c.requires.entry.live) in
    has_at a (cast_is a) c.index_of.result live c.add.new.self.counts c.add.ensures.counts

pub returns-clause-total : goal.returns-clause-total
returns-clause-total c =
    let row = row_at c.args.self.now.slots c.args.entry in
    let a = adding row c.args.by (c.self.invariant.0, c.self.invariant.1) (ap (λ v. v.entries) c.self.view_is) c.requires.count c.requires.total
    (let fits = c.self.ranges in omega arith) in
    let live = in_use_live c.self.inside.rows.slots c.index_of.result row
    ((λ j. get_or (c.self.view_is j).slots (c.index_of.ensures j) Free) ∙ c.requires.entry.live) in
    total_is a (cast_is a) (entries_of c.self.inside.rows.slots c.add.new.self.counts)
    (total_at a (cast_is a) c.index_of.result live c.add.new.self.counts c.add.ensures.counts)
