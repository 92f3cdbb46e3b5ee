-- An entry with the count 0 is removed, if there is one.
use Rattle.std.proofs.Common.{◌≡◌, None, false, map, not, sym, ap, ◌∙◌, subst, arith}
use Rattle.std.specs.Prelude.{◌==◌}
use Rattle.mm_value.specs.Equality.{same_row}
use Rattle.mm_multiset.specs.Counts.{Counts, IsThere, MayFree, count_in, has_entry, row_at, total_of}
use Rattle.mm_multiset.specs.Slots.{entries_of, in_use}
use Rattle.mm_multiset.proofs.Recounting.{count_there}
use Rattle.mm_multiset.proofs.Removing.{beside_removed, counts_removed, gone_removed, others_removed, read_count, slots_removed, total_removed}
use Rattle.mm_multiset.proofs.Told.{in_use_live}
use Rattle.mm_multiset.proofs.bag.Bag.remove_if_zero.Goals as goal

pub take-requires-clause-zero : goal.take-requires-clause-zero
take-requires-clause-zero c =
    read_count c.self.inside.counts.counts c.args.entry.slot c.index_of-slot.result c.count.result c.index_of-slot.ensures c.count.ensures ∙ c.if-count-eq0.true

pub invariant_of-self : goal.invariant_of-self
invariant_of-self c = (
  c.take.ensures.kept,
  c.self.invariant.1 ∙ sym (total_removed c.self.inside.rows c.take.new.rows c.self.inside.counts.counts c.args.entry
      c.self.invariant.0.once c.take.result c.take.ensures.taken c.take.ensures.same),
  c.take.ensures.is_fed,
)

pub returns-then-count-eq0-clause-gone : goal.returns-then-count-eq0-clause-gone
returns-then-count-eq0-clause-gone c =
    subst (λ (v : Counts). IsThere v.slots c.args.entry → count_in (row_at v.slots c.args.entry) v.entries ≡ 0
    → has_entry (row_at v.slots c.args.entry) (entries_of c.take.new.rows.slots c.self.inside.counts.counts) ≡ false) c.self.view_is
    (λ there is_0. gone_removed c.self.inside.rows c.take.new.rows c.self.inside.counts.counts c.args.entry c.self.invariant.0.once c.take.result
    c.take.ensures.taken c.take.ensures.same (c.take.ensures.found.1 there))

pub returns-then-count-eq0-clause-counts : goal.returns-then-count-eq0-clause-counts
returns-then-count-eq0-clause-counts c = λ other. counts_removed c.self.inside.rows c.take.new.rows c.self.inside.counts.counts c.args.entry
    c.self.invariant.0.once c.take.result c.take.ensures.taken c.take.ensures.same other ∙ ap (λ v. count_in other v.entries) c.self.view_is

pub returns-then-count-eq0-clause-total : goal.returns-then-count-eq0-clause-total
returns-then-count-eq0-clause-total c = total_removed c.self.inside.rows c.take.new.rows c.self.inside.counts.counts c.args.entry c.self.invariant.0.once
    c.take.result c.take.ensures.taken c.take.ensures.same ∙ ap (λ v. total_of v.entries) c.self.view_is

pub returns-then-count-eq0-clause-others : goal.returns-then-count-eq0-clause-others
returns-then-count-eq0-clause-others c = λ other has.
    ap (λ v. has_entry other v.entries) (sym c.self.view_is)
    ∙ others_removed c.self.inside.rows c.take.new.rows c.self.inside.counts.counts c.args.entry c.self.invariant.0.once c.take.result c.take.ensures.taken
    c.take.ensures.same other has

pub returns-then-count-eq0-clause-beside : goal.returns-then-count-eq0-clause-beside
returns-then-count-eq0-clause-beside c = λ other apart.
    beside_removed c.self.inside.rows c.take.new.rows c.self.inside.counts.counts c.args.entry c.self.invariant.0.once c.take.result c.take.ensures.taken
    c.take.ensures.same other
    (ap (λ v. same_row (row_at v.slots c.args.entry) other) c.self.view_is ∙ apart)
    ∙ ap (λ v. has_entry other v.entries) c.self.view_is

pub returns-then-count-eq0-clause-slots : goal.returns-then-count-eq0-clause-slots
returns-then-count-eq0-clause-slots c =
    let now : Counts = record {
      slots = map in_use c.take.new.rows.slots;
      held = c.take.new.rows.slots;
      entries = entries_of c.take.new.rows.slots c.self.inside.counts.counts;
      feed = None;
      room = 0;
      types = c.take.new.rows.types;
    } in
    subst (λ (v : Counts). MayFree c.args.entry v now) c.self.view_is
    (slots_removed c.self.inside.rows c.take.new.rows c.self.inside.counts.counts c.args.entry c.self.invariant.0.once c.take.result c.take.ensures.taken
    c.take.ensures.same (not (c.told-is_owed.result == 0)) c.take.ensures.freed)

pub returns-else-count-eq0-clause-gone : goal.returns-else-count-eq0-clause-gone
returns-else-count-eq0-clause-gone c =
    subst (λ (v : Counts). IsThere v.slots c.args.entry → count_in (row_at v.slots c.args.entry) v.entries ≡ 0
    → has_entry (row_at v.slots c.args.entry) c.args.self.now.entries ≡ false) c.self.view_is
    (λ there is_0.
    let slots = c.self.inside.rows.slots in
    let counts = c.self.inside.counts.counts in
    let row = row_at (map in_use slots) c.args.entry in
    let read = read_count counts c.args.entry.slot c.index_of-slot.result c.count.result c.index_of-slot.ensures c.count.ensures in
    let count = count_there slots counts c.self.inside.by_hash.entries c.args.entry.slot.slot row c.self.invariant.0
    (in_use_live slots c.args.entry.slot.slot row there.live) in
    absurd (let no : ⊥ = omega (arith, is_0, read, count, c.if-count-eq0.false) in no))
