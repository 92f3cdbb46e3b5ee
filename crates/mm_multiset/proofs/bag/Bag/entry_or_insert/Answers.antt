-- The row has a slot, or it gets one with the count 0.
use Rattle.std.proofs.Common.{◌≡◌, List, Bool, true, false, cond, not, refl, sym, ap, ◌∙◌, subst}
use Rattle.mm_value.proofs.SameRows.{rows_exact}
use Rattle.mm_value.specs.Equality.{same_row}
use Rattle.mm_value.specs.declared.values.Value.{Value}
use Rattle.mm_multiset.specs.Counts.{Entries, IsEntry, count_in, has_entry, total_of}
use Rattle.mm_multiset.specs.Slots.{entries_of}
use Rattle.mm_multiset.proofs.EntryBags.{counts_taken, has_was, total_taken}
use Rattle.mm_multiset.proofs.Recounting.{entry_there, none_there}
use Rattle.mm_multiset.proofs.Told.{entry_kept}
use Rattle.mm_multiset.proofs.bag.Bag.entry_or_insert.Goals as goal

pub returns-in-Some-clause-is_new : goal.returns-in-Some-clause-is_new
returns-in-Some-clause-is_new c =
    ap not (sym (entry_there c.self.inside.rows.slots c.self.inside.counts.counts c.self.inside.by_hash.entries c.in-Some.slot.slot c.args.row
    c.self.invariant.0 c.in-Some.ensures.found)
    ∙ ap (λ v. has_entry c.args.row v.entries) c.self.view_is)

-- a row with an entry still has it
had : (row other : List Value) (es : Entries) → has_entry row es ≡ true → has_entry other es ≡ cond (same_row row other) true (has_entry other es)
had row other es has = by (same_row row other) refl
  where
    by : (b : Bool) → same_row row other ≡ b → has_entry other es ≡ cond b true (has_entry other es)
    by true e = subst (λ r. has_entry r es ≡ true) ((rows_exact row other).0 e) has
    by false e = refl

pub returns-in-Some-clause-entries : goal.returns-in-Some-clause-entries
returns-in-Some-clause-entries c = λ other.
    had c.args.row other c.args.self.now.entries
    (ap (λ v. has_entry c.args.row v.entries) (sym c.self.view_is)
    ∙ entry_there c.self.inside.rows.slots c.self.inside.counts.counts c.self.inside.by_hash.entries c.in-Some.slot.slot c.args.row
    c.self.invariant.0 c.in-Some.ensures.found)

pub put-slot-requires-clause-new : goal.put-slot-requires-clause-new
put-slot-requires-clause-new c =
    ap (has_entry c.args.row) (ap (λ v. v.entries) c.self-2.view_is ∙ c.reserve.ensures.entries)
    ∙ ap (λ v. has_entry c.args.row v.entries) (sym c.self.view_is)
    ∙ none_there c.args.row c.self.inside.rows.slots c.self.inside.counts.counts c.in_default.ensures.none

pub invariant_of-self : goal.invariant_of-self
invariant_of-self c = (
  c.put-slot.ensures.kept,
  c.self-2.invariant.1 ∙ total_taken c.args.row (entries_of c.put-slot.new.rows.slots
      c.put-slot.new.counts.counts) (entries_of c.self-2.inside.rows.slots c.self-2.inside.counts.counts) c.put-slot.ensures.kept.once c.put-slot.ensures.put,
  c.put-slot.ensures.fed,
)

pub returns-clause-is_new : goal.returns-clause-is_new
returns-clause-is_new c =
    ap not (sym (none_there c.args.row c.self.inside.rows.slots c.self.inside.counts.counts c.in_default.ensures.none)
    ∙ ap (λ v. has_entry c.args.row v.entries) c.self.view_is)

pub returns-clause-entries : goal.returns-clause-entries
returns-clause-entries c = λ other.
    has_was c.args.row (entries_of c.put-slot.new.rows.slots c.put-slot.new.counts.counts) (entries_of c.self-2.inside.rows.slots
    c.self-2.inside.counts.counts) c.put-slot.ensures.kept.once c.put-slot.ensures.put other
    ∙ ap (λ (es : Entries). cond (same_row c.args.row other) true (has_entry other es)) (ap (λ v. v.entries) c.self-2.view_is ∙ c.reserve.ensures.entries)

pub returns-clause-counts : goal.returns-clause-counts
returns-clause-counts c = λ other.
    sym (counts_taken c.args.row (entries_of c.put-slot.new.rows.slots c.put-slot.new.counts.counts) (entries_of c.self-2.inside.rows.slots
    c.self-2.inside.counts.counts) c.put-slot.ensures.kept.once c.put-slot.ensures.put other)
    ∙ ap (count_in other) (ap (λ v. v.entries) c.self-2.view_is ∙ c.reserve.ensures.entries)

pub returns-clause-total : goal.returns-clause-total
returns-clause-total c =
    sym (total_taken c.args.row (entries_of c.put-slot.new.rows.slots c.put-slot.new.counts.counts) (entries_of c.self-2.inside.rows.slots
    c.self-2.inside.counts.counts) c.put-slot.ensures.kept.once c.put-slot.ensures.put)
    ∙ ap total_of (ap (λ v. v.entries) c.self-2.view_is ∙ c.reserve.ensures.entries)

pub returns-clause-kept : goal.returns-clause-kept
returns-clause-kept c = λ entry other it.
    entry_kept c.self-2.inside.rows c.put-slot.new.rows c.put-slot.result c.args.row c.put-slot.ensures.fresh c.put-slot.ensures.placed entry other
    (subst (λ l. IsEntry l entry other) (sym (ap (λ v. v.slots) c.self-2.view_is ∙ c.reserve.ensures.slots)) it)
