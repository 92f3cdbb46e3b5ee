use Rattle.std.proofs.Common.{◌≡◌, ◌-◌, List, ℕ, None, get_or, set, ap, sym, ◌∙◌, subst, arith}
use Rattle.std.proofs.lemmas.List.{get_or_default}
use Rattle.mm_foreign_key.specs.declared.slots.TheConstants.{NONE}
use Rattle.mm_foreign_key.specs.Counts.{IsCounted, entries_of}
use Rattle.mm_foreign_key.proofs.CountLemmas.{count_from_entry, count_within, IsCounted-untied}
use Rattle.mm_foreign_key.proofs.EntryLemmas.{as_many_entries, entries-set}
use Rattle.mm_foreign_key.proofs.TieLemmas.{IsTied-read, ChangesTarget-set}
use Rattle.mm_foreign_key.proofs.foreign_key.ForeignKey.untie.Goals as goal

pub index_mut-requires-2 : goal.index_mut-requires-2
index_mut-requires-2 c =
    let here = IsTied-read c.args.self.now c.self.inside.targets.items c.args.from _ _ (ap (λ t. t.targets) c.self.view_is) c.requires
    (c.replace-place.ensures.value ∙ c.index_mut.ensures.value) in
    omega (arith, count_within (entries_of c.self.inside.targets.items) c.self.inside.counts.items c.args.from.slot _ c.self.invariant here.entry)

pub overflow_sub-index_mut : goal.overflow_sub-index_mut
overflow_sub-index_mut c =
    let targets = entries_of c.self.inside.targets.items in
    let counts : List ℕ = c.self.inside.counts.items in
    let here = IsTied-read c.args.self.now c.self.inside.targets.items c.args.from _ _ (ap (λ t. t.targets) c.self.view_is) c.requires
    (c.replace-place.ensures.value ∙ c.index_mut.ensures.value) in
    let read : c.index_mut-2.result.now ≡ get_or counts c.replace-place.result 0 = c.index_mut-2.ensures.value
    ∙ get_or_default counts _ _ 0 (count_within targets counts _ _ c.self.invariant here.entry) in
    omega (arith, read, c.self.invariant.counted c.replace-place.result, count_from_entry targets c.args.from.slot _ here.entry)

pub invariant_of-self : goal.invariant_of-self
invariant_of-self c =
    let targets = entries_of c.self.inside.targets.items in
    let counts : List ℕ = c.self.inside.counts.items in
    let here = IsTied-read c.args.self.now c.self.inside.targets.items c.args.from _ _ (ap (λ t. t.targets) c.self.view_is) c.requires
    (c.replace-place.ensures.value ∙ c.index_mut.ensures.value) in
    let read : c.index_mut-2.result.now ≡ get_or counts c.replace-place.result 0 = c.index_mut-2.ensures.value
    ∙ get_or_default counts _ _ 0 (count_within targets counts _ _ c.self.invariant here.entry) in
    let after = ap (λ n. entries_of (set c.self.inside.targets.items c.args.from.slot n)) c.replace-place.ensures.after
    ∙ entries-set c.self.inside.targets.items c.args.from.slot NONE in
    subst (λ entries. IsCounted entries (set counts c.replace-place.result (c.index_mut-2.result.now - 1))) (sym after)
    (IsCounted-untied targets counts _ _ _ here.entry read c.self.invariant)

pub returns-clause-untied : goal.returns-clause-untied
returns-clause-untied c =
    let here = IsTied-read c.args.self.now c.self.inside.targets.items c.args.from _ _ (ap (λ t. t.targets) c.self.view_is) c.requires
    (c.replace-place.ensures.value ∙ c.index_mut.ensures.value) in
    ChangesTarget-set c.args.self.now _ (entries_of c.self.inside.targets.items) c.args.from None (ap (λ t. t.targets) c.self.view_is)
    (ap (λ n. entries_of (set c.self.inside.targets.items c.args.from.slot n)) c.replace-place.ensures.after
    ∙ entries-set c.self.inside.targets.items c.args.from.slot NONE)
    (omega (arith, here.within, as_many_entries c.self.inside.targets.items))
