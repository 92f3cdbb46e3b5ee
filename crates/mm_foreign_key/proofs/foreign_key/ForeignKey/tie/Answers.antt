use Rattle.std.proofs.Common.{◌≡◌, ◌+◌, List, ℕ, Option, None, length, get_or, set, sym, ap, ◌∙◌, subst, arith}
use Rattle.std.proofs.lemmas.List.{get_or_default}
use Rattle.mm_value.specs.declared.row_ref.RowRef.{RowRef}
use Rattle.mm_foreign_key.specs.Counts.{IsCounted, entries_of}
use Rattle.mm_foreign_key.proofs.CountLemmas.{count_fits, IsCounted-tied}
use Rattle.mm_foreign_key.proofs.EntryLemmas.{entries-tied}
use Rattle.mm_foreign_key.proofs.TieLemmas.{entry_is, ChangesTarget-set}
use Rattle.mm_foreign_key.proofs.foreign_key.ForeignKey.tie.Goals as goal

pub overflow_add-index_mut : goal.overflow_add-index_mut
overflow_add-index_mut c =
    let targets : List (Option RowRef) = entries_of c.self.inside.targets.items in
    let counts : List ℕ = c.self.inside.counts.items in
    let view = ap (λ t. t.targets) c.self.view_is in
    let extent : length counts ≡ c.args.self.now.extent = ap (λ t. t.extent) c.self.view_is in
    let free : get_or targets c.args.from.slot None ≡ None = entry_is c.args.self.now targets c.args.from view ∙ c.requires.untied in
    let read : c.index_mut.result.now ≡ get_or counts c.args.to.slot 0 = c.index_mut.ensures.value ∙ get_or_default counts _ _ 0 (omega arith) in
    omega (arith, read, count_fits targets counts c.args.from.slot c.args.to (omega (arith, ap length view)) free c.self.invariant)

pub invariant_of-self : goal.invariant_of-self
invariant_of-self c =
    let targets : List (Option RowRef) = entries_of c.self.inside.targets.items in
    let counts : List ℕ = c.self.inside.counts.items in
    let view = ap (λ t. t.targets) c.self.view_is in
    let extent : length counts ≡ c.args.self.now.extent = ap (λ t. t.extent) c.self.view_is in
    let free : get_or targets c.args.from.slot None ≡ None = entry_is c.args.self.now targets c.args.from view ∙ c.requires.untied in
    let read : c.index_mut.result.now ≡ get_or counts c.args.to.slot 0 = c.index_mut.ensures.value ∙ get_or_default counts _ _ 0 (omega arith) in
    subst (λ entries. IsCounted entries (set counts c.args.to.slot (c.index_mut.result.now + 1)))
    (sym (entries-tied c.self.inside.targets.items c.args.from.slot c.args.to counts (omega arith) c.self.invariant))
    (IsCounted-tied targets counts _ _ _ (omega (arith, ap length view)) (omega arith) free read c.self.invariant)

pub returns-clause-tied : goal.returns-clause-tied
returns-clause-tied c =
    let view = ap (λ t. t.targets) c.self.view_is in
    let extent : length c.self.inside.counts.items ≡ c.args.self.now.extent = ap (λ t. t.extent) c.self.view_is in
    ChangesTarget-set c.args.self.now _ (entries_of c.self.inside.targets.items) c.args.from _ view
    (entries-tied c.self.inside.targets.items c.args.from.slot c.args.to c.self.inside.counts.items (omega arith) c.self.invariant)
    (omega (arith, ap length view))
