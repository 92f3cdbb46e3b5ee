use Rattle.std.proofs.Common.{◌≡◌, ℕ, ◌+◌, ◌<◌, ◌^◌, ◌++◌, Option, None, replicate, length, ap, ◌∙◌, arith}
use Rattle.std.proofs.lemmas.List.{length-append, length-replicate}
use Rattle.mm_value.specs.declared.row_ref.RowRef.{RowRef}
use Rattle.mm_foreign_key.specs.declared.slots.TheConstants.{NONE}
use Rattle.mm_foreign_key.specs.Counts.{entries_of}
use Rattle.mm_foreign_key.proofs.CountLemmas.{IsCounted-grown}
use Rattle.mm_foreign_key.proofs.EntryLemmas.{as_many_entries, entries-grown}
use Rattle.mm_foreign_key.proofs.TieLemmas.{KeepsTargets-grown}
use Rattle.mm_foreign_key.proofs.foreign_key.ForeignKey.reserve.Goals as goal

pub invariant_of-self-2 : goal.invariant_of-self-2
invariant_of-self-2 c =
    let targets : entries_of c.fill_to.new.items.items ≡ entries_of c.self.inside.targets.items ++ replicate c.fill_to.ensures.items.0 None
    = ap entries_of (c.fill_to.ensures.items.1 ∙ ap (λ xs. xs ++ replicate c.fill_to.ensures.items.0 NONE) c.reserve_to.ensures.items)
    ∙ entries-grown c.self.inside.targets.items c.fill_to.ensures.items.0 in
    let counts : c.fill_to-2.new.items.items ≡ c.self.inside.counts.items ++ replicate c.fill_to-2.ensures.items.0 0
    = c.fill_to-2.ensures.items.1 ∙ ap (λ xs. xs ++ replicate c.fill_to-2.ensures.items.0 0) c.reserve_to-2.ensures.items in
    let referrers : length (entries_of c.self.inside.targets.items) + c.fill_to.ensures.items.0 < 2 ^ 32 = omega (
      arith,
      c.fill_to.ensures.len,
      c.in_ok-reserve_to.ensures.limit,
      c.self.invariant.referrers,
      ap length c.reserve_to.ensures.items,
      ap length targets,
      as_many_entries c.self.inside.targets.items,
      as_many_entries c.fill_to.new.items.items,
      length-append {A = Option RowRef},
      length-replicate {A = Option RowRef},
    ) in
    let places : length c.self.inside.counts.items + c.fill_to-2.ensures.items.0 < 2 ^ 32 = omega (
      arith,
      c.fill_to-2.ensures.len,
      c.in_ok-reserve_to-2.ensures.limit,
      c.self.invariant.places,
      ap length c.reserve_to-2.ensures.items,
      ap length counts,
      length-append {A = ℕ},
      length-replicate {A = ℕ},
    ) in
    rw (targets, counts) (IsCounted-grown _ _ _ _ referrers places c.self.invariant)

pub returns-clause-targets : goal.returns-clause-targets
returns-clause-targets c =
    KeepsTargets-grown c.args.self.now _ _ _ (ap (λ t. t.targets) c.self.view_is)
    (ap entries_of (c.fill_to.ensures.items.1 ∙ ap (λ xs. xs ++ replicate c.fill_to.ensures.items.0 NONE) c.reserve_to.ensures.items)
    ∙ entries-grown c.self.inside.targets.items c.fill_to.ensures.items.0)
