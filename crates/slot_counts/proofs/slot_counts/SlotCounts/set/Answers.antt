-- The count is written at an existing slot, or at the one that was appended.
use Rattle.std.proofs.Common.{◌≡◌, ℕ, ◌≤◌, List, [], inl, inr, length, set, sym, ap, ◌∙◌, subst, arith}
use Rattle.std.proofs.lemmas.List.{set_at}
use Rattle.std.specs.Prelude.{Option}
use Rattle.slot_counts.specs.Numbers.{IsCovered, IsToldSame, IsWritten, Numbers, Telling}
use Rattle.slot_counts.proofs.slot_counts.SlotCounts.set.Goals as goal

written : (slot count : ℕ) (old mid : Numbers) → slot ≤ length old.counts → IsCovered slot old mid
    → IsWritten slot count old.counts (set mid.counts slot count)
written slot count old mid within (inl h) = inl (h.0, ap (λ (l : List ℕ). set l slot count) h.1)
written slot count old mid within (inr h) =
    let end : length old.counts ≡ slot = omega (arith, within, h.0) in
    inr (h.0, ap (λ (l : List ℕ). set l slot count) h.1 ∙ set_at old.counts 0 [] count slot end)

told : (slot : ℕ) (old mid : Numbers) (feed : Option Telling) → IsCovered slot old mid → feed ≡ mid.feed → IsToldSame slot old feed
told slot old mid feed (inl h) same = inl (h.0, same ∙ h.2)
told slot old mid feed (inr h) same = inr (h.0, same ∙ h.2)

pub returns-clause-counts : goal.returns-clause-counts
returns-clause-counts c =
    subst (λ (l : List ℕ). IsWritten c.args.slot c.args.count c.args.self.now.counts l) (sym c.write.ensures.counts)
    (written c.args.slot c.args.count c.args.self.now c.cover.new.self c.requires.within c.cover.ensures.covered)

pub returns-clause-feed : goal.returns-clause-feed
returns-clause-feed c =
    told c.args.slot c.args.self.now c.cover.new.self c.write.new.self.feed c.cover.ensures.covered c.write.ensures.feed
