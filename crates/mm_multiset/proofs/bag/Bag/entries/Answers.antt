-- The counted slots have the entries whose count is not 0.
use Rattle.std.proofs.Common.{ap, sym, subst, filter, map}
use Rattle.std.specs.Prelude.{IsPermutation}
use Rattle.mm_multiset.specs.Counts.{Entries, has_rows}
use Rattle.mm_multiset.specs.Slots.{entry_at}
use Rattle.mm_multiset.proofs.Shown.{walk_gives, walk_is}
use Rattle.mm_multiset.proofs.bag.Bag.entries.Goals as goal

pub new-requires : goal.new-requires
new-requires c =
    walk_is c.self.inside.rows.slots c.self.inside.counts.counts c.counted-shown.result.now c.self.invariant.0.marked c.counted-shown.ensures

pub returns-clause-entries : goal.returns-clause-entries
returns-clause-entries c =
    subst (λ (l : Entries). IsPermutation l (filter has_rows c.args.self.now.entries)) (sym c.new.ensures)
    (subst (λ (l : Entries). IsPermutation (map (entry_at c.self.inside.rows.slots c.self.inside.counts.counts) c.counted-shown.result.now) (filter has_rows l))
    (ap (λ v. v.entries) c.self.view_is)
    (walk_gives c.self.inside.rows.slots c.self.inside.counts.counts c.counted-shown.result.now c.self.invariant.0.marked c.counted-shown.ensures))
