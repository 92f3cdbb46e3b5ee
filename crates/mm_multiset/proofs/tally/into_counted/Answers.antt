use Rattle.std.proofs.Common.{ap, ◌∙◌}
use Rattle.mm_multiset.specs.Counts.{Entries, count_in}
use Rattle.mm_multiset.proofs.Tallies.{counts_over}
use Rattle.mm_multiset.proofs.tally.into_counted.Goals as goal

pub returns : goal.returns
returns c = λ row.
    counts_over row c.tally.inside.few.items c.tally.inside.many.entries c.add_all.new.many.entries c.tally.invariant.0 c.tally.invariant.1
    (c.in_ok-add_all.ensures row)
    ∙ ap (λ (es : Entries). count_in row es) (ap (λ v. v.entries) c.tally.view_is)
