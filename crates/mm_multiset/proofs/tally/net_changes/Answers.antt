use Rattle.std.proofs.Common.{pos, ◌-ℤ◌, sym, ap, ◌∙◌}
use Rattle.std.proofs.lemmas.Result.{IfOk-weaker}
use Rattle.mm_multiset.specs.Counts.{Entries, count_in}
use Rattle.mm_multiset.proofs.Merging.{nothing}
use Rattle.mm_multiset.proofs.Tallies.{count_few}
use Rattle.mm_multiset.proofs.tally.net_changes.Goals as goal

pub returns-then-len-eq0-2-clause-change : goal.returns-then-len-eq0-2-clause-change
returns-then-len-eq0-2-clause-change c =
    IfOk-weaker c.few_changes.result _ _
    (λ found change row.
    let comes = count_few row c.comes.inside.few.items c.comes.inside.many.entries c.comes.invariant.0
    (nothing c.comes.inside.many.entries (sym c.len.ensures.entries ∙ c.if-len-eq0.true))
    ∙ ap (λ (es : Entries). pos (count_in row es)) (ap (λ v. v.entries) c.comes.view_is) in
    let goes = count_few row c.goes.inside.few.items c.goes.inside.many.entries c.goes.invariant.0
    (nothing c.goes.inside.many.entries (sym c.len-then-len-eq0.ensures.entries ∙ c.if-len-eq0-2.true))
    ∙ ap (λ (es : Entries). pos (count_in row es)) (ap (λ v. v.entries) c.goes.view_is) in
    change row ∙ (λ i. comes i -ℤ goes i))
    c.few_changes.ensures.change
