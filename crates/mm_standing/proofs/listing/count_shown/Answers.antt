-- The number of shown rows is that of the bag's rows, or of its entries whose count is not 0.
use Rattle.std.proofs.Common.{length, sym, ap, ◌∙◌}
use Rattle.mm_standing.specs.Showing.{rows_shown}
use Rattle.mm_standing.proofs.Totals.{distinct_shown, total_shown}
use Rattle.mm_standing.proofs.listing.count_shown.Goals as goal

pub returns-then-not-distinct-clause-count : goal.returns-then-not-distinct-clause-count
returns-then-not-distinct-clause-count c =
    c.total.ensures ∙ sym (total_shown c.args.bag.now.entries) ∙ ap (λ d. length (rows_shown d c.args.bag.now.entries)) (sym c.if-not-distinct.true)

pub returns-clause-count : goal.returns-clause-count
returns-clause-count c =
    c.distinct.ensures ∙ sym (distinct_shown c.args.bag.now.entries) ∙ ap (λ d. length (rows_shown d c.args.bag.now.entries)) (sym c.if-not-distinct.false)
