use Rattle.std.proofs.Common.{[], ◌∷◌, Some, sym, ap, ◌∙◌}
use Rattle.mm_partition.specs.Views.{viewed}
use Rattle.mm_query.specs.Queries.{none_fails}
use Rattle.mm_select.proofs.Walks.{row_given}
use Rattle.mm_plan.proofs.finding.fits.Goals as goal

pub returns-clause-told : goal.returns-clause-told
returns-clause-told c =
    let is = row_given c.args.view.now.store c.args.table c.args.at (viewed c.row-row.result) c.requires.there c.row-row.ensures.row in
    c.none_fails.ensures ∙ ap (λ row. none_fails c.args.atoms.now (Some row ∷ [])) (sym is)
