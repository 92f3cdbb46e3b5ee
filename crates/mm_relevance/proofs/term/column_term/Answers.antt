-- Past its end a row counts as 0.
use Rattle.std.proofs.Common.{pos, ap, ◌∙◌}
use Rattle.std.specs.Option.{unwrap_or}
use Rattle.std.proofs.lemmas.Option.{unwrap_or-slice_get}
use Rattle.mm_value.specs.declared.values.Value.TheVariants.{Int}
use Rattle.mm_relevance.specs.Relevance.{number_term}
use Rattle.mm_relevance.proofs.term.column_term.Goals as goal

pub returns-in-None-clause-value : goal.returns-in-None-clause-value
returns-in-None-clause-value g c =
    let row = g.R.AsRow.row c.args.row.now in
    ap (λ o. number_term (unwrap_or o (Int (pos 0)))) c.in-None.ensures ∙ ap number_term (unwrap_or-slice_get row c.args.column (Int (pos 0)))
