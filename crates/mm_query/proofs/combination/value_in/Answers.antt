-- A row reads as 0 after its last column.
use Rattle.std.proofs.Common.{pos, ap, ◌∙◌}
use Rattle.std.specs.Option.{unwrap_or}
use Rattle.std.proofs.lemmas.Option.{unwrap_or-slice_get}
use Rattle.mm_value.specs.declared.values.Value.TheVariants.{Int}
use Rattle.mm_query.proofs.combination.value_in.Goals as goal

pub returns-in-None : goal.returns-in-None
returns-in-None g c =
    ap (λ o. unwrap_or o (Int (pos 0))) c.in-None.ensures ∙ unwrap_or-slice_get (g.R.AsRow.row c.args.row.now) c.args.column (Int (pos 0))
