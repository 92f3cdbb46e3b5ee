-- A column that a row does not have reads as 0.
use Rattle.std.proofs.Common.{pos, ap, ◌∙◌}
use Rattle.std.specs.Option.{unwrap_or}
use Rattle.std.proofs.lemmas.Option.{unwrap_or-slice_get}
use Rattle.mm_partition.specs.Views.{viewed}
use Rattle.mm_value.specs.declared.values.Value.TheVariants.{Int}
use Rattle.mm_delta.proofs.known.value_in.Goals as goal

pub returns-in-None : goal.returns-in-None
returns-in-None c = ap (λ o. unwrap_or o (Int (pos 0))) c.in-None.ensures ∙ unwrap_or-slice_get (viewed c.args.row) c.args.column (Int (pos 0))
